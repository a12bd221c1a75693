use Rattle.std.proofs.Common.{Bool, [], ◌∷◌, refl, sym, ◌∙◌, subst}
use Rattle.std.specs.Prelude.{if◌then◌else◌}
use Rattle.std.proofs.lemmas.Result.{IfErr-weaker, on_ok_weaker}
use Rattle.simplex_member.specs.Deeds.{Blocks}
use Rattle.node_outbox.specs.Handing.{AddsDeeds, nothing_more}
use Rattle.node_input.proofs.receiving.refuse.Goals as goal

pub returns-then-not-blocks-clause-done : goal.returns-then-not-blocks-clause-done
returns-then-not-blocks-clause-done g c = λ f.
    subst (λ (b : Bool). AddsDeeds f c.args.out.now.items c.args.out.now.items (if b then Blocks c.args.sender ∷ [] else [])) (sym (sym c.blocks-2.ensures ∙ c.if-not-blocks.true)) (nothing_more f c.args.out.now.items)

pub returns-clause-done : goal.returns-clause-done
returns-clause-done g c = on_ok_weaker c.hand_out.result (λ done f.
    subst (λ (b : Bool). AddsDeeds f c.args.out.now.items c.hand_out.new.out.items (if b then Blocks c.args.sender ∷ [] else [])) (sym (sym c.blocks-2.ensures ∙ c.if-not-blocks.false)) (done f (Blocks c.args.sender) refl)) c.hand_out.ensures.done

pub returns-clause-memory : goal.returns-clause-memory
returns-clause-memory g c = IfErr-weaker c.hand_out.result _ _ (λ why is. sym c.blocks-2.ensures ∙ c.if-not-blocks.false) c.hand_out.ensures.fault
