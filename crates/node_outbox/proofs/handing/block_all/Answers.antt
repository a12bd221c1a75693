use Rattle.std.proofs.Common.{◌≡◌, ◌∷◌, ◌++◌, ◌∙◌, [], ap, sym, subst, refl, ℕ, ◌+◌, List, map, take}
use Rattle.std.proofs.lemmas.List.{map-append, take_all, take_more}
use Rattle.simplex_member.specs.Deeds.{Blocks}
use Rattle.node_outbox.specs.Handing.{AddsDeeds, both_more, hands_as, nothing_more}
use Rattle.node_outbox.proofs.handing.block_all.Goals as goal

pub loop-member-init : goal.loop-member-init
loop-member-init g c = λ f. nothing_more f c.args.out.now.items

pub loop-member-preserved : goal.loop-member-preserved
loop-member-preserved g c = λ f.
    let members = c.args.members.now in
    let i = c.loop-member.member-index in
    let member = c.member-item.result in
    let more : take (i + 1) members ≡ take i members ++ member ∷ [] = take_more members i member c.loop-member-test.true ∙ ap (λ (m : ℕ). take i members ++ m ∷ []) (sym c.member-item.is) in
    hands_as f c.args.out.now.items c.hand_out.new.out.items (map Blocks (take (i + 1) members)) (map Blocks (take i members) ++ Blocks member ∷ []) (ap (map Blocks) more ∙ map-append Blocks (take i members) (member ∷ []))
    (both_more f c.args.out.now.items c.loop-member.out.items c.hand_out.new.out.items (map Blocks (take i members)) (Blocks member ∷ []) (c.loop-member.invariant f) (c.in-Ok.ensures.done f (Blocks member) refl))

pub returns-clause-done : goal.returns-clause-done
returns-clause-done g c = λ f. subst (λ (l : List ℕ). AddsDeeds f c.args.out.now.items c.loop-member.out.items (map Blocks l)) (take_all c.loop-member.member-index c.args.members.now c.loop-member-test.false) (c.loop-member.invariant f)
