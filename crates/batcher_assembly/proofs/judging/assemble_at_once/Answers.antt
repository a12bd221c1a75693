use Rattle.std.proofs.Common.{◌≡◌, ◌++◌, ◌∙◌, refl, sym}
use Rattle.std.specs.Prelude.{Option, None, Some, IfSome}
use Rattle.batcher_assembly.proofs.judging.assemble_at_once.Goals as goal

-- what holds anyway holds where there is one
always : {X : Type 0} (P : Type 0) (o : Option X) → P → IfSome o (λ _. P)
always P None p = tt
always P (Some x) p = p

-- what follows of two facts on the one that is there
both : {X : Type 0} (P Q R : X → Type 0) (o : Option X) → ((x : X) → P x → Q x → R x) → IfSome o P → IfSome o Q → IfSome o R
both P Q R None f p q = tt
both P Q R (Some x) f p q = f x p q

pub returns-clause-batchable : goal.returns-clause-batchable
returns-clause-batchable g c = always _ c.in_ok-made.made (sym c.is_batchable.ensures ∙ c.if-not-is_batchable.false)

pub returns-clause-sound : goal.returns-clause-sound
returns-clause-sound g c =
    let given : c.deref.result.now ≡ c.args.verified.now ++ c.args.waiting.now = rw c.deref.ensures.value (rw c.in_ok-extend_from_slice.ensures.items (rw c.in_ok-all.ensures.items refl)) in
    both _ _ _ c.in_ok-made.made (λ x certifies only. record { does_certify = certifies; only_given = rw given at only }) c.in_ok-made.ensures.certifies c.in_ok-made.ensures.only_given

pub returns-clause-declined : goal.returns-clause-declined
returns-clause-declined g c = λ none yes.
    let given : c.deref.result.now ≡ c.args.verified.now ++ c.args.waiting.now = rw c.deref.ensures.value (rw c.in_ok-extend_from_slice.ensures.items (rw c.in_ok-all.ensures.items refl)) in
    rw given at (c.in_ok-made.ensures.declined none)
