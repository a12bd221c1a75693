use Rattle.std.proofs.Common.{ℕ, ◌∷◌, refl, subst}
use Rattle.simplex_member.specs.Asked.{next_number}
use Rattle.simplex_member.specs.Deeds.{Verifies}
use Rattle.simplex_member.specs.Point.{AsksVerify}
use Rattle.node_record.specs.Tables.{KeepsTables}
use Rattle.node_requests.proofs.verifying.hand_check_out.Goals as goal

pub returns-in-Ok-hand_out-clause-keeps : goal.returns-in-Ok-hand_out-clause-keeps
returns-in-Ok-hand_out-clause-keeps g c = λ low h k.
    subst (λ (n : ℕ). KeepsTables low c.add_check.new.self (AsksVerify n c.args.context.now c.args.proposal ∷ h)) (c.in-Ok.ensures.number low h k)
    (c.in-Ok.ensures.keeps low h k c.args.context.now c.args.proposal refl)

pub returns-in-Ok-hand_out-clause-acts : goal.returns-in-Ok-hand_out-clause-acts
returns-in-Ok-hand_out-clause-acts g c = λ low h k f.
    c.in-Ok-hand_out.ensures.done f (Verifies (next_number h) c.args.context.now c.args.proposal) (c.in-Ok.ensures.number low h k, refl, refl)
