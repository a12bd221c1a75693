use Rattle.std.proofs.Common.{◌≡◌, sym, ◌∙◌, ap, rules}
use Rattle.std.specs.Prelude.{true, false, ◌||◌, Some, None, is_some, if◌then◌else◌}
use Rattle.voter_history.specs.Held.{held}
use Rattle.voter_history.specs.Past.{offers, finalization, verdict, verdict_is_true}
use Rattle.simplex_round.specs.Round.{Keeps}
use Rattle.simplex_round.proofs.round.Round.certified_proposal.Goals as goal

pub returns-then-is_some : goal.returns-then-is_some
unfolding Keeps
returns-then-is_some g c = λ s l h k.
    let some : is_some (finalization h) ≡ true = rw (← k.finalization) (search rules) in
    c.proposal.ensures s l h k ∙ ap (λ final. if final || verdict_is_true (verdict h) then held (offers h) else None) (sym some)

pub returns : goal.returns
unfolding Keeps
returns g c = λ s l h k.
    let none : is_some (finalization h) ≡ false = rw (← k.finalization) (search rules) in
    let good : verdict h ≡ Some true = sym k.verdict ∙ search rules in
    c.proposal-2.ensures s l h k
    ∙ ap (λ final. if final || true then held (offers h) else None) (sym none)
    ∙ ap (λ judged. if is_some (finalization h) || verdict_is_true judged then held (offers h) else None) (sym good)
