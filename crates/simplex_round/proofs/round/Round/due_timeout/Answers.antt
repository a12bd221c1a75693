use Rattle.std.proofs.Common.{sym, ◌∙◌, ◌≡◌, false, rules}
use Rattle.std.specs.Prelude.{is_some}
use Rattle.voter_history.specs.Past.{has_nullified, has_finalized, finalization}
use Rattle.simplex_round.specs.Round.{Keeps}
use Rattle.simplex_round.proofs.round.Round.due_timeout.Goals as goal

pub returns-then-not-self : goal.returns-then-not-self
unfolding Keeps
returns-then-not-self g c = λ s l h k.
    let own = c.first_timeout.ensures s l h k in
    let none : is_some (finalization h) ≡ false = rw (← k.finalization) (sym c.if-is_some.ensures) in
    let open_ : has_finalized h ≡ false = sym k.finalize ∙ c.if-self.false in
    let kept : has_nullified h ≡ false = sym k.nullify ∙ search rules in
    rw (none, open_, kept) own
