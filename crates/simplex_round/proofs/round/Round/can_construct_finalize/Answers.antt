use Rattle.std.proofs.Common.{sym, ◌∙◌, ◌≡◌, false, refl, rules}
use Rattle.voter_history.specs.Past.{has_nullified, has_finalized}
use Rattle.simplex_round.specs.Round.{Keeps}
use Rattle.simplex_round.proofs.round.Round.can_construct_finalize.Goals as goal

pub returns : goal.returns
unfolding Keeps
returns g c = λ s l h k.
    let v = c.has_unequivocated_proposal.ensures s l h k in
    let n : has_nullified h ≡ false = sym k.nullify ∙ c.if-self.false in
    let f : has_finalized h ≡ false = sym k.finalize ∙ c.if-self-2.false in (
      λ yes. record { undecided = rw (n, f) refl; unequivocated = v.0 yes; notarized = rw (← k.notarization) (search rules); certified = sym k.verdict ∙ search rules },
      λ may. v.1 may.unequivocated,
    )
