use Rattle.std.proofs.Common.{sym, ◌∙◌}
use Rattle.simplex_round.specs.Round.{Keeps}
use Rattle.simplex_round.proofs.round.Round.can_construct_notarize.Goals as goal

pub returns : goal.returns
unfolding Keeps
returns g c = λ s l h k.
    let v = c.is_verified.ensures s l h k in (
      λ yes. record { first = sym k.notarize ∙ c.if-self.false; not_given_up = sym k.nullify ∙ c.if-self-2.false; verified = v.0 yes },
      λ may. v.1 may.verified,
    )
