use Rattle.std.proofs.Common.{sym, ◌∙◌}
use Rattle.std.proofs.lemmas.Bool.{iff_false}
use Rattle.voter_rules.proofs.Testing.{never}
use Rattle.voter_rules.proofs.ancestry.stands.Goals as goal

pub returns-then-not-is_held : goal.returns-then-not-is_held
returns-then-not-is_held g c = λ m k shown. never (λ it. iff_false c.is_held.ensures c.if-not-is_held.true (c.proposal.ensures m k shown ∙ it.held))

pub returns : goal.returns
returns g c = λ m k shown.
    let law = c.may_stand_on.ensures m k shown in
    (λ so. record { held = sym (c.proposal.ensures m k shown) ∙ c.is_held.ensures.0 c.if-not-is_held.false; parent = law.0 so }, λ it. law.1 it.parent)
