use Rattle.std.proofs.Common.{inl, inr}
use Rattle.std.proofs.lemmas.Bool.{iff_false}
use Rattle.voter_rules.proofs.Testing.{never, always}
use Rattle.voter_rules.proofs.ancestry.may_stand_on.Goals as goal

pub returns-then-allows_parent : goal.returns-then-allows_parent
returns-then-allows_parent g c = λ m k shown. always (inl ((c.allows_parent.ensures m k shown).0 c.if-allows_parent.true))

pub returns-then-leads : goal.returns-then-leads
returns-then-leads g c = λ m k shown.
    let prefers = c.prefers.ensures m k shown in (
      λ so. inr ((c.leads.ensures m k shown).0 c.if-leads.true, prefers.0 so),
      λ either. elim either [ inl allowed ↦ absurd (iff_false (c.allows_parent.ensures m k shown) c.if-allows_parent.false allowed) | inr led ↦ prefers.1 led.1 ],
    )

pub returns-else-leads : goal.returns-else-leads
returns-else-leads g c = λ m k shown.
    rw c.if-leads.false (never (λ either. elim either [
      | inl allowed ↦ iff_false (c.allows_parent.ensures m k shown) c.if-allows_parent.false allowed
      | inr led ↦ iff_false (c.leads.ensures m k shown) c.if-leads.false led.0
    ]))
