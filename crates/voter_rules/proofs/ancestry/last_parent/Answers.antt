use Rattle.std.proofs.Common.{inl, inr}
use Rattle.voter_rules.proofs.Preferring.{over_is_preferred}
use Rattle.voter_rules.proofs.ancestry.last_parent.Goals as goal

pub returns-in-Some : goal.returns-in-Some
returns-in-Some g c = λ m k shown starts. inr (inl (c.in-Some.ensures m k shown starts))

pub returns : goal.returns
returns g c = λ m k shown starts.
    let none = c.in_default.ensures m k shown starts in over_is_preferred m k c.args.view starts c.handed_over.result none (c.handed_over.ensures m k shown starts none)
