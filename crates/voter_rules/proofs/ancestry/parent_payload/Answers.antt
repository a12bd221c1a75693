use Rattle.voter_rules.proofs.Preferring.{parent_of}
use Rattle.voter_rules.proofs.ancestry.parent_payload.Goals as goal

pub returns-in-Some : goal.returns-in-Some
returns-in-Some g c = λ m k shown. (c.in-Some.ensures.fault m k shown).0

pub returns : goal.returns
returns g c = λ m k shown.
    rw c.ok_or.ensures.value (parent_of m k c.args.view c.args.parent c.supported_payload.result (c.in_default.ensures.fault m k shown) (c.supported_payload.ensures m k shown))
