use Rattle.voter_rules.proofs.Preferring.{found_prefers}
use Rattle.voter_rules.proofs.ancestry.prefers.Goals as goal

pub returns : goal.returns
returns g c = λ m k shown.
    let found = found_prefers m k c.args.view c.args.parent c.args.payload c.preferred_parent.result (c.preferred_parent.ensures m k shown) in
    (λ is. found.0 (c.is_just.ensures.0 is), λ preferred. c.is_just.ensures.1 (found.1 preferred))
