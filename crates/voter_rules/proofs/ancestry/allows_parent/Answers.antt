use Rattle.voter_rules.proofs.Asking.{fault_bars}
use Rattle.voter_rules.proofs.Testing.{never}
use Rattle.voter_rules.proofs.Preferring.{given_allows}
use Rattle.voter_rules.proofs.ancestry.allows_parent.Goals as goal

pub returns-in-Ok : goal.returns-in-Ok
returns-in-Ok g c = λ m k shown.
    given_allows m k c.args.view c.args.parent c.in-Ok.given c.args.payload c.eq.result (g.D.PartialEq.eq c.in-Ok.given c.args.payload) c.eq.ensures
    (g.met.D.Digest.equal_is_same c.in-Ok.given c.args.payload) (c.in-Ok.ensures m k shown)

pub returns-in-Err : goal.returns-in-Err
returns-in-Err g c = λ m k shown. never (fault_bars m k c.args.view c.args.parent c.in-Err.field-0 (c.in-Err.ensures m k shown) c.args.payload)
