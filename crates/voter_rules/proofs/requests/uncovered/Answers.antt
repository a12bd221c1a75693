use Rattle.std.proofs.lemmas.Bool.{both_ways}
use Rattle.voter_rules.proofs.Asking.{uncovered_was_asked}
use Rattle.voter_rules.proofs.requests.uncovered.Goals as goal

pub returns-then-is_requested : goal.returns-then-is_requested
returns-then-is_requested g c = λ m k shown waits valid bare.
    uncovered_was_asked m k c.args.view c.args.proposal waits c.args.first valid bare ((c.is_requested.ensures m k shown).0 c.if-is_requested.true)

pub returns : goal.returns
returns g c = λ m k shown waits valid bare. (
  c.args.proposal,
  record {
    waits = waits;
    valid = valid;
    uncovered = bare;
    first = λ asked. both_ways c.is_requested.result c.if-is_requested.false ((c.is_requested.ensures m k shown).1 asked);
  },
)
