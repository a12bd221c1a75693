use Rattle.voter_rules.proofs.Asking.{none_waits}
use Rattle.voter_rules.proofs.requests.request_for.Goals as goal

pub returns-in-Some : goal.returns-in-Some
returns-in-Some g c = λ m k shown. c.request_over.ensures m k shown (c.in-Some.ensures m k shown)

pub returns-in-None : goal.returns-in-None
returns-in-None g c = λ m k shown. none_waits m k c.args.view (c.in-None.ensures m k shown)
