use Rattle.std.proofs.Common.{None, Some}
use Rattle.std.proofs.lemmas.Bool.{iff_false}
use Rattle.voter_rules.proofs.Asking.{waiting_of}
use Rattle.voter_rules.proofs.requests.waiting_proposal.Goals as goal

pub returns : goal.returns
returns g c = λ m k shown.
    waiting_of m k c.args.view (Some c.in_ok-proposal.proposal) ((c.is_open.ensures m k shown).0 c.if-not-is_open.false) (c.in_ok-proposal.ensures m k shown)

pub returns-in_err-proposal : goal.returns-in_err-proposal
returns-in_err-proposal g c = λ m k shown. rw c.from_residual.ensures (λ p waits. waiting_of m k c.args.view None waits.opens (c.in_err-proposal.ensures m k shown) p waits)

pub returns-then-not-is_open : goal.returns-then-not-is_open
returns-then-not-is_open g c = λ m k shown p waits. iff_false (c.is_open.ensures m k shown) c.if-not-is_open.true waits.opens
