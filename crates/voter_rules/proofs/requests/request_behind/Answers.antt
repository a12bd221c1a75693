use Rattle.std.proofs.Common.{subst}
use Rattle.voter_rules.specs.Knowing.{Explains}
use Rattle.voter_rules.specs.declared.ancestry.ParentFault.{ParentFault}
use Rattle.voter_rules.proofs.requests.request_behind.Goals as goal

pub returns-in-Invalid : goal.returns-in-Invalid
returns-in-Invalid g c = λ m k shown waits explains. (
  c.args.proposal,
  record { waits = waits; invalid = subst (λ (why : ParentFault). Explains m k c.args.view c.args.proposal.parent why) c.in-Invalid.is explains },
)

pub returns-in-Uncovered : goal.returns-in-Uncovered
returns-in-Uncovered g c = λ m k shown waits explains.
    let bare = subst (λ (why : ParentFault). Explains m k c.args.view c.args.proposal.parent why) c.in-Uncovered.is explains in
    c.uncovered.ensures m k shown waits bare.0 bare.1

pub returns-in-Missing : goal.returns-in-Missing
returns-in-Missing g c = λ m k shown waits explains.
    c.missing.ensures m k shown waits (subst (λ (why : ParentFault). Explains m k c.args.view c.args.proposal.parent why) c.in-Missing.is explains)
