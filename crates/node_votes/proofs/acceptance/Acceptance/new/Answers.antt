use Rattle.std.proofs.Common.{◌∙◌, refl}
use Rattle.node_votes.specs.KeepsVotes.{Keeps}
use Rattle.node_votes.proofs.Answering.{bare-floor, bare-stands}
use Rattle.node_votes.proofs.acceptance.Acceptance.new.Goals as goal

pub returns : goal.returns
unfolding Keeps
returns g c = λ s set. record {
  length_is = set.length_is;
  current_is = c.zero.ensures;
  floor_is = c.zero-2.ensures ∙ bare-floor s.voter.retention;
  rounds = bare-stands g.S.Scheme g.D.PartialEq.eq s c.new.result set c.new.ensures;
}
