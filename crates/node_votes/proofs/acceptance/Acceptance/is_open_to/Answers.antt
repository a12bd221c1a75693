use Rattle.std.proofs.Common.{◌≤◌, ◌<◌, arith}
use Rattle.std.proofs.lemmas.Bool.Decides.{nat_tests}
use Rattle.types_core.specs.Positions.{HasRoom}
use Rattle.simplex_member.specs.Layers.{floor_of}
use Rattle.node_votes.specs.KeepsVotes.{Keeps}
use Rattle.node_votes.proofs.Answering.{both-open, none-open}
use Rattle.node_votes.proofs.acceptance.Acceptance.is_open_to.Goals as goal

pub returns-then-le : goal.returns-then-le
unfolding Keeps
returns-then-le g c = λ s h k.
    let above : c.args.self.now.floor ≤ c.args.view = grind (arith, nat_tests, c.if-le.ensures) in
    both-open (floor_of s h) c.args.self.now.floor c.args.view s.voter.length c.args.self.now.length c.has_room.result above k.floor_is k.length_is c.has_room.ensures

pub returns-else-le : goal.returns-else-le
unfolding Keeps
returns-else-le g c = λ s h k.
    let below : c.args.view < c.args.self.now.floor = grind (arith, nat_tests, c.if-le.ensures) in
    none-open (HasRoom s.voter.length c.args.view) (floor_of s h) c.args.self.now.floor c.args.view c.le.result c.if-le.false below k.floor_is
