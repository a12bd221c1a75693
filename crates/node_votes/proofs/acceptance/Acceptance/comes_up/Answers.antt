use Rattle.std.proofs.Common.{◌≤◌, ◌<◌, arith, refl}
use Rattle.std.proofs.lemmas.Bool.Decides.{nat_tests}
use Rattle.types_core.specs.Positions.{HasRoom}
use Rattle.node_votes.proofs.Answering.{both-open, none-open}
use Rattle.node_votes.proofs.acceptance.Acceptance.comes_up.Goals as goal

pub returns-then-le : goal.returns-then-le
returns-then-le g c = λ views same.
    let above : c.args.floor ≤ c.args.current = grind (arith, nat_tests, c.if-le.ensures) in
    both-open c.args.floor c.args.floor c.args.current views c.args.self.now.length c.has_room.result above refl same c.has_room.ensures

pub returns-else-le : goal.returns-else-le
returns-else-le g c = λ views same.
    let below : c.args.current < c.args.floor = grind (arith, nat_tests, c.if-le.ensures) in
    none-open (HasRoom views c.args.current) c.args.floor c.args.floor c.args.current c.le.result c.if-le.false below refl
