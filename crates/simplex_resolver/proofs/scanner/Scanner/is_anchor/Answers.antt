use Rattle.simplex_resolver.proofs.TermStarts.{room-next}
use Rattle.simplex_resolver.proofs.scanner.Scanner.is_anchor.Goals as goal

pub next-requires : goal.next-requires
next-requires c = room-next c.args.self.now.held.length c.args.self.now.some c.args.self.now.floor c.args.self.now.floor_room
