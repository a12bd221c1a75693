use Rattle.simplex_resolver.proofs.Gaps.{no_failed_to_floor, no_failed_to_itself}
use Rattle.simplex_resolver.proofs.scanner.Scanner.before_failed.Goals as goal

pub returns-then-lt-clause-none : goal.returns-then-lt-clause-none
returns-then-lt-clause-none c = no_failed_to_floor c.args.self.now c.args.last

pub returns-clause-none : goal.returns-clause-none
returns-clause-none c = no_failed_to_itself c.args.self.now c.args.last
