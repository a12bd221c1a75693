use Rattle.std.proofs.Common.{refl}
use Rattle.simplex_cli.proofs.Served.{comes_as}
use Rattle.simplex_cli.proofs.over.drive.Goals as goal

pub returns-clause-comes_to : goal.returns-clause-comes_to
returns-clause-comes_to g c =
    comes_as _ c.args.index c.serve_over.result.0 _ _ _ _ refl (rw (c.config.ensures, c.in-Ok.ensures, c.in-Ok-elector.ensures.rotation) at c.serve_over.ensures.serves)

pub returns-clause-streams : goal.returns-clause-streams
returns-clause-streams g c = c.serve_over.ensures.streams
