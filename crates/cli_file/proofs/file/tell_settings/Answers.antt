use Rattle.std.proofs.lemmas.Option.{IfSome_then}
use Rattle.cli_file.proofs.file.tell_settings.Goals as goal

pub returns-in-Ok-clause-written : goal.returns-in-Ok-clause-written
returns-in-Ok-clause-written g c is =
    IfSome_then (g.R.Read.remaining c.args.input.now) c.in-Ok.ensures.said (λ bytes said. (c.in-Ok.file, said, c.write_settings.ensures.written is))
