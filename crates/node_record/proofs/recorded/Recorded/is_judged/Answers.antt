use Rattle.simplex_record.specs.Record.{entries}
use Rattle.node_record.proofs.Judging.{judged_any}
use Rattle.node_record.proofs.recorded.Recorded.is_judged.Goals as goal

pub returns : goal.returns
returns g c = λ owner xs k. rw c.is_some.ensures (judged_any (entries xs) c.args.view c.verdict.result (c.verdict.ensures owner.term_length (entries xs) k.standing))
