use Rattle.std.proofs.Common.{arith}
use Rattle.std.proofs.lemmas.List.{length-drop, take_rest}
use Rattle.cli_opening.proofs.Heads.{beyond_behind, device_behind, place_within}
use Rattle.cli_opening.proofs.halves.look_at_half_by.Goals as goal

-- a place behind the head stands in the bytes
pub behind-requires : goal.behind-requires
behind-requires c =
    let barred = rw (take_rest c.args.bytes.now c.head_of-head.result) at c.in-Err.ensures.barred in
    omega (arith, place_within _ _ _ _ c.in-Err.barred barred, length-drop c.head_of-head.result c.args.bytes.now, c.head_of-head.ensures.within)

pub returns-in-Ok-clause-found : goal.returns-in-Ok-clause-found
returns-in-Ok-clause-found c = record {
  generation = c.head_of-head.ensures.record.0;
  head = c.head_of-head.result;
  of = c.head_of-head.ensures.record.1;
  says = rw (take_rest c.args.bytes.now c.head_of-head.result) at c.in-Ok.ensures.found;
}

pub returns-in-Err-clause-barred : goal.returns-in-Err-clause-barred
returns-in-Err-clause-barred c = record {
  generation = c.head_of-head.ensures.record.0;
  head = c.head_of-head.result;
  of = c.head_of-head.ensures.record.1;
  cause = c.in-Err.barred;
  told = c.behind.ensures;
  barred = rw (take_rest c.args.bytes.now c.head_of-head.result) at c.in-Err.ensures.barred;
}

pub returns-in-Err-clause-cut : goal.returns-in-Err-clause-cut
returns-in-Err-clause-cut c = λ cuts. rw c.behind.ensures (beyond_behind c.head_of-head.result c.in-Err.barred (c.in-Err.ensures.cut cuts))

pub returns-in-Err-clause-not_device : goal.returns-in-Err-clause-not_device
returns-in-Err-clause-not_device c = rw c.behind.ensures (device_behind c.head_of-head.result c.in-Err.barred c.in-Err.ensures.not_device)
