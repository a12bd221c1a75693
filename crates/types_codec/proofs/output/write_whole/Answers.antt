use Rattle.std.proofs.Common.{◌++◌, take}
use Rattle.std.proofs.KnownBytes.{Appends-kept, Appends-trans}
use Rattle.types_codec.proofs.Longer.{longer_front}
use Rattle.types_codec.proofs.output.write_whole.Goals as goal
use Rattle.types_codec.proofs.output.write_whole.Goals.{in-Ok, in-Err}

pub loop-preserved : goal.loop-preserved
loop-preserved g c =
    let (front, split, appended) = c.loop.invariant in
    elim c.match-write.branch [
      | in-Ok w ↦ (front ++ take w.in-Ok.count c.loop.rest.now, rw w.rest-is (longer_front _ front c.loop.rest.now w.in-Ok.count split), Appends-trans _ _ _ _ _ appended w.in-Ok.ensures.bytes)
      | in-Err w ↦ (front, rw w.rest-is split, Appends-kept _ _ _ _ appended w.in-Err.ensures.bytes)
    ]
