use Rattle.types_codec.specs.Codec.{Readable}
use Rattle.cli_tool.proofs.Following.{shorter, one_more, All-more}
use Rattle.cli_tool.proofs.reading.read_values.Goals as goal

pub loop-rest-smaller : goal.loop-rest-smaller
loop-rest-smaller g c =
    let one = rw c.in-Some.is at c.in_ok-value.ensures.some in
    shorter g.M.Write.spelling c.in-Some.value c.loop-rest.rest.now c.next_value.new.rest.now (c.requires c.in-Some.value) one.0

pub loop-rest-preserved : goal.loop-rest-preserved
loop-rest-preserved g c =
    let one = rw c.in-Some.is at c.in_ok-value.ensures.some in
    rw c.in_ok-push-in-Some.ensures.items (
      All-more (Readable g.M.Write.fits (g.M.Read.within c.args.bound)) c.loop-rest.values.items c.in-Some.value c.loop-rest.invariant.0 one.1,
      one_more g.M.Write.spelling c.loop-rest.values.items c.in-Some.value c.args.bytes.now c.loop-rest.rest.now c.next_value.new.rest.now c.loop-rest.invariant.1 one.0,
    )
