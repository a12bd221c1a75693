use Rattle.types_codec.specs.Codec.{bounded-IsCodec}
use Rattle.node_wire.specs.Event.{event_value}
use Rattle.node_wire.specs.EventCodec.{event-IsCodec}
use Rattle.node_wire.proofs.Reading.{spelled_of}
use Rattle.node_wire.proofs.event.read_event.Goals as goal

pub returns-clause-spelled : goal.returns-clause-spelled
returns-clause-spelled g c =
    let payload = bounded-IsCodec (g.met.D.Read.one_spelling c.args.bound c.ranges.bound.fits) (g.met.D.Digest.unbounded c.args.bound) in
    spelled_of (event-IsCodec payload) event_value c.args.input.now.now c.read_tagged.new.input.now c.read_tagged.result c.read_tagged.ensures
