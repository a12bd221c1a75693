use Rattle.std.proofs.Common.{◌≡◌, ◌-◌, ◌^◌}
use Rattle.journal_books.specs.Books.{are_two}
use Rattle.simplex_member.specs.Member.{NoneDue}
use Rattle.simplex_member.specs.Packet.{formats}
use Rattle.simplex_member.specs.Point.{History}
use Rattle.simplex_member.specs.Setup.{Setup}
use Rattle.node_steps.specs.Keeps.{NodeKeeps, disks_of}
use Rattle.node_wire.specs.Amid.{StopsAmid}
use Rattle.node_wire.specs.Stream.{left_of}
use Rattle.node_wire.specs.Streaming.{spelled}
use Rattle.simplex_cli.specs.Rewriting.{RunsAmong}
use Rattle.simplex_cli.proofs.rewriting.serve.Given as goal

-- the events that were taken so far were answered, with rewrites between; as many disks are there; and no stream failed
abbrev pub invariant-loop-node : goal.invariant-loop-node
invariant-loop-node g l = record {
  so_far : (s : Setup g.row.S.Denot g.row.D.Denot g.row.S-Certificate.Denot) (h : History g.row.S.Denot g.row.D.Denot g.row.S-PublicKey.Denot g.row.S-Signature.Denot g.row.S-Certificate.Denot)
      → NodeKeeps g.S.Scheme g.L.Elector g.K.Disk (formats {S = g.row.S.Denot} {P = g.row.S-PublicKey.Denot} g.D.PartialEq.eq g.D.Write.spelling g.S.Signature.Write.spelling g.S.Certificate.Write.spelling g.D.Read.reading g.S.Signature.Read.reading g.S.Certificate.Read.reading (g.S.Scheme.size s.voter.scheme)) s l.fn.node h → NoneDue g.S.Scheme (formats {S = g.row.S.Denot} {P = g.row.S-PublicKey.Denot} g.D.PartialEq.eq g.D.Write.spelling g.S.Signature.Write.spelling g.S.Certificate.Write.spelling g.D.Read.reading g.S.Signature.Read.reading g.S.Certificate.Read.reading (g.S.Scheme.size s.voter.scheme)) s h
      → StopsAmid g.D.Write.fits g.D.Write.spelling (spelled {S = g.row.S.Denot} g.S.PublicKey.Write.spelling g.D.Write.spelling g.S.Signature.Write.spelling g.S.Certificate.Write.spelling) (RunsAmong g.S.Scheme g.L.Elector g.K.Disk (formats {S = g.row.S.Denot} {P = g.row.S-PublicKey.Denot} g.D.PartialEq.eq g.D.Write.spelling g.S.Signature.Write.spelling g.S.Certificate.Write.spelling g.D.Read.reading g.S.Signature.Read.reading g.S.Certificate.Read.reading (g.S.Scheme.size s.voter.scheme)) s l.fn.views l.node h)
      (g.R.Source.remaining l.fn.input) (left_of l.events (g.R.Source.remaining l.input)) l.events (g.W.Sink.contents l.fn.output) (g.W.Sink.contents l.output);
  kind : are_two (disks_of l.node) ≡ are_two (disks_of l.fn.node);
  read : g.R.Source.failed l.input ≡ g.R.Source.failed l.fn.input;
  written : g.W.Sink.failed l.output ≡ g.W.Sink.failed l.fn.output;
  flushed : g.W.Sink.is_flushed l.fn.output → g.W.Sink.is_flushed l.output;
}

-- how many events may still be taken
abbrev pub decreases-loop-node : goal.decreases-loop-node
decreases-loop-node g l = 2 ^ 32 - l.events.taken
