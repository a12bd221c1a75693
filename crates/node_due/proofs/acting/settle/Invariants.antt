use Rattle.std.specs.Prelude.{◌-◌, ◌^◌, Ok}
use Rattle.simplex_member.specs.Packet.{formats}
use Rattle.simplex_member.specs.Point.{History}
use Rattle.simplex_member.specs.Setup.{Setup}
use Rattle.node_core.specs.Keeps.{CoreKeeps, book_of}
use Rattle.node_core.specs.Telling.{TellsOfBook}
use Rattle.node_requests.specs.declared.acted.Acted.TheVariants as came
use Rattle.node_due.proofs.Settling.{ActsSoFar}
use Rattle.node_due.proofs.acting.settle.Given as goal

-- acts were done so far, and none has failed
abbrev pub invariant-acts : goal.invariant-acts
invariant-acts g l = record {
  acts : (s : Setup g.row.S.Denot g.row.D.Denot g.row.S-Certificate.Denot) (h : History g.row.S.Denot g.row.D.Denot g.row.S-PublicKey.Denot g.row.S-Signature.Denot g.row.S-Certificate.Denot)
      → CoreKeeps g.S.Scheme g.L.Elector g.K.Disk (formats {S = g.row.S.Denot} {P = g.row.S-PublicKey.Denot} g.D.PartialEq.eq g.D.Write.spelling g.S.Signature.Write.spelling g.S.Certificate.Write.spelling g.D.Read.reading g.S.Signature.Read.reading g.S.Certificate.Read.reading (g.S.Scheme.size s.voter.scheme)) s l.fn.core h → ActsSoFar g.S.Scheme g.L.Elector g.K.Disk (formats {S = g.row.S.Denot} {P = g.row.S-PublicKey.Denot} g.D.PartialEq.eq g.D.Write.spelling g.S.Signature.Write.spelling g.S.Certificate.Write.spelling g.D.Read.reading g.S.Signature.Read.reading g.S.Certificate.Read.reading (g.S.Scheme.size s.voter.scheme)) s l.fn.core l.core h l.counter l.fn.out.items l.out.items;
  told : TellsOfBook g.K.Disk (book_of l.fn.core) (book_of l.core) (Ok came.Did);
}

-- fewer rounds are left each time
abbrev pub decreases-acts : goal.decreases-acts
decreases-acts g l = 2 ^ 128 - 1 - l.counter
