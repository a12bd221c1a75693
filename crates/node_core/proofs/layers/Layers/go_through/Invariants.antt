use Rattle.std.proofs.Common.{ℕ, List, drop}
use Rattle.messages_certificates.specs.declared.artifact.Artifact.{Artifact}
use Rattle.simplex_member.specs.Packet.{formats}
use Rattle.simplex_member.specs.Setup.{Setup}
use Rattle.node_core.specs.GoingThrough.{IsGoneThrough, IsRecordOf}
use Rattle.node_core.proofs.layers.Layers.go_through.Given as goal

-- all was gone through but what is left
abbrev pub invariant-loop-artifact : goal.invariant-loop-artifact
invariant-loop-artifact g l = (n now : ℕ) (s : Setup g.row.S.Denot g.row.D.Denot g.row.S-Certificate.Denot) (found : List (Artifact g.row.S.Denot g.row.D.Denot g.row.S-PublicKey.Denot g.row.S-Signature.Denot g.row.S-Certificate.Denot)) → IsRecordOf g.S.Scheme s l.recorded found
    → IsGoneThrough g.S.Scheme g.L.Elector (formats {S = g.row.S.Denot} {P = g.row.S-PublicKey.Denot} g.D.PartialEq.eq g.D.Write.spelling g.S.Signature.Write.spelling g.S.Certificate.Write.spelling g.D.Read.reading g.S.Signature.Read.reading g.S.Certificate.Read.reading n) s now found found l.initial.self l.initial.out.items
    → IsGoneThrough g.S.Scheme g.L.Elector (formats {S = g.row.S.Denot} {P = g.row.S-PublicKey.Denot} g.D.PartialEq.eq g.D.Write.spelling g.S.Signature.Write.spelling g.S.Certificate.Write.spelling g.D.Read.reading g.S.Signature.Read.reading g.S.Certificate.Read.reading n) s now found (drop l.artifact-index l.artifacts) l.self l.out.items
