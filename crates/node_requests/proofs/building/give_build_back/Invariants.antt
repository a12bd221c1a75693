use Rattle.std.proofs.Common.{◌≡◌, ◌-◌, ◌^◌}
use Rattle.simplex_member.specs.Packet.{formats}
use Rattle.node_requests.specs.Asking.{AtAnyAsker}
use Rattle.node_requests.proofs.Builds.{AreKeptBelow}
use Rattle.node_requests.proofs.building.give_build_back.Given as goal

abbrev pub invariant-builds : goal.invariant-builds
invariant-builds g l = record {
  same : l.tables ≡ l.initial.tables;
  below : AtAnyAsker g.S.Scheme g.L.Elector (formats {S = g.row.S.Denot} {P = g.row.S-PublicKey.Denot} g.D.PartialEq.eq g.D.Write.spelling g.S.Signature.Write.spelling g.S.Certificate.Write.spelling g.D.Read.reading g.S.Signature.Read.reading g.S.Certificate.Read.reading) l.initial.voter l.initial.tables (λ f s h. AreKeptBelow g.S.Scheme g.L.Elector f s l.voter h l.from);
}

abbrev pub decreases-builds : goal.decreases-builds
decreases-builds g l = 2 ^ 64 - l.from
