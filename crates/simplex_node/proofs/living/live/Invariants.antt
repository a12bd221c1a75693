use Rattle.std.proofs.Common.{◌≡◌, ◌≤◌, ◌+◌, ℕ, List, Some, length}
use Rattle.std.specs.Prelude.{All, vec_capacity, vec_len}
use Rattle.simplex_member.specs.Packet.{formats}
use Rattle.simplex_member.specs.Setup.{Setup}
use Rattle.simplex_node.specs.Living.{AreOfOneMember, IsLeftByLives, MayLeaveOnly, Try, failures_behind}
use Rattle.simplex_node.proofs.Told.{LivesOn}
use Rattle.simplex_node.proofs.living.live.Given as goal

-- there is room for the answers that are left, each elector that is left was built for the committee, and the lives so far are over
abbrev pub invariant-loop-opening : goal.invariant-loop-opening
invariant-loop-opening g l =
    let f = λ (n : ℕ). formats {S = g.row.S.Denot} {P = g.row.S-PublicKey.Denot} g.D.PartialEq.eq g.D.Write.spelling g.S.Signature.Write.spelling g.S.Certificate.Write.spelling g.D.Read.reading g.S.Signature.Read.reading g.S.Certificate.Read.reading n in
    record {
      room : vec_len l.answers + length l.opening-iterator.rest.items ≤ vec_capacity l.answers;
      each : length l.answers.items + length l.opening-iterator.rest.items ≡ length l.fn.openings.items;
      failures : g.K.Disk.failed l.disk ≡ failures_behind (g.K.Disk.failed l.fn.disk) l.answers.items;
      built : All (λ o. g.L.Elector.built_for o.elector (g.S.Scheme.size o.scheme.value)) l.opening-iterator.rest.items;
      lives : (s : Setup g.row.S.Denot g.row.D.Denot g.row.S-Certificate.Denot) (before : List (Try g.row.S.Denot g.row.L.Denot g.row.D.Denot g.row.S-PublicKey.Denot g.row.S-Signature.Denot g.row.S-Certificate.Denot))
          → g.S.Scheme.own s.voter.scheme ≡ Some s.me → g.S.Scheme.size s.voter.scheme ≤ 65535 → g.K.Disk.keeps
          → AreOfOneMember g.S.Scheme g.L.Elector s l.fn.openings.items
          → MayLeaveOnly (g.K.Disk.calls l.fn.disk) (IsLeftByLives g.S.Scheme g.L.Elector (f (g.S.Scheme.size s.voter.scheme)) s before)
          → LivesOn g.S.Scheme g.L.Elector g.K.Disk (f (g.S.Scheme.size s.voter.scheme)) s before l.fn.disk l.fn.openings.items l.opening-iterator.rest.items l.answers.items l.disk;
    }
