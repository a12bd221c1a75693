use Rattle.std.proofs.Common.{◌≡◌, ◌-◌, ◌^◌}
use Rattle.simplex_state.specs.State as voting
use Rattle.node_votes.specs.KeepsVotes as accepting
use Rattle.simplex_member.specs.Layers.{latest, voter_of}
use Rattle.simplex_member.specs.Packet.{Formats}
use Rattle.simplex_member.specs.Point.{History}
use Rattle.simplex_member.specs.Setup.{Setup}
use Rattle.node_requests.proofs.GivenUp.{NoneBelow}
use Rattle.node_requests.proofs.following.follow_leader.Given as goal

abbrev pub invariant-views : goal.invariant-views
invariant-views g l = (s : Setup g.row.S.Denot g.row.D.Denot g.row.S-Certificate.Denot) (h : History g.row.S.Denot g.row.D.Denot g.row.S-PublicKey.Denot g.row.S-Signature.Denot g.row.S-Certificate.Denot)
    (f : Formats g.row.S.Denot g.row.D.Denot g.row.S-PublicKey.Denot g.row.S-Signature.Denot g.row.S-Certificate.Denot) → s.me ≡ l.me → latest h ≡ l.now
    → voting.Keeps g.S.Scheme g.L.Elector s.voter l.fn.voter (voter_of s h) → accepting.Keeps g.S.Scheme g.D.PartialEq.eq s l.acceptance h
    → NoneBelow g.S.Scheme f s h l.next × voting.Keeps g.S.Scheme g.L.Elector s.voter l.voter (voter_of s h)

abbrev pub decreases-views : goal.decreases-views
decreases-views g l = 2 ^ 64 - l.next
