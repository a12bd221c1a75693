-- Views that are given up since their leader gave them up.
use Rattle.std.specs.Prelude.{◌∷◌, ℕ, Bool, true, false}
use Rattle.types_core.specs.declared.scheme.Scheme.{Ghosts}
use Rattle.types_terms.specs.declared.elector.Elector as elector
use Rattle.voter_history.specs.declared.timeout_reason.TimeoutReason.TheVariants as reason
use Rattle.voter_history.specs.History.{latched}
use Rattle.simplex_state.specs.declared.state.State.{State}
use Rattle.simplex_state.specs.State as voting
use Rattle.simplex_member.specs.Layers.{latest, voter_of}
use Rattle.simplex_member.specs.Allowed.{LatchIsDue}
use Rattle.simplex_member.specs.Packet.{Formats}
use Rattle.simplex_member.specs.Point.{History}
use Rattle.simplex_member.specs.Setup.{Setup}
use Rattle.node_requests.specs.declared.acted.Acted.{Acted}
use Rattle.node_requests.specs.declared.acted.Acted.TheVariants as came

module _ {S L D P G C : Type 0} (g : Ghosts S D P G C) (e : elector.Ghosts L S D P G C) (f : Formats S D P G C) (s : Setup S D C) where
  -- that its leader gave the view up was a reason that is due, and counts now; or it is none
  abbrev pub FollowsIn : State S L D P G C → History S D P G C → ℕ → Bool → Type 0
  FollowsIn new h view true = LatchIsDue g f s h view reason.LeaderNullify × voting.Keeps g e s.voter new (latched (latest h) view reason.LeaderNullify ∷ voter_of s h)
  FollowsIn new h view false = (¬ LatchIsDue g f s h view reason.LeaderNullify) × voting.Keeps g e s.voter new (voter_of s h)

  -- the same of a view; or of none it is
  abbrev pub FollowsLeader : State S L D P G C → History S D P G C → Acted → Type 0
  FollowsLeader new h came.Did = (view : ℕ) × FollowsIn new h view true
  FollowsLeader new h came.Nothing = ((view : ℕ) → ¬ LatchIsDue g f s h view reason.LeaderNullify) × voting.Keeps g e s.voter new (voter_of s h)
