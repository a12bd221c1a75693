-- Views that are given up for a proposal that can never stand.
use Rattle.std.specs.Prelude.{◌∷◌, ℕ, Bool, true, false}
use Rattle.types_core.specs.declared.scheme.Scheme.{Ghosts}
use Rattle.types_terms.specs.declared.elector.Elector as elector
use Rattle.voter_history.specs.declared.timeout_reason.TimeoutReason.TheVariants as reason
use Rattle.voter_history.specs.History.{latched}
use Rattle.simplex_state.specs.declared.state.State.{State}
use Rattle.simplex_state.specs.State as voting
use Rattle.simplex_member.specs.Layers.{latest, voter_of}
use Rattle.simplex_member.specs.Allowed.{LatchIsDue}
use Rattle.simplex_member.specs.Packet.{Formats}
use Rattle.simplex_member.specs.Point.{History}
use Rattle.simplex_member.specs.Setup.{Setup}

module _ {S L D P G C : Type 0} (g : Ghosts S D P G C) (e : elector.Ghosts L S D P G C) (f : Formats S D P G C) (s : Setup S D C) where
  -- that its proposal can never stand was a reason to give the view up that was due, and counts now; or it is none
  abbrev pub GivesInvalidUp : State S L D P G C → History S D P G C → ℕ → Bool → Type 0
  GivesInvalidUp new h view true = LatchIsDue g f s h view reason.InvalidProposal × voting.Keeps g e s.voter new (latched (latest h) view reason.InvalidProposal ∷ voter_of s h)
  GivesInvalidUp new h view false = (¬ LatchIsDue g f s h view reason.InvalidProposal) × voting.Keeps g e s.voter new (voter_of s h)
