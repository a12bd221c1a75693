-- What a voter starts on.
use Rattle.std.specs.Prelude.{◌≡◌, ℕ, if◌then◌else◌, is_some, List, ◌∷◌, Option, None, Some}
use Rattle.types_core.specs.Positions.{HasRoom}
use Rattle.types_core.specs.declared.scheme.Scheme.{Ghosts}
use Rattle.types_terms.specs.declared.elector.Elector as elector
use Rattle.types_terms.specs.declared.kind.Kind.TheVariants as kind
use Rattle.messages_certificates.specs.ProposalCertificate.{Finalization}
use Rattle.voter_history.specs.Past as past
use Rattle.voter_history.specs.History.{Setup, Point, finalized, seen, sent, started}
use Rattle.voter_rules.specs.declared.floor.Floor.{Floor}
use Rattle.voter_rules.specs.declared.floor.Floor.TheVariants as floor
use Rattle.simplex_state.specs.declared.state.State.{State}
use Rattle.simplex_state.specs.State.{Keeps}

module _ {S D P G C : Type 0} where
  -- a finalization is taken: it has room, and is the first of its view
  abbrev pub IsTaken : Setup S C → List (Point S D P G C) → Finalization S D P G C → Type 0
  IsTaken s h c = HasRoom s.length c.proposal.round.view × (past.finalization (seen s h c.proposal.round.view) ≡ None)

module _ {S L D P G C : Type 0} where
  -- the finalization of the view was handed out, where it is known and wasn't handed out before
  pub record Broadcasts (g : Ghosts S D P G C) (e : elector.Ghosts L S D P G C) (s : Setup S C) (state : State S L D P G C) (h : List (Point S D P G C)) (view : ℕ) (copy : Option (Finalization S D P G C)) : Type 0 where
    pub answer : copy ≡ (if past.has_sent_finalization (seen s h view) then None else past.finalization (seen s h view))
    pub keeps : Keeps g e s state (if is_some copy then sent kind.Finalization view ∷ h else h)

  -- the finalization was taken where it had to be, and then handed out
  pub record StandsOn (g : Ghosts S D P G C) (e : elector.Ghosts L S D P G C) (s : Setup S C) (state : State S L D P G C) (now : ℕ) (h : List (Point S D P G C)) (c : Finalization S D P G C) (answer : Option (Finalization S D P G C)) : Type 0 where
    pub taken : IsTaken s h c → Broadcasts g e s state (finalized now c ∷ h) c.proposal.round.view answer
    pub known : (IsTaken s h c → ⊥) → Broadcasts g e s state h c.proposal.round.view answer

  -- the voter started on the payload, which answers nothing, or stands on the finalization
  abbrev pub StartsOn : Ghosts S D P G C → elector.Ghosts L S D P G C → Setup S C → State S L D P G C → ℕ → List (Point S D P G C) → Floor S D P G C → Option (Finalization S D P G C) → Type 0
  StartsOn g e s state now h (floor.Genesis payload) answer = Keeps g e s state (started now (Some payload) ∷ h) × (answer ≡ None)
  StartsOn g e s state now h (floor.Finalized c) answer = StandsOn g e s state now h c answer
