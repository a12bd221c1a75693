-- What a round keeps of a history.
use Rattle.std.specs.Prelude.{◌≡◌, ◌<◌, All, ℕ, Bool, None, [], ◌∷◌, ⊤}
use Rattle.types_core.specs.Subject.{Statement}
use Rattle.types_core.specs.declared.scheme.Scheme.{Ghosts}
use Rattle.simplex_batcher.specs.declared.round.Round.{Round}
use Rattle.batcher_verifier.specs.History.{History, Taken, Cast, Certified, Led, Judged, Forwarded, Setup, accepted, recorded, has_forwarded}
use Rattle.batcher_verifier.specs.Lawful.{IsLawful, IsConsistent}
use Rattle.simplex_messages.specs.VoteParts.{vote_signer}
use Rattle.batcher_verifier.specs.Keeping.{VerifierKeeps, kept-consistent}

-- nothing stood in the way of any accepted vote when it came
abbrev pub AreNew : {S D P G C : Type 0} → History S D P G C → Type 0
AreNew [] = ⊤
AreNew (Taken v ∷ h) = (recorded h v ≡ None) × AreNew h
AreNew (Cast v ∷ h) = (recorded h v ≡ None) × AreNew h
AreNew (e ∷ h) = AreNew h

module _ {S D P G C : Type 0} (same : D → D → Bool) (attests : S → ℕ → Statement D → G → Type 0) (s : Setup S) where
  -- a consistent history whose votes were all new is lawful
  consistent-lawful : (h : History S D P G C) → IsConsistent same attests s h → AreNew h → IsLawful same attests s h
  consistent-lawful [] may new = tt
  consistent-lawful (Taken v ∷ h) may new = (record { ours = may.0.ours; free = new.0 }, consistent-lawful h may.1 new.1)
  consistent-lawful (Cast v ∷ h) may new = ((record { ours = may.0.0.ours; free = new.0 }, may.0.1), consistent-lawful h may.1 new.1)
  consistent-lawful (Certified c ∷ h) may new = (may.0, consistent-lawful h may.1 new)
  consistent-lawful (Led i ∷ h) may new = (may.0, consistent-lawful h may.1 new)
  consistent-lawful (Judged kind failing ∷ h) may new = (may.0, consistent-lawful h may.1 new)
  consistent-lawful (Forwarded ∷ h) may new = (may.0, consistent-lawful h may.1 new)

module _ {S D P G C : Type 0} (same : D → D → Bool) (g : Ghosts S D P G C) (batchable : S → Bool) where
  -- the round stands where this history leads
  pub record IsRoundKept (s : Setup S) (r : Round S D P G C) (h : History S D P G C) : Type 0 where
    pub verifier : VerifierKeeps same g batchable s r.verifier h
    pub of_members : All (λ v. vote_signer v < s.members) (accepted h)
    pub are_new : AreNew h
    pub tracks_is : r.tracks ≡ s.tracks
    pub forwarded_is : r.forwarded ≡ has_forwarded h

  -- the same, closed for those who stand above
  unfoldable pub RoundKeeps : Setup S → Round S D P G C → History S D P G C → Type 0
  RoundKeeps s r h = IsRoundKept s r h

  -- P of each history that leads to the round
  abbrev pub AtEach : Round S D P G C → (Setup S → History S D P G C → Type 0) → Type 0
  AtEach r Holds = (s : Setup S) (h : History S D P G C) → RoundKeeps s r h → Holds s h

  -- a history that leads to a round is lawful
  pub round-lawful : (s : Setup S) (r : Round S D P G C) (h : History S D P G C) → RoundKeeps s r h → IsLawful same g.attests s h
  unfolding RoundKeeps
  round-lawful s r h k = consistent-lawful same g.attests s h (kept-consistent same g batchable s r.verifier h k.verifier) k.are_new
