-- At which list of what happened a round of a view stands, and what its calls answer.
use Rattle.std.specs.Prelude.{◌≡◌, ◌⊎◌, ℕ, List, ◌∷◌, Option, Some, option_map}
use Rattle.std.specs.Option.{ForSome}
use Rattle.types_core.specs.declared.position.Round.{Round}
use Rattle.messages_certificates.specs.declared.artifact.Artifact.{Artifact}
use Rattle.messages_certificates.specs.declared.artifact.Artifact.TheVariants as artifact
use Rattle.simplex_round.specs.declared.leader.Leader.{Leader}
use Rattle.simplex_round.specs.declared.round.Round as kept
use Rattle.simplex_round.specs.Slot as slot
use Rattle.voter_history.specs.Held.{recorded, held, Agrees, Differs}
use Rattle.voter_history.specs.Past.{Item, offered, sent_notarization, sent_nullification, sent_finalization, voted_notarize, voted_nullify, voted_finalize, judged, offers, notarization, nullification, finalization, has_sent_notarization, has_sent_nullification, has_sent_finalization, has_notarized, has_nullified, has_finalized, verdict, is_certify_asked, certify_handle, last_asked, binding, entered_at, proposed_at, leader_deadline, certification_deadline, armed_stall, latch, retry}

-- what stays the same through a round's life: the member's view of its committee, and which round it is
pub record Setup (S : Type 0) : Type 0 where
  pub scheme : S
  pub round : Round

-- x is the leader, with its key
abbrev pub IsLeader : {S P : Type 0} → (S → ℕ → P) → Setup S → Option ℕ → Leader P → Type 0
IsLeader key_of s l x = (l ≡ Some x.idx) × (x.key ≡ key_of s.scheme x.idx)

module _ {S D P G C : Type 0} where
  -- the round stands where this past leads, with this leader, whose key is the committee's
  pub record IsKept (key_of : S → ℕ → P) (s : Setup S) (r : kept.Round S D P G C) (l : Option ℕ) (h : List (Item S D P G C)) : Type 0 where
    pub scheme : r.scheme.value ≡ s.scheme
    pub round : r.round ≡ s.round
    pub leader : option_map (λ (x : Leader P). x.idx) r.leader ≡ l
    pub key : ForSome r.leader (λ x. x.key ≡ key_of s.scheme x.idx)
    pub proposal : slot.Keeps r.proposal (offers h)
    pub notarization : r.notarization ≡ notarization h
    pub nullification : r.nullification ≡ nullification h
    pub finalization : r.finalization ≡ finalization h
    pub sent_notarization : r.broadcast_notarization ≡ has_sent_notarization h
    pub sent_nullification : r.broadcast_nullification ≡ has_sent_nullification h
    pub sent_finalization : r.broadcast_finalization ≡ has_sent_finalization h
    pub notarize : r.votes.notarize ≡ has_notarized h
    pub nullify : r.votes.nullify ≡ has_nullified h
    pub finalize : r.votes.finalize ≡ has_finalized h
    pub verdict : r.verdict ≡ verdict h
    pub certify_asked : r.certify_asked ≡ is_certify_asked h
    pub certify_handle : r.certify_handle ≡ certify_handle h
    pub last_asked : r.last_asked ≡ last_asked h
    pub verifying : r.verifying ≡ binding h
    pub entered : r.entered_at ≡ entered_at h
    pub proposed : r.proposed_at ≡ proposed_at h
    pub leader_deadline : r.deadlines.leader ≡ leader_deadline h
    pub certification_deadline : r.deadlines.certification ≡ certification_deadline h
    pub stall : r.deadlines.stall ≡ armed_stall h
    pub latch : r.deadlines.latch ≡ latch h
    pub retry : r.deadlines.retry ≡ retry h

  -- the same, closed for those who stand above
  unfoldable pub Keeps : (S → ℕ → P) → Setup S → kept.Round S D P G C → Option ℕ → List (Item S D P G C) → Type 0
  Keeps key_of s r l h = IsKept key_of s r l h

  -- what holds of each setup, leader and past that lead to the round
  abbrev pub AtEach : (S → ℕ → P) → kept.Round S D P G C → (Setup S → Option ℕ → List (Item S D P G C) → Type 0) → Type 0
  AtEach key_of r Q = (s : Setup S) (l : Option ℕ) (h : List (Item S D P G C)) → Keeps key_of s r l h → Q s l h

  -- the new round stands where this list of what happened to the old one leads, with the same setup and leader
  abbrev pub Becomes : (S → ℕ → P) → kept.Round S D P G C → kept.Round S D P G C → (List (Item S D P G C) → List (Item S D P G C)) → Type 0
  Becomes key_of old new grown = AtEach key_of old (λ s l h. Keeps key_of s new l (grown h))

  -- the round stands where an artifact of this member's record leads it: an own vote, which offers its proposal too where
  -- none or the same is held; a verdict; or a certificate, which then counts as handed out
  abbrev pub Recalls : (S → ℕ → P) → Setup S → kept.Round S D P G C → Option ℕ → Artifact S D P G C → List (Item S D P G C) → Type 0
  Recalls key_of s r l (artifact.Notarize v) h =
      (Agrees (held (offers h)) v.proposal × Keeps key_of s r l (voted_notarize ∷ offered (recorded v.proposal) ∷ h))
      ⊎ (Differs (held (offers h)) v.proposal × Keeps key_of s r l (voted_notarize ∷ h))
  Recalls key_of s r l (artifact.Notarization c) h = Keeps key_of s r l (sent_notarization ∷ h)
  Recalls key_of s r l (artifact.Certification round ok) h = Keeps key_of s r l (judged ok ∷ h)
  Recalls key_of s r l (artifact.Nullify v) h = Keeps key_of s r l (voted_nullify ∷ h)
  Recalls key_of s r l (artifact.Nullification c) h = Keeps key_of s r l (sent_nullification ∷ h)
  Recalls key_of s r l (artifact.Finalize v) h = Keeps key_of s r l (voted_finalize ∷ h)
  Recalls key_of s r l (artifact.Finalization c) h = Keeps key_of s r l (sent_finalization ∷ h)
