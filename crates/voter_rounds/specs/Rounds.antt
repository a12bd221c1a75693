-- What the rounds of all views keep.
use Rattle.std.specs.Prelude.{◌≡◌, ◌≢◌, ◌⊎◌, ◌↔◌, ◌<◌, ◌≤◌, ◌^◌, ◌==◌, ℕ, Bool, false, List, [], Option, Some, None, IsSome, IsTrue, MatchOption, nat_lt, if◌then◌else◌, ⊤}
use Rattle.std.specs.Option.{option_or}
use Rattle.std.specs.declared.cmp.Reverse.{Reverse}
use Rattle.std.specs.BTreeMap.{BTreeMap}
use Rattle.types_core.specs.LatestFirst.{stored}
use Rattle.messages_certificates.specs.declared.artifact.Artifact.{Artifact}
use Rattle.messages_certificates.specs.declared.artifact.Artifact.TheVariants as artifact
use Rattle.simplex_round.specs.declared.round.Round.{Round}
use Rattle.simplex_round.specs.Round as one
use Rattle.voter_history.specs.Held as offer
use Rattle.voter_history.specs.Held.{held, Agrees}
use Rattle.voter_history.specs.Past as past
use Rattle.voter_history.specs.Past.{Item, offers}
use Rattle.voter_history.specs.Pasts.{put}
use Rattle.voter_rounds.specs.declared.notice.Notice.{Notice}
use Rattle.voter_rounds.specs.declared.notice.Notice.TheVariants as notice
use Rattle.voter_rounds.specs.declared.rounds.Rounds.{Rounds}

-- what stays the same of all rounds
pub record Common (S : Type 0) : Type 0 where
  pub scheme : S
  pub epoch : ℕ

-- what stays the same of a view's round
abbrev pub setup_of : {S : Type 0} → Common S → ℕ → one.Setup S
setup_of s view = record { scheme = s.scheme; round = record { epoch = s.epoch; view = view } }

-- the leader of a view becomes known, where it isn't
abbrev pub learn : ℕ → ℕ → (ℕ → Option ℕ) → ℕ → Option ℕ
learn at i t view = if at == view then option_or (t at) (Some i) else t view

-- of the views below the floor no leader is known any more
abbrev pub unled : ℕ → (ℕ → Option ℕ) → ℕ → Option ℕ
unled floor led view = if nat_lt view floor then None else led view

module _ {S D P G C : Type 0} where
  -- something is known of a view: something happened to it, or its leader is known
  abbrev pub IsTracked : List (Item S D P G C) → Option ℕ → Type 0
  IsTracked past led = (past ≢ []) ⊎ IsSome led

  -- nothing is known of the views from the first on and before the end
  abbrev pub AreUntracked : (ℕ → Option ℕ) → (ℕ → List (Item S D P G C)) → ℕ → ℕ → Type 0
  AreUntracked led past first end = (view : ℕ) → first ≤ view → view < end → (past view ≡ []) × (led view ≡ None)

  -- the first view from this one on that is tracked
  pub record IsFirstTracked (led : ℕ → Option ℕ) (past : ℕ → List (Item S D P G C)) (from first : ℕ) : Type 0 where
    pub behind : from ≤ first
    pub tracked : IsTracked (past first) (led first)
    pub bare : AreUntracked led past from first

  -- the round of a view stands where its leader and its past say; there is one exactly where something is known of the view
  abbrev pub IsRight : (S → ℕ → P) → Common S → ℕ → Option (Round S D P G C) → Option ℕ → List (Item S D P G C) → Type 0
  IsRight key_of s view found led past = MatchOption found ((past ≡ []) × (led ≡ None)) (λ r. IsTracked past led × one.Keeps key_of (setup_of s view) r led past)

  -- so does that of each view with a number of 64 bits
  pub record AreKept (key_of : S → ℕ → P) (s : Common S) (m : BTreeMap (Reverse ℕ) (Round S D P G C)) (led : ℕ → Option ℕ) (past : ℕ → List (Item S D P G C)) : Type 0 where
    pub at : (view : ℕ) → view < 2 ^ 64 → IsRight key_of s view (stored m view) (led view) (past view)

  -- the same, but one view has a round even where nothing is known of it
  pub record AreOpen (key_of : S → ℕ → P) (s : Common S) (m : BTreeMap (Reverse ℕ) (Round S D P G C)) (led : ℕ → Option ℕ) (past : ℕ → List (Item S D P G C)) (view : ℕ) : Type 0 where
    pub here : MatchOption (stored m view) ⊥ (λ r. one.Keeps key_of (setup_of s view) r (led view) (past view))
    pub others : (u : ℕ) → u < 2 ^ 64 → (view == u) ≡ false → IsRight key_of s u (stored m u) (led u) (past u)

  -- this is the first view of which something is known, it lies below the floor, and this is its round
  pub record IsFirstBelow (key_of : S → ℕ → P) (s : Common S) (floor view : ℕ) (r : Round S D P G C) (led : ℕ → Option ℕ) (past : ℕ → List (Item S D P G C)) : Type 0 where
    pub below : view < floor
    pub first : IsFirstTracked led past 0 view
    pub stands : one.Keeps key_of (setup_of s view) r (led view) (past view)

  -- of an own notarize in a record, its view takes its proposal exactly where it holds none or the same
  abbrev pub Takes : (ℕ → List (Item S D P G C)) → Artifact S D P G C → Bool → Type 0
  Takes t (artifact.Notarize v) taken = IsTrue taken ↔ Agrees (held (offers (t v.proposal.round.view))) v.proposal
  Takes t x taken = ⊤

  -- what an artifact of the member's record leaves of each view: a vote, with its proposal where that is taken; a verdict; or that
  -- a certificate was handed out
  abbrev pub recalled : Bool → Artifact S D P G C → (ℕ → List (Item S D P G C)) → ℕ → List (Item S D P G C)
  recalled taken (artifact.Notarize v) t =
      put v.proposal.round.view past.voted_notarize (if taken then put v.proposal.round.view (past.offered (offer.recorded v.proposal)) t else t)
  recalled taken (artifact.Notarization c) t = put c.proposal.round.view past.sent_notarization t
  recalled taken (artifact.Certification round ok) t = put round.view (past.judged ok) t
  recalled taken (artifact.Nullify v) t = put v.round.view past.voted_nullify t
  recalled taken (artifact.Nullification c) t = put c.round.view past.sent_nullification t
  recalled taken (artifact.Finalize v) t = put v.proposal.round.view past.voted_finalize t
  recalled taken (artifact.Finalization c) t = put c.proposal.round.view past.sent_finalization t

  -- what a notice tells of a view
  abbrev pub told : Notice → Item S D P G C
  told notice.Unbound = past.unbound
  told notice.BuildReleased = past.offered offer.released
  told (notice.AncestryAsked missing) = past.asked missing
  told (notice.CertifyAsked handle) = past.certifying handle

  pub record IsKept (key_of : S → ℕ → P) (s : Common S) (r : Rounds S D P G C) (led : ℕ → Option ℕ) (past : ℕ → List (Item S D P G C)) : Type 0 where
    pub scheme : r.scheme.value ≡ s.scheme
    pub epoch : r.epoch ≡ s.epoch
    pub rounds : AreKept key_of s r.by_view led past

  pub record IsOpen (key_of : S → ℕ → P) (s : Common S) (r : Rounds S D P G C) (led : ℕ → Option ℕ) (past : ℕ → List (Item S D P G C)) (view : ℕ) : Type 0 where
    pub scheme : r.scheme.value ≡ s.scheme
    pub epoch : r.epoch ≡ s.epoch
    pub rounds : AreOpen key_of s r.by_view led past view

  -- what the rounds keep, closed for those who stand above
  unfoldable pub Keep : (S → ℕ → P) → Common S → Rounds S D P G C → (ℕ → Option ℕ) → (ℕ → List (Item S D P G C)) → Type 0
  Keep key_of s r led past = IsKept key_of s r led past

  -- what holds of whatever leaders and pasts the rounds keep
  abbrev pub AtEach : (S → ℕ → P) → Rounds S D P G C → (Common S → (ℕ → Option ℕ) → (ℕ → List (Item S D P G C)) → Type 0) → Type 0
  AtEach key_of r Q = (s : Common S) (led : ℕ → Option ℕ) (past : ℕ → List (Item S D P G C)) → Keep key_of s r led past → Q s led past
