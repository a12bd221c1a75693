-- What whoever knows of views is asked, and how far what a view supports rests on those below.
use Rattle.std.specs.Prelude.{◌≡◌, ◌≢◌, ◌+◌, ◌<◌, ◌≤◌, ◌||◌, ℕ, true, false, Option, Some, None, ⊤, is_some, IsSome, if◌then◌else◌}
use Rattle.std.specs.Option.{ForSome}
use Rattle.types_core.specs.declared.proposal.Proposal.{Proposal}
use Rattle.voter_history.specs.Held.{BuildIsOpen, IsUnequivocated, IsVerified, IsVerifyAsked}
use Rattle.voter_history.specs.Known.{Known}
use Rattle.voter_rules.specs.Ancestry.{Member, explicit, held_at, has_certificate, Leads, Optimistic, IsInvalidParent, IsFirstUncovered, LacksPayload}
use Rattle.voter_rules.specs.declared.ancestry.Link.{Link}
use Rattle.voter_rules.specs.declared.ancestry.ParentFault.{ParentFault}
use Rattle.voter_rules.specs.declared.ancestry.ParentFault.TheVariants as fault

-- what holds of each member, and whatever it knows, that this shows
abbrev pub AtEach : {K D : Type 0} → (K → Member → Known D → Type 0) → K → (Member → Known D → Type 0) → Type 0
AtEach {D = D} shows x Q = (m : Member) (k : Known D) → shows x m k → Q m k

-- how high that reaches which a payload rests on
abbrev pub height : {D : Type 0} → Option (ℕ × Option D) → ℕ
height None = 0
height (Some below) = below.0 + 1

module _ {D : Type 0} (m : Member) (k : Known D) where
  -- a false verdict was given on one of the views from the first on and before the end
  abbrev pub HasFailedWithin : ℕ → ℕ → Type 0
  HasFailedWithin first end = (u : ℕ) × (first ≤ u) × (u < end) × (k.verdict u ≡ Some false)

  -- one of the views from the first on and before the end has a certificate
  abbrev pub HasCertificateWithin : ℕ → ℕ → Type 0
  HasCertificateWithin first end = (u : ℕ) × (first ≤ u) × (u < end) × (has_certificate m k u ≡ true)

  -- one of the views from the first on and before the end was given up here
  abbrev pub HasGivenUpWithin : ℕ → ℕ → Type 0
  HasGivenUpWithin first end = (u : ℕ) × (first ≤ u) × (u < end) × (k.has_nullified u ≡ true)

  -- the highest view below that is explicit, with its payload
  pub record IsHighest (view u : ℕ) (payload : D) : Type 0 where
    pub below : u < view
    pub there : explicit m k u ≡ Some payload
    pub highest : (w : ℕ) → u < w → w < view → explicit m k w ≡ None

  -- of the view alone a notarize may be voted: neither it nor a nullify was, and the held proposal is verified
  pub record AllowsNotarize (view : ℕ) : Type 0 where
    pub first : k.has_notarized view ≡ false
    pub not_given_up : k.has_nullified view ≡ false
    pub verified : IsVerified (k.offers view)

  -- and so a finalize: neither it nor a nullify was, and the held proposal, which nothing contradicts, is notarized and judged good
  pub record AllowsFinalize (view : ℕ) : Type 0 where
    pub not_given_up : k.has_nullified view ≡ false
    pub first : k.has_finalized view ≡ false
    pub unequivocated : IsUnequivocated (k.offers view)
    pub notarized : IsSome (k.notarized view)
    pub certified : k.verdict view ≡ Some true

  -- and so a build be asked for: this member leads, didn't give the view up, holds nothing, and asked for no build but those that
  -- were given back
  pub record AllowsBuild (view : ℕ) : Type 0 where
    pub leads : Leads m k view
    pub not_given_up : k.has_nullified view ≡ false
    pub vacant : BuildIsOpen (k.offers view)

  -- and so a verification of this proposal: it is held, another member leads, this one didn't give the view up, no verification
  -- was asked for, no differing certificate replaced what was held before, and no own notarize stands behind it
  pub record AllowsVerify (view : ℕ) (p : Proposal D) : Type 0 where
    pub led : IsSome (k.leader view) × (k.leader view ≢ m.me)
    pub not_given_up : k.has_nullified view ≡ false
    pub held : held_at m k view ≡ Some p
    pub first : ¬ IsVerifyAsked (k.offers view)
    pub not_backed : k.is_backed view ≡ false

  -- what a view is notarized for, until a verdict came or was asked for
  abbrev pub uncertified : ℕ → Option (Proposal D)
  uncertified view = if k.certify_asked view || is_some (k.verdict view) then None else k.notarized view

  -- the held proposal of a view is verified and voted for
  pub record IsBacked (view : ℕ) : Type 0 where
    pub voted : k.has_notarized view ≡ true
    pub verified : IsVerified (k.offers view)

  -- what rests on a parent stands: the parent supports a payload, which is the bound one, where one is
  abbrev pub Rests : Option (ℕ × Option D) → Type 0
  Rests None = ⊤
  Rests (Some below) = (payload : D) × Optimistic m k below.0 payload × ForSome below.1 (λ bound. bound ≡ payload)

  -- a view supports this payload, exactly where what it rests on stands
  pub record IsLink (view : ℕ) (l : Link D) : Type 0 where
    pub holds : Rests l.below → Optimistic m k view l.payload
    pub needs : (payload : D) → Optimistic m k view payload → Rests l.below

  -- why a view's proposal can't stand on this parent: it never can; this view between is the first that isn't covered; or the
  -- parent's payload alone is missing
  abbrev pub Explains : ℕ → ℕ → ParentFault → Type 0
  Explains view parent fault.Invalid = IsInvalidParent m k view parent
  Explains view parent (fault.Uncovered first) = (¬ IsInvalidParent m k view parent) × IsFirstUncovered m k parent view first
  Explains view parent fault.Missing = LacksPayload m k view parent
