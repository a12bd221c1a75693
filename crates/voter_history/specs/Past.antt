-- What is known of one view, by the list of all that happened to it, the newest first.
use Rattle.std.specs.Prelude.{◌≡◌, ◌≢◌, ◌+◌, ◌-◌, ◌^◌, min, ℕ, Bool, true, false, not, ◌&&◌, ◌||◌, List, [], ◌∷◌, Option, Some, None, is_some, is_none, IsSome, option_map, filter_map, if◌then◌else◌}
use Rattle.std.specs.Option.{option_or}
use Rattle.types_core.specs.declared.proposal.Proposal.{Proposal}
use Rattle.messages_certificates.specs.declared.nullification.Nullification.{Nullification}
use Rattle.messages_certificates.specs.ProposalCertificate.{Notarization, Finalization}
use Rattle.voter_history.specs.declared.timeout_reason.TimeoutReason.{TimeoutReason}
use Rattle.voter_history.specs.declared.timeout_reason.TimeoutReason.TheVariants as reason
use Rattle.voter_history.specs.declared.token.Token.{Token}
use Rattle.voter_history.specs.Held.{Offer, certified, recorded, held, IsUnequivocated, IsVerified, BuildIsOpen, IsVerifyAsked}

-- what can happen to a view, of the scheme S on payloads D, with keys P, signatures G and certificates C
pub data Item (S D P G C : Type 0) : Type 0 where
  -- something was offered to its proposal or asked about it; an own build was recorded at this moment
  offered : Offer D → Item S D P G C
  built : ℕ → Proposal D → Item S D P G C
  -- it was entered; its leader, certification and stall deadline were set; a reason to give it up came; its timeout was
  -- asked for, with the moment at which a nullify that was voted before is due again
  entered : ℕ → Item S D P G C
  armed : ℕ → ℕ → Option ℕ → Item S D P G C
  latched : ℕ → TimeoutReason → Item S D P G C
  polled : ℕ → Item S D P G C
  -- a certificate of it was taken, or handed out
  notarized : Notarization S D P G C → Item S D P G C
  nullified : Nullification S D P G C → Item S D P G C
  finalized : Finalization S D P G C → Item S D P G C
  sent_notarization : Item S D P G C
  sent_nullification : Item S D P G C
  sent_finalization : Item S D P G C
  -- this member voted
  voted_notarize : Item S D P G C
  voted_nullify : Item S D P G C
  voted_finalize : Item S D P G C
  -- a view that its proposal rests on was asked for; its proposal was bound to a parent's payload, or to none
  asked : ℕ → Item S D P G C
  bound : Proposal D → D → Item S D P G C
  unbound : Item S D P G C
  -- a verdict was asked for, or given up; it came
  certifying : Token → Item S D P G C
  aborted : Item S D P G C
  judged : Bool → Item S D P G C

-- the moment that lies so much later, or the last one of 64 bits
abbrev pub deadline : ℕ → ℕ → ℕ
deadline now timeout = min (now + timeout) (2 ^ 64 - 1)

-- how long since a moment: nothing where it lies ahead
abbrev pub elapsed : ℕ → Option ℕ → Option ℕ
elapsed now moment = option_map (λ start. now - start) moment

-- a verdict is there, and it is this one
abbrev pub verdict_is_true : Option Bool → Bool
verdict_is_true None = false
verdict_is_true (Some ok) = ok

abbrev pub verdict_is_false : Option Bool → Bool
verdict_is_false None = false
verdict_is_false (Some ok) = not ok

module _ {S D P G C : Type 0} where
  -- what is offered to the proposal
  abbrev pub offer_in : Item S D P G C → Option (Offer D)
  offer_in (offered o) = Some o
  offer_in (built moment p) = Some (recorded p)
  offer_in (notarized c) = Some (certified c.proposal)
  offer_in (finalized c) = Some (certified c.proposal)
  offer_in x = None

  abbrev pub offers : List (Item S D P G C) → List (Offer D)
  offers h = filter_map offer_in h

  -- the certificates, of each kind the first
  abbrev pub notarization : List (Item S D P G C) → Option (Notarization S D P G C)
  notarization [] = None
  notarization (notarized c ∷ h) = option_or (notarization h) (Some c)
  notarization (x ∷ h) = notarization h

  abbrev pub nullification : List (Item S D P G C) → Option (Nullification S D P G C)
  nullification [] = None
  nullification (nullified c ∷ h) = option_or (nullification h) (Some c)
  nullification (x ∷ h) = nullification h

  abbrev pub finalization : List (Item S D P G C) → Option (Finalization S D P G C)
  finalization [] = None
  finalization (finalized c ∷ h) = option_or (finalization h) (Some c)
  finalization (x ∷ h) = finalization h

  -- a certificate was handed out
  abbrev pub has_sent_notarization : List (Item S D P G C) → Bool
  has_sent_notarization [] = false
  has_sent_notarization (sent_notarization ∷ h) = true
  has_sent_notarization (x ∷ h) = has_sent_notarization h

  abbrev pub has_sent_nullification : List (Item S D P G C) → Bool
  has_sent_nullification [] = false
  has_sent_nullification (sent_nullification ∷ h) = true
  has_sent_nullification (x ∷ h) = has_sent_nullification h

  abbrev pub has_sent_finalization : List (Item S D P G C) → Bool
  has_sent_finalization [] = false
  has_sent_finalization (sent_finalization ∷ h) = true
  has_sent_finalization (x ∷ h) = has_sent_finalization h

  -- the own votes
  abbrev pub has_notarized : List (Item S D P G C) → Bool
  has_notarized [] = false
  has_notarized (voted_notarize ∷ h) = true
  has_notarized (x ∷ h) = has_notarized h

  abbrev pub has_nullified : List (Item S D P G C) → Bool
  has_nullified [] = false
  has_nullified (voted_nullify ∷ h) = true
  has_nullified (x ∷ h) = has_nullified h

  abbrev pub has_finalized : List (Item S D P G C) → Bool
  has_finalized [] = false
  has_finalized (voted_finalize ∷ h) = true
  has_finalized (x ∷ h) = has_finalized h

  -- neither nullify nor finalize was voted
  abbrev pub is_undecided : List (Item S D P G C) → Bool
  is_undecided h = not (has_nullified h) && not (has_finalized h)

  -- the verdict: the first stays
  abbrev pub verdict : List (Item S D P G C) → Option Bool
  verdict [] = None
  verdict (judged ok ∷ h) = option_or (verdict h) (Some ok)
  verdict (x ∷ h) = verdict h

  -- a verdict was asked for, or given up
  abbrev pub is_certify_asked : List (Item S D P G C) → Bool
  is_certify_asked [] = false
  is_certify_asked (certifying handle ∷ h) = true
  is_certify_asked (aborted ∷ h) = true
  is_certify_asked (x ∷ h) = is_certify_asked h

  -- the request for a verdict that stands: the last one in front of the verdict, until it is given up or the verdict comes
  abbrev pub certify_handle : List (Item S D P G C) → Option Token
  certify_handle [] = None
  certify_handle (certifying handle ∷ h) = if is_some (verdict h) then certify_handle h else Some handle
  certify_handle (aborted ∷ h) = None
  certify_handle (judged ok ∷ h) = None
  certify_handle (x ∷ h) = certify_handle h

  -- the view that was asked for last
  abbrev pub last_asked : List (Item S D P G C) → Option ℕ
  last_asked [] = None
  last_asked (asked view ∷ h) = Some view
  last_asked (x ∷ h) = last_asked h

  -- the proposal that was bound last, and its parent's payload
  abbrev pub binding : List (Item S D P G C) → Option (Proposal D × D)
  binding [] = None
  binding (bound p payload ∷ h) = Some (p, payload)
  binding (unbound ∷ h) = None
  binding (x ∷ h) = binding h

  -- when the view was entered first
  abbrev pub entered_at : List (Item S D P G C) → Option ℕ
  entered_at [] = None
  entered_at (entered moment ∷ h) = option_or (entered_at h) (Some moment)
  entered_at (x ∷ h) = entered_at h

  -- when an own proposal was recorded last
  abbrev pub proposed_at : List (Item S D P G C) → Option ℕ
  proposed_at [] = None
  proposed_at (built moment p ∷ h) = Some moment
  proposed_at (x ∷ h) = proposed_at h

  -- the deadlines that were set last: those for the leader and the verdict only while neither nullify nor finalize was voted
  abbrev pub leader_deadline : List (Item S D P G C) → Option ℕ
  leader_deadline [] = None
  leader_deadline (armed leader certification stall ∷ h) = if is_undecided h then Some leader else leader_deadline h
  leader_deadline (x ∷ h) = leader_deadline h

  abbrev pub certification_deadline : List (Item S D P G C) → Option ℕ
  certification_deadline [] = None
  certification_deadline (armed leader certification stall ∷ h) = if is_undecided h then Some certification else certification_deadline h
  certification_deadline (x ∷ h) = certification_deadline h

  abbrev pub armed_stall : List (Item S D P G C) → Option ℕ
  armed_stall [] = None
  armed_stall (armed leader certification stall ∷ h) = stall
  armed_stall (x ∷ h) = armed_stall h

  -- the stall deadline, while the view is not finalized
  abbrev pub stall_deadline : List (Item S D P G C) → Option ℕ
  stall_deadline h = if is_some (finalization h) then None else armed_stall h

  -- the first reason to give the view up that came while neither nullify nor finalize was voted
  abbrev pub latch : List (Item S D P G C) → Option (ℕ × TimeoutReason)
  latch [] = None
  latch (latched moment why ∷ h) = if is_undecided h then option_or (latch h) (Some (moment, why)) else latch h
  latch (x ∷ h) = latch h

  -- a reason to give the view up would be its first: neither nullify nor finalize was voted, and none came before
  abbrev pub is_unlatched : List (Item S D P G C) → Bool
  is_unlatched h = is_undecided h && is_none (latch h)

  -- when the nullify is due again: an interval after the first time that the timeout was asked for behind the last one
  abbrev pub retry : List (Item S D P G C) → Option ℕ
  retry [] = None
  retry (voted_nullify ∷ h) = None
  retry (polled moment ∷ h) = if has_nullified h then option_or (retry h) (Some moment) else retry h
  retry (x ∷ h) = retry h

  -- where a nullify was voted, it is known when that is due again
  abbrev pub RetryIsKnown : List (Item S D P G C) → Type 0
  RetryIsKnown h = has_nullified h ≡ true → IsSome (retry h)

  -- when and why the view is given up first: for the latched reason where it counts, else at the leader's deadline while no
  -- proposal is held, else at the verdict's while it is not true
  abbrev pub first_timeout : List (Item S D P G C) → Bool → Option (ℕ × TimeoutReason)
  first_timeout h counts = option_or (if counts then latch h else None)
      (option_or (if is_none (held (offers h)) then option_map (λ moment. (moment, reason.LeaderTimeout)) (leader_deadline h) else None)
      (if verdict_is_true (verdict h) then None else option_map (λ moment. (moment, reason.CertificationTimeout)) (certification_deadline h)))

  -- the next timeout: none where the view is finalized or finalize was voted, the retry where nullify was, else the first
  abbrev pub next_timeout : List (Item S D P G C) → Bool → Option (ℕ × TimeoutReason)
  next_timeout h counts =
      if is_some (finalization h) || has_finalized h then None
      else (if has_nullified h then option_map (λ moment. (moment, reason.Retry)) (retry h) else first_timeout h counts)

  -- the notarized proposal, until a verdict came, was asked for or given up
  abbrev pub uncertified_proposal : List (Item S D P G C) → Option (Proposal D)
  uncertified_proposal h = if is_certify_asked h || is_some (verdict h) then None else option_map (λ (c : Notarization S D P G C). c.proposal) (notarization h)

  -- the certified proposal: the held one where the view is finalized or its verdict true
  abbrev pub certified_proposal : List (Item S D P G C) → Option (Proposal D)
  certified_proposal h = if is_some (finalization h) || verdict_is_true (verdict h) then held (offers h) else None

  -- the payload that its certificates support: the finalization's, or the notarization's without a false verdict
  abbrev pub certificate_payload : List (Item S D P G C) → Option D
  certificate_payload h = option_or (option_map (λ (c : Finalization S D P G C). c.proposal.payload) (finalization h))
      (if verdict_is_false (verdict h) then None else option_map (λ (c : Notarization S D P G C). c.proposal.payload) (notarization h))

  -- the proposal that may be forwarded: the held one where its certificates support a payload
  abbrev pub forwardable_proposal : List (Item S D P G C) → Option (Proposal D)
  forwardable_proposal h = if is_some (certificate_payload h) then held (offers h) else None

  -- a build may be asked for: this member leads, voted no nullify, holds nothing and asked for none
  pub record MayPropose (me l : Option ℕ) (h : List (Item S D P G C)) : Type 0 where
    pub leads : IsSome l × (me ≡ l)
    pub not_given_up : has_nullified h ≡ false
    pub is_open : BuildIsOpen (offers h)

  -- a verification may be asked for: another member leads, no nullify was voted, and none was asked for
  pub record MayVerify (me l : Option ℕ) (h : List (Item S D P G C)) : Type 0 where
    pub another_leads : IsSome l × (me ≢ l)
    pub not_given_up : has_nullified h ≡ false
    pub first : ¬ IsVerifyAsked (offers h)

  -- a notarize may be voted: none was, no nullify was, and the held proposal is verified
  pub record MayNotarize (h : List (Item S D P G C)) : Type 0 where
    pub first : has_notarized h ≡ false
    pub not_given_up : has_nullified h ≡ false
    pub verified : IsVerified (offers h)

  -- a finalize may be voted: neither it nor a nullify was, and the held proposal, which nothing contradicts, is notarized
  -- and judged good
  pub record MayFinalize (h : List (Item S D P G C)) : Type 0 where
    pub undecided : is_undecided h ≡ true
    pub unequivocated : IsUnequivocated (offers h)
    pub notarized : IsSome (notarization h)
    pub certified : verdict h ≡ Some true
