-- What happened to a round, and what follows from it. Histories have the newest event first.
use Rattle.std.specs.Prelude.{◌==◌, ℕ, ◌+◌, ◌&&◌, ◌||◌, Bool, true, false, not, if◌then◌else◌, List, [], ◌∷◌, ◌++◌, length, filter, find, Option, None, Some, is_none, is_some, nat_lt, nat_le}
use Rattle.std.specs.List.{filter_map}
use Rattle.std.specs.Option.{option_map, option_and_then}
use Rattle.types_core.specs.declared.position.Round.{Round}
use Rattle.types_core.specs.declared.proposal.Proposal.{Proposal}
use Rattle.types_core.specs.Subject.{Statement, notarize, nullify, finalize}
use Rattle.simplex_messages.specs.declared.vote.Vote.{Vote}
use Rattle.messages_certificates.specs.declared.certificate.Certificate.{Certificate}
use Rattle.simplex_messages.specs.VoteParts.{vote_signer}
use Rattle.types_terms.specs.declared.kind.Kind.{Kind}
use Rattle.types_terms.specs.declared.kind.Kind.TheVariants.{Notarization, Nullification, Finalization}
use Rattle.batcher_assembly.specs.Judging.{is_among}
use Rattle.batcher_assembly.specs.KindOrder.{in_turn}
use Rattle.batcher_verifier.specs.Votes.{is_kind, vote_kind, vote_proposal, notarized_proposal, fixed_proposal, is_in_way, is_notarize_of, certificate_kind, certificate_proposal}
pub use Rattle.batcher_rows.specs.Votes.{is_candidate}

-- what can happen to a round
pub data Event (V C : Type 0) : Type 0 where
  -- a vote of another member was accepted
  Taken : V → Event V C
  -- an own vote was given that was new
  Cast : V → Event V C
  -- a certificate was recorded, or made
  Certified : C → Event V C
  -- the leader was named
  Led : ℕ → Event V C
  -- the votes of a kind that waited were judged, no certificate came of it, and those of these signers failed
  Judged : Kind → List ℕ → Event V C
  -- the selected proposal was forwarded
  Forwarded : Event V C

-- what happened, the newest first
abbrev pub History : (S D P G C : Type 0) → Type 0
History S D P G C = List (Event (Vote S D P G C) (Certificate S D P G C))

-- what stays the same through a round's life
pub record Setup (S : Type 0) : Type 0 where
  -- the round
  pub round : Round
  -- the scheme of the committee
  pub scheme : S
  -- how many members the committee has
  pub members : ℕ
  -- how many votes make a certificate
  pub needed : ℕ
  -- the scheme judges many attestations at once
  pub batchable : Bool
  -- votes are kept in full also when their kind is certified
  pub tracks : Bool
  -- no vote is kept in full, and no certificate is made
  pub is_skipped : Bool

-- the proposal of a round: none, the leader's, or one that is fixed
pub data Selection (D : Type 0) : Type 0 where
  Unknown : Selection D
  Leads : Proposal D → Selection D
  Fixed : Proposal D → Selection D

-- the proposal that is selected
abbrev pub proposal_of : {D : Type 0} → Selection D → Option (Proposal D)
proposal_of Unknown = None
proposal_of (Leads p) = Some p
proposal_of (Fixed p) = Some p

-- The next selection, from what was selected, the proposal that is fixed now, and the leader's. A fixed one stays, and a
-- leader's stays until one is fixed.
abbrev pub select : {D : Type 0} → Selection D → Option (Proposal D) → Option (Proposal D) → Selection D
select (Fixed p) fixed led = Fixed p
select old (Some p) led = Fixed p
select (Leads p) None led = Leads p
select Unknown None (Some p) = Leads p
select Unknown None None = Unknown

-- the leader is named, and is another than this member
abbrev pub is_another : Option ℕ → ℕ → Bool
is_another None me = false
is_another (Some leader) me = not (leader == me)

-- what votes of a kind state that are counted: nothing while no proposal is selected
abbrev pub statement_for : {D : Type 0} → Kind → Round → Option (Proposal D) → Option (Statement D)
statement_for Notarization round p = option_map notarize p
statement_for Nullification round p = Some (nullify round)
statement_for Finalization round p = option_map finalize p

module _ {S D P G C : Type 0} where
  -- the vote that an event brought
  abbrev pub vote_in : Event (Vote S D P G C) (Certificate S D P G C) → Option (Vote S D P G C)
  vote_in (Taken v) = Some v
  vote_in (Cast v) = Some v
  vote_in e = None

  -- the accepted votes, own ones among them
  abbrev pub accepted : History S D P G C → List (Vote S D P G C)
  accepted h = filter_map vote_in h

  -- the vote from the network that an event brought
  abbrev pub taken_in : Event (Vote S D P G C) (Certificate S D P G C) → Option (Vote S D P G C)
  taken_in (Taken v) = Some v
  taken_in e = None

  -- the votes that were accepted from the network
  abbrev pub taken : History S D P G C → List (Vote S D P G C)
  taken h = filter_map taken_in h

  -- the own vote that an event brought
  abbrev pub own_in : Event (Vote S D P G C) (Certificate S D P G C) → Option (Vote S D P G C)
  own_in (Cast v) = Some v
  own_in e = None

  -- the own votes that were given
  abbrev pub given : History S D P G C → List (Vote S D P G C)
  given h = filter_map own_in h

  -- the accepted vote that stands in the way of this one
  abbrev pub recorded : History S D P G C → Vote S D P G C → Option (Vote S D P G C)
  recorded h v = find (is_in_way v) (accepted h)

  -- the certificate that an event brought
  abbrev pub certificate_in : Event (Vote S D P G C) (Certificate S D P G C) → Option (Certificate S D P G C)
  certificate_in (Certified c) = Some c
  certificate_in e = None

  -- a certificate of this kind was recorded or made
  abbrev pub is_complete : Kind → History S D P G C → Bool
  is_complete kind h = is_some (find (λ c. is_kind kind (certificate_kind c)) (filter_map certificate_in h))

  -- the leader, who is named once
  abbrev pub leader_of : History S D P G C → Option ℕ
  leader_of [] = None
  leader_of (Led leader ∷ h) = Some leader
  leader_of (e ∷ h) = leader_of h

  -- the proposal that this member voted to notarize
  abbrev pub notarized_by : History S D P G C → ℕ → Option (Proposal D)
  notarized_by h signer = option_and_then notarized_proposal (find (is_notarize_of signer) (accepted h))

  -- the leader's proposal
  abbrev pub led : History S D P G C → Option (Proposal D)
  led h = option_and_then (notarized_by h) (leader_of h)

  -- the proposal that an event fixes: that of a certificate, or of an own finalize
  abbrev pub fixed_by : Event (Vote S D P G C) (Certificate S D P G C) → Option (Proposal D)
  fixed_by (Certified c) = certificate_proposal c
  fixed_by (Cast v) = fixed_proposal v
  fixed_by e = None

  -- how the round's proposal stands
  abbrev pub selection : History S D P G C → Selection D
  selection [] = Unknown
  selection (e ∷ h) = select (selection h) (fixed_by e) (led (e ∷ h))

  -- the selected proposal
  abbrev pub selected : History S D P G C → Option (Proposal D)
  selected h = proposal_of (selection h)

  -- a vote of this kind is kept in full
  abbrev pub is_kept_in_full : Setup S → Kind → History S D P G C → Bool
  is_kept_in_full s kind h = not s.is_skipped && (s.tracks || not (is_complete kind h))

  -- the selected proposal was forwarded
  abbrev pub has_forwarded : History S D P G C → Bool
  has_forwarded [] = false
  has_forwarded (Forwarded ∷ h) = true
  has_forwarded (e ∷ h) = has_forwarded h

  -- the proposal that is to be forwarded: what is selected, once, by a member that isn't the leader
  abbrev pub forwardable : History S D P G C → ℕ → Option (Proposal D)
  forwardable h me = if not (has_forwarded h) && is_another (leader_of h) me then selected h else None

  -- a vote from the network is accepted: its sender names itself, is a member, and no accepted vote stands in its way
  abbrev pub takes : Setup S → History S D P G C → ℕ → Vote S D P G C → Bool
  takes s h sender v = (sender == vote_signer v) && (nat_lt sender s.members && is_none (recorded h v))

  -- what the votes of a kind state that count for a certificate
  abbrev pub context : Setup S → Kind → History S D P G C → Option (Statement D)
  context s kind h = statement_for kind s.round (selected h)

  module _ (same : D → D → Bool) where
    -- of these votes of a kind those that still count: none where no certificate of the kind is to be made
    abbrev pub counting : Setup S → Kind → History S D P G C → List (Vote S D P G C) → List (Vote S D P G C)
    counting s kind h votes = if s.is_skipped || is_complete kind h then [] else filter (is_candidate same (selected h)) votes

    -- the votes of a kind that wait to be judged, the oldest first
    abbrev pub waiting : Setup S → Kind → History S D P G C → List (Vote S D P G C)
    waiting s kind [] = []
    waiting s kind (Taken v ∷ h) =
        counting s kind (Taken v ∷ h) (if is_kind kind (vote_kind v) then waiting s kind h ++ v ∷ [] else waiting s kind h)
    waiting s kind (Judged k failing ∷ h) = if is_kind kind k then [] else waiting s kind h
    waiting s kind (e ∷ h) = counting s kind (e ∷ h) (waiting s kind h)

    -- the votes of a kind that are known to attest: own ones, and those that were judged and did not fail
    abbrev pub verified : Setup S → Kind → History S D P G C → List (Vote S D P G C)
    verified s kind [] = []
    verified s kind (Cast v ∷ h) =
        counting s kind (Cast v ∷ h) (if is_kind kind (vote_kind v) then verified s kind h ++ v ∷ [] else verified s kind h)
    verified s kind (Judged k failing ∷ h) =
        if is_kind kind k then verified s kind h ++ filter (λ v. not (is_among failing (vote_signer v))) (waiting s kind h) else verified s kind h
    verified s kind (e ∷ h) = counting s kind (e ∷ h) (verified s kind h)

    -- all votes are for what the first is for
    abbrev pub are_one : List (Vote S D P G C) → Bool
    are_one [] = true
    are_one (v ∷ votes) = is_none (find (λ u. not (is_candidate same (vote_proposal v) u)) votes)

    -- votes that are known to attest are enough for a certificate of what they state: what is selected, or one proposal
    abbrev pub is_ready : Setup S → Kind → History S D P G C → Bool
    is_ready s kind h = nat_le s.needed (length (verified s kind h)) && (is_some (context s kind h) || are_one (verified s kind h))

    -- votes wait that are worth judging: some, and, where the scheme judges many at once, enough for a certificate
    abbrev pub is_worth_judging : Setup S → Kind → History S D P G C → Bool
    is_worth_judging s kind h = is_some (context s kind h) && (nat_lt 0 (length (waiting s kind h))
        && (not s.batchable || nat_le s.needed (length (verified s kind h) + length (waiting s kind h))))

    -- a construction of this kind is due
    abbrev pub is_due : Setup S → Kind → History S D P G C → Bool
    is_due s kind h = is_ready s kind h || is_worth_judging s kind h

    -- the first kind of which a construction is due
    abbrev pub next_kind : Setup S → History S D P G C → Option Kind
    next_kind s h = find (λ kind. is_due s kind h) in_turn
