-- What a verifier keeps of a history.
use Rattle.std.specs.Prelude.{◌≡◌, ◌≤◌, ◌<◌, ◌==◌, ℕ, Bool, if◌then◌else◌, List, filter, Option, Some, None}
use Rattle.std.specs.Option.{option_and_then}
use Rattle.types_core.specs.declared.proposal.Proposal.{Proposal}
use Rattle.simplex_messages.specs.declared.vote.Vote.{Vote}
use Rattle.simplex_messages.specs.declared.vote.Vote.TheVariants as vote
use Rattle.types_quorum.specs.Committee.{quorum}
use Rattle.types_core.specs.declared.scheme.Scheme.{Ghosts}
use Rattle.types_terms.specs.declared.kind.Kind.{Kind}
use Rattle.batcher_verifier.specs.declared.proposal_state.ProposalState.{ProposalState}
use Rattle.batcher_verifier.specs.declared.proposal_state.ProposalState.TheVariants as state
use Rattle.batcher_rows.specs.declared.rows.Rows.{Rows}
use Rattle.batcher_verifier.specs.declared.verifier.Verifier.{Verifier}
use Rattle.batcher_verifier.specs.History.{History, Setup, Selection, Unknown, Leads, Fixed, proposal_of, selection, leader_of, is_candidate, accepted, is_complete, waiting, verified}
use Rattle.batcher_verifier.specs.Lawful.{IsConsistent}
use Rattle.batcher_rows.specs.Rows.{KindIs, AreNewest, PlacesStay}

-- the selection that a state stands for
abbrev pub selection_of : {D : Type 0} → ProposalState D → Selection D
selection_of state.Unknown = Unknown
selection_of (state.Leader p) = Leads p
selection_of (state.Certificate p) = Fixed p

module _ {S D P G C : Type 0} (same : D → D → Bool) where
  -- the votes of a kind stand where this history leads
  abbrev pub KindKeeps : Setup S → Kind → Rows S D P G C → History S D P G C → Type 0
  KindKeeps s kind rows h = KindIs kind rows (is_complete kind h) (waiting same s kind h) (verified same s kind h)

  -- the rows stand where this history leads
  pub record RowsKeep (s : Setup S) (rows : Rows S D P G C) (h : History S D P G C) : Type 0 where
    pub places : AreNewest rows s.members (accepted h)
    pub kinds : (kind : Kind) → KindKeeps s kind rows h

  module _ (g : Ghosts S D P G C) (batchable : S → Bool) where
    -- the verifier stands where this history leads
    pub record IsVerifierKept (s : Setup S) (v : Verifier S D P G C) (h : History S D P G C) : Type 0 where
      pub round_is : v.round ≡ s.round
      pub scheme_is : v.scheme.value ≡ s.scheme
      pub members_are : g.size s.scheme ≡ s.members
      pub batchable_is : batchable s.scheme ≡ s.batchable
      pub needed_is : v.needed ≡ s.needed
      pub enough : quorum s.members ≤ s.needed
      pub some_needed : 0 < s.needed
      pub skipped_is : v.skipped ≡ s.is_skipped
      pub leader_is : v.leader ≡ leader_of h
      pub selection_is : selection_of v.proposal ≡ selection h
      pub rows : RowsKeep s v.rows h
      pub lawful : IsConsistent same g.attests s h

    -- the same, closed for those who stand above
    unfoldable pub VerifierKeeps : Setup S → Verifier S D P G C → History S D P G C → Type 0
    VerifierKeeps s v h = IsVerifierKept s v h

    -- P of each history that leads to the verifier
    abbrev pub AtEachOf : Verifier S D P G C → (Setup S → History S D P G C → Type 0) → Type 0
    AtEachOf v Holds = (s : Setup S) (h : History S D P G C) → VerifierKeeps s v h → Holds s h

    -- a history that leads to a verifier is consistent
    pub kept-consistent : (s : Setup S) (v : Verifier S D P G C) (h : History S D P G C) → VerifierKeeps s v h → IsConsistent same g.attests s h
    unfolding VerifierKeeps
    kept-consistent s v h k = k.lawful

    -- the members are those of the scheme
    pub kept-members : (s : Setup S) (v : Verifier S D P G C) (h : History S D P G C) → VerifierKeeps s v h → g.size s.scheme ≡ s.members
    unfolding VerifierKeeps
    kept-members s v h k = k.members_are

    -- a certificate needs a vote
    pub kept-needed : (s : Setup S) (v : Verifier S D P G C) (h : History S D P G C) → VerifierKeeps s v h → 0 < s.needed
    unfolding VerifierKeeps
    kept-needed s v h k = k.some_needed

module _ {S D P G C : Type 0} where
  -- the proposal that a verifier holds for the round's, whatever was given for the leader's
  unfoldable pub held_by : Verifier S D P G C → Option (Proposal D)
  held_by v = proposal_of (selection_of v.proposal)

  -- the leader's proposal, where the vote is this leader's notarize
  abbrev pub led_by : Option ℕ → Vote S D P G C → Option (Proposal D)
  led_by leader (vote.Notarize v) = option_and_then (λ i. if v.attestation.signer == i then Some v.proposal else None) leader
  led_by leader v = None

  -- where the same is selected next as before, the votes are all for that
  abbrev pub Counts : (D → D → Bool) → ProposalState D → ProposalState D → List (Vote S D P G C) → Type 0
  Counts same old next votes = proposal_of (selection_of next) ≡ proposal_of (selection_of old) → filter (is_candidate same (proposal_of (selection_of next))) votes ≡ votes

  -- rows in which the votes for other proposals than the next count no more
  pub record KeepsFor (same : D → D → Bool) (old next : ProposalState D) (before after : Rows S D P G C) : Type 0 where
    pub places : PlacesStay before after
    pub kinds : (kind : Kind) (complete : Bool) (wait sure : List (Vote S D P G C)) → KindIs kind before complete wait sure → Counts same old next wait → Counts same old next sure
        → KindIs kind after complete (filter (is_candidate same (proposal_of (selection_of next))) wait) (filter (is_candidate same (proposal_of (selection_of next))) sure)

  -- a verifier that selects what comes next, and is else as it was but for votes for other proposals
  pub record IsChosen (same : D → D → Bool) (next : ProposalState D) (old new : Verifier S D P G C) : Type 0 where
    pub round_stays : new.round ≡ old.round
    pub scheme_stays : new.scheme ≡ old.scheme
    pub needed_stays : new.needed ≡ old.needed
    pub skipped_stays : new.skipped ≡ old.skipped
    pub leader_stays : new.leader ≡ old.leader
    pub selects : selection_of new.proposal ≡ selection_of next
    pub keeps : KeepsFor same old.proposal next old.rows new.rows
