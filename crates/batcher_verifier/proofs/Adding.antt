-- The verifier after a vote came, an own one or one from the network.
use Rattle.std.proofs.Common.{◌≡◌, ℕ, Bool, true, false, not, ◌&&◌, ◌||◌, ◌∷◌, refl, ◌∙◌}
use Rattle.std.specs.Prelude.{Result, Ok, Err, OnErr, None, if◌then◌else◌}
use Rattle.types_core.specs.declared.scheme.Scheme.{Ghosts}
use Rattle.simplex_messages.specs.declared.vote.Vote.{Vote}
use Rattle.simplex_messages.specs.VoteParts.{vote_round}
use Rattle.messages_certificates.specs.declared.certificate.Certificate.{Certificate}
use Rattle.types_terms.specs.declared.kind.Kind.{Kind}
use Rattle.types_core.specs.Subject.{Statement}
use Rattle.batcher_rows.specs.declared.rows.Rows.{Rows}
use Rattle.batcher_verifier.specs.declared.proposal_state.ProposalState.{ProposalState}
use Rattle.batcher_verifier.specs.declared.verifier.Verifier.{Verifier}
use Rattle.batcher_verifier.specs.Votes.{is_kind, vote_kind, fixed_proposal}
use Rattle.batcher_verifier.specs.History.{History, accepted, waiting, verified, Event, Taken, Cast, Setup, select, proposal_of, selection, selected, leader_of, is_complete, is_candidate}
use Rattle.batcher_rows.specs.Rows.{tally_at, KindIs, AreNewest, NoneInWay, RowsStay, pushed}
use Rattle.batcher_verifier.specs.Lawful.{MayHappen, MayBeAdded}
use Rattle.batcher_verifier.specs.Keeping.{RowsKeep, selection_of, led_by, KeepsFor, IsVerifierKept, IsChosen, KindKeeps}
use Rattle.batcher_verifier.proofs.Folding.{selection-taken, selection-cast}
use Rattle.batcher_rows.specs.Staying.{none-in-way, none-sure, none-waits, stays-kind, places-newest}
use Rattle.batcher_verifier.proofs.Choosing.{chosen-keeps, counts-mine, counts-good, keeps-taken, keeps-cast}

module _ {S D P G C : Type 0} where
  -- what happens when this vote comes
  abbrev pub came : Bool → Vote S D P G C → Event (Vote S D P G C) (Certificate S D P G C)
  came true v = Cast v
  came false v = Taken v

  leader-came : (own : Bool) (h : History S D P G C) (v : Vote S D P G C) → leader_of h ≡ leader_of (came own v ∷ h)
  leader-came true h v = refl
  leader-came false h v = refl

  pub selection-came : (own : Bool) (h : History S D P G C) (v : Vote S D P G C) → selection (came own v ∷ h) ≡ select (selection h) (if own then fixed_proposal v else None) (led_by (leader_of h) v)
  selection-came true h v = selection-cast h v
  selection-came false h v = selection-taken h v

  accepted-came : (own : Bool) (h : History S D P G C) (v : Vote S D P G C) → accepted (came own v ∷ h) ≡ v ∷ accepted h
  accepted-came true h v = refl
  accepted-came false h v = refl

module _ {S D P G C : Type 0} (same : D → D → Bool) (attests : S → ℕ → Statement D → G → Type 0) (s : Setup S) (h : History S D P G C) (v : Vote S D P G C) where
  -- a vote that may come may be added
  pub may-add : (own : Bool) → MayHappen same attests s h (came own v) → MayBeAdded same s h v
  may-add true allowed = allowed.0
  may-add false allowed = allowed

-- what isn't is false
pub not-true : (b : Bool) → not b ≡ true → b ≡ false
not-true false e = refl
not-true true e = absurd (cc e)

module _ {S D P G C : Type 0} (same : D → D → Bool) (s : Setup S) (h : History S D P G C) (rows : Rows S D P G C) (k : RowsKeep same s rows h) (v : Vote S D P G C) where
  -- a vote of the round that no row stands in the way of may be added
  pub none-added : vote_round v ≡ s.round → NoneInWay rows v → MayBeAdded same s h v
  none-added ours none = record {
    ours = ours;
    none_waits = λ kind. none-waits v kind rows (is_complete kind h) (waiting same s kind h) (verified same s kind h) (k.kinds kind) none;
    none_verified = λ kind. none-sure v kind rows (is_complete kind h) (waiting same s kind h) (verified same s kind h) (k.kinds kind) none;
  }

  -- and the other way round
  pub added-none : MayBeAdded same s h v → NoneInWay rows v
  added-none may = none-in-way v rows (λ kind. is_complete kind h) (λ kind. waiting same s kind h) (λ kind. verified same s kind h) k.kinds may.none_waits may.none_verified

-- what holds, holds of a failure
on-err : {X E : Type 0} (r : Result X E) (P : Type 0) → P → OnErr r P
on-err (Ok x) P p = tt
on-err (Err e) P p = p

module _ {S D P G C : Type 0} (same : D → D → Bool) (s : Setup S) (h : History S D P G C) where
  -- rows without votes change nothing
  stays-keep : (old new : Rows S D P G C) → RowsStay old new → RowsKeep same s old h → RowsKeep same s new h
  stays-keep old new r k = record {
    places = places-newest s.members (accepted h) old new r.places k.places;
    kinds = λ kind. stays-kind kind old new (is_complete kind h) (waiting same s kind h) (verified same s kind h) r (k.kinds kind);
  }

module _ {S D P G C : Type 0} (same : D → D → Bool) (s : Setup S) (kind : Kind) where
  -- the votes of a kind after the vote came
  keeps-came : (own : Bool) (h : History S D P G C) (v : Vote S D P G C) (counts : Bool) (old next : ProposalState D) (before after : Rows S D P G C)
      → KindIs kind before (is_complete kind h) (pushed kind v (counts && not own) (waiting same s kind h)) (pushed kind v (counts && own) (verified same s kind h))
      → KeepsFor same old next before after → selection_of old ≡ selection h → selection_of next ≡ selection (came own v ∷ h)
      → (is_kind kind (vote_kind v) ≡ true → counts ≡ (not (s.is_skipped || is_complete kind h) && is_candidate same (selected (came own v ∷ h)) v))
      → (counts ≡ true → is_candidate same (selected (came own v ∷ h)) v ≡ true)
      → KindKeeps same s kind after (came own v ∷ h)
  keeps-came true h v counts old next before after is keeps one two mine good = keeps-cast same s kind h v counts old next before after is keeps one two mine good
  keeps-came false h v counts old next before after is keeps one two mine good = keeps-taken same s kind h v counts old next before after is keeps one two mine good

module _ {S D P G C : Type 0} (same : D → D → Bool) (g : Ghosts S D P G C) (batchable : S → Bool) where
  -- the verifier where no vote was put down, but rows without votes came
  pub refused-keeps : (s : Setup S) (h : History S D P G C) (old new : Verifier S D P G C) → IsVerifierKept same g batchable s old h → new.round ≡ old.round → new.scheme ≡ old.scheme → new.needed ≡ old.needed → new.skipped ≡ old.skipped
      → new.leader ≡ old.leader → new.proposal ≡ old.proposal → RowsStay old.rows new.rows → IsVerifierKept same g batchable s new h
  refused-keeps s h old new k a b c d e f stays = record {
    round_is = a ∙ k.round_is;
    scheme_is = rw b k.scheme_is;
    members_are = k.members_are;
    batchable_is = k.batchable_is;
    needed_is = c ∙ k.needed_is;
    enough = k.enough;
    some_needed = k.some_needed;
    skipped_is = d ∙ k.skipped_is;
    leader_is = e ∙ k.leader_is;
    selection_is = rw f k.selection_is;
    rows = stays-keep same s h old.rows new.rows stays k.rows;
    lawful = k.lawful;
  }

  -- the same after a failure
  pub refused-err : {X E : Type 0} (r : Result X E) (old new : Verifier S D P G C) → new.round ≡ old.round → new.scheme ≡ old.scheme → new.needed ≡ old.needed → new.skipped ≡ old.skipped
      → new.leader ≡ old.leader → new.proposal ≡ old.proposal → RowsStay old.rows new.rows
      → OnErr r ((s : Setup S) (h : History S D P G C) → IsVerifierKept same g batchable s old h → IsVerifierKept same g batchable s new h)
  refused-err r old new a b c d e f stays = on-err r ((s : Setup S) (h : History S D P G C) → IsVerifierKept same g batchable s old h → IsVerifierKept same g batchable s new h)
      (λ s h k. refused-keeps s h old new k a b c d e f stays)

  -- the verifier after the vote was put down, and what is next selected
  pub added-keeps : (own : Bool) (s : Setup S) (h : History S D P G C) (v : Vote S D P G C) (counts : Bool) (next : ProposalState D) (old mid new : Verifier S D P G C)
      → IsVerifierKept same g batchable s old h → mid.round ≡ old.round → mid.scheme ≡ old.scheme → mid.needed ≡ old.needed → mid.skipped ≡ old.skipped → mid.leader ≡ old.leader → mid.proposal ≡ old.proposal
      → AreNewest mid.rows s.members (v ∷ accepted h)
      → ((kind : Kind) → KindIs kind mid.rows (is_complete kind h) (pushed kind v (counts && not own) (waiting same s kind h)) (pushed kind v (counts && own) (verified same s kind h)))
      → IsChosen same next mid new → selection_of next ≡ selection (came own v ∷ h)
      → counts ≡ (not (old.skipped || (tally_at (vote_kind v) old.rows).complete) && is_candidate same (proposal_of (selection_of next)) v)
      → MayHappen same g.attests s h (came own v)
      → IsVerifierKept same g batchable s new (came own v ∷ h)
  added-keeps own s h v counts next old mid new k a b c d e f places kinds is one held allowed =
      let holds = rw (k.skipped_is, (k.rows.kinds (vote_kind v)).complete_is, one) at held in
      let mine = counts-mine same s h (came own v) v counts holds in
      let good = counts-good same s h (came own v) v counts holds in
      let was : selection_of mid.proposal ≡ selection h = rw f k.selection_is in
      chosen-keeps same g batchable s h (came own v) (v ∷ accepted h) next old mid new k a b c d (e ∙ k.leader_is ∙ leader-came own h v) is one allowed (accepted-came own h v) places
      (λ kind. keeps-came same s kind own h v counts mid.proposal next mid.rows new.rows (kinds kind) is.keeps was one (mine kind) good)
