-- Which votes are handed out: only what is recorded.
use Rattle.std.proofs.Common.{◌≡◌, inl, inr, ⊎_elim, ℕ, List, [], ◌∷◌, ◌++◌, map, Option, Some, None, refl, sym, ap, subst, arith}
use Rattle.std.specs.Prelude.{Contains}
use Rattle.std.proofs.lemmas.List.Elements.{Contains-append_cases, Contains-push}
use Rattle.types_quorum.specs.Counting.{Contains-cases}
use Rattle.types_core.specs.declared.scheme.Scheme.{Ghosts}
use Rattle.messages_certificates.specs.declared.artifact.Artifact.{Artifact}
use Rattle.simplex_messages.specs.declared.vote.Vote.{Vote}
use Rattle.simplex_messages.specs.declared.vote.Vote.TheVariants as vote
use Rattle.simplex_messages.specs.VoteParts.{vote_artifact}
use Rattle.simplex_member.specs.Allowed.{Allowed, VoteIsDue}
use Rattle.simplex_member.specs.Laws.{IsCastDue, WasDue}
use Rattle.simplex_member.specs.Deeds.{Deed, Sends, Blocks, all_deeds, deeds_of}
use Rattle.simplex_member.specs.Member.{Goes}
use Rattle.simplex_member.specs.Packet.{Formats, of_vote}
use Rattle.simplex_member.specs.Point.{Point, Constructs, Votes, Repeats, History}
use Rattle.simplex_member.specs.Recorded.{record_of, recorded_by}
use Rattle.simplex_member.specs.Setup.{Setup}
use Rattle.simplex_member.proofs.Handing.{PassesBy, among-first, first_deeds}
use Rattle.simplex_member.proofs.Lists.{lacks-absurd, lacks-map, put-before, some-is}

module _ {S D P G C : Type 0} where
  -- the vote that a deed sends
  abbrev pub vote_in : Deed S D P G C → Option (Vote S D P G C)
  vote_in (Sends to (of_vote v)) = Some v
  vote_in d = None

  pub votes-alone : PassesBy vote_in
  votes-alone = record {
    certificates = λ to c. refl;
    asks = λ to view. refl;
    serves = λ member bytes. refl;
    builds = λ number handoff context. refl;
    verifies = λ number context p. refl;
    certifies = λ p. refl;
    hands = λ payload way. refl;
    finalizes = λ p. refl;
    reports = λ a. refl;
  }

  -- a vote that is all that is sent
  only-sent : (v w : Vote S D P G C) (to : Option ℕ) → Contains (Sends None (of_vote w) ∷ []) (Sends to (of_vote v)) → w ≡ v
  only-sent v w to here = ⊎_elim
      (λ is. some-is w v (ap vote_in is))
      (λ later. absurd (omega (arith, later.1)))
      (Contains-cases (Sends None (of_vote w)) [] (Sends to (of_vote v)) here)

module _ {S D P G C : Type 0} (g : Ghosts S D P G C) (f : Formats S D P G C) (s : Setup S D C) where
  -- what a point sends of a vote is the own vote that it made, or the recorded nullify
  abbrev pub IsSent : Point S D P G C → Vote S D P G C → Type 0
  IsSent (Votes w) v = w ≡ v
  IsSent (Repeats w best) v = vote.Nullify w ≡ v
  IsSent p v = ⊥

  first-sent : (p : Point S D P G C) (to : Option ℕ) (v : Vote S D P G C) → Contains (first_deeds p) (Sends to (of_vote v)) → IsSent p v
  first-sent (Constructs view kind batch) to v sent = absurd (lacks-absurd vote_in (map Blocks batch.invalid.items) (Sends to (of_vote v)) v (lacks-map vote_in Blocks batch.invalid.items (λ i. refl)) refl sent)
  first-sent (Votes w) to v sent = only-sent v w to sent
  first-sent (Repeats w best) to v sent = only-sent v (vote.Nullify w) to sent
  first-sent p to v sent = absurd (omega (arith, sent.1))

  pub is-sent : (h : History S D P G C) (p : Point S D P G C) (to : Option ℕ) (v : Vote S D P G C) → Contains (deeds_of g f s h p) (Sends to (of_vote v)) → IsSent p v
  is-sent h p to v sent = first-sent p to v (among-first vote_in votes-alone g f s h p (Sends to (of_vote v)) v refl sent)

  -- it is recorded with the point, and was due then
  sent-here : (h : History S D P G C) (p : Point S D P G C) (v : Vote S D P G C) → Allowed g f s h p → IsSent p v → Contains (record_of (p ∷ h)) (vote_artifact v)
  sent-here h (Votes w) v a is = subst (λ (u : Vote S D P G C). Contains (record_of h ++ vote_artifact w ∷ []) (vote_artifact u)) is (Contains-push (record_of h) (vote_artifact w))
  sent-here h (Repeats w best) v a is = subst (λ (u : Vote S D P G C). Contains (record_of h) (vote_artifact u)) is a.due.recorded
  sent-here h p v a is = absurd is

  pub due-here : (h : History S D P G C) (p : Point S D P G C) (v : Vote S D P G C) → Allowed g f s h p → IsSent p v → IsCastDue g f s h p v
  due-here h (Votes w) v a is = inl (ap (λ (u : Vote S D P G C). Votes u) is, subst (λ (u : Vote S D P G C). VoteIsDue g f s h u) is a.due)
  due-here h (Repeats w best) v a is = inr (w, best, refl, sym is, a.due)
  due-here h p v a is = absurd is

  -- what is recorded stays so
  stays : (h : History S D P G C) (points : List (Point S D P G C)) (end : History S D P G C) (x : Artifact S D P G C) → Contains (record_of h) x → Goes g f s h points end → Contains (record_of end) x
  stays h [] end x here goes = subst (λ (e : History S D P G C). Contains (record_of e) x) (sym goes) here
  stays h (p ∷ points) end x here goes = stays (p ∷ h) points end x (put-before (record_of h) (recorded_by p) x here) goes.1

  -- a vote that is handed out is recorded
  pub sent-recorded : (h end : History S D P G C) (points : List (Point S D P G C)) (to : Option ℕ) (v : Vote S D P G C) → Goes g f s h points end
      → Contains (all_deeds g f s h points) (Sends to (of_vote v)) → Contains (record_of end) (vote_artifact v)
  sent-recorded h end [] to v goes sent = absurd (omega (arith, sent.1))
  sent-recorded h end (p ∷ points) to v goes sent = ⊎_elim
      (λ here. stays (p ∷ h) points end (vote_artifact v) (sent-here h p v goes.0 (is-sent h p to v here)) goes.1)
      (λ later. sent-recorded (p ∷ h) end points to v goes.1 later)
      (Contains-append_cases (deeds_of g f s h p) (all_deeds g f s (p ∷ h) points) (Sends to (of_vote v)) sent)

  -- each vote that is handed out was due
  pub sent-was-due : (h end : History S D P G C) (points : List (Point S D P G C)) (to : Option ℕ) (v : Vote S D P G C) → Goes g f s h points end
      → Contains (all_deeds g f s h points) (Sends to (of_vote v)) → WasDue g f s h points v
  sent-was-due h end [] to v goes sent = absurd (omega (arith, sent.1))
  sent-was-due h end (p ∷ points) to v goes sent = ⊎_elim
      (λ here. record { before = []; p = p; behind = points; split = refl; at = h; reached = refl; due = due-here h p v goes.0 (is-sent h p to v here) })
      (λ later.
      let was = sent-was-due (p ∷ h) end points to v goes.1 later in
      record { before = p ∷ was.before; p = was.p; behind = was.behind; split = ap (λ (l : List (Point S D P G C)). p ∷ l) was.split; at = was.at; reached = (goes.0, was.reached); due = was.due })
      (Contains-append_cases (deeds_of g f s h p) (all_deeds g f s (p ∷ h) points) (Sends to (of_vote v)) sent)
