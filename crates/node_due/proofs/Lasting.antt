-- What is not due stays so behind points that hand nothing out: a verdict is put off, a reason to give a view up counts, or the next
-- timeout is looked at.
use Rattle.std.proofs.Common.{◌≡◌, ◌⊎◌, ⊎_elim, inl, inr, ℕ, Bool, true, false, List, ◌∷◌, Option, Some, refl, sym, ◌∙◌, ap, subst}
use Rattle.std.specs.Prelude.{nat_lt, IsSome}
use Rattle.std.proofs.lemmas.Bool.{false≢true}
use Rattle.types_core.specs.declared.scheme.Scheme.{Ghosts}
use Rattle.voter_history.specs.declared.handoff_abandoned_reason.HandoffAbandonedReason.{HandoffAbandonedReason}
use Rattle.voter_history.specs.declared.timeout_reason.TimeoutReason.{TimeoutReason}
use Rattle.voter_history.specs.declared.timeout_reason.TimeoutReason.TheVariants as reason
use Rattle.voter_history.specs.Held.{Offer, IsUnequivocated}
use Rattle.voter_history.specs.Past as past
use Rattle.voter_history.specs.Past.{Item}
use Rattle.voter_history.specs.Pasts.{put}
use Rattle.voter_history.specs.History as views
use Rattle.voter_history.specs.History.{current, polled, seen}
use Rattle.voter_history.specs.Known.{Known}
use Rattle.voter_history.specs.Leaders.{leader}
use Rattle.voter_rules.specs.Requests.{CertificateIsWanted, CertifyIsDue, IsInvalid, IsPutOff, IsSuperseded, NoBuildIsDue, StopsHandoff, VerifyIsDue}
use Rattle.voter_rules.specs.VotesDue.{NotarizeIsDue, FinalizeIsDue}
use Rattle.voter_laws.specs.Matching.{LatchChangesNothing, PollChangesNothing}
use Rattle.voter_laws.specs.Missing.{IsMissing}
use Rattle.voter_laws.specs.Steps.{choose_holds, put_holds}
use Rattle.simplex_member.specs.Allowed.{HasReason, LatchIsDue}
use Rattle.simplex_member.specs.Layers.{current_of, known_of, latest, voter_of}
use Rattle.simplex_member.specs.Packet.{Formats}
use Rattle.simplex_member.specs.Point.{Point, Latches, Polls, PutsOff, History}
use Rattle.simplex_member.specs.Setup.{Setup, member_of}
use Rattle.node_requests.specs.Asking.{is_latch, is_poll, is_none, is_put_off, is_silent}
use Rattle.node_requests.specs.NoneDue.{NoVerdictToAsk}
use Rattle.node_due.specs.NoneDue.{NoFinalizeToCast, NoNotarizeToCast, NothingByVotes, NothingMoreToAsk, NothingToAskOnProposals}

-- ---- kinds of points

module _ {S D P G C : Type 0} where
  -- what holds stays so behind a point of this kind
  abbrev pub Lasts : (Point S D P G C → Bool) → (History S D P G C → Type 0) → Type 0
  Lasts is_kind Done = (h : History S D P G C) (p : Point S D P G C) → is_kind p ≡ true → Done h → Done (p ∷ h)

  -- each point of one kind is one of another kind
  abbrev pub IsPartOf : (Point S D P G C → Bool) → (Point S D P G C → Bool) → Type 0
  IsPartOf one other = (p : Point S D P G C) → one p ≡ true → other p ≡ true

  pub none_lasts : (Done : History S D P G C → Type 0) → Lasts is_none Done
  none_lasts Done h p is done = absurd (false≢true is)

  pub poll_lasts : (Done : History S D P G C → Type 0) → ((h : History S D P G C) → Done h → Done (Polls ∷ h)) → Lasts is_poll Done
  poll_lasts Done step h Polls is done = step h done
  poll_lasts Done step h p is done = absurd (false≢true is)

  pub both_last : (is_kind : Point S D P G C → Bool) (A B : History S D P G C → Type 0) → Lasts is_kind A → Lasts is_kind B → Lasts is_kind (λ h. A h × B h)
  both_last is_kind A B one other h p is done = (one h p is done.0, other h p is done.1)

  pub latch_lasts : (Done : History S D P G C → Type 0) → ((h : History S D P G C) (view : ℕ) (why : TimeoutReason) → Done h → Done (Latches view why ∷ h)) → Lasts is_latch Done
  latch_lasts Done step h (Latches view why) is done = step h view why done
  latch_lasts Done step h p is done = absurd (false≢true is)

  pub none_is_all : (other : Point S D P G C → Bool) → IsPartOf is_none other
  none_is_all other p is = absurd (false≢true is)

  pub itself : (one : Point S D P G C → Bool) → IsPartOf one one
  itself one p is = is

  pub put_off_is_silent : IsPartOf is_put_off is_silent
  put_off_is_silent (PutsOff view) is = refl
  put_off_is_silent p is = absurd (false≢true is)

  pub latch_is_silent : IsPartOf is_latch is_silent
  latch_is_silent (Latches view why) is = refl
  latch_is_silent p is = absurd (false≢true is)

  pub poll_is_silent : IsPartOf is_poll is_silent
  poll_is_silent Polls is = refl
  poll_is_silent p is = absurd (false≢true is)

-- ---- a look at the next timeout changes nothing else of a view

looked_same : {S D P G C X : Type 0} (test : List (Item S D P G C) → X) → ((m : ℕ) (x : List (Item S D P G C)) → test (past.polled m ∷ x) ≡ test x) → (s : views.Setup S C) (v : List (views.Point S D P G C)) (now view : ℕ)
    → test (seen s (polled now ∷ v) view) ≡ test (seen s v view)
looked_same {S} {D} {P} {G} {C} test same s v now view =
    let Q = λ (l : List (Item S D P G C)). test l ≡ test (seen s v view) in
    let item : Item S D P G C = past.polled (past.deadline now s.timeout_retry) in
    choose_holds Q view (nat_lt 0 (current s v)) (put (current s v) item (seen s v)) (seen s v)
    (put_holds Q view (current s v) item (seen s v) (λ here before. same (past.deadline now s.timeout_retry) (seen s v view) ∙ before) refl) refl

-- ---- what rests on what is known alone

module _ {S D P G C : Type 0} (g : Ghosts S D P G C) (f : Formats S D P G C) (s : Setup S D C) (h at : History S D P G C) (same : known_of s at ≡ known_of s h) where
  verdicts_known : NoVerdictToAsk g f s h → NoVerdictToAsk g f s at
  verdicts_known none = record {
    no_certify = λ p due. none.no_certify p (subst (λ (k : Known D). CertifyIsDue (member_of s) k p.round.view p) same due);
    none_put_off = λ view required due. none.none_put_off view required (subst (λ (k : Known D). IsPutOff (member_of s) k view required) same due);
  }

  notarizes_known : NoNotarizeToCast s h → NoNotarizeToCast s at
  notarizes_known none = λ view due. none view (subst (λ (k : Known D). NotarizeIsDue (member_of s) k view) same due)

  finalizes_known : NoFinalizeToCast s h → NoFinalizeToCast s at
  finalizes_known none = λ view due. none view (subst (λ (k : Known D). FinalizeIsDue (member_of s) k view) same due)

module _ {S D P G C : Type 0} (g : Ghosts S D P G C) (f : Formats S D P G C) (s : Setup S D C) where
  -- behind a reason to give a view up
  pub verdicts_last : LatchChangesNothing S D P G C → Lasts is_latch (NoVerdictToAsk g f s)
  verdicts_last law = latch_lasts (NoVerdictToAsk g f s) (λ h view why none. verdicts_known g f s h (Latches view why ∷ h) (law s.voter (voter_of s h) (latest h) view why) none)

  module _ (law : PollChangesNothing S D P G C) (h : History S D P G C) where
    looked_known : known_of s (Polls ∷ h) ≡ known_of s h
    looked_known = law s.voter (voter_of s h) (latest h)

    looked_leader : (view : ℕ) → leader s.voter (voter_of s h) view ≡ leader s.voter (voter_of s (Polls ∷ h)) view
    looked_leader view = ap (λ (k : Known D). k.leader view) (sym looked_known)

    -- a reason is there no more and no less
    looked_reason : (view : ℕ) (why : TimeoutReason) → HasReason g f s (Polls ∷ h) view why → HasReason g f s h view why × IsSome (leader s.voter (voter_of s h) view)
    looked_reason view reason.LeaderNullify r =
        let known = looked_leader view ∙ r.known in
        (record { index = r.index; known = known; another = r.another; gave_up = r.gave_up }, subst (λ (o : Option ℕ). IsSome o) (sym known) refl)
    looked_reason view reason.Inactivity r =
        let silent = r.1 in
        let known = looked_leader (current_of s h) ∙ silent.known in (
          (r.0, record { index = silent.index; known = known; another = silent.another; time = silent.time; within = silent.within; reached = silent.reached }),
          subst (λ (u : ℕ). IsSome (leader s.voter (voter_of s h) u)) (sym r.0) (subst (λ (o : Option ℕ). IsSome o) (sym known) refl),
        )
    looked_reason view reason.InvalidProposal r =
        let bad : IsInvalid (member_of s) (known_of s h) view r.0 = subst (λ (k : Known D). IsInvalid (member_of s) k view r.0) looked_known r.1 in
        ((r.0, bad), bad.waits.led.0)
    looked_reason view why r = absurd r

    looked_latch : (view : ℕ) (why : TimeoutReason) → LatchIsDue g f s (Polls ∷ h) view why → LatchIsDue g f s h view why
    looked_latch view why due =
        let there = looked_reason view why due.there in
        let offers : past.offers (seen s.voter (voter_of s (Polls ∷ h)) view) ≡ past.offers (seen s.voter (voter_of s h) view) = ap (λ (k : Known D). k.offers view) looked_known in
        record {
          there = there.0;
          counts = record {
            from = due.counts.from;
            tracked = inr there.1;
            heard = λ is. subst (λ (o : List (Offer D)). ¬ IsUnequivocated o) offers (due.counts.heard is);
          };
          first = sym (looked_same (λ x. past.latch x) (λ m x. refl) s.voter (voter_of s h) (latest h) view) ∙ due.first;
          undecided = sym (looked_same (λ x. past.is_undecided x) (λ m x. refl) s.voter (voter_of s h) (latest h) view) ∙ due.undecided;
        }

    proposals_looked : NothingToAskOnProposals g f s h → NothingToAskOnProposals g f s (Polls ∷ h)
    proposals_looked none = record {
      verdicts = verdicts_known g f s h (Polls ∷ h) looked_known none.verdicts;
      verifications = record {
        none_invalid = λ view due. none.verifications.none_invalid view (looked_latch view reason.InvalidProposal due);
        no_verify = λ left view p payload due. none.verifications.no_verify left view p payload (subst (λ (k : Known D). VerifyIsDue (member_of s) k view p payload) looked_known due);
        none_missing = λ left view u kind is. none.verifications.none_missing left view u kind (subst (λ (k : Known D). IsMissing (member_of s) k view kind u) looked_known is);
      };
    }

    votes_looked : NothingByVotes g f s h → NothingByVotes g f s (Polls ∷ h)
    votes_looked none = record {
      leaders = λ view index up waits is. none.leaders view index up waits (looked_leader view ∙ is);
      constructions = record { no_construction = none.constructions.no_construction; no_forward = none.constructions.no_forward };
      followed = λ view due. none.followed view (looked_latch view reason.LeaderNullify due);
    }

    asks_looked : NothingMoreToAsk g f s h → NothingMoreToAsk g f s (Polls ∷ h)
    asks_looked none = record {
      returns = record {
        no_return = λ number handoff context stands given. none.returns.no_return number handoff context stands
            (subst (λ (k : Known D). IsSuperseded (member_of s) k context.round.view context.parent.0 context.parent.1
            ⊎ ((handoff ≡ true) × ((why : HandoffAbandonedReason) × StopsHandoff (member_of s) k context.round.view context.parent.0 context.parent.1 (Some why)))) looked_known given);
        none_behind = none.returns.none_behind;
      };
      builds = λ left. subst (λ (k : Known D). NoBuildIsDue (member_of s) k) (sym looked_known) (none.builds left);
      views = λ view due. none.views view (record {
        sought = ⊎_elim
            (λ sought. inl (⊎_elim
            (λ backfills. inl backfills)
            (λ waits. inr (waits.0, (waits.1.0, subst (λ (k : Known D). CertificateIsWanted (member_of s) k waits.1.0 view) looked_known waits.1.1)))
            sought))
            (λ pending. inr pending)
            due.sought;
        first = due.first;
        within = due.within;
      });
      again = λ view ask to pending due. none.again view ask to pending (record { sought = inr pending; first = due.first; within = due.within });
      silence = λ view due. none.silence view (looked_latch view reason.Inactivity due);
    }

  -- behind a look at the next timeout
  pub notarizes_last : PollChangesNothing S D P G C → Lasts {P = P} {G = G} is_poll (NoNotarizeToCast s)
  notarizes_last law = poll_lasts (NoNotarizeToCast s) (λ h none. notarizes_known g f s h (Polls ∷ h) (looked_known law h) none)

  pub finalizes_last : PollChangesNothing S D P G C → Lasts {P = P} {G = G} is_poll (NoFinalizeToCast s)
  finalizes_last law = poll_lasts (NoFinalizeToCast s) (λ h none. finalizes_known g f s h (Polls ∷ h) (looked_known law h) none)

  pub proposals_last : PollChangesNothing S D P G C → Lasts is_poll (NothingToAskOnProposals g f s)
  proposals_last law = poll_lasts (NothingToAskOnProposals g f s) (λ h none. proposals_looked law h none)

  pub votes_last : PollChangesNothing S D P G C → Lasts is_poll (NothingByVotes g f s)
  votes_last law = poll_lasts (NothingByVotes g f s) (λ h none. votes_looked law h none)

  pub asks_last : PollChangesNothing S D P G C → Lasts is_poll (NothingMoreToAsk g f s)
  asks_last law = poll_lasts (NothingMoreToAsk g f s) (λ h none. asks_looked law h none)
