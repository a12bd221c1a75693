-- What an act does is not done again behind the same event.
use Rattle.std.proofs.Common.{◌≡◌, ◌≢◌, ◌⊎◌, inr, ⊎_elim, ℕ, ◌≤◌, ◌<◌, ◌==◌, ◌||◌, Bool, true, false, List, [], ◌∷◌, Option, Some, None, refl, sym, ◌∙◌, ap, subst, arith}
use Rattle.std.specs.Prelude.{Contains, IsSome, if◌then◌else◌, is_some, not, ◌&&◌, ⊤}
use Rattle.std.proofs.lemmas.Bool.{eqb-true}
use Rattle.std.proofs.lemmas.Option.{none-some}
use Rattle.types_quorum.specs.Counting.{Contains-head}
use Rattle.types_quorum.specs.Committee.{quorum}
use Rattle.types_core.specs.declared.context.Context.{Context}
use Rattle.types_core.specs.declared.proposal.Proposal.{Proposal}
use Rattle.types_core.specs.declared.scheme.Scheme.{Ghosts}
use Rattle.messages_certificates.specs.declared.certificate.Certificate.{Certificate}
use Rattle.messages_certificates.specs.declared.nullify.Nullify.{Nullify}
use Rattle.simplex_messages.specs.declared.vote.Vote.{Vote}
use Rattle.simplex_messages.specs.declared.vote.Vote.TheVariants as vote
use Rattle.types_terms.specs.declared.kind.Kind.{Kind}
use Rattle.types_terms.specs.declared.kind.Kind.TheVariants as kinds
use Rattle.voter_history.specs.Known.{waits}
use Rattle.voter_history.specs.Past as past
use Rattle.voter_history.specs.Past.{Item}
use Rattle.voter_history.specs.Pasts.{put}
use Rattle.voter_history.specs.History.{is_marked, last_finalized, min_active, seen}
use Rattle.voter_rules.specs.GivingUp.{has_budget, term_deadline}
use Rattle.batcher_verifier.specs.declared.batch.Batch.{Batch}
use Rattle.batcher_verifier.specs.History as votes
use Rattle.batcher_verifier.specs.History.{Certified, Led, Forwarded, forwardable, has_forwarded, is_another, is_complete, is_due, leader_of, selected, waiting}
use Rattle.batcher_verifier.specs.ConstructionResult.{IsBatch, after}
use Rattle.simplex_member.specs.declared.asked.Asked.{Asked}
use Rattle.simplex_member.specs.Allowed.{Allowed, AreAllowed}
use Rattle.simplex_member.specs.Asked.{asks_now, build_at, next_number}
use Rattle.simplex_member.specs.Doing.{Doing, doing, doings, of_view, numbers, returns, seeks, resolves, takes_in, leads, forwards, makes, judges, latches, polls, repeats, certifies, puts_off}
use Rattle.simplex_member.specs.Doing.{votes as casts}
use Rattle.simplex_member.specs.Layers.{all_votes, current_of, is_begun, latest, passes_over, skips, stage, voter_of, voter_points, votes_of, IsUp, Stage}
use Rattle.simplex_member.specs.Laws.{RoundLaws}
use Rattle.simplex_member.specs.Member.{Goes}
use Rattle.simplex_member.specs.Packet.{Formats}
use Rattle.simplex_member.specs.Point.{Point, Opened, Found, Began, Told, Heard, Came, Wanted, Built, Checked, Leads, Forwards, Constructs, Latches, Polls, AsksBuild, AsksVerify, AsksCertify, GivesBack, LeavesBehind, PutsOff, Asks, Resolves, Votes, Repeats, Rewrote, AreActs, History, is_act}
use Rattle.simplex_member.specs.Point as point
use Rattle.simplex_member.specs.Setup.{Setup}
use Rattle.simplex_member.proofs.Adding.{act-adds}
use Rattle.simplex_member.proofs.Ballots.{collected-up, kept-all, stage-kept}
use Rattle.simplex_member.proofs.Binding.{gone, under}
use Rattle.simplex_member.proofs.Completing.{complete-new, complete-on}
use Rattle.simplex_member.proofs.Constructing.{quorum-some}
use Rattle.simplex_member.proofs.Lacking.{WasResolved, resolved-before, resolved-now, resolved-stays}
use Rattle.simplex_member.proofs.Lists.{same-number, some-is}
use Rattle.simplex_member.proofs.Lone.{act-latest, latest-early}
use Rattle.simplex_member.proofs.Marking.{IsLatched, asked-still, asks-stay, final-low, finalized-still, latched-new, latched-still, marks-stay, notarized-still, now-sent, nullified-still, number-rises, polled-here, put-here, some-apart, vacant}
use Rattle.simplex_member.proofs.Peace.{find-there}
use Rattle.simplex_member.proofs.Pigeons.{Apart, In}
use Rattle.simplex_member.proofs.Raising.{acts-head, acts-rest}
use Rattle.simplex_member.proofs.Recordable.{orderly}
use Rattle.simplex_member.proofs.Staying.{Fits, UnlessDropped, all-stay, each-stays, kept-holds}
use Rattle.simplex_member.proofs.Telling.{apart}
use Rattle.simplex_member.proofs.Timely.{uncut}
use Rattle.simplex_member.proofs.Turning.{WaitsAhead, IsNotYet, batch-kind, batch-makes, forwarded-still, leader-still, not-yet-new, retry-of, votes-stay, waiting-none, waiting-still, waits-new, waits-still, yet-polled}

module _ {S D P G C : Type 0} (g : Ghosts S D P G C) (f : Formats S D P G C) (s : Setup S D C) where
  -- what stays the same of the votes of a view that are collected
  abbrev setup_as : ℕ → Bool → votes.Setup S
  setup_as view skipped = record {
    round = record { epoch = s.voter.epoch; view = view };
    scheme = s.voter.scheme;
    members = g.size s.voter.scheme;
    needed = quorum (g.size s.voter.scheme);
    batchable = g.batchable s.voter.scheme;
    tracks = s.tracks;
    is_skipped = skipped;
  }

  abbrev Unless : (List (Item S D P G C) → Type 0) → History S D P G C → ℕ → Type 0
  Unless Q h view = UnlessDropped s.voter Q (voter_of s h) view

  -- this was done, and can't be done again behind the same event
  abbrev Done : History S D P G C → Doing → Type 0
  Done h (of_view leads view) = IsSome (leader_of (all_votes view h))
  Done h (of_view forwards view) = has_forwarded (all_votes view h) ≡ true
  Done h (of_view (makes kind) view) = is_complete kind (all_votes view h) ≡ true
  Done h (of_view (judges kind) view) = waiting f.same (setup_as view false) kind (all_votes view h) ≡ []
  Done h (of_view latches view) = Unless IsLatched h view
  Done h (of_view polls view) = Unless (WaitsAhead (latest h)) h view
  Done h (of_view repeats view) = Unless (IsNotYet (latest h)) h view
  Done h (of_view (casts kinds.Notarization) view) = Unless (λ l. past.has_notarized l ≡ true) h view
  Done h (of_view (casts kinds.Nullification) view) = Unless (λ l. past.has_nullified l ≡ true) h view
  Done h (of_view (casts kinds.Finalization) view) = Unless (λ l. past.has_finalized l ≡ true) h view
  Done h (of_view certifies view) = Unless (λ l. past.is_certify_asked l ≡ true) h view
  Done h (of_view puts_off view) = (view < min_active s.voter (voter_of s h)) ⊎ (is_marked s.voter waits (voter_of s h) view ≡ true)
  Done h (numbers number) = number < next_number h
  Done h (returns number) = (number < next_number h) × (build_at h number ≡ None)
  Done h (seeks view ask to) = Contains (asks_now h) (record { view = view; ask = ask; to = to })
  Done h (resolves view u) = WasResolved s h view u
  Done h takes_in = ⊥

  -- ---- a view that is kept

  floor-final : (h : History S D P G C) (view : ℕ) → last_finalized (voter_of s h) ≤ view → min_active s.voter (voter_of s h) ≤ view
  floor-final h view above = omega (arith, above)

  floor-current : (h : History S D P G C) (view : ℕ) → current_of s h ≤ view → min_active s.voter (voter_of s h) ≤ view
  floor-current h view from = let low = final-low s.voter (voter_of s h) in omega (arith, low, from)

  votes-kept : (h : History S D P G C) (view : ℕ) → IsUp (stage s h view) → votes_of s h view ≡ all_votes view h
  votes-kept h view up = kept-all g f s h view (stage-kept g f s h view up)

  module _ (laws : RoundLaws g f.same) (some : 0 < g.size s.voter.scheme) (retries : 0 < s.voter.timeout_retry) where
    -- ---- a construction

    module _ (h : History S D P G C) (view : ℕ) (kind : Kind) (batch : Batch (Certificate S D P G C)) (a : Allowed g f s h (Constructs view kind batch)) where
      kept : votes_of s h view ≡ all_votes view h
      kept = votes-kept h view (collected-up a.due.0)

      batch-is : IsBatch g f.same (setup_as view false) kind (all_votes view h) batch
      batch-is = subst (λ (x : votes.History S D P G C). IsBatch g f.same (setup_as view false) kind x batch) kept
          (subst (λ (o : Stage). IsBatch g f.same (setup_as view (skips o (passes_over s h view))) kind (votes_of s h view) batch) a.due.0 a.due.2)

      due-is : is_due f.same (setup_as view false) kind (all_votes view h) ≡ true
      due-is = (find-there (λ (k : Kind). is_due f.same (setup_as view false) k (all_votes view h)) (kinds.Notarization ∷ kinds.Nullification ∷ kinds.Finalization ∷ []) kind
          (subst (λ (x : votes.History S D P G C). votes.next_kind f.same (setup_as view false) x ≡ Some kind) kept
          (subst (λ (o : Stage). votes.next_kind f.same (setup_as view (skips o (passes_over s h view))) (votes_of s h view) ≡ Some kind) a.due.0 a.due.1))).1

      behind : all_votes view (Constructs view kind batch ∷ h) ≡ after kind (Some batch) (all_votes view h)
      behind = ap (λ (b : Bool). if b then after kind (Some batch) (all_votes view h) else all_votes view h) (same-number view view refl)

      constructed : Done (Constructs view kind batch ∷ h) (of_view (if is_some batch.certificate then makes kind else judges kind) view)
      constructed = go batch.certificate refl
        where
          made : (c : Certificate S D P G C) → batch.certificate ≡ Some c → is_complete kind (after kind (Some batch) (all_votes view h)) ≡ true
          made c e = rw e (subst (λ (k : Kind). is_complete k (Certified c ∷ all_votes view h) ≡ true) (batch-kind g f.same (setup_as view false) kind (all_votes view h) batch c batch-is e) (complete-new c (all_votes view h)))

          judged : batch.certificate ≡ None → waiting f.same (setup_as view false) kind (after kind (Some batch) (all_votes view h)) ≡ []
          judged e = rw e (waiting-none f.same (setup_as view false) kind batch.invalid.items (all_votes view h))

          go : (o : Option (Certificate S D P G C)) → batch.certificate ≡ o → Done (Constructs view kind batch ∷ h) (of_view (if is_some batch.certificate then makes kind else judges kind) view)
          go (Some c) e = subst (λ (b : Bool). Done (Constructs view kind batch ∷ h) (of_view (if b then makes kind else judges kind) view)) (sym (ap (λ (o : Option (Certificate S D P G C)). is_some o) e))
              (subst (λ (r : votes.History S D P G C). is_complete kind r ≡ true) (sym behind) (made c e))
          go None e = subst (λ (b : Bool). Done (Constructs view kind batch ∷ h) (of_view (if b then makes kind else judges kind) view)) (sym (ap (λ (o : Option (Certificate S D P G C)). is_some o) e))
              (subst (λ (r : votes.History S D P G C). waiting f.same (setup_as view false) kind r ≡ []) (sym behind) (judged e))

      constructed-before : Done h (of_view (if is_some batch.certificate then makes kind else judges kind) view) → ⊥
      constructed-before = go batch.certificate refl
        where
          go : (o : Option (Certificate S D P G C)) → batch.certificate ≡ o → Done h (of_view (if is_some batch.certificate then makes kind else judges kind) view) → ⊥
          go (Some c) e done =
              let complete : is_complete kind (all_votes view h) ≡ true = subst (λ (b : Bool). Done h (of_view (if b then makes kind else judges kind) view)) (ap (λ (o : Option (Certificate S D P G C)). is_some o) e) done in
              apart (sym (laws.unfinished (setup_as view false) (all_votes view h) kind (quorum-some (g.size s.voter.scheme) some) due-is) ∙ complete)
          go None e done =
              let none : waiting f.same (setup_as view false) kind (all_votes view h) ≡ [] = subst (λ (b : Bool). Done h (of_view (if b then makes kind else judges kind) view)) (ap (λ (o : Option (Certificate S D P G C)). is_some o) e) done in
              batch-makes g f.same (setup_as view false) kind (all_votes view h) batch batch-is due-is none e

    -- ---- the retry

    -- a nullify that is due again: its retry is known, and came
    repeat-due : (h : History S D P G C) (v : Nullify S D P G C) (best : Option (Certificate S D P G C)) → Allowed g f s h (Repeats v best)
        → (m : ℕ) × (past.retry (seen s.voter (voter_of s h) v.round.view) ≡ Some m) × (m ≤ latest h)
    repeat-due h v best a =
        let due = a.due.due.1 in
        let voted = subst (λ (n : ℕ). past.has_nullified (seen s.voter (voter_of s h) n) ≡ true) a.due.due.0 a.due.due.2 in
        let here = retry-of (latest h) (has_budget s.voter (voter_of s h)) (term_deadline s.voter (voter_of s h)) (seen s.voter (voter_of s h) (current_of s h)) (due.moment, due.why) voted due.next in
        (due.moment, subst (λ (n : ℕ). past.retry (seen s.voter (voter_of s h) n) ≡ Some due.moment) (sym a.due.due.0) here, due.reached)

    repeat-kept : (h : History S D P G C) (v : Nullify S D P G C) (best : Option (Certificate S D P G C)) → Allowed g f s h (Repeats v best) → min_active s.voter (voter_of s h) ≤ v.round.view
    repeat-kept h v best a = floor-current h v.round.view (omega (arith, a.due.due.0))

    -- a poll where it is not known
    poll-due : (h : History S D P G C) → Allowed g f s h Polls
        → (past.has_nullified (seen s.voter (voter_of s h) (current_of s h)) ≡ true) × (past.retry (seen s.voter (voter_of s h) (current_of s h)) ≡ None)
    poll-due h a = go (past.has_nullified (seen s.voter (voter_of s h) (current_of s h))) (past.retry (seen s.voter (voter_of s h) (current_of s h))) a.due
      where
        go : (b : Bool) (o : Option ℕ) → ((b ≡ true → IsSome o) → ⊥) → (b ≡ true) × (o ≡ None)
        go true None due = (refl, refl)
        go true (Some m) due = absurd (due (λ voted. refl))
        go false o due = absurd (due (λ voted. absurd (apart voted)))

    -- the retry that a poll tells lies ahead
    retry-ahead : (h : History S D P G C) → AreAllowed g f s h → h ≢ [] → latest h < past.deadline (latest h) s.voter.timeout_retry
    retry-ahead h all begun = let is = (uncut s (latest h) (latest-early g f s h all begun)).retry in omega (arith, is, retries)

    in-order : (p : Point S D P G C) → is_act p ≡ true → (h : History S D P G C) → Allowed g f s h p → is_begun h ≡ true
    in-order (Opened now) own h a = absurd (apart own)
    in-order (Found x taken) own h a = absurd (apart own)
    in-order Began own h a = absurd (apart own)
    in-order p own h a = a.order

    some-history : (h : History S D P G C) (p : Point S D P G C) → is_act p ≡ true → Allowed g f s h p → h ≢ []
    some-history h p own a none = apart (subst (λ (x : History S D P G C). is_begun x ≡ true) none (in-order p own h a))

    begun-some : (h : History S D P G C) → AreAllowed g f s h → h ≢ [] → 1 ≤ current_of s h
    begun-some [] all some_points = absurd (some_points refl)
    begun-some (p ∷ h) all some_points = (orderly g f s p h all).began

    -- the build that stands under a number was asked for under it
    pub standing-below : (h : History S D P G C) → AreAllowed g f s h → (number : ℕ) (x : Bool × Context D P) → build_at h number ≡ Some x → number < next_number h
    standing-below [] all number x is = absurd (none-some x is)
    standing-below (AsksBuild n handoff context ∷ h) all number x is = ⊎_elim
        (λ here. let same = here.0 in let next = all.0.due.next in omega (arith, same, next))
        (λ before. let low = standing-below h all.1 number x before in omega (arith, low))
        (under n number (handoff, context) x (build_at h number) is)
    standing-below (AsksVerify n context p ∷ h) all number x is = let low = standing-below h all.1 number x is in omega (arith, low)
    standing-below (Built n handoff context payload took ∷ h) all number x is = standing-below h all.1 number x (gone n number x (build_at h number) is).1
    standing-below (GivesBack n view ∷ h) all number x is = standing-below h all.1 number x (gone n number x (build_at h number) is).1
    standing-below (LeavesBehind n ∷ h) all number x is = standing-below h all.1 number x (gone n number x (build_at h number) is).1
    standing-below (p ∷ h) all number x is = standing-below h all.1 number x is

    -- ---- what was done now

    unless-here : (Q : List (Item S D P G C) → Type 0) (h : History S D P G C) (view : ℕ) (y : Item S D P G C) (l : List (Item S D P G C)) → seen s.voter (voter_of s h) view ≡ y ∷ l → Q (y ∷ l) → Unless Q h view
    unless-here Q h view y l is holds = inr (subst Q (sym is) holds)

    now-put : (view : ℕ) (y : Item S D P G C) (h : History S D P G C) → put view y (seen s.voter (voter_of s h)) view ≡ y ∷ seen s.voter (voter_of s h) view
    now-put view y h = put-here s.voter view y (seen s.voter (voter_of s h))

    now-at : (view : ℕ) (e : votes.Event (Vote S D P G C) (Certificate S D P G C)) (r : votes.History S D P G C) → (if view == view then e ∷ r else r) ≡ e ∷ r
    now-at view e r = ap (λ (b : Bool). if b then e ∷ r else r) (same-number view view refl)

    done-now : (p : Point S D P G C) (h : History S D P G C) → AreAllowed g f s h → Allowed g f s h p → is_act p ≡ true → Done (p ∷ h) (doing s h p)
    done-now (Opened now) h all a own = absurd (apart own)
    done-now (Found x taken) h all a own = absurd (apart own)
    done-now Began h all a own = absurd (apart own)
    done-now (Told now) h all a own = absurd (apart own)
    done-now (Heard v) h all a own = absurd (apart own)
    done-now (Came c) h all a own = absurd (apart own)
    done-now (Wanted member view) h all a own = absurd (apart own)
    done-now (Built number handoff context payload took) h all a own = absurd (apart own)
    done-now (Checked number view answer outcome) h all a own = absurd (apart own)
    done-now (point.Judged r ok) h all a own = absurd (apart own)
    done-now (Rewrote c) h all a own = absurd (apart own)
    done-now (Leads view index) h all a own = subst (λ (r : votes.History S D P G C). IsSome (leader_of r)) (sym (now-at view (Led index) (all_votes view h))) refl
    done-now (Forwards view p) h all a own = subst (λ (r : votes.History S D P G C). has_forwarded r ≡ true) (sym (now-at view Forwarded (all_votes view h))) refl
    done-now (Constructs view kind batch) h all a own = constructed h view kind batch a
    done-now (Latches view why) h all a own = unless-here IsLatched (Latches view why ∷ h) view (past.latched (latest h) why) (seen s.voter (voter_of s h) view) (now-put view (past.latched (latest h) why) h) (latched-new (latest h) why (seen s.voter (voter_of s h) view) a.due.undecided)
    done-now Polls h all a own =
        let some_points = some-history h Polls own a in
        unless-here (WaitsAhead (latest h)) (Polls ∷ h) (current_of s h) (past.polled (past.deadline (latest h) s.voter.timeout_retry)) (seen s.voter (voter_of s h) (current_of s h))
        (polled-here s.voter (voter_of s h) (latest h) (begun-some h all some_points))
        (waits-new (latest h) (past.deadline (latest h) s.voter.timeout_retry) (seen s.voter (voter_of s h) (current_of s h)) (retry-ahead h all some_points) (poll-due h a).0 (poll-due h a).1)
    done-now (AsksBuild number handoff context) h all a own = let next = a.due.next in omega (arith, next)
    done-now (AsksVerify number context p) h all a own = let next = a.due.next in omega (arith, next)
    done-now (AsksCertify p) h all a own = unless-here (λ l. past.is_certify_asked l ≡ true) (AsksCertify p ∷ h) p.round.view (past.certifying (record { 0 = p.round.view })) (seen s.voter (voter_of s h) p.round.view) (now-put p.round.view (past.certifying (record { 0 = p.round.view })) h) refl
    done-now (GivesBack number view) h all a own = (standing-below h all number (a.due.0, a.due.1) a.due.2, ap (λ (b : Bool). if b then None else build_at h number) (same-number number number refl))
    done-now (LeavesBehind number) h all a own = (standing-below h all number (a.due.0, a.due.1) a.due.2, ap (λ (b : Bool). if b then None else build_at h number) (same-number number number refl))
    done-now (PutsOff view) h all a own = inr (ap (λ (b : Bool). b || is_marked s.voter waits (voter_of s h) view) (same-number view view refl))
    done-now (Asks view ask to) h all a own = Contains-head {X = Asked} (record { view = view; ask = ask; to = to }) (asks_now h)
    done-now (Resolves view kind u) h all a own = resolved-now s h view kind u a.due.missing
    done-now (Votes (vote.Notarize v)) h all a own = unless-here (λ l. past.has_notarized l ≡ true) (Votes (vote.Notarize v) ∷ h) v.proposal.round.view past.voted_notarize (seen s.voter (voter_of s h) v.proposal.round.view) (now-put v.proposal.round.view past.voted_notarize h) refl
    done-now (Votes (vote.Nullify v)) h all a own = unless-here (λ l. past.has_nullified l ≡ true) (Votes (vote.Nullify v) ∷ h) v.round.view past.voted_nullify (seen s.voter (voter_of s h) v.round.view) (now-put v.round.view past.voted_nullify h) refl
    done-now (Votes (vote.Finalize v)) h all a own = unless-here (λ l. past.has_finalized l ≡ true) (Votes (vote.Finalize v) ∷ h) v.proposal.round.view past.voted_finalize (seen s.voter (voter_of s h) v.proposal.round.view) (now-put v.proposal.round.view past.voted_finalize h) refl
    done-now (Repeats v best) h all a own = unless-here (IsNotYet (latest h)) (Repeats v best ∷ h) v.round.view past.voted_nullify (seen s.voter (voter_of s h) v.round.view) (now-put v.round.view past.voted_nullify h) (not-yet-new (latest h) (seen s.voter (voter_of s h) v.round.view))

    -- ---- it stays done

    simply : (Q : List (Item S D P G C) → Type 0) → ((y : Item S D P G C) (l : List (Item S D P G C)) → Q l → Q (y ∷ l)) → (p : Point S D P G C) (h : History S D P G C) (view : ℕ) → Unless Q h view → Unless Q (p ∷ h) view
    simply Q step p h view is = each-stays Q step s.voter view (voter_points s (latest (p ∷ h)) (last_finalized (voter_of s h)) p) (voter_of s h) is

    -- while a nullify waits to be due again none is voted in the view, and none is sent again
    waits-stay : (p : Point S D P G C) (h : History S D P G C) (view : ℕ) → Allowed g f s h p → is_act p ≡ true → Unless (WaitsAhead (latest h)) h view → Unless (WaitsAhead (latest h)) (p ∷ h) view
    waits-stay p h view a own is = all-stay ⊥ (λ moment. ⊤) ⊤ (WaitsAhead (latest h)) step view s.voter (voter_points s (latest (p ∷ h)) (last_finalized (voter_of s h)) p) (voter_of s h)
        (act-adds ⊥ (λ moment. ⊤) ⊤ s view p h (last_finalized (voter_of s h)) own (record { votes = voted; repeats = repeated; polls = λ e. tt; resolves = λ k u e. tt })) is
      where
        step : (y : Item S D P G C) (l : List (Item S D P G C)) → Fits ⊥ (λ moment. ⊤) ⊤ y → WaitsAhead (latest h) l → WaitsAhead (latest h) (y ∷ l)
        step past.voted_nullify l fits w = absurd fits
        step y l fits w = waits-still (latest h) y l w (λ e. cc e)

        voted : (v : Nullify S D P G C) → p ≡ Votes (vote.Nullify v) → v.round.view ≡ view → ⊥
        voted v e at =
            let b = subst (λ (q : Point S D P G C). Allowed g f s h q) e a in
            let kept = floor-current h view (omega (arith, at, b.due.0)) in
            let w = kept-holds s.voter (WaitsAhead (latest h)) (voter_of s h) view kept is in
            apart (sym b.due.2 ∙ subst (λ (n : ℕ). past.has_nullified (seen s.voter (voter_of s h) n) ≡ true) (sym at) w.voted)

        repeated : (v : Nullify S D P G C) (best : Option (Certificate S D P G C)) → p ≡ Repeats v best → v.round.view ≡ view → ⊥
        repeated v best e at =
            let b = subst (λ (q : Point S D P G C). Allowed g f s h q) e a in
            let r = repeat-due h v best b in
            let w = kept-holds s.voter (WaitsAhead (latest h)) (voter_of s h) view (subst (λ (n : ℕ). min_active s.voter (voter_of s h) ≤ n) at (repeat-kept h v best b)) is in
            let same : r.0 ≡ w.moment = some-is r.0 w.moment (sym r.1 ∙ (ap (λ (n : ℕ). past.retry (seen s.voter (voter_of s h) n)) at ∙ w.is)) in
            let ahead = w.ahead in
            let came = r.2 in
            absurd (omega (arith, same, ahead, came))

    -- once it was voted or sent again, it isn't due again before some time
    yet-stays : (p : Point S D P G C) (h : History S D P G C) (view : ℕ) → AreAllowed g f s h → Allowed g f s h p → is_act p ≡ true → Unless (IsNotYet (latest h)) h view → Unless (IsNotYet (latest h)) (p ∷ h) view
    yet-stays p h view all a own is = all-stay ⊤ (λ moment. latest h < moment) ⊤ (IsNotYet (latest h)) step view s.voter (voter_points s (latest (p ∷ h)) (last_finalized (voter_of s h)) p) (voter_of s h)
        (act-adds ⊤ (λ moment. latest h < moment) ⊤ s view p h (last_finalized (voter_of s h)) own (record { votes = λ v e at. tt; repeats = λ v best e at. tt; polls = λ e. retry-ahead h all (some-history h p own a); resolves = λ k u e. tt })) is
      where
        step : (y : Item S D P G C) (l : List (Item S D P G C)) → Fits ⊤ (λ moment. latest h < moment) ⊤ y → IsNotYet (latest h) l → IsNotYet (latest h) (y ∷ l)
        step past.voted_nullify l fits w = not-yet-new (latest h) l
        step (past.polled moment) l fits w = yet-polled (latest h) moment l fits w
        step y l fits w = record { voted = w.voted; ahead = w.ahead }

    still-latest : (Q : ℕ → List (Item S D P G C) → Type 0) (p : Point S D P G C) (h : History S D P G C) (view : ℕ) → is_act p ≡ true → Unless (Q (latest h)) (p ∷ h) view → Unless (Q (latest (p ∷ h))) (p ∷ h) view
    still-latest Q p h view own is = subst (λ (n : ℕ). Unless (Q n) (p ∷ h) view) (sym (act-latest p h own)) is

    numbered-stays : (p : Point S D P G C) (h : History S D P G C) (number : ℕ) → number < next_number h → number < next_number (p ∷ h)
    numbered-stays p h number low = let rises = number-rises p h in omega (arith, low, rises)

    gone-stays : (p : Point S D P G C) (h : History S D P G C) (number : ℕ) → Allowed g f s h p → number < next_number h → build_at h number ≡ None → build_at (p ∷ h) number ≡ None
    gone-stays (AsksBuild n handoff context) h number a low none = go (n == number) (eqb-true n number)
      where
        go : (b : Bool) → (b ≡ true → n ≡ number) → (if b then Some (handoff, context) else build_at h number) ≡ None
        go true is = let same = is refl in let next = a.due.next in absurd (omega (arith, same, next, low))
        go false is = none
    gone-stays (Built n handoff context payload took) h number a low none = vacant (n == number) (build_at h number) none
    gone-stays (GivesBack n view) h number a low none = vacant (n == number) (build_at h number) none
    gone-stays (LeavesBehind n) h number a low none = vacant (n == number) (build_at h number) none
    gone-stays p h number a low none = none

    done-stays : (p : Point S D P G C) (h : History S D P G C) → AreAllowed g f s h → Allowed g f s h p → is_act p ≡ true → (d : Doing) → Done h d → Done (p ∷ h) d
    done-stays p h all a own (of_view leads view) done = votes-stay (λ r. IsSome (leader_of r)) leader-still p h view own done
    done-stays p h all a own (of_view forwards view) done = votes-stay (λ r. has_forwarded r ≡ true) forwarded-still p h view own done
    done-stays p h all a own (of_view (makes kind) view) done = complete-on p h view kind done
    done-stays p h all a own (of_view (judges kind) view) done = votes-stay (λ r. waiting f.same (setup_as view false) kind r ≡ []) (waiting-still f.same (setup_as view false) kind) p h view own done
    done-stays p h all a own (of_view latches view) done = simply IsLatched latched-still p h view done
    done-stays p h all a own (of_view polls view) done = still-latest WaitsAhead p h view own (waits-stay p h view a own done)
    done-stays p h all a own (of_view repeats view) done = still-latest IsNotYet p h view own (yet-stays p h view all a own done)
    done-stays p h all a own (of_view (casts kinds.Notarization) view) done = simply (λ l. past.has_notarized l ≡ true) notarized-still p h view done
    done-stays p h all a own (of_view (casts kinds.Nullification) view) done = simply (λ l. past.has_nullified l ≡ true) nullified-still p h view done
    done-stays p h all a own (of_view (casts kinds.Finalization) view) done = simply (λ l. past.has_finalized l ≡ true) finalized-still p h view done
    done-stays p h all a own (of_view certifies view) done = simply (λ l. past.is_certify_asked l ≡ true) asked-still p h view done
    done-stays p h all a own (of_view puts_off view) done = marks-stay s.voter (voter_points s (latest (p ∷ h)) (last_finalized (voter_of s h)) p) (voter_of s h) view done
    done-stays p h all a own (numbers number) done = numbered-stays p h number done
    done-stays p h all a own (returns number) done = (numbered-stays p h number done.0, gone-stays p h number a done.0 done.1)
    done-stays p h all a own (seeks view ask to) done = asks-stay p h (record { view = view; ask = ask; to = to }) own done
    done-stays p h all a own (resolves view u) done = resolved-stays s g f p h view u own a done
    done-stays p h all a own takes_in done = absurd done

    -- ---- it isn't done again

    known-false : (Q : List (Item S D P G C) → Bool) (h : History S D P G C) (view : ℕ) → min_active s.voter (voter_of s h) ≤ view → Q (seen s.voter (voter_of s h) view) ≡ false → Unless (λ l. Q l ≡ true) h view → ⊥
    known-false Q h view floor first is = apart (sym first ∙ kept-holds s.voter (λ l. Q l ≡ true) (voter_of s h) view floor is)

    unforwarded : (r : votes.History S D P G C) (me : ℕ) (p : Proposal D) → forwardable r me ≡ Some p → has_forwarded r ≡ false
    unforwarded r me p e = go (has_forwarded r) refl
      where
        go : (b : Bool) → has_forwarded r ≡ b → has_forwarded r ≡ false
        go false is = is
        go true is = absurd (none-some p (sym (ap (λ (b : Bool). if not b && is_another (leader_of r) me then selected r else None) is) ∙ e))

    done-bars : (p : Point S D P G C) (h : History S D P G C) → AreAllowed g f s h → Allowed g f s h p → is_act p ≡ true → Done h (doing s h p) → ⊥
    done-bars (Opened now) h all a own done = apart own
    done-bars (Found x taken) h all a own done = apart own
    done-bars Began h all a own done = apart own
    done-bars (Told now) h all a own done = apart own
    done-bars (Heard v) h all a own done = apart own
    done-bars (Came c) h all a own done = apart own
    done-bars (Wanted member view) h all a own done = apart own
    done-bars (Built number handoff context payload took) h all a own done = apart own
    done-bars (Checked number view answer outcome) h all a own done = apart own
    done-bars (point.Judged r ok) h all a own done = apart own
    done-bars (Rewrote c) h all a own done = apart own
    done-bars (Leads view index) h all a own done = some-apart (leader_of (all_votes view h)) (subst (λ (r : votes.History S D P G C). leader_of r ≡ None) (votes-kept h view a.due.0) a.due.1) done
    done-bars (Forwards view p) h all a own done =
        apart (sym (unforwarded (all_votes view h) s.me p (subst (λ (r : votes.History S D P G C). forwardable r s.me ≡ Some p) (votes-kept h view a.due.0) a.due.1)) ∙ done)
    done-bars (Constructs view kind batch) h all a own done = constructed-before h view kind batch a done
    done-bars (Latches view why) h all a own done = some-apart (past.latch (seen s.voter (voter_of s h) view)) a.due.first (kept-holds s.voter IsLatched (voter_of s h) view (floor-current h view a.due.counts.from) done)
    done-bars Polls h all a own done =
        let w = kept-holds s.voter (WaitsAhead (latest h)) (voter_of s h) (current_of s h) (floor-current h (current_of s h) (omega arith)) done in
        none-some w.moment (sym (poll-due h a).1 ∙ w.is)
    done-bars (AsksBuild number handoff context) h all a own done = let next = a.due.next in absurd (omega (arith, next, done))
    done-bars (AsksVerify number context p) h all a own done = let next = a.due.next in absurd (omega (arith, next, done))
    done-bars (AsksCertify p) h all a own done = known-false past.is_certify_asked h p.round.view (let above = a.due.opens.above in floor-final h p.round.view (omega (arith, above))) a.due.opens.first done
    done-bars (GivesBack number view) h all a own done = none-some (a.due.0, a.due.1) (sym done.1 ∙ a.due.2)
    done-bars (LeavesBehind number) h all a own done = none-some (a.due.0, a.due.1) (sym done.1 ∙ a.due.2)
    done-bars (PutsOff view) h all a own done =
        let above = a.due.due.waits.opens.above in
        let kept = floor-final h view (omega (arith, above)) in
        ⊎_elim (λ low. absurd (omega (arith, low, kept))) (λ mark. apart (sym a.due.due.first ∙ mark)) done
    done-bars (Asks view ask to) h all a own done = a.due.first (inr (now-sent s h (record { view = view; ask = ask; to = to }) done))
    done-bars (Resolves view kind u) h all a own done = resolved-before s h view kind u a.due.missing done
    done-bars (Votes (vote.Notarize v)) h all a own done = known-false past.has_notarized h v.proposal.round.view a.due.0.kept.1 a.due.0.first done
    done-bars (Votes (vote.Nullify v)) h all a own done = known-false past.has_nullified h v.round.view (floor-current h v.round.view (omega (arith, a.due.0))) a.due.2 done
    done-bars (Votes (vote.Finalize v)) h all a own done = known-false past.has_finalized h v.proposal.round.view (let above = a.due.0.above in floor-final h v.proposal.round.view (omega (arith, above))) a.due.0.first done
    done-bars (Repeats v best) h all a own done =
        let r = repeat-due h v best a in
        let w = kept-holds s.voter (IsNotYet (latest h)) (voter_of s h) v.round.view (repeat-kept h v best a) done in
        let ahead = w.ahead r.0 r.1 in
        let came = r.2 in
        absurd (omega (arith, ahead, came))

    -- ---- so nothing is done twice

    none-again : (h : History S D P G C) → AreAllowed g f s h → (points : List (Point S D P G C)) (end : History S D P G C) → Goes g f s h points end → AreActs points → (d : Doing) → Done h d → In (doings s h points) d → ⊥
    none-again h all [] end goes acts d done here = absurd here
    none-again h all (p ∷ points) end goes acts d done here = ⊎_elim
        (λ is. done-bars p h all goes.0 (acts-head g f s p points acts) (subst (λ (x : Doing). Done h x) (sym is) done))
        (λ later. none-again (p ∷ h) (goes.0, all) points end goes.1 (acts-rest g f s p points acts) d (done-stays p h all goes.0 (acts-head g f s p points acts) d done) later)
        here

    pub done-once : (h : History S D P G C) → AreAllowed g f s h → (points : List (Point S D P G C)) (end : History S D P G C) → Goes g f s h points end → AreActs points → Apart (doings s h points)
    done-once h all [] end goes acts = tt
    done-once h all (p ∷ points) end goes acts = (
      λ later. none-again (p ∷ h) (goes.0, all) points end goes.1 (acts-rest g f s p points acts) (doing s h p) (done-now p h all goes.0 (acts-head g f s p points acts)) later,
      done-once (p ∷ h) (goes.0, all) points end goes.1 (acts-rest g f s p points acts),
    )
