-- What follows from how a member repairs.
use Rattle.std.proofs.Common.{◌≡◌, ◌⊎◌, inl, inr, ⊎_elim, ℕ, ◌≤◌, ◌<◌, ◌&&◌, Bool, true, false, List, [], ◌∷◌, ◌++◌, length, Option, Some, None, refl, sym, ◌∙◌, ap, subst, arith}
use Rattle.std.specs.Prelude.{All, Contains, IfSome, if◌then◌else◌, is_some, not, option_map, option_to_list}
use Rattle.std.proofs.lemmas.Bool.{cases_lt}
use Rattle.std.proofs.lemmas.List.Elements.{All-head, All-tail}
use Rattle.types_quorum.specs.Counting.{Contains-cases, Contains-head, Contains-nil, Contains-rest}
use Rattle.types_core.specs.declared.scheme.Scheme.{Ghosts}
use Rattle.messages_certificates.specs.declared.certificate.Certificate.{Certificate}
use Rattle.messages_certificates.specs.declared.nullify.Nullify.{Nullify}
use Rattle.simplex_messages.specs.declared.vote.Vote.{Vote}
use Rattle.simplex_messages.specs.declared.vote.Vote.TheVariants as vote
use Rattle.simplex_resolver.specs.declared.ask.Ask.{Ask}
use Rattle.simplex_resolver.specs.declared.ask.Until.{Until}
use Rattle.simplex_resolver.specs.declared.ask.Until.TheVariants as until
use Rattle.simplex_resolver.specs.Answers.{is_settled}
use Rattle.simplex_resolver.specs.Outstanding.{IsOutstanding}
use Rattle.simplex_resolver.specs.RepairHistory.{Item, item_of}
use Rattle.voter_history.specs.declared.timeout_reason.TimeoutReason.TheVariants as reason
use Rattle.voter_history.specs.History as views
use Rattle.voter_history.specs.History.{current, last_finalized, latched, seen, started}
use Rattle.voter_history.specs.Known.{known}
use Rattle.voter_history.specs.Leaders.{leader}
use Rattle.voter_history.specs.Past as past
use Rattle.voter_rules.specs.Ancestry.{held_at}
use Rattle.voter_rules.specs.Answers.{best_certificate}
use Rattle.voter_rules.specs.GivingUp.{MayLatch, NullifyIsDue}
use Rattle.voter_rules.specs.VotesDue.{FinalizeIsDue, NotarizeIsDue}
use Rattle.simplex_member.specs.declared.asked.Asked.{Asked}
use Rattle.voter_rules.specs.declared.config.Again.{Again}
use Rattle.voter_rules.specs.declared.config.Again.TheVariants as again
use Rattle.voter_rules.specs.declared.config.RepairPolicy.{RepairPolicy}
use Rattle.simplex_member.specs.Allowed.{Allowed, IsSilent, IsSought, RepeatIsDue, RetryIsKnown, VoteIsDue}
use Rattle.simplex_member.specs.Asked.{AreLower, IsInWindow, IsPending, asks_now, asks_of, backfill, goes_again, sent_of, was_repeated}
use Rattle.simplex_member.specs.Layers.{latest, repair_of, voter_of, voter_points}
use Rattle.simplex_member.specs.Member.{Goes, IsGivenUpAt}
use Rattle.simplex_member.specs.Packet.{Formats}
use Rattle.simplex_member.specs.Point.{Point, Opened, Found, Began, Told, Came, Judged, Asks, Constructs, Repeats, AreActs, History, is_act}
use Rattle.simplex_member.specs.Repairing.{AsksAreInTheirWindow, AsksGoAgainWithNullifies, IsOfAsksAlone, NothingElseWaitsForAsks, WentWithNullify, backfill_of, backfills, is_until_floor, makes_none, repairing}
use Rattle.simplex_member.specs.Setup.{Setup, member_of}
use Rattle.simplex_member.proofs.Marking.{asks-stay, now-sent}
use Rattle.simplex_member.proofs.Pigeons.{Apart, In, no-more}
use Rattle.simplex_member.proofs.Raising.{acts-head, acts-rest}
use Rattle.simplex_member.proofs.Telling.{apart}

never-true : (b : Bool) → (b ≡ true → ⊥) → b ≡ false
never-true true never = absurd (never refl)
never-true false never = refl

-- ---- asks go again with repeated nullifies alone

module _ {S D P G C : Type 0} where
  -- the nullify that was repeated last since the time was told last: what was asked, was since then or before
  record LastRepeat (h : History S D P G C) : Type 0 where
    vote : Nullify S D P G C
    best : Option (Certificate S D P G C)
    since : List (Point S D P G C)
    before : History S D P G C
    split : h ≡ since ++ Repeats vote best ∷ before
    now : (x : Asked) → Contains (asks_of since) x → Contains (asks_now h) x
    earlier : (x : Asked) → Contains (asks_of h) x → Contains (asks_of since) x ⊎ Contains (asks_of before) x

  last-repeat : (h : History S D P G C) → was_repeated h ≡ true → LastRepeat h
  last-repeat [] is = absurd (apart is)
  last-repeat (Opened moment ∷ h) is = absurd (apart is)
  last-repeat (Told moment ∷ h) is = absurd (apart is)
  last-repeat (Repeats v best ∷ h) is = record {
    vote = v;
    best = best;
    since = [];
    before = h;
    split = refl;
    now = λ x here. absurd (Contains-nil x here);
    earlier = λ x here. inr here;
  }
  last-repeat (Asks view ask to ∷ h) is =
      let r = last-repeat h is in
      record {
        vote = r.vote;
        best = r.best;
        since = Asks view ask to ∷ r.since;
        before = r.before;
        split = ap (λ (l : History S D P G C). Asks view ask to ∷ l) r.split;
        now = λ x here. ⊎_elim
            (λ same. subst (λ (y : Asked). Contains (asks_now (Asks view ask to ∷ h)) y) same (Contains-head {X = Asked} (record { view = view; ask = ask; to = to }) (asks_now h)))
            (λ later. Contains-rest {X = Asked} (record { view = view; ask = ask; to = to }) (asks_now h) x (r.now x later))
            (Contains-cases {X = Asked} (record { view = view; ask = ask; to = to }) (asks_of r.since) x here);
        earlier = λ x here. ⊎_elim
            (λ same. inl (subst (λ (y : Asked). Contains (asks_of (Asks view ask to ∷ r.since)) y) same (Contains-head {X = Asked} (record { view = view; ask = ask; to = to }) (asks_of r.since))))
            (λ later. ⊎_elim
            (λ more. inl (Contains-rest {X = Asked} (record { view = view; ask = ask; to = to }) (asks_of r.since) x more))
            (λ less. inr less)
            (r.earlier x later))
            (Contains-cases {X = Asked} (record { view = view; ask = ask; to = to }) (asks_of h) x here);
      }
  last-repeat (p ∷ h) is =
      let r = last-repeat h is in
      record {
        vote = r.vote;
        best = r.best;
        since = p ∷ r.since;
        before = r.before;
        split = ap (λ (l : History S D P G C). p ∷ l) r.split;
        now = r.now;
        earlier = r.earlier;
      }

-- ---- views to leave behind

contains-in : (xs : List ℕ) (x : ℕ) → Contains xs x → In xs x
contains-in [] x here = absurd (Contains-nil x here)
contains-in (y ∷ xs) x here = ⊎_elim (λ is. inl is) (λ later. inr (contains-in xs x later)) (Contains-cases y xs x here)

in-cases : (xs ys : List ℕ) (x : ℕ) → In (xs ++ ys) x → In xs x ⊎ In ys x
in-cases [] ys x here = inr here
in-cases (y ∷ xs) ys x here = ⊎_elim (λ is. inl (inl is)) (λ later. ⊎_elim (λ left. inl (inr left)) (λ right. inr right) (in-cases xs ys x later)) here

-- the highest of some numbers
record Highest (xs : List ℕ) : Type 0 where
  most : ℕ
  there : In xs most
  above : (y : ℕ) → In xs y → y ≤ most

highest : (x : ℕ) (xs : List ℕ) → Highest (x ∷ xs)
highest x [] = record { most = x; there = inl refl; above = λ y here. ⊎_elim (λ is. omega (arith, is)) (λ later. absurd later) here }
highest x (z ∷ xs) =
    let r = highest z xs in
    ⊎_elim
    (λ less. record {
      most = r.most;
      there = inr r.there;
      above = λ y here. ⊎_elim (λ is. omega (arith, is, less)) (λ later. r.above y later) here;
    })
    (λ more. record {
      most = x;
      there = inl refl;
      above = λ y here. ⊎_elim (λ is. omega (arith, is)) (λ later. let low = r.above y later in omega (arith, low, more)) here;
    })
    (cases_lt x r.most)

-- a view is to be repaired, and fewer than so many below it
record IsFew (views : ℕ) (r : List Item) (most view : ℕ) : Type 0 where
  outstanding : IsOutstanding views r view
  lower : List ℕ
  all : (u : ℕ) → IsOutstanding views r u → u < view → Contains lower u
  short : length lower < most

-- so there are no more of them
few-views : (views : ℕ) (r : List Item) (most : ℕ) (xs : List ℕ) → Apart xs → ((view : ℕ) → In xs view → IsFew views r most view) → length xs ≤ most
few-views views r most [] once each = omega arith
few-views views r most (x ∷ xs) once each =
    let top = highest x xs in
    let few = each top.most top.there in
    let within = no-more (x ∷ xs) (top.most ∷ few.lower) once (λ y here. ⊎_elim
    (λ less. inr (contains-in few.lower y (few.all y (each y here).outstanding less)))
    (λ more. inl (let low = top.above y here in omega (arith, low, more)))
    (cases_lt y top.most)) in
    let short = few.short in
    omega (arith, within, short)

module _ {S D P G C : Type 0} (g : Ghosts S D P G C) (f : Formats S D P G C) (s : Setup S D C) where
  -- ---- asks go again with repeated nullifies alone

  pub went-with-nullify : AsksGoAgainWithNullifies g f s
  went-with-nullify h view ask to a asked = go s.repair.again refl (was_repeated h) refl
    where
      x : Asked
      x = record { view = view; ask = ask; to = to }

      unsent : (b : Bool) → (goes_again s.repair.again && was_repeated h) ≡ b → Contains (if b then asks_now h else asks_of h) x → ⊥
      unsent b is there = a.due.first (inr (subst (λ (c : Bool). Contains (if c then asks_now h else asks_of h) x) (sym is) there))

      go : (q : Again) → s.repair.again ≡ q → (b : Bool) → was_repeated h ≡ b → WentWithNullify g f s h x
      go again.Once is b repeated = absurd (unsent false (ap (λ (k : Again). goes_again k && was_repeated h) is) asked)
      go again.WithNullify is false repeated = absurd (unsent false (ap (λ (k : Again). goes_again k && was_repeated h) is ∙ repeated) asked)
      go again.WithNullify is true repeated =
          let both : (goes_again s.repair.again && was_repeated h) ≡ true = ap (λ (k : Again). goes_again k && was_repeated h) is ∙ repeated in
          let r = last-repeat h repeated in
          record {
            again_is = is;
            vote = r.vote;
            best = r.best;
            since = r.since;
            before = r.before;
            split = r.split;
            asked = ⊎_elim (λ since. absurd (unsent true both (r.now x since))) (λ before. before) (r.earlier x asked);
            not_since = λ since. unsent true both (r.now x since);
            unsettled = never-true (is_settled s.voter.length (repair_of f h) view ask.kind) (λ settled. a.due.first (inl settled));
          }

  -- ---- asks are in their window

  -- an act that makes no certificate leaves the repair as it is
  none-made : (o : Option (Certificate S D P G C)) (r : List Item) → not (is_some o) ≡ true → option_to_list (option_map (item_of f.certificate) o) ++ r ≡ r
  none-made None r none = refl
  none-made (Some c) r none = absurd (apart none)

  repair-still : (p : Point S D P G C) (h : History S D P G C) → is_act p ≡ true → makes_none p ≡ true → repair_of f (p ∷ h) ≡ repair_of f h
  repair-still (Found x taken) h own none = absurd (apart own)
  repair-still Began h own none = absurd (apart own)
  repair-still (Came c) h own none = absurd (apart own)
  repair-still (Judged r ok) h own none = absurd (apart own)
  repair-still (Constructs view kind batch) h own none = none-made batch.certificate (repair_of f h) none
  repair-still p h own none = refl

  until-apart : (ask : Ask) (q : Until) → ask.until ≡ q → is_until_floor ask.until ≡ true → is_until_floor q ≡ false → ⊥
  until-apart ask q is floor not_floor = apart (sym not_floor ∙ subst (λ (u : Until). is_until_floor u ≡ true) is floor)

  -- a view to leave behind that is asked for: of all, it is to be repaired, and one of the first
  record IsBackfill (h : History S D P G C) (view : ℕ) (ask : Ask) (to : Option ℕ) : Type 0 where
    is : ◌≡◌ {A = Asked} (record { view = view; ask = ask; to = to }) (record { view = view; ask = backfill; to = None })
    of : ask ≡ backfill
    outstanding : IsOutstanding s.voter.length (repair_of f h) view

  backfill-of : (h : History S D P G C) (view : ℕ) (ask : Ask) (to : Option ℕ) → IsSought g f s h view ask to ⊎ IsPending h view ask to → is_until_floor ask.until ≡ true → IsBackfill h view ask to
  backfill-of h view ask None sought floor = ⊎_elim
      (λ first. ⊎_elim
      (λ back. record { is = ap (λ (a : Ask). record { view = view; ask = a; to = None }) back.0; of = back.0; outstanding = back.1 })
      (λ waits. absurd (until-apart ask until.Finalization (ap (λ (a : Ask). a.until) waits.0) floor refl))
      first)
      (λ pending. absurd (until-apart ask until.Finalization pending.0 floor refl))
      sought
  backfill-of h view ask (Some target) sought floor = ⊎_elim
      (λ first. absurd (until-apart ask until.Finalization (ap (λ (a : Ask). a.until) first.2) floor refl))
      (λ pending. absurd (until-apart ask until.Finalization pending.0 floor refl))
      sought

  abbrev Back : ℕ → Asked
  Back view = record { view = view; ask = backfill; to = None }

  module _ (most : ℕ) (window : s.repair.window ≡ Some most) where
    -- such a view was not asked for since the time was told last, and is now
    record IsNew (p : Point S D P G C) (h : History S D P G C) (view : ℕ) : Type 0 where
      few : IsFew s.voter.length (repair_of f h) most view
      before : Contains (asks_now h) (Back view) → ⊥
      now : Contains (asks_now (p ∷ h)) (Back view)

    within-window : (h : History S D P G C) (view : ℕ) → IsOutstanding s.voter.length (repair_of f h) view → IsInWindow f s h view → IsFew s.voter.length (repair_of f h) most view
    within-window h view outstanding within =
        let w : (lower : List ℕ) × AreLower s.voter.length (repair_of f h) view lower × (length lower < most) = subst (λ (o : Option ℕ). IfSome o (λ n. (lower : List ℕ) × AreLower s.voter.length (repair_of f h) view lower × (length lower < n))) window within in
        record { outstanding = outstanding; lower = w.0; all = λ u is low. (w.1.exact u).1 (is, low); short = w.2 }

    new-now : (p : Point S D P G C) (h : History S D P G C) → Allowed g f s h p → (view : ℕ) → In (backfill_of p) view → IsNew p h view
    new-now (Asks at ask to) h a view here = go (is_until_floor ask.until) refl here
      where
        go : (b : Bool) → is_until_floor ask.until ≡ b → In (if b then at ∷ [] else []) view → IsNew (Asks at ask to) h view
        go false is there = absurd there
        go true is there =
            let b = backfill-of h at ask to a.due.sought is in
            let same : at ≡ view = ⊎_elim (λ e. e) (λ never. absurd never) there in
            subst (λ (v : ℕ). IsNew (Asks at ask to) h v) same (record {
              few = within-window h at b.outstanding (a.due.within b.of);
              before = λ asked. a.due.first (inr (subst (λ (y : Asked). Contains (sent_of s h) y) (sym b.is) (now-sent s h (Back at) asked)));
              now = subst (λ (y : Asked). Contains (asks_now (Asks at ask to ∷ h)) y) b.is (Contains-head {X = Asked} (record { view = at; ask = ask; to = to }) (asks_now h));
            })
    new-now p h a view here = absurd here

    -- each view that acts ask for so is one of the first where they begin, and was not asked for before
    record IsNewBehind (h : History S D P G C) (view : ℕ) : Type 0 where
      few : IsFew s.voter.length (repair_of f h) most view
      before : Contains (asks_now h) (Back view) → ⊥

    each-new : (h : History S D P G C) (acts : List (Point S D P G C)) (end : History S D P G C) → AreActs acts → All (λ p. makes_none p ≡ true) acts → Goes g f s h acts end → (view : ℕ) → In (backfills acts) view → IsNewBehind h view
    each-new h [] end own none goes view here = absurd here
    each-new h (p ∷ acts) end own none goes view here = ⊎_elim
        (λ now. let n = new-now p h goes.0 view now in record { few = n.few; before = n.before })
        (λ later.
        let r = each-new (p ∷ h) acts end (acts-rest g f s p acts own) (All-tail (λ (q : Point S D P G C). makes_none q ≡ true) p acts none) goes.1 view later in
        record {
          few = subst (λ (items : List Item). IsFew s.voter.length items most view) (repair-still p h (acts-head g f s p acts own) (All-head (λ (q : Point S D P G C). makes_none q ≡ true) p acts none)) r.few;
          before = λ asked. r.before (asks-stay p h (Back view) (acts-head g f s p acts own) asked);
        })
        (in-cases (backfill_of p) (backfills acts) view here)

    once-before : (b : Bool) (view : ℕ) (xs : List ℕ) → (b ≡ true → In xs view → ⊥) → Apart xs → Apart ((if b then view ∷ [] else []) ++ xs)
    once-before true view xs never once = (never refl, once)
    once-before false view xs never once = once

    each-once : (h : History S D P G C) (acts : List (Point S D P G C)) (end : History S D P G C) → AreActs acts → All (λ p. makes_none p ≡ true) acts → Goes g f s h acts end → Apart (backfills acts)
    each-once h [] end own none goes = tt
    each-once h (Asks view ask to ∷ acts) end own none goes =
        let rest_own = acts-rest g f s (Asks view ask to) acts own in
        let rest_none = All-tail (λ (q : Point S D P G C). makes_none q ≡ true) (Asks view ask to) acts none in
        once-before (is_until_floor ask.until) view (backfills acts)
        (λ is later.
        let b = backfill-of h view ask to goes.0.due.sought is in
        (each-new (Asks view ask to ∷ h) acts end rest_own rest_none goes.1 view later).before
        (subst (λ (y : Asked). Contains (asks_now (Asks view ask to ∷ h)) y) b.is (Contains-head {X = Asked} (record { view = view; ask = ask; to = to }) (asks_now h))))
        (each-once (Asks view ask to ∷ h) acts end rest_own rest_none goes.1)
    each-once h (p ∷ acts) end own none goes = each-once (p ∷ h) acts end (acts-rest g f s p acts own) (All-tail (λ (q : Point S D P G C). makes_none q ≡ true) p acts none) goes.1

  pub in-their-window : AsksAreInTheirWindow g f s
  in-their-window h end acts most window own none goes = few-views s.voter.length (repair_of f h) most (backfills acts) (each-once most window h acts end own none goes)
      (λ view here. (each-new most window h acts end own none goes view here).few)

  -- ---- nothing else waits for asks

  module _ (policy : RepairPolicy) where
    voter-alike : (h : History S D P G C) → voter_of (repairing policy s) h ≡ voter_of s h
    voter-alike [] = refl
    voter-alike (Opened moment ∷ h) = ap (λ (l : List (views.Point S D P G C)). started moment s.genesis ∷ l) (voter-alike h)
    voter-alike (p ∷ h) = ap (λ (l : List (views.Point S D P G C)). voter_points s (latest (p ∷ h)) (last_finalized l) p ++ l) (voter-alike h)

    -- the current view is given up, and a vote is due, by what the voter knows
    abbrev GivesUpBy : History S D P G C → List (views.Point S D P G C) → ℕ → Bool → Type 0
    GivesUpBy h l view voted = (view ≡ current s.voter l) × NullifyIsDue s.voter l (latest h) × (past.has_nullified (seen s.voter l view) ≡ voted)

    abbrev DueBy : History S D P G C → List (views.Point S D P G C) → Vote S D P G C → Type 0
    DueBy h l (vote.Notarize v) = NotarizeIsDue (member_of s) (known s.voter l) v.proposal.round.view × (held_at (member_of s) (known s.voter l) v.proposal.round.view ≡ Some v.proposal)
    DueBy h l (vote.Nullify v) = GivesUpBy h l v.round.view false
    DueBy h l (vote.Finalize v) = FinalizeIsDue (member_of s) (known s.voter l) v.proposal.round.view × (held_at (member_of s) (known s.voter l) v.proposal.round.view ≡ Some v.proposal)

    votes-there : (h : History S D P G C) (v : Vote S D P G C) → VoteIsDue g f s h v → VoteIsDue g f (repairing policy s) h v
    votes-there h (vote.Notarize v) due = subst (λ l. DueBy h l (vote.Notarize v)) (sym (voter-alike h)) due
    votes-there h (vote.Nullify v) due = subst (λ l. DueBy h l (vote.Nullify v)) (sym (voter-alike h)) due
    votes-there h (vote.Finalize v) due = subst (λ l. DueBy h l (vote.Finalize v)) (sym (voter-alike h)) due

    votes-here : (h : History S D P G C) (v : Vote S D P G C) → VoteIsDue g f (repairing policy s) h v → VoteIsDue g f s h v
    votes-here h (vote.Notarize v) due = subst (λ l. DueBy h l (vote.Notarize v)) (voter-alike h) due
    votes-here h (vote.Nullify v) due = subst (λ l. DueBy h l (vote.Nullify v)) (voter-alike h) due
    votes-here h (vote.Finalize v) due = subst (λ l. DueBy h l (vote.Finalize v)) (voter-alike h) due

    repeats-there : (h : History S D P G C) (v : Nullify S D P G C) (best : Option (Certificate S D P G C)) → RepeatIsDue g f s h v best → RepeatIsDue g f (repairing policy s) h v best
    repeats-there h v best r = record {
      due = subst (λ l. GivesUpBy h l v.round.view true) (sym (voter-alike h)) r.due;
      recorded = r.recorded;
      best_is = subst (λ l. best ≡ best_certificate s.voter l) (sym (voter-alike h)) r.best_is;
    }

    repeats-here : (h : History S D P G C) (v : Nullify S D P G C) (best : Option (Certificate S D P G C)) → RepeatIsDue g f (repairing policy s) h v best → RepeatIsDue g f s h v best
    repeats-here h v best r = record {
      due = subst (λ l. GivesUpBy h l v.round.view true) (voter-alike h) r.due;
      recorded = r.recorded;
      best_is = subst (λ l. best ≡ best_certificate s.voter l) (voter-alike h) r.best_is;
    }

    silent-there : (h : History S D P G C) (now : ℕ) → IsSilent g f s h now → IsSilent g f (repairing policy s) h now
    silent-there h now r = record {
      index = r.index;
      known = subst (λ l. leader s.voter l (current s.voter l) ≡ Some r.index) (sym (voter-alike h)) r.known;
      another = r.another;
      time = r.time;
      within = r.within;
      reached = r.reached;
    }

    silent-here : (h : History S D P G C) (now : ℕ) → IsSilent g f (repairing policy s) h now → IsSilent g f s h now
    silent-here h now r = record {
      index = r.index;
      known = subst (λ l. leader s.voter l (current s.voter l) ≡ Some r.index) (voter-alike h) r.known;
      another = r.another;
      time = r.time;
      within = r.within;
      reached = r.reached;
    }

    -- the current view is given up, by what the voter knows, where its leader is silent
    abbrev LatchesBy : List (views.Point S D P G C) → Type 0
    LatchesBy l = MayLatch s.voter l (current s.voter l) reason.Inactivity

    abbrev FallsBy : List (views.Point S D P G C) → ℕ → Type 0
    FallsBy l now = NullifyIsDue s.voter (latched now (current s.voter l) reason.Inactivity ∷ l) now

    wakes-there : (h : History S D P G C) (now : ℕ) → IsGivenUpAt g f s h now → IsGivenUpAt g f (repairing policy s) h now
    wakes-there h now given = ⊎_elim
        (λ due. inl (subst (λ l. NullifyIsDue s.voter l now) (sym (voter-alike h)) due))
        (λ silent. inr (silent-there h now silent.0, subst (λ l. LatchesBy l) (sym (voter-alike h)) silent.1, subst (λ l. FallsBy l now) (sym (voter-alike h)) silent.2))
        given

    wakes-here : (h : History S D P G C) (now : ℕ) → IsGivenUpAt g f (repairing policy s) h now → IsGivenUpAt g f s h now
    wakes-here h now given = ⊎_elim
        (λ due. inl (subst (λ l. NullifyIsDue s.voter l now) (voter-alike h) due))
        (λ silent. inr (silent-here h now silent.0, subst (λ l. LatchesBy l) (voter-alike h) silent.1, subst (λ l. FallsBy l now) (voter-alike h) silent.2))
        given

    of-asks-alone : (h : History S D P G C) → IsOfAsksAlone g f s policy h
    of-asks-alone h = record {
      voter = voter-alike h;
      votes = λ v. (votes-there h v, votes-here h v);
      repeats = λ v best. (repeats-there h v best, repeats-here h v best);
      retries = (
        λ known. subst (λ l. past.RetryIsKnown (seen s.voter l (current s.voter l))) (sym (voter-alike h)) known,
        λ known. subst (λ l. past.RetryIsKnown (seen s.voter l (current s.voter l))) (voter-alike h) known,
      );
      wakes = λ now. (wakes-there h now, wakes-here h now);
    }

  pub nothing-else-waits : NothingElseWaitsForAsks g f s
  nothing-else-waits h = (
    record {
      notarizes = λ v due held. (due, held);
      finalizes = λ v due held. (due, held);
      nullifies = λ v at due voted. (at, due, voted);
    },
    λ policy. of-asks-alone policy h,
  )
