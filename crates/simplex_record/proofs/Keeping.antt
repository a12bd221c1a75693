-- What is kept stands for all that was ever recorded: what may follow the one may follow the other.
use Rattle.std.proofs.Common.{◌≡◌, ◌⊎◌, inl, inr, ⊎_elim, ℕ, ◌+◌, ◌<◌, ◌≤◌, Bool, true, List, [], ◌∷◌, ◌++◌, length, refl, sym, ◌∙◌, ap, subst, arith, length-append}
use Rattle.std.specs.Prelude.{nat_lt, ⊤}
use Rattle.std.specs.List.{Contains, filter}
use Rattle.std.proofs.lemmas.Bool.{cases_lt, lt-ltb}
use Rattle.std.proofs.lemmas.List.Elements.{Contains-append_left, Contains-push, Contains-push_cases}
use Rattle.types_quorum.specs.Counting.{Contains-cases, Contains-head, Contains-rest}
use Rattle.types_core.specs.declared.position.Round.{Round}
use Rattle.types_core.specs.declared.proposal.Proposal.{Proposal}
use Rattle.types_core.specs.Subject.{Statement, notarize, nullify, finalize, statement_round}
use Rattle.simplex_record.specs.Record.{Entry, voted, taken, judged, finalizes, last_finalized, enters, current_view, floor, HasVoted, HasTaken, IsCovered}
use Rattle.simplex_record.specs.Rules.{AreAlike, MayFollow, MayEverFollow, reach}
use Rattle.simplex_record.specs.Kept.{StandsForAll, IsFrom}
use Rattle.simplex_record.proofs.Figures.{greatest-at, greatest-least, greatest-found}
use Rattle.simplex_record.proofs.Floors.{covered-ends, passes, passed, floor-final, floor-front, enters-reach, current-above, greatest-push, greatest-below}
use Rattle.simplex_record.proofs.Member.{IsVote}

-- what is below a number, told by a test
pub below-told : (m n : ℕ) → nat_lt m n ≡ true → m < n
below-told m n told = elim (cases_lt m n) [
  | inl below ↦ below
  | inr above ↦ grind (arith, told, above)
]

module _ {D : Type 0} where
  -- statements that are alike are of one view
  pub alike-view : (s t : Statement D) → AreAlike s t → (statement_round s).view ≡ (statement_round t).view
  alike-view (notarize p) (notarize q) like = like
  alike-view (notarize p) (nullify r) like = absurd like
  alike-view (notarize p) (finalize q) like = absurd like
  alike-view (nullify r) (notarize q) like = absurd like
  alike-view (nullify r) (nullify t) like = like
  alike-view (nullify r) (finalize q) like = absurd like
  alike-view (finalize p) (notarize q) like = absurd like
  alike-view (finalize p) (nullify r) like = absurd like
  alike-view (finalize p) (finalize q) like = like

  -- an entry finalizes something
  abbrev IsFinal : Entry D → Type 0
  IsFinal (voted s) = ⊥
  IsFinal (taken (notarize p)) = ⊥
  IsFinal (taken (nullify r)) = ⊥
  IsFinal (taken (finalize p)) = ⊤
  IsFinal (judged r verdict) = ⊥

  -- what a rewrite leaves of some entries
  abbrev pub left_by : ℕ → Proposal D → List (Entry D) → List (Entry D)
  left_by views p es = taken (finalize p) ∷ filter (λ e. nat_lt p.round.view (reach views e)) es

  pub in-left : (views : ℕ) (p : Proposal D) (es : List (Entry D)) (e : Entry D) → Contains es e → p.round.view < reach views e → Contains (left_by views p es) e
  in-left views p es e here reaches =
      let test = λ (x : Entry D). nat_lt p.round.view (reach views x) in
      Contains-rest (taken (finalize p)) (filter test es) e (passes test es e here (lt-ltb p.round.view (reach views e) reaches))

  pub from-left : (views : ℕ) (p : Proposal D) (es : List (Entry D)) (e : Entry D) → Contains (left_by views p es) e → (taken (finalize p) ≡ e) ⊎ (Contains es e × (p.round.view < reach views e))
  from-left views p es e here =
      let test = λ (x : Entry D). nat_lt p.round.view (reach views x) in
      ⊎_elim
      (λ first. inl first)
      (λ later. let was = passed test es e later in inr (was.0, below-told p.round.view (reach views e) was.1))
      (Contains-cases (taken (finalize p)) (filter test es) e here)

  -- ---- what is kept stands for all

  pub nothing-stands-for : (views : ℕ) → StandsForAll {D = D} views [] []
  nothing-stands-for views = record {
    within = λ e here. here;
    above = λ e here reaches. here;
    floors = omega arith;
    final = refl;
    current = refl;
    nothing = λ none. refl;
  }

  -- the floors of both, with one more entry
  floors-further : (ever kept : List (Entry D)) (e : Entry D) → (kept ≡ [] → ever ≡ []) → ((x : Entry D) → Contains kept x → Contains ever x) → floor ever ≤ floor kept → floor (ever ++ e ∷ []) ≤ floor (kept ++ e ∷ [])
  floors-further [] [] e nothing within low = omega arith
  floors-further (x ∷ ever) [] e nothing within low = absurd (omega (arith, ap length (nothing refl)))
  floors-further [] (k ∷ kept) e nothing within low = absurd (omega (arith, (within k (Contains-head k kept)).1))
  floors-further (x ∷ ever) (k ∷ kept) e nothing within low = low

  pub stands-further-for : (views : ℕ) (ever kept : List (Entry D)) (e : Entry D) → StandsForAll views ever kept → StandsForAll views (ever ++ e ∷ []) (kept ++ e ∷ [])
  stands-further-for views ever kept e s = record {
    within = λ x here. ⊎_elim
        (λ old. Contains-append_left ever (e ∷ []) x (s.within x old))
        (λ new. subst (λ (y : Entry D). Contains (ever ++ e ∷ []) y) new (Contains-push ever e))
        (Contains-push_cases kept e x here);
    above = λ x here reaches. ⊎_elim
        (λ old. Contains-append_left kept (e ∷ []) x (s.above x old (omega (arith, floor-front kept (e ∷ []), reaches))))
        (λ new. subst (λ (y : Entry D). Contains (kept ++ e ∷ []) y) new (Contains-push kept e))
        (Contains-push_cases ever e x here);
    floors = floors-further ever kept e s.nothing s.within s.floors;
    final = omega (arith, greatest-push 0 finalizes kept e, greatest-push 0 finalizes ever e, s.final);
    current = omega (arith, greatest-push 1 (enters views) kept e, greatest-push 1 (enters views) ever e, s.current);
    nothing = λ none. absurd (omega (arith, ap length none, length-append kept (e ∷ [])));
  }

  -- a rewrite leaves the last finalized view and the current one
  pub left-final : (views : ℕ) (p : Proposal D) (es : List (Entry D)) → last_finalized es ≤ p.round.view → last_finalized (left_by views p es) ≡ p.round.view
  left-final views p es last =
      let low : last_finalized (left_by views p es) ≤ p.round.view = greatest-below 0 p.round.view finalizes (left_by views p es) (omega arith)
      (λ e here. ⊎_elim
      (λ first. omega (arith, ap finalizes first))
      (λ old. omega (arith, greatest-at 0 finalizes es e old.0, last))
      (from-left views p es e here)) in
      omega (arith, low)

  pub left-current : (views : ℕ) (p : Proposal D) (es : List (Entry D)) → last_finalized es ≡ p.round.view → current_view views (left_by views p es) ≡ current_view views es
  left-current views p es last =
      let head : p.round.view + 1 ≤ current_view views (left_by views p es) = omega arith in
      let low : current_view views (left_by views p es) ≤ current_view views es = greatest-below 1 (current_view views es) (enters views) (left_by views p es) (greatest-least 1 (enters views) es)
      (λ e here. ⊎_elim
      (λ first. omega (arith, ap (enters views) first, current-above views es, last))
      (λ old. greatest-at 1 (enters views) es e old.0)
      (from-left views p es e here)) in
      let high : current_view views es ≤ current_view views (left_by views p es) = greatest-below 1 (current_view views (left_by views p es)) (enters views) es (greatest-least 1 (enters views) (left_by views p es))
      (λ e here. elim (cases_lt p.round.view (reach views e)) [
        | inl reaches ↦ greatest-at 1 (enters views) (left_by views p es) e (in-left views p es e here reaches)
        | inr short ↦ omega (arith, enters-reach views e, short, head)
      ]) in
      omega (arith, low, high)

  pub stands-rewritten : (views : ℕ) (ever kept : List (Entry D)) (p : Proposal D) → HasTaken kept (finalize p) → p.round.view ≡ last_finalized kept → StandsForAll views ever kept → StandsForAll views ever (left_by views p kept)
  stands-rewritten views ever kept p there last s = record {
    within = λ e here. ⊎_elim
        (λ first. subst (λ (y : Entry D). Contains ever y) first (s.within (taken (finalize p)) there))
        (λ old. s.within e old.0)
        (from-left views p kept e here);
    above = λ e here reaches. in-left views p kept e (s.above e here (omega (arith, floor-final kept, last, reaches))) reaches;
    floors = omega (arith, s.floors, floor-final kept, last);
    final = left-final views p kept (omega (arith, last)) ∙ last ∙ s.final;
    current = left-current views p kept (sym last) ∙ s.current;
    nothing = λ none. absurd (omega (arith, ap length none));
  }

  -- ---- one judgement

  module _ (views : ℕ) (some : 0 < views) (ever kept : List (Entry D)) (s : StandsForAll views ever kept) where
    covered-kept : (view : ℕ) → floor kept < view → IsCovered views ever view → IsCovered views kept view
    covered-kept view above c = (c.0, c.1, s.above (taken (nullify c.0)) c.2 (omega (arith, above, covered-ends views view c.0.view some c.1)))

    voted-kept : (x : Statement D) → floor kept < (statement_round x).view → HasVoted ever x → HasVoted kept x
    voted-kept x above here = s.above (voted x) here above

    -- what may follow by all that was ever recorded may follow by what is kept
    pub may-follow : (e : Entry D) → MayEverFollow views ever kept e → MayFollow views kept e
    may-follow (voted (notarize p)) may = record {
      room = may.may.room;
      behind = may.behind_kept;
      first = λ t like here. may.may.first t like (s.within (voted t) here);
      not_given_up = λ t like here. may.may.not_given_up t like (s.within (voted t) here);
      parent_below = may.may.parent_below;
      covered = λ view above below reaches. covered-kept view reaches (may.may.covered view above below (omega (arith, s.floors, reaches)));
    }
    may-follow (voted (nullify r)) may = record {
      room = may.room;
      current = may.current ∙ sym s.current;
      first = λ t like here. may.first t like (s.within (voted t) here);
      not_finalized = λ p same here. may.not_finalized p same (s.within (voted (finalize p)) here);
    }
    may-follow (voted (finalize p)) may =
        let above : last_finalized kept < p.round.view = omega (arith, may.above, s.final) in
        let behind : floor kept < p.round.view = omega (arith, above, floor-final kept) in
        record {
          above = above;
          not_given_up = λ t like here. may.not_given_up t like (s.within (voted t) here);
          first = λ t like here. may.first t like (s.within (voted t) here);
          notarized = s.above (taken (notarize p)) may.notarized behind;
          certified = (may.certified.0, may.certified.1, s.above (judged may.certified.0 true) may.certified.2 (omega (arith, behind, may.certified.1)));
          no_other = λ q same has. may.no_other q same (⊎_elim (λ n. inl (s.within (taken (notarize q)) n)) (λ f. inr (s.within (taken (finalize q)) f)) has);
          healed = λ r begun below here. omega (arith, may.healed r begun below (s.within (voted (nullify r)) here), s.final);
        }
    may-follow (taken x) may = may
    may-follow (judged r verdict) may = may

    -- and the other way round, where a vote to notarize names a parent at or above the floor of what is kept
    pub may-ever-follow : (e : Entry D) → IsFrom (floor kept) e → MayFollow views kept e → MayEverFollow views ever kept e
    may-ever-follow (voted (notarize p)) high may = record {
      may = record {
        room = may.room;
        behind = omega (arith, s.floors, may.behind);
        first = λ t like here. may.first t like (voted-kept t (omega (arith, may.behind, alike-view (notarize p) t like)) here);
        not_given_up = λ t like here. may.not_given_up t like (voted-kept t (omega (arith, may.behind, alike-view (nullify p.round) t like)) here);
        parent_below = may.parent_below;
        covered = λ view above below reaches.
            let c = may.covered view above below (omega (arith, high, above)) in
            (c.0, c.1, s.within (taken (nullify c.0)) c.2);
      };
      from_floor = omega (arith, s.floors, high);
      behind_kept = may.behind;
    }
    may-ever-follow (voted (nullify r)) high may =
        let behind : floor kept < r.view = omega (arith, may.current, current-above views kept, floor-final kept) in
        record {
          room = may.room;
          current = may.current ∙ s.current;
          first = λ t like here. may.first t like (voted-kept t (omega (arith, behind, alike-view (nullify r) t like)) here);
          not_finalized = λ p same here. may.not_finalized p same (voted-kept (finalize p) (omega (arith, behind, same)) here);
        }
    may-ever-follow (voted (finalize p)) high may =
        let behind : floor kept < p.round.view = omega (arith, may.above, floor-final kept) in
        record {
          above = omega (arith, may.above, s.final);
          not_given_up = λ t like here. may.not_given_up t like (voted-kept t (omega (arith, behind, alike-view (nullify p.round) t like)) here);
          first = λ t like here. may.first t like (voted-kept t (omega (arith, behind, alike-view (finalize p) t like)) here);
          notarized = s.within (taken (notarize p)) may.notarized;
          certified = (may.certified.0, may.certified.1, s.within (judged may.certified.0 true) may.certified.2);
          no_other = λ q same has. may.no_other q same (⊎_elim
              (λ n. inl (s.above (taken (notarize q)) n (omega (arith, behind, same))))
              (λ f. inr (s.above (taken (finalize q)) f (omega (arith, behind, same))))
              has);
          healed = λ r begun below here. elim (cases_lt (floor kept) r.view) [
            | inl above ↦ omega (arith, may.healed r begun below (s.above (voted (nullify r)) here above), s.final)
            | inr low ↦ omega (arith, low, floor-final kept, s.final)
          ];
        }
    may-ever-follow (taken x) high may = may
    may-ever-follow (judged r verdict) high may = may

  -- ---- what a rewrite leaves

  module _ (views : ℕ) (some : 0 < views) (p : Proposal D) (before : List (Entry D)) (last : last_finalized before ≤ p.round.view) where
    votes-before : (t : Statement D) → HasVoted (left_by views p before) t → HasVoted before t
    votes-before t here = ⊎_elim (λ first. absurd (subst IsVote (sym first) tt)) (λ old. old.0) (from-left views p before (voted t) here)

    not-notarized : (q : Proposal D) → taken (finalize p) ≡ taken (notarize q) → ⊥
    not-notarized q same = subst IsFinal same tt

    not-judged : (r : Round) (verdict : Bool) → taken (finalize p) ≡ judged r verdict → ⊥
    not-judged r verdict same = subst IsFinal same tt

    none-alike : (x t : Statement D) → AreAlike x t → taken (finalize p) ≡ taken t → p.round.view < reach views (taken x) → ⊥
    none-alike (notarize q) (notarize o) like same reaches = subst IsFinal same tt
    none-alike (notarize q) (nullify r) like same reaches = like
    none-alike (notarize q) (finalize o) like same reaches = like
    none-alike (nullify r) (notarize o) like same reaches = like
    none-alike (nullify r) (nullify t) like same reaches = subst IsFinal same tt
    none-alike (nullify r) (finalize o) like same reaches = like
    none-alike (finalize q) (notarize o) like same reaches = like
    none-alike (finalize q) (nullify r) like same reaches = like
    none-alike (finalize q) (finalize o) like same reaches = omega (arith, like, ap finalizes same, reaches)

    -- the current view, where it lies above the floor
    current-left : (view : ℕ) → p.round.view < view → view ≡ current_view views before → view ≡ current_view views (left_by views p before)
    current-left view above is =
        let left = left_by views p before in
        let head : p.round.view + 1 ≤ current_view views left = omega arith in
        let low : current_view views left ≤ view = greatest-below 1 view (enters views) left (omega (arith, above))
        (λ e here. ⊎_elim
        (λ first. omega (arith, ap (enters views) first, above))
        (λ old. omega (arith, greatest-at 1 (enters views) before e old.0, is))
        (from-left views p before e here)) in
        let high : view ≤ current_view views left = ⊎_elim
        (λ none. omega (arith, none, is, greatest-least 1 (enters views) left))
        (λ found. elim (cases_lt p.round.view (reach views found.0)) [
          | inl reaches ↦ omega (arith, is, found.2, greatest-at 1 (enters views) left found.0 (in-left views p before found.0 found.1 reaches))
          | inr short ↦ omega (arith, is, found.2, enters-reach views found.0, short, head)
        ])
        (greatest-found 1 (enters views) before) in
        omega (arith, low, high)

    -- what may follow these may follow what a rewrite leaves of them, where it reaches above the floor
    pub may-still : (e : Entry D) → p.round.view < reach views e → MayFollow views before e → MayFollow views (left_by views p before) e
    may-still (voted (notarize q)) reaches may = record {
      room = may.room;
      behind = reaches;
      first = λ t like here. may.first t like (votes-before t here);
      not_given_up = λ t like here. may.not_given_up t like (votes-before t here);
      parent_below = may.parent_below;
      covered = λ view above below higher.
          let c = may.covered view above below (omega (arith, floor-final before, last, higher)) in
          (c.0, c.1, in-left views p before (taken (nullify c.0)) c.2 (omega (arith, higher, covered-ends views view c.0.view some c.1)));
    }
    may-still (voted (nullify r)) reaches may = record {
      room = may.room;
      current = current-left r.view reaches may.current;
      first = λ t like here. may.first t like (votes-before t here);
      not_finalized = λ q same here. may.not_finalized q same (votes-before (finalize q) here);
    }
    may-still (voted (finalize q)) reaches may =
        let final : last_finalized (left_by views p before) ≡ p.round.view = left-final views p before last in
        record {
          above = omega (arith, final, reaches);
          not_given_up = λ t like here. may.not_given_up t like (votes-before t here);
          first = λ t like here. may.first t like (votes-before t here);
          notarized = in-left views p before (taken (notarize q)) may.notarized reaches;
          certified = (may.certified.0, may.certified.1, in-left views p before (judged may.certified.0 true) may.certified.2 (omega (arith, reaches, may.certified.1)));
          no_other = λ o same has. may.no_other o same (⊎_elim
              (λ n. ⊎_elim (λ first. absurd (not-notarized o first)) (λ old. inl old.0) (from-left views p before (taken (notarize o)) n))
              (λ f. ⊎_elim (λ first. absurd (omega (arith, ap finalizes first, same, reaches))) (λ old. inr old.0) (from-left views p before (taken (finalize o)) f))
              has);
          healed = λ r begun below here. omega (arith, may.healed r begun below (votes-before (nullify r) here), last, final);
        }
    may-still (taken x) reaches may = record {
      from_one = may.from_one;
      room = may.room;
      parent_below = may.parent_below;
      first = λ t like here. ⊎_elim
          (λ first. none-alike x t like first reaches)
          (λ old. may.first t like old.0)
          (from-left views p before (taken t) here);
    }
    may-still (judged r verdict) reaches may = record {
      notarized = (may.notarized.0, may.notarized.1, in-left views p before (taken (notarize may.notarized.0)) may.notarized.2 (omega (arith, reaches, ap (λ (t : Round). t.view) may.notarized.1)));
      first = λ t ok same here. ⊎_elim (λ first. not-judged t ok first) (λ old. may.first t ok same old.0) (from-left views p before (judged t ok) here);
    }
