-- What is kept of what is dropped.
use Rattle.std.proofs.Common.{◌≡◌, ◌↔◌, ◌<◌, ◌≤◌, ◌+◌, ◌++◌, ◌==◌, ℕ, true, false, ⊎_elim, List, [], ◌∷◌, refl, sym, ap, subst, ◌∙◌, arith, if◌then◌else◌}
use Rattle.std.specs.Prelude.{Option, Some, None, Bool, AllPairs, Contains, is_some, nat_le, nat_lt, slice_index_or, ◌&&◌}
use Rattle.std.specs.Option.{option_or}
use Rattle.std.specs.Ordering.{nat_cmp, is_eq, is_lt}
use Rattle.std.specs.declared.cmp.Ordering.TheVariants.{Less}
use Rattle.std.specs.Cmp.{nat_cmp_is}
use Rattle.std.specs.BTreeMap.{BTreeMap, get}
use Rattle.std.proofs.lemmas.Grind.{common_steps}
use Rattle.std.proofs.lemmas.Bool.{cases_eq, cases_lt}
use Rattle.std.proofs.lemmas.Bool.Decides.{nat_tests}
use Rattle.std.proofs.lemmas.List.Elements.{Contains-append_left, Contains-get_or, Contains-push, Contains-push_cases}
use Rattle.std.proofs.lemmas.List.Quantifiers.{all_pairs_push}
use Rattle.types_quorum.specs.Counting.{Contains-nil}
use Rattle.types_core.specs.Positions.{term_end}
use Rattle.types_core.specs.declared.scheme.Scheme.{Ghosts}
use Rattle.messages_certificates.specs.declared.nullification.Nullification.{Nullification}
use Rattle.simplex_round.specs.declared.round.Round.{Round}
use Rattle.voter_history.specs.Past as past
use Rattle.voter_history.specs.Past.{Item}
use Rattle.simplex_round.specs.Round as one
use Rattle.voter_rounds.specs.Rounds.{AreUntracked, Common, IsFirstBelow, IsTracked, setup_of}
use Rattle.voter_rounds.specs.declared.tracked.Tracked.{Tracked}
use Rattle.voter_rounds.specs.Tracked.{Frame, Holds, Tables, forgotten}
use Rattle.voter_views.specs.Views.{kept_from}
use Rattle.voter_history.specs.Leading.{or_none}

pub apart_from_lt : (a b : ℕ) → a < b → is_eq (nat_cmp a b) ≡ false
apart_from_lt a b lt = grind (arith, nat_tests)

pub less_from_lt : (a b : ℕ) → a < b → nat_cmp a b ≡ Less
less_from_lt a b lt = sym (nat_cmp_is a b Less lt)

none_below : {X : Type 0} (u : ℕ) (none x : X) → x ≡ (if nat_lt u 0 then none else x)
none_below u none x = let from : nat_lt u 0 ≡ false = grind (arith, nat_tests) in rw from refl

dropped_twice : {X : Type 0} (one end u : ℕ) (none x : X) → one ≤ end → (if nat_lt u end then none else (if nat_lt u one then none else x)) ≡ (if nat_lt u end then none else x)
dropped_twice one end u none x up = ⊎_elim
    (λ lt. let below : nat_lt u end ≡ true = grind (arith, nat_tests, lt) in rw below refl)
    (λ ge. let above : nat_lt u one ≡ false = grind (arith, nat_tests, ge, up) in rw above refl)
    (cases_lt u end)

-- what is kept of a view where one of them is taken out: nothing more if it lies before the first, is kept already, or there is none
module _ {A : Type 0} (view first u : ℕ) where
  pub unkept-before : (kept n : Option A) (test : Bool) → test ≡ is_lt (nat_cmp view first) → test ≡ true → kept ≡ (if view == u then option_or kept (if nat_lt u first then None else n) else kept)
  unkept-before kept n test is so = ⊎_elim
      (λ same.
      let here : (view == u) ≡ true = grind (arith, common_steps) in
      let gone : nat_lt u first ≡ true = grind (arith, nat_tests, is, so, same) in
      rw (here, gone) (sym (or_none kept)))
      (λ other. let apart : (view == u) ≡ false = grind (arith, common_steps) in rw apart refl)
      (cases_eq view u)

  pub unkept-none : (kept n : Option A) → n ≡ None → kept ≡ (if view == u then option_or kept (if nat_lt u first then None else n) else kept)
  unkept-none kept n none = rw none (unkept (view == u) (nat_lt u first)) where
    unkept : (here before : Bool) → kept ≡ (if here then option_or kept (if before then None else None) else kept)
    unkept true true = sym (or_none kept)
    unkept true false = sym (or_none kept)
    unkept false before = refl

  pub unkept-there : (kept : ℕ → Option A) (n : Option A) (test : Bool) → test ≡ is_some (kept view) → test ≡ true → kept u ≡ (if view == u then option_or (kept u) (if nat_lt u first then None else n) else kept u)
  unkept-there kept n test is so = ⊎_elim
      (λ same. let here : (view == u) ≡ true = grind (arith, common_steps) in rw here (first_there (kept u) (if nat_lt u first then None else n) (subst (λ w. is_some (kept w) ≡ true) same (sym is ∙ so))))
      (λ other. let apart : (view == u) ≡ false = grind (arith, common_steps) in rw apart refl)
      (cases_eq view u)
    where
      first_there : (a b : Option A) → is_some a ≡ true → a ≡ option_or a b
      first_there None b never = absurd (cc never)
      first_there (Some x) b is = refl

  pub kept-new : (old new : ℕ → Option A) (n : Option A) (copy : A) (test there : Bool) → test ≡ is_lt (nat_cmp view first) → test ≡ false → there ≡ is_some (old view) → there ≡ false → Some copy ≡ n → new view ≡ Some copy
      → ((w : ℕ) → is_eq (nat_cmp view w) ≡ false → new w ≡ old w) → new u ≡ (if view == u then option_or (old u) (if nat_lt u first then None else n) else old u)
  kept-new old new n copy test there tested from looked bare is at others = ⊎_elim
      (λ same.
      let here : (view == u) ≡ true = grind (arith, common_steps) in
      let behind : nat_lt u first ≡ false = grind (arith, nat_tests, tested, from, same) in
      rw (here, behind) (subst (λ w. new w ≡ option_or (old w) n) same (at ∙ is ∙ sole (old view) n (sym looked ∙ bare))))
      (λ other.
      let apart : (view == u) ≡ false = grind (arith, common_steps) in
      let unlike : is_eq (nat_cmp view u) ≡ false = grind (arith, nat_tests, other) in
      rw apart (others u unlike))
      (cases_eq view u)
    where
      sole : (a b : Option A) → is_some a ≡ false → b ≡ option_or a b
      sole None b none = refl
      sole (Some x) b never = absurd (cc never)

module _ {S D P G C : Type 0} where
  -- the nullification of a view from the first on
  abbrev pub from_first : ℕ → List (Item S D P G C) → ℕ → Option (Nullification S D P G C)
  from_first first x view = if nat_lt view first then None else past.nullification x

  -- the views before an end were dropped, and their nullifications from the first on are kept
  pub record IsPart (t : Tables S D P G C) (first floor : ℕ) (old now : BTreeMap ℕ (Nullification S D P G C)) (views : List ℕ) (end : ℕ) : Type 0 where
    pub up : end ≤ floor
    pub exact : (view : ℕ) → Contains views view ↔ ((view < end) × IsTracked (t.past view) (t.led view))
    pub ascend : AllPairs (λ (u w : ℕ). u < w) views
    pub kept : (u : ℕ) → get nat_cmp now u ≡ kept_from first end (get nat_cmp old u) (t.past u) u

module _ {S D P G C : Type 0} where
  nothing : (b : Bool) (x : List (Item S D P G C)) → x ≡ [] → (if b then None else past.nullification x) ≡ None
  nothing true x e = refl
  nothing false x e = rw e refl

  -- what is dropped up to one end and then up to a later one is dropped up to that
  pub forgotten-twice : (one end : ℕ) (t : Tables S D P G C) → one ≤ end → forgotten end (forgotten one t) ≡ forgotten end t
  forgotten-twice one end t up = λ i. record {
    led = λ u. dropped_twice one end u None (t.led u) up i;
    past = λ u. dropped_twice one end u [] (t.past u) up i;
    noted = λ u. dropped_twice one end u false (t.noted u) up i;
  }

  -- nothing lies below the start
  pub forgotten-none : (t : Tables S D P G C) → t ≡ forgotten 0 t
  forgotten-none t = λ i. record { led = λ u. none_below u None (t.led u) i; past = λ u. none_below u [] (t.past u) i; noted = λ u. none_below u false (t.noted u) i }

  untracked : (past : List (Item S D P G C)) (led : Option ℕ) → past ≡ [] → led ≡ None → IsTracked past led → ⊥
  untracked past led none nobody tracked = ⊎_elim (λ seen. seen none) (λ known. cc (rw nobody at known)) tracked

  -- what is kept of a view is the same whether more of which nothing is known is dropped
  kept_on : (first end last view : ℕ) (kept : Option (Nullification S D P G C)) (x : List (Item S D P G C)) → end ≤ last → (end ≤ view → view < last → x ≡ [])
      → kept_from first end kept x view ≡ kept_from first last kept x view
  kept_on first end last view kept x up bare = ⊎_elim
      (λ lt.
      let one : nat_lt view end ≡ true = grind (arith, nat_tests, lt) in
      let two : nat_lt view last ≡ true = grind (arith, nat_tests, lt, up) in
      rw (one, two) refl)
      (λ from.
      let one : nat_lt view end ≡ false = grind (arith, nat_tests, from) in
      ⊎_elim
      (λ lt. let two : nat_lt view last ≡ true = grind (arith, nat_tests, lt) in rw (one, two) (sym (ap (option_or kept) (nothing (nat_lt view first) x (bare from lt)) ∙ or_none kept)))
      (λ ge. let two : nat_lt view last ≡ false = grind (arith, nat_tests, ge) in rw (one, two) refl)
      (cases_lt view last))
      (cases_lt view end)

module _ {S D P G C : Type 0} {t : Tables S D P G C} {first floor : ℕ} {old : BTreeMap ℕ (Nullification S D P G C)} where
  -- at first nothing was dropped
  pub IsPart-begun : IsPart t first floor old old [] 0
  IsPart-begun = record {
    up = omega arith;
    exact = λ view. (λ there. absurd (Contains-nil view there), λ both. let never = both.0 in absurd (omega (arith, never)));
    ascend = λ i j d before inside. absurd (omega (arith, inside));
    kept = λ u. none_below u (option_or (get nat_cmp old u) (from_first first (t.past u) u)) (get nat_cmp old u);
  }

module _ {S D P G C : Type 0} {t : Tables S D P G C} {first floor : ℕ} {old now : BTreeMap ℕ (Nullification S D P G C)} {views : List ℕ} where
  module _ {end : ℕ} (part : IsPart t first floor old now views end) where
    -- what is known of a view that was not dropped yet
    still : (view : ℕ) → end ≤ view → nat_lt view end ≡ false
    still view from = grind (arith, nat_tests, from)

    not_dropped : (view : ℕ) → IsTracked ((forgotten end t).past view) ((forgotten end t).led view) → end ≤ view
    not_dropped view tracked = ⊎_elim
        (λ lt. let gone : nat_lt view end ≡ true = grind (arith, nat_tests, lt) in absurd (untracked [] None refl refl (rw gone at tracked)))
        (λ ge. ge)
        (cases_lt view end)

    bare_from : {last : ℕ} → AreUntracked (forgotten end t).led (forgotten end t).past 0 last → (view : ℕ) → end ≤ view → view < last → (t.past view ≡ []) × (t.led view ≡ None)
    bare_from bare view from below = rw (still view from) at (bare view (omega arith) below)

    -- the views up to a later end are those up to this one, where those between are untracked
    exact_on : {last : ℕ} → AreUntracked (forgotten end t).led (forgotten end t).past 0 last → (view : ℕ) → view < last → IsTracked (t.past view) (t.led view) → view < end
    exact_on bare view below tracked = ⊎_elim
        (λ lt. lt)
        (λ from. let none = bare_from bare view from below in absurd (untracked (t.past view) (t.led view) none.0 none.1 tracked))
        (cases_lt view end)

    -- at last what is left is not tracked
    pub IsPart-ended : AreUntracked (forgotten end t).led (forgotten end t).past 0 floor → IsPart t first floor old now views floor
    IsPart-ended bare = record {
      up = omega arith;
      exact = λ view. (
        λ there. let both = (part.exact view).0 there in (let lt = both.0 in let up = part.up in omega (arith, lt, up), both.1),
        λ both. (part.exact view).1 (exact_on bare view both.0 both.1, both.1),
      );
      ascend = part.ascend;
      kept = λ u. part.kept u ∙ kept_on first end floor u (get nat_cmp old u) (t.past u) part.up (λ from lt. (bare_from bare u from lt).0);
    }

    module _ {key_of : S → ℕ → P} {s : Common S} {view : ℕ} {round : Round S D P G C} (is : IsFirstBelow key_of s floor view round (forgotten end t).led (forgotten end t).past) where
      pub next_from : end ≤ view
      next_from = not_dropped view is.first.tracked

      next_tracked : IsTracked (t.past view) (t.led view)
      next_tracked = rw (still view next_from) at is.first.tracked

      -- its round stands where it did at first
      pub IsPart-stands : one.Keeps key_of (setup_of s view) round (t.led view) (t.past view)
      IsPart-stands = rw (still view next_from) at is.stands

      -- the next view is dropped
      pub IsPart-next : {next : BTreeMap ℕ (Nullification S D P G C)}
          → ((u : ℕ) → get nat_cmp next u ≡ (if view == u then option_or (get nat_cmp now u) (if nat_lt u first then None else past.nullification (t.past view)) else get nat_cmp now u))
          → IsPart t first floor old next (views ++ view ∷ []) (view + 1)
      IsPart-next {next} keeps =
          let from = next_from in
          let below = is.below in
          record {
            up = omega (arith, below);
            exact = λ u. (
              λ there. ⊎_elim
                  (λ among. let both = (part.exact u).0 among in (let lt = both.0 in omega (arith, lt, from), both.1))
                  (λ same. (omega (arith, same), subst (λ w. IsTracked (t.past w) (t.led w)) same next_tracked))
                  (Contains-push_cases views view u there),
              λ both. ⊎_elim
                  (λ same. subst (λ w. Contains (views ++ view ∷ []) w) same (Contains-push views view))
                  (λ other.
                  let lt = both.0 in
                  let before : u < view = omega (arith, lt, other) in
                  Contains-append_left views (view ∷ []) u ((part.exact u).1 (exact_on is.first.bare u before both.1, both.1)))
                  (cases_eq view u),
            );
            ascend = all_pairs_push (λ (u w : ℕ). u < w) views view part.ascend (λ k d inside. let lt = ((part.exact (slice_index_or views k d)).0 (Contains-get_or views k d inside)).0 in omega (arith, lt, from));
            kept = λ u. ⊎_elim
                (λ same.
                let here : (view == u) ≡ true = grind (arith, common_steps) in
                let old_still : nat_lt u end ≡ false = grind (arith, nat_tests, from, same) in
                let new_below : nat_lt u (view + 1) ≡ true = grind (arith, nat_tests, same) in
                let now_is : get nat_cmp now u ≡ get nat_cmp old u = rw old_still at (part.kept u) in
                let new : get nat_cmp next u ≡ option_or (get nat_cmp now u) (from_first first (t.past u) u) = subst (λ n. get nat_cmp next u ≡ option_or (get nat_cmp now u) (from_first first (t.past n) u)) same (rw here at (keeps u)) in
                rw new_below (new ∙ ap (λ k. option_or k (from_first first (t.past u) u)) now_is))
                (λ other.
                let apart : (view == u) ≡ false = grind (arith, common_steps) in
                let new : get nat_cmp next u ≡ get nat_cmp now u = rw apart at (keeps u) in
                new ∙ part.kept u ∙ kept_on first end (view + 1) u (get nat_cmp old u) (t.past u) (omega (arith, from)) (λ behind lt. (bare_from is.first.bare u behind (omega (arith, lt, other))).0))
                (cases_eq view u);
          }

module _ {S D P G C : Type 0} (g : Ghosts S D P G C) (f : Frame S) (x : Tracked S D P G C) {t : Tables S D P G C} {first floor : ℕ} {old now : BTreeMap ℕ (Nullification S D P G C)} {views : List ℕ} where
  -- with what is known of all views behind that
  pub IsPart-step : {end view : ℕ} {round : Round S D P G C} {next : BTreeMap ℕ (Nullification S D P G C)} (part : IsPart t first floor old now views end)
      → (is : IsFirstBelow g.key_of f.common floor view round (forgotten end t).led (forgotten end t).past) → Holds g f x (forgotten (view + 1) (forgotten end t))
      → ((u : ℕ) → get nat_cmp next u ≡ (if view == u then option_or (get nat_cmp now u) (if nat_lt u first then None else past.nullification (t.past view)) else get nat_cmp now u))
      → (last : ℕ) × Holds g f x (forgotten last t) × IsPart t first floor old next (views ++ view ∷ []) last
  IsPart-step {end} {view} part is holds keeps = let from = next_from part is in (view + 1, subst (λ y. Holds g f x y) (forgotten-twice end (view + 1) t (omega (arith, from))) holds, IsPart-next part is keeps)

module _ {S D P G C : Type 0} where
  -- the nullification of each view behind a prune
  pub pruned-nullification : (views last floor first view : ℕ) (was old cut new : Option (Nullification S D P G C)) (x : List (Item S D P G C))
      → first ≤ floor → (view < floor → (view < first) ↔ (term_end views view ≤ last)) → was ≡ option_or old (past.nullification x)
      → cut ≡ (if nat_lt view first then None else old) → new ≡ kept_from first floor cut x view
      → (if nat_lt view floor && nat_le (term_end views view) last then None else was) ≡ option_or new (past.nullification (if nat_lt view floor then [] else x))
  pruned-nullification views last floor first view was old cut new x up reaches is_was is_cut is_new = ⊎_elim
      (λ lt.
      let below : nat_lt view floor ≡ true = grind (arith, nat_tests, lt) in
      ⊎_elim
      (λ gone.
      let ended : nat_le (term_end views view) last ≡ true = grind (arith, nat_tests, (reaches lt).0 gone) in
      let before : nat_lt view first ≡ true = grind (arith, nat_tests, gone) in
      let cut_none : cut ≡ None = rw before at is_cut in
      let new_none : new ≡ None = rw (below, before, cut_none) at is_new in
      rw (below, ended, new_none) refl)
      (λ kept.
      let reaching : nat_le (term_end views view) last ≡ false = grind (arith, nat_tests, kept, reaches lt) in
      let from : nat_lt view first ≡ false = grind (arith, nat_tests, kept) in
      let cut_same : cut ≡ old = rw from at is_cut in
      let new_is : new ≡ option_or old (past.nullification x) = rw (below, from, cut_same) at is_new in
      rw (below, reaching) (is_was ∙ sym new_is ∙ sym (or_none new)))
      (cases_lt view first))
      (λ ge.
      let above : nat_lt view floor ≡ false = grind (arith, nat_tests, ge) in
      let from : nat_lt view first ≡ false = grind (arith, nat_tests, ge, up) in
      let cut_same : cut ≡ old = rw from at is_cut in
      let new_same : new ≡ old = rw above at is_new ∙ cut_same in
      rw (above, new_same) is_was)
      (cases_lt view floor)

-- what there is behind a prune is what there was from the first on
pub pruned-is_some : {A : Type 0} (views last floor first view : ℕ) (was : Option A) → first ≤ floor → (view < floor → (view < first) ↔ (term_end views view ≤ last))
    → is_some (if nat_lt view floor && nat_le (term_end views view) last then None else was) ≡ (if nat_lt view first then false else is_some was)
pruned-is_some views last floor first view was up reaches = ⊎_elim
    (λ gone.
    let lt : view < floor = omega (arith, gone, up) in
    let below : nat_lt view floor ≡ true = grind (arith, nat_tests, lt) in
    let ended : nat_le (term_end views view) last ≡ true = grind (arith, nat_tests, (reaches lt).0 gone) in
    let before : nat_lt view first ≡ true = grind (arith, nat_tests, gone) in
    rw (below, ended, before) refl)
    (λ kept.
    let from : nat_lt view first ≡ false = grind (arith, nat_tests, kept) in
    ⊎_elim
    (λ lt.
    let below : nat_lt view floor ≡ true = grind (arith, nat_tests, lt) in
    let reaching : nat_le (term_end views view) last ≡ false = grind (arith, nat_tests, kept, reaches lt) in
    rw (below, reaching, from) refl)
    (λ ge. let above : nat_lt view floor ≡ false = grind (arith, nat_tests, ge) in rw (above, from) refl)
    (cases_lt view floor))
    (cases_lt view first)
