-- What is held, as certificates come.
use Rattle.std.specs.Prelude.{is_some, nat_lt, nat_le, ◌||◌, ◌&&◌}
use Rattle.std.proofs.Common.{◌≡◌, ◌⊎◌, ◌↔◌, inl, inr, ⊎_elim, ◌≤◌, ◌<◌, ◌==◌, ◌+◌, ℕ, Bool, true, false, List, ◌∷◌, Option, Some, None, Vec, Global, refl, sym, subst, ◌∙◌, ap, arith, if◌then◌else◌}
use Rattle.std.specs.Ordering.{nat_cmp, is_eq}
use Rattle.std.specs.Option.{option_map, option_or}
use Rattle.std.specs.BTreeMap.{BTreeMap, get}
use Rattle.std.specs.BTreeSet.{BTreeSet, contains}
use Rattle.std.proofs.lemmas.Bool.{cases_eq, cases_lt}
use Rattle.std.proofs.lemmas.Bool.Decides.{nat_tests}
use Rattle.types_core.specs.Positions.{term_start, term_end}
use Rattle.simplex_record.specs.Coverage.{IsCovered, LiesIn}
use Rattle.simplex_resolver.specs.declared.held.Held.{Held}
use Rattle.simplex_resolver.specs.declared.scanner.Scanner.{Scanner}
use Rattle.simplex_resolver.specs.RepairHistory.{Item, Nullified, Finalized, Replayed, covered, covers, current, floor, finalized, finalization, nullification, certified, has_failed, is_known}
use Rattle.simplex_resolver.specs.Answers.{servable}
use Rattle.simplex_resolver.specs.Keeps.{Holds, Stands, kept_nullification}
use Rattle.simplex_resolver.proofs.Choices.{bool_cases, or_cases, or_right, is_some-map, is_some-none, option_or-none, if_same, if_other, apart, nat_lt-yes, nat_lt-no, nat_le-yes, nat_le-no, max_zero}
use Rattle.simplex_resolver.proofs.Covers.{cover-covered}
use Rattle.simplex_resolver.proofs.TermStarts.{start-end}

abbrev items : Vec ℕ Global → List ℕ
items bytes = bytes.items

option_or-first : {T : Type 0} (a b : Option T) → is_some a ≡ true → option_or a b ≡ a
option_or-first None b some = absurd (grind (arith, some))
option_or-first (Some x) b some = refl

-- what of a view's nullification is kept while its term reaches above what is finalized
kept-late : (views : ℕ) (h : List Item) (w : ℕ) → finalized h < term_end views w → kept_nullification views h w ≡ nullification h w
kept-late views h w late = rw (nat_lt-yes (finalized h) (term_end views w) late) refl

kept-early : (views : ℕ) (h : List Item) (w : ℕ) → term_end views w ≤ finalized h → kept_nullification views h w ≡ None
kept-early views h w early = rw (nat_lt-no (finalized h) (term_end views w) early) refl

servable-above : (h : List Item) (w : ℕ) → finalized h < w → servable h w ≡ certified h w
servable-above h w above = rw (nat_lt-yes (finalized h) w above) refl

servable-below : (h : List Item) (w : ℕ) → w ≤ finalized h → servable h w ≡ None
servable-below h w below = rw (nat_lt-no (finalized h) w below) refl

module _ (views : ℕ) (held : Held) (h : List Item) (k : Holds views held h) where
  module _ (u : ℕ) (bytes : List ℕ) where
    same : finalized (Nullified u bytes ∷ h) ≡ finalized h
    same = grind (arith, nat_tests)

    nullification-other : (w : ℕ) → (u ≡ w → ⊥) → nullification (Nullified u bytes ∷ h) w ≡ nullification h w
    nullification-other w ne = ap (λ (o : Option (List ℕ)). option_or (nullification h w) o) (if_other u w (Some bytes) None ne) ∙ option_or-none (nullification h w)

    kept-same : (w : ℕ) → nullification (Nullified u bytes ∷ h) w ≡ nullification h w → kept_nullification views (Nullified u bytes ∷ h) w ≡ kept_nullification views h w
    kept-same w is = elim (cases_lt (finalized h) (term_end views w)) [
      | inl late ↦ kept-late views (Nullified u bytes ∷ h) w (omega (arith, late, same)) ∙ (is ∙ sym (kept-late views h w late))
      | inr early ↦ kept-early views (Nullified u bytes ∷ h) w (omega (arith, early, same)) ∙ sym (kept-early views h w early)
    ]

    -- the item covers the views from its own to the end of the term
    covers-yes : (v : ℕ) → u ≤ v → v ≤ term_end views u → covers views v (Nullified u bytes) ≡ true
    covers-yes v from to = rw (nat_le-yes (term_start views v) u ((start-end views k.some v u).1 to), nat_le-yes u v from) refl

    covers-from : (v : ℕ) → covers views v (Nullified u bytes) ≡ true → LiesIn (u, term_end views u) v
    covers-from v is = elim (cases_lt u (term_start views v)) [
      | inl past ↦ absurd (let never = rw (nat_le-no (term_start views v) u past) at is in grind (arith, never))
      | inr from ↦ elim (cases_lt v u) [
        | inl before ↦ absurd (let never = rw (nat_le-yes (term_start views v) u from, nat_le-no u v before) at is in grind (arith, never))
        | inr to ↦ (to, (start-end views k.some v u).0 from)
      ]
    ]

    covers-no : (v : ℕ) → term_end views u < v → covers views v (Nullified u bytes) ≡ false
    covers-no v past = elim (bool_cases (covers views v (Nullified u bytes))) [
      | inl is ↦ let to = (covers-from v is).1 in absurd (omega (arith, to, past))
      | inr is ↦ is
    ]

    held-with : (nulls : BTreeMap ℕ (Vec ℕ Global)) (spans : List (ℕ × ℕ)) → ((w : ℕ) → option_map items (get nat_cmp nulls w) ≡ kept_nullification views (Nullified u bytes ∷ h) w)
        → ((v : ℕ) → IsCovered held.covered v → IsCovered spans v)
        → ((v : ℕ) → finalized h < v → IsCovered spans v ↔ (covered views (Nullified u bytes ∷ h) v ≡ true)) → Holds views (record held { nullifications = nulls; covered = spans }) (Nullified u bytes ∷ h)
    held-with nulls spans kept stays are = record {
      some = k.some;
      length_is = k.length_is;
      finalized_is = k.finalized_is ∙ sym same;
      finalization_is = k.finalization_is;
      nullifications = kept;
      cut = λ v some low. stays v (k.cut v some (omega (arith, low, same)));
      covered_is = λ v above. are v (omega (arith, above, same));
      known = λ v. k.known v ∙ ap (λ (f : ℕ). nat_lt f v && is_known h v) (sym same);
      certified_is = λ v. k.certified_is v ∙ ap (λ (f : ℕ). if nat_lt f v then certified h v else None) (sym same);
      failed = λ v. k.failed v ∙ ap (λ (f : ℕ). nat_lt f v && has_failed h v) (sym same);
    }

    -- where nothing more is covered, what is covered stays
    covered-same : (v : ℕ) → finalized h < v → covered views (Nullified u bytes ∷ h) v ≡ covered views h v → IsCovered held.covered v ↔ (covered views (Nullified u bytes ∷ h) v ≡ true)
    covered-same v above is = (λ c. is ∙ (k.covered_is v above).0 c, λ e. (k.covered_is v above).1 (sym is ∙ e))

    -- a nullification of what is finalized changes nothing
    pub nullified-low : term_end views u ≤ finalized h → Holds views held (Nullified u bytes ∷ h)
    nullified-low low = held-with held.nullifications held.covered
        (λ w. elim (cases_eq u w) [
          | inl e ↦
              let early : term_end views w ≤ finalized h = rw e at low in
              k.nullifications w ∙ (kept-early views h w early ∙ sym (kept-early views (Nullified u bytes ∷ h) w (omega (arith, early, same))))
          | inr ne ↦ k.nullifications w ∙ sym (kept-same w (nullification-other w ne))
        ])
        (λ v is. is)
        (λ v above. covered-same v above (ap (λ (b : Bool). b || covered views h v) (covers-no v (omega (arith, low, above)))))

    -- nor does a second one of a view
    pub nullified-again : is_some (get nat_cmp held.nullifications u) ≡ true → Holds views held (Nullified u bytes ∷ h)
    nullified-again there = held-with held.nullifications held.covered
        (λ w. elim (cases_eq u w) [
          | inl e ↦
              let some : is_some (nullification h w) ≡ true = rw e at first in
              k.nullifications w ∙ sym (kept-same w (option_or-first (nullification h w) _ some))
          | inr ne ↦ k.nullifications w ∙ sym (kept-same w (nullification-other w ne))
        ])
        (λ v is. is)
        (λ v above. covered-same v above (elim (bool_cases (covers views v (Nullified u bytes))) [
          | inl is ↦
              let lies = covers-from v is in
              let old : covered views h v ≡ true = cover-covered views h v u (record { from = (start-end views k.some v u).1 lies.1; to = lies.0; there = first }) in
              ap (λ (b : Bool). b || covered views h v) is ∙ sym old
          | inr misses ↦ ap (λ (b : Bool). b || covered views h v) misses
        ]))
      where
        kept : is_some (kept_nullification views h u) ≡ true
        kept = ap (λ (o : Option (List ℕ)). is_some o) (sym (k.nullifications u)) ∙ (is_some-map items (get nat_cmp held.nullifications u) ∙ there)

        first : is_some (nullification h u) ≡ true
        first = elim (cases_lt (finalized h) (term_end views u)) [
          | inl late ↦ rw (kept-late views h u late) at kept
          | inr early ↦ absurd (let never = rw (kept-early views h u early) at kept in grind (arith, never))
        ]

    -- the first of a view is kept
    pub nullified-first : (nulls : BTreeMap ℕ (Vec ℕ Global)) (spans : List (ℕ × ℕ)) (spelled : Vec ℕ Global) (end : ℕ) → finalized h < term_end views u → is_some (get nat_cmp held.nullifications u) ≡ false → spelled.items ≡ bytes → end ≡ term_end views u
        → get nat_cmp nulls u ≡ Some spelled → ((q : ℕ) → is_eq (nat_cmp u q) ≡ false → get nat_cmp nulls q ≡ get nat_cmp held.nullifications q)
        → ((v : ℕ) → IsCovered spans v ↔ (IsCovered held.covered v ⊎ LiesIn (u, end) v)) → Holds views (record held { nullifications = nulls; covered = spans }) (Nullified u bytes ∷ h)
    nullified-first nulls spans spelled end late new bytes_are end_is put others cover = held-with nulls spans
        (λ w. elim (cases_eq u w) [
          | inl e ↦ subst (λ (q : ℕ). option_map items (get nat_cmp nulls q) ≡ kept_nullification views (Nullified u bytes ∷ h) q) e (ap (λ (o : Option (Vec ℕ Global)). option_map items o) put ∙ (ap Some bytes_are ∙ sym here))
          | inr ne ↦ ap (λ (o : Option (Vec ℕ Global)). option_map items o) (others w (apart u w ne)) ∙ (k.nullifications w ∙ sym (kept-same w (nullification-other w ne)))
        ])
        (λ v is. (cover v).1 (inl is))
        (λ v above. (
          λ c. ⊎_elim (λ old. or_right _ _ ((k.covered_is v above).0 old)) (λ lies. ap (λ (b : Bool). b || covered views h v) (covers-yes v lies.0 (rw end_is at lies.1))) ((cover v).0 c),
          λ e. (cover v).1 (⊎_elim (λ is. let lies = covers-from v is in inr (lies.0, rw end_is lies.1)) (λ old. inl ((k.covered_is v above).1 old)) (or_cases (covers views v (Nullified u bytes)) (covered views h v) e)),
        ))
      where
        none : nullification h u ≡ None
        none = sym (kept-late views h u late) ∙ (sym (k.nullifications u) ∙ ap (λ (o : Option (Vec ℕ Global)). option_map items o) (is_some-none _ new))

        here : kept_nullification views (Nullified u bytes ∷ h) u ≡ Some bytes
        here = kept-late views (Nullified u bytes ∷ h) u (omega (arith, late, same)) ∙ (ap (λ (o : Option (List ℕ)). option_or o (if u == u then Some bytes else None)) none ∙ if_same u (Some bytes) None)

  -- the highest finalization: what lies at or below it is dropped
  module _ (v : ℕ) (bytes : List ℕ) (above : finalized h < v) where
    now : finalized (Finalized v bytes ∷ h) ≡ v
    now = grind (arith, nat_tests, above)

    tests : (q : ℕ) (b : Bool) → (nat_le (v + 1) q && (nat_lt (finalized h) q && b)) ≡ (nat_lt v q && b)
    tests q b = elim (cases_lt v q) [
      | inl past ↦ rw (nat_le-yes (v + 1) q (omega (arith, past)), nat_lt-yes (finalized h) q (omega (arith, past, above)), nat_lt-yes v q past) refl
      | inr low ↦ rw (nat_le-no (v + 1) q (omega (arith, low)), nat_lt-no v q low) refl
    ]

    pub finalized-first : (spelled : Vec ℕ Global) (nulls served : BTreeMap ℕ (Vec ℕ Global)) (seen bad : BTreeSet ℕ) (spans : List (ℕ × ℕ)) (start first bottom : ℕ) → spelled.items ≡ bytes → bottom ≡ 0 → first ≡ v + 1 → start ≡ term_start views first
        → ((q : ℕ) → get nat_cmp nulls q ≡ (if nat_lt q start then None else get nat_cmp held.nullifications q)) → ((q : ℕ) → get nat_cmp served q ≡ (if nat_lt q first then None else get nat_cmp held.certified q))
        → ((q : ℕ) → contains nat_cmp seen q ≡ (nat_le first q && contains nat_cmp held.known q)) → ((q : ℕ) → contains nat_cmp bad q ≡ (nat_le first q && contains nat_cmp held.failed q))
        → ((q : ℕ) → IsCovered spans q ↔ (IsCovered held.covered q ⊎ LiesIn (bottom, v) q))
        → Holds views (record held { last_finalized = v; finalization = Some spelled; nullifications = nulls; covered = spans; known = seen; certified = served; failed = bad }) (Finalized v bytes ∷ h)
    finalized-first spelled nulls served seen bad spans start first bottom bytes_are bottom_is first_is start_is nulls_are served_are seen_are bad_are spans_are = record {
      some = k.some;
      length_is = k.length_is;
      finalized_is = sym now;
      finalization_is = ap Some bytes_are ∙ sym (ap (λ (b : Bool). if b then Some bytes else finalization h) (nat_lt-yes (finalized h) v above));
      nullifications = λ w. ap (λ (o : Option (Vec ℕ Global)). option_map items o) (nulls_are w) ∙ kept w;
      cut = λ q some low. (spans_are q).1 (inr (omega (arith, bottom_is), omega (arith, low, now)));
      covered_is = λ q past.
          let behind : v < q = omega (arith, past, now) in
          let was = k.covered_is q (omega (arith, behind, above)) in
          (λ c. ⊎_elim (λ old. was.0 old) (λ lies. let to = lies.1 in absurd (omega (arith, to, behind))) ((spans_are q).0 c), λ e. (spans_are q).1 (inl (was.1 e)));
      known = λ q. seen_are q ∙ (ap (λ (b : Bool). nat_le first q && b) (k.known q) ∙ (ap (λ (f : ℕ). nat_le f q && (nat_lt (finalized h) q && is_known h q)) first_is ∙ (tests q (is_known h q) ∙ ap (λ (f : ℕ). nat_lt f q && is_known h q) (sym now))));
      certified_is = λ q. ap (λ (o : Option (Vec ℕ Global)). option_map items o) (served_are q) ∙ serve q;
      failed = λ q. bad_are q ∙ (ap (λ (b : Bool). nat_le first q && b) (k.failed q) ∙ (ap (λ (f : ℕ). nat_le f q && (nat_lt (finalized h) q && has_failed h q)) first_is ∙ (tests q (has_failed h q) ∙ ap (λ (f : ℕ). nat_lt f q && has_failed h q) (sym now))));
    }
      where
        kept : (w : ℕ) → option_map items (if nat_lt w start then None else get nat_cmp held.nullifications w) ≡ kept_nullification views (Finalized v bytes ∷ h) w
        kept w = elim (cases_lt v (term_end views w)) [
          | inl late ↦
              let from : term_start views (v + 1) ≤ w = (start-end views k.some (v + 1) w).1 (omega (arith, late)) in
              let there : start ≤ w = rw (start_is, first_is) from in
              rw (nat_lt-no w start there) (k.nullifications w ∙ (kept-late views h w (omega (arith, late, above)) ∙ sym (kept-late views (Finalized v bytes ∷ h) w (omega (arith, late, now)))))
          | inr early ↦
              let before : w < start = elim (cases_lt w start) [
                | inl lt ↦ lt
                | inr from ↦
                    let low : term_start views (v + 1) ≤ w = rw (start_is, first_is) at from in
                    let late = (start-end views k.some (v + 1) w).0 low in
                    absurd (omega (arith, late, early))
              ] in
              rw (nat_lt-yes w start before) (sym (kept-early views (Finalized v bytes ∷ h) w (omega (arith, early, now))))
        ]

        serve : (q : ℕ) → option_map items (if nat_lt q first then None else get nat_cmp held.certified q) ≡ servable (Finalized v bytes ∷ h) q
        serve q = elim (cases_lt v q) [
          | inl past ↦ rw (nat_lt-no q first (omega (arith, past, first_is))) (k.certified_is q ∙ (servable-above h q (omega (arith, past, above)) ∙ sym (servable-above (Finalized v bytes ∷ h) q (omega (arith, past, now)))))
          | inr low ↦ rw (nat_lt-yes q first (omega (arith, low, first_is))) (sym (servable-below (Finalized v bytes ∷ h) q (omega (arith, low, now))))
        ]

-- the end of the replay changes nothing of what is held
pub held-replayed : (views : ℕ) (held : Held) (h : List Item) → Holds views held h → Holds views held (Replayed ∷ h)
held-replayed views held h k = record {
  some = k.some;
  length_is = k.length_is;
  finalized_is = k.finalized_is ∙ same;
  finalization_is = k.finalization_is;
  nullifications = λ w. k.nullifications w ∙ ap (λ (f : ℕ). if nat_lt f (term_end views w) then nullification h w else None) same;
  cut = λ v some low. k.cut v some (omega (arith, low, same));
  covered_is = λ v above. k.covered_is v (omega (arith, above, same));
  known = λ v. k.known v ∙ ap (λ (f : ℕ). nat_lt f v && is_known h v) same;
  certified_is = λ v. k.certified_is v ∙ ap (λ (f : ℕ). if nat_lt f v then certified h v else None) same;
  failed = λ v. k.failed v ∙ ap (λ (f : ℕ). nat_lt f v && has_failed h v) same;
}
  where
    same : finalized h ≡ finalized (Replayed ∷ h)
    same = sym (max_zero (finalized h))

-- and scans go on from then on
pub stands-replayed : (views : ℕ) (old new : Scanner) (h : List Item) → Stands views old h → new.held ≡ old.held → new.current ≡ old.current → new.floor ≡ old.floor → new.live ≡ true → Stands views new (Replayed ∷ h)
stands-replayed views old new h k held_is current_is floor_is live_is = record {
  holds = subst (λ (held : Held). Holds views held (Replayed ∷ h)) (sym held_is) (held-replayed views old.held h k.holds);
  current_is = current_is ∙ (k.current_is ∙ sym (max_zero (current h)));
  floor_is = floor_is ∙ (k.floor_is ∙ sym (max_zero (floor h)));
  live_is = live_is;
}
