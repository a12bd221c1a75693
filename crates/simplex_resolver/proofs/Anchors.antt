-- A scan, span by span.
use Rattle.std.specs.Prelude.{map, not}
use Rattle.std.proofs.Common.{◌≡◌, inl, inr, ◌≤◌, ◌<◌, ◌+◌, ℕ, Bool, true, false, List, [], ◌∷◌, ◌++◌, refl, sym, ◌∙◌, ap, arith, append_assoc, append-nil}
use Rattle.std.proofs.lemmas.Bool.{cases_lt}
use Rattle.simplex_resolver.specs.declared.effect.Effect.{Effect}
use Rattle.simplex_resolver.specs.RepairHistory.{Item, covered, current, has_failed}
use Rattle.simplex_resolver.specs.Outstanding.{AreBare, AreMissing, IsBare, Scans, fetch, fetch_failed, is_missing, when}

-- what a scan has asked for so far, and the view from which it goes on
pub record Asked (views : ℕ) (h : List Item) (cause start : ℕ) (old now : List Effect) (from : ℕ) : Type 0 where
  pub spans : List (ℕ × ℕ)
  pub asked_is : now ≡ old ++ map (fetch cause) spans
  pub on : (more : List (ℕ × ℕ)) → AreBare views h from (current h) more → AreBare views h start (current h) (spans ++ more)

map_append : {A B : Type 0} (f : A → B) (xs ys : List A) → map f (xs ++ ys) ≡ map f xs ++ map f ys
map_append {A} {B} f [] ys = refl
map_append {A} {B} f (x ∷ xs) ys = ap (λ (es : List B). f x ∷ es) (map_append f xs ys)

module _ (views : ℕ) (h : List Item) (cause start : ℕ) (old : List Effect) where
  pub Asked-start : Asked views h cause start old old start
  Asked-start = record { spans = []; asked_is = sym (append-nil old); on = λ more a. a }

  pub Asked-step : (now : List Effect) (from : ℕ) (span : ℕ × ℕ) → Asked views h cause start old now from → IsBare views h from (current h) span
      → Asked views h cause start old (now ++ fetch cause span ∷ []) (span.1 + 1)
  Asked-step now from span a bare = record {
    spans = a.spans ++ span ∷ [];
    asked_is = ap (λ (es : List Effect). es ++ fetch cause span ∷ []) a.asked_is
        ∙ (append_assoc old (map (fetch cause) a.spans) (fetch cause span ∷ []) ∙ ap (λ (es : List Effect). old ++ es) (sym (map_append (fetch cause) a.spans (span ∷ []))));
    on = λ more rest. rw (append_assoc a.spans (span ∷ []) more) (a.on (span ∷ more) (bare, rest));
  }

  pub Asked-end : (now : List Effect) (from : ℕ) → Asked views h cause start old now from → ((v : ℕ) → from ≤ v → v < current h → covered views h v ≡ true)
      → (asked : List Effect) × Scans views h cause start asked × (now ≡ old ++ asked)
  Asked-end now from a all = (map (fetch cause) a.spans, record { spans = a.spans; are = rw (append-nil a.spans) at (a.on [] all); asked_is = refl }, a.asked_is)

-- which views with a false verdict were found so far, and the view that the search stands at
pub record Found (views : ℕ) (h : List Item) (from : ℕ) (old now : List Effect) (last : ℕ) : Type 0 where
  pub missing : List ℕ
  pub found_is : now ≡ old ++ map fetch_failed missing
  pub on : (more : List ℕ) → AreMissing views h last more → AreMissing views h from (missing ++ more)

module _ (views : ℕ) (h : List Item) where
  not_failed : (v : ℕ) → has_failed h v ≡ false → is_missing views h v ≡ false
  not_failed v e = rw e refl

  is_missing-is : (v : ℕ) → has_failed h v ≡ true → is_missing views h v ≡ not (covered views h v)
  is_missing-is v e = rw e refl

  -- from a later view on, where there is none between
  later : (a b : ℕ) → a < b → ((v : ℕ) → a < v → v < b → is_missing views h v ≡ false) → is_missing views h b ≡ false → (more : List ℕ) → AreMissing views h b more → AreMissing views h a more
  later a b lt none bare [] m = λ v above. between v above (λ past. m v past)
    where
      between : (v : ℕ) → a < v → (b < v → is_missing views h v ≡ false) → is_missing views h v ≡ false
      between v above past = elim (cases_lt v b) [
        | inl before ↦ none v above before
        | inr from ↦ elim (cases_lt b v) [
          | inl behind ↦ past behind
          | inr to ↦ let is : v ≡ b = omega (arith, from, to) in rw is bare
        ]
      ]
  later a b lt none bare (y ∷ ys) m = (
    let behind = m.0 in omega (arith, lt, behind),
    m.1,
    λ v above below. elim (cases_lt v b) [
      | inl before ↦ none v above before
      | inr from ↦ elim (cases_lt b v) [
        | inl behind ↦ m.2 v behind below
        | inr to ↦ let is : v ≡ b = omega (arith, from, to) in rw is bare
      ]
    ],
    m.3,
  )

  module _ (from : ℕ) (old : List Effect) where
    pub Found-start : Found views h from old old from
    Found-start = record { missing = []; found_is = sym (append-nil old); on = λ more a. a }

    pub Found-step : (now : List Effect) (last x : ℕ) → Found views h from old now last → last < x → has_failed h x ≡ true → ((v : ℕ) → last < v → v < x → has_failed h v ≡ false)
        → (there : Bool) → there ≡ not (covered views h x) → Found views h from old (now ++ when there (fetch_failed x)) x
    Found-step now last x f above failed none true is = record {
      missing = f.missing ++ x ∷ [];
      found_is = ap (λ (es : List Effect). es ++ fetch_failed x ∷ []) f.found_is ∙ (append_assoc old (map fetch_failed f.missing) (fetch_failed x ∷ []) ∙ ap (λ (es : List Effect). old ++ es) (sym (map_append fetch_failed f.missing (x ∷ []))));
      on = λ more m. rw (append_assoc f.missing (x ∷ []) more) (f.on (x ∷ more) (above, is_missing-is x failed ∙ sym is, λ v past below. not_failed v (none v past below), m));
    }
    Found-step now last x f above failed none false is = record {
      missing = f.missing;
      found_is = append-nil now ∙ f.found_is;
      on = λ more m. f.on more (later last x above (λ v past below. not_failed v (none v past below)) (is_missing-is x failed ∙ sym is) more m);
    }

    pub Found-end : (now : List Effect) (last : ℕ) → Found views h from old now last → ((v : ℕ) → last < v → has_failed h v ≡ false) → (missing : List ℕ) × AreMissing views h from missing × (now ≡ old ++ map fetch_failed missing)
    Found-end now last f none = (f.missing, rw (append-nil f.missing) at (f.on [] (λ v past. not_failed v (none v past))), f.found_is)

-- effects behind others, where those are known
pub behind : (before first asked after : List Effect) → after ≡ before ++ asked → before ≡ first → after ≡ first ++ asked
behind before first asked after whole is = whole ∙ ap (λ (es : List Effect). es ++ asked) is
