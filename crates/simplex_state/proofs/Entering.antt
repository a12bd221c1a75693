-- The best certificate to enter a view by.
use Rattle.std.proofs.Common.{◌≡◌, ◌≤◌, ◌<◌, ◌+◌, ◌-◌, ◌==◌, ℕ, zero, suc, Bool, true, false, Bor, refl, sym, ap, ◌∙◌, ⊎_elim, arith, if◌then◌else◌}
use Rattle.std.specs.Prelude.{◌↔◌, List, Option, Some, None, IsTrue, MatchOption, option_copied, option_map}
use Rattle.std.specs.Option.{option_or}
use Rattle.std.proofs.lemmas.Bool.{cases_lt, both_ways, eq-eqb, ne_eqb}
use Rattle.types_core.specs.Positions.{InCoveringRange, term_start}
use Rattle.messages_certificates.specs.declared.certificate.Certificate.{Certificate}
use Rattle.messages_certificates.specs.declared.certificate.Certificate.TheVariants as certificate
use Rattle.messages_certificates.specs.ProposalCertificate.{Finalization, Notarization}
use Rattle.messages_certificates.specs.declared.nullification.Nullification.{Nullification}
use Rattle.voter_history.specs.Past as past
use Rattle.voter_history.specs.History.{Setup, Point, current, nullification, seen}
use Rattle.voter_views.specs.Views.{IsHighestCovering}
use Rattle.voter_rules.specs.Answers.{best_certificate, covering_nullification, entry_certificate, last_of}

module _ {X : Type 0} (f : ℕ → Option X) where
  -- none of so many numbers up to this one gives anything
  last_of-none : (high n : ℕ) → n ≤ high + 1 → ((u : ℕ) → u ≤ high → high < u + n → f u ≡ None) → last_of f high n ≡ None
  last_of-none high zero le none = refl
  last_of-none high (suc n) le none = rw (none high (omega arith) (omega arith)) (last_of-none (high - 1) n (omega (arith, le)) (λ u below from. none u (omega (arith, below)) (omega (arith, from, le))))

  -- this one is the highest that does
  last_of-is : (high n u : ℕ) (x : X) → n ≤ high + 1 → u ≤ high → high < u + n → f u ≡ Some x → ((w : ℕ) → u < w → w ≤ high → f w ≡ None) → last_of f high n ≡ Some x
  last_of-is high zero u x le below from there none = absurd (omega (arith, below, from))
  last_of-is high (suc n) u x le below from there none = ⊎_elim
      (λ lower. rw (none high lower (omega arith)) (last_of-is (high - 1) n u x (omega (arith, le)) (omega (arith, lower)) (omega (arith, from, lower)) there (λ w above under. none w above (omega (arith, under)))))
      (λ top. let e : u ≡ high = omega (arith, top, below) in rw (← e, there) refl)
      (cases_lt u high)

  -- what is the highest from a start on
  highest_of : (view start : ℕ) (o : Option (Bor X)) → MatchOption o ((u : ℕ) → start ≤ u → u ≤ view → f u ≡ None) (λ c. (at : ℕ) × (start ≤ at) × (at ≤ view) × (f at ≡ Some c.now) × ((u : ℕ) → at < u → u ≤ view → f u ≡ None))
      → option_copied o ≡ last_of f view (view + 1 - start)
  highest_of view start None none = sym (last_of-none view (view + 1 - start) (omega arith) (λ u below from. none u (omega (arith, below, from)) below))
  highest_of view start (Some c) (at, from, below, there, highest) = sym (last_of-is view (view + 1 - start) at c.now (omega arith) below (omega (arith, from, below)) there highest)

module _ {S D P G C : Type 0} (s : Setup S C) (h : List (Point S D P G C)) where
  parts_of : (view : ℕ) (o : Option (Bor (Nullification S D P G C))) → MatchOption o ((u : ℕ) → InCoveringRange s.length view u → nullification s h u ≡ None) (λ c. IsHighestCovering s h view c.now)
      → MatchOption o ((u : ℕ) → term_start s.length view ≤ u → u ≤ view → nullification s h u ≡ None)
      (λ c. (at : ℕ) × (term_start s.length view ≤ at) × (at ≤ view) × (nullification s h at ≡ Some c.now) × ((u : ℕ) → at < u → u ≤ view → nullification s h u ≡ None))
  parts_of view None none = λ u from below. none u (from, below)
  parts_of view (Some c) is = (is.at, is.covers.0, is.covers.1, is.there, is.highest)

  -- the highest nullification that covers a view
  pub covering_is : (view : ℕ) (o : Option (Bor (Nullification S D P G C))) → MatchOption o ((u : ℕ) → InCoveringRange s.length view u → nullification s h u ≡ None) (λ c. IsHighestCovering s h view c.now)
      → option_copied o ≡ covering_nullification s h view
  covering_is view o is = highest_of (nullification s h) view (term_start s.length view) o (parts_of view o is)

-- what is there where a view starts a term, and where it doesn't
pub where_starts : {A : Type 0} (view start : ℕ) (b : Bool) (x y : A) → IsTrue b ↔ (view ≡ start) → b ≡ true → x ≡ (if view == start then x else y)
where_starts view start b x y law is = let at : (view == start) ≡ true = eq-eqb view start (law.0 is) in rw at refl

pub where_not : {A : Type 0} (view start : ℕ) (b : Bool) (x y : A) → IsTrue b ↔ (view ≡ start) → b ≡ false → y ≡ (if view == start then x else y)
where_not view start b x y law isnt = let apart : (view == start) ≡ false = ne_eqb view start (λ e. both_ways b isnt (law.1 e)) in rw apart refl

-- a number that isn't zero is positive
pub positive : (n : ℕ) (b : Bool) → IsTrue b ↔ (n ≡ 0) → b ≡ false → 0 < n
positive n b law isnt = ⊎_elim (λ some. some) (λ none. absurd (both_ways b isnt (law.1 (omega (arith, none))))) (cases_lt 0 n)

-- of the start there is none
pub entered_at_start : {S D P G C : Type 0} (s : Setup S C) (h : List (Point S D P G C)) (view before : ℕ) → before ≡ 0 → None ≡ entry_certificate s h view before
entered_at_start s h view before is = rw is refl

-- the best certificate is that to enter the current view by
pub best_of : {S D P G C : Type 0} (s : Setup S C) (h : List (Point S D P G C)) (view before : ℕ) (o : Option (Certificate S D P G C)) → view ≡ current s h → before ≡ view - 1 → o ≡ entry_certificate s h view before → o ≡ best_certificate s h
best_of s h view before o at under is =
    let e : before ≡ current s h - 1 = under ∙ ap (λ n. n - 1) at in
    is ∙ (λ i. entry_certificate s h (at i) (e i))

where_map : {A B : Type 0} (f : A → B) (b : Bool) (o : Option A) → option_map f (if b then o else None) ≡ (if b then option_map f o else None)
where_map f true o = refl
where_map f false o = refl

where_else : {A : Type 0} (b : Bool) (x y : A) → b ≡ false → y ≡ (if b then x else y)
where_else b x y isnt = rw isnt refl

-- it is the first of these three that is there
pub entry_is : {S D P G C : Type 0} (s : Setup S C) (h : List (Point S D P G C)) (view before : ℕ) (f : Option (Finalization S D P G C)) (n : Option (Nullification S D P G C)) (t : Option (Notarization S D P G C)) → 0 < before
    → f ≡ past.finalization (seen s h before) → n ≡ (if view == term_start s.length view then covering_nullification s h before else None) → t ≡ past.notarization (seen s h before)
    → option_or (option_map certificate.Finalization f) (option_or (option_map certificate.Nullification n) (option_map certificate.Notarization t)) ≡ entry_certificate s h view before
entry_is s h view before f n t some final skips notarized =
    let skipped : option_map certificate.Nullification n ≡ (if view == term_start s.length view then option_map certificate.Nullification (covering_nullification s h before) else None) =
    ap (λ o. option_map certificate.Nullification o) skips ∙ where_map certificate.Nullification (view == term_start s.length view) (covering_nullification s h before) in
    (λ i. option_or (option_map certificate.Finalization (final i)) (option_or (skipped i) (option_map certificate.Notarization (notarized i))))
    ∙ where_else (before == 0) None _ (ne_eqb before 0 (λ e. omega (arith, some, e)))
