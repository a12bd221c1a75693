-- What the tests of numbers tell.
use Rattle.std.proofs.Common.{◌≡◌, ◌≢◌, true, false, ℕ, refl, sym, ◌∙◌, max, ◌+◌, ◌-◌, ◌<◌, ◌≤◌, arith}
use Rattle.std.proofs.lemmas.Bool.{false≢true, eqb-true, eqb-false, not-true, not-false}
use Rattle.std.proofs.lemmas.Bool.Decides.{nat_tests}
use Rattle.std.proofs.lemmas.Grind.{common_steps}
use Rattle.std.specs.Ordering.{nat_cmp, ord_max, is_le, is_lt}
use Rattle.std.specs.Prelude.{not, Bool, IsTrue, ◌==◌, ◌↔◌}
use Rattle.types_core.specs.Positions.{IsTermStart}

-- an answer that is known
pub never : {P : Type 0} → ¬ P → IsTrue false ↔ P
never fails = (λ so. absurd (false≢true so), λ there. absurd (fails there))

pub always : {P : Type 0} → P → IsTrue true ↔ P
always there = (λ so. there, λ all. refl)

pub crossed : (a b : ℕ) → a < b → b ≤ a → ⊥
crossed a b below above = omega arith

pub none_between : (a u b : ℕ) → a < u → u < b → b ≤ a → ⊥
none_between a u b above below crossed = omega arith

pub le_passes : (a b : ℕ) {r : Bool} → r ≡ is_le (nat_cmp a b) → r ≡ true → a ≤ b
le_passes a b test so = grind (arith, nat_tests)

pub le_fails : (a b : ℕ) {r : Bool} → r ≡ is_le (nat_cmp a b) → r ≡ false → b < a
le_fails a b test so = grind (arith, nat_tests)

pub lt_passes : (a b : ℕ) {r : Bool} → r ≡ is_lt (nat_cmp a b) → r ≡ true → a < b
lt_passes a b test so = grind (arith, nat_tests)

pub lt_fails : (a b : ℕ) {r : Bool} → r ≡ is_lt (nat_cmp a b) → r ≡ false → b ≤ a
lt_fails a b test so = grind (arith, nat_tests)

pub max_is : (a b : ℕ) {r x y : ℕ} → r ≡ ord_max nat_cmp a b → a ≡ x → b ≡ y → r ≡ max x y
max_is a b test first second = grind (arith, common_steps)

pub ne_passes : (a b : ℕ) {r : Bool} → r ≡ not (a == b) → r ≡ true → a ≢ b
ne_passes a b test so = eqb-false a b (not-true (a == b) (sym test ∙ so))

pub ne_fails : (a b : ℕ) {r : Bool} → r ≡ not (a == b) → r ≡ false → a ≡ b
ne_fails a b test so = eqb-true a b (not-false (a == b) (sym test ∙ so))

-- the view before
pub next_after : (view before : ℕ) → view ≢ 0 → before ≡ view - 1 → view ≡ before + 1
next_after view before some is = omega arith

pub none_before : (view before : ℕ) → view ≡ 0 → view ≡ before + 1 → ⊥
none_before view before zero next = omega arith

pub same_before : (view before other : ℕ) → view ≡ before + 1 → other ≡ view - 1 → before ≡ other
same_before view before other next is = omega arith

-- the start is the first of its term
pub starts_at : (length view : ℕ) → view ≡ 0 → IsTermStart length view
starts_at length view zero = rw zero refl
