-- The greatest number that a record's entries give, and where terms begin.
use Rattle.std.proofs.Common.{◌≡◌, ◌⊎◌, inl, inr, ⊎_elim, ℕ, zero, suc, ◌+◌, ◌*◌, ◌/◌, ◌≤◌, List, [], ◌∷◌, refl, sym, ◌∙◌, ap, arith}
use Rattle.std.specs.List.{Contains}
use Rattle.std.proofs.Math.Nat.{div-mul-le_self, mul-le-mul_right, le-div_iff_mul-le}
use Rattle.std.proofs.lemmas.Bool.{cases_lt}
use Rattle.std.proofs.lemmas.Grind.{common_steps}
use Rattle.types_quorum.specs.Counting.{Contains-cases, Contains-head, Contains-rest}
use Rattle.types_core.specs.Positions.{term_start}
use Rattle.simplex_record.specs.Record.{greatest}

module _ {X : Type 0} where
  -- what an element gives is at most the greatest
  pub greatest-at : (least : ℕ) (f : X → ℕ) (xs : List X) (x : X) → Contains xs x → f x ≤ greatest least f xs
  greatest-at least f [] x here = absurd (omega (arith, here.1))
  greatest-at least f (y ∷ xs) x here = elim (Contains-cases y xs x here) [
    | inl first ↦ omega (arith, ap f first)
    | inr later ↦ omega (arith, greatest-at least f xs x later)
  ]

  -- and so is the least
  pub greatest-least : (least : ℕ) (f : X → ℕ) (xs : List X) → least ≤ greatest least f xs
  greatest-least least f [] = omega arith
  greatest-least least f (x ∷ xs) = omega (arith, greatest-least least f xs)

  -- the greatest is the least, or an element gives it
  pub greatest-found : (least : ℕ) (f : X → ℕ) (xs : List X) → (greatest least f xs ≡ least) ⊎ ((x : X) × Contains xs x × (f x ≡ greatest least f xs))
  greatest-found least f [] = inl refl
  greatest-found least f (x ∷ xs) = elim (cases_lt (f x) (greatest least f xs)) [
    | inl below ↦
        let same : greatest least f xs ≡ greatest least f (x ∷ xs) = omega (arith, below) in
        ⊎_elim (λ none. inl (sym same ∙ none)) (λ some. inr (some.0, Contains-rest x xs some.0 some.1, some.2 ∙ same)) (greatest-found least f xs)
    | inr above ↦ inr (x, Contains-head x xs, omega (arith, above))
  ]

-- the first view of a term, by the view before it
term_start-suc : (views before : ℕ) → term_start views (suc before) ≡ before / views * views + 1
term_start-suc views before = grind (arith, common_steps)

-- the term of a view from 1 on starts at 1 or later
pub term_start-some : (views view : ℕ) → 1 ≤ view → 1 ≤ term_start views view
term_start-some views zero some = absurd (omega (arith, some))
term_start-some views (suc before) some = omega (arith, term_start-suc views before)

-- a later view's term starts no earlier
pub term_start-up : (views u v : ℕ) → u ≤ v → term_start views u ≤ term_start views v
term_start-up views zero v low = omega arith
term_start-up views (suc u) zero low = absurd (omega (arith, low))
term_start-up zero (suc u) (suc v) low = omega (arith, term_start-suc zero u, term_start-suc zero v)
term_start-up (suc n) (suc u) (suc v) low =
    let quotients : u / suc n ≤ v / suc n = (le-div_iff_mul-le {k = suc n} {x = u / suc n} {y = v} (omega arith)).1 (omega (arith, low, div-mul-le_self u (suc n))) in
    let starts : u / suc n * suc n ≤ v / suc n * suc n = mul-le-mul_right (suc n) quotients in
    omega (arith, term_start-suc (suc n) u, term_start-suc (suc n) v, starts)
