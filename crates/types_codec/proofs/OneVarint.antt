-- The groups of a number are the only ones that stand for it.
use Rattle.std.proofs.Common.{◌≡◌, ℕ, zero, suc, ◌+◌, ◌*◌, ◌/◌, ◌%◌, ◌<◌, ◌≤◌, ◌↔◌, List, [], ◌∷◌, refl, ap, sym, subst, inl, inr, arith}
use Rattle.std.proofs.lemmas.Bool.{cases_lt}
use Rattle.types_codec.specs.Varint.{IsVarint, varint, varint-last, varint-step}

-- one group more in front
IsVarint-cons : (n b high : ℕ) (bytes : List ℕ) → 128 ≤ b → b < 256 → 0 < high → n + 128 ≡ b + 128 * high → IsVarint high bytes → IsVarint n (b ∷ bytes)
IsVarint-cons n b high [] many byte some sum rest = absurd rest
IsVarint-cons n b high (c ∷ bytes) many byte some sum rest = (many, byte, high, some, sum, rest)

-- the groups stand for their number
IsVarint-varint : (k n : ℕ) → n ≤ k → IsVarint n (varint n)
IsVarint-varint zero n small =
    let low : n < 128 = omega arith in
    rw (varint-last n low) (low, refl)
IsVarint-varint (suc k) n small = elim (cases_lt n 128) [
  | inl low ↦ rw (varint-last n low) (low, refl)
  | inr many ↦
      let rest = IsVarint-varint k (n / 128) (omega arith) in
      rw (varint-step n many) (IsVarint-cons n (n % 128 + 128) (n / 128) (varint (n / 128)) (omega arith) (omega arith) (omega arith) (omega arith) rest)
]

-- what stands for a number is its groups
varint-unique : (n : ℕ) (bytes : List ℕ) → IsVarint n bytes → bytes ≡ varint n
varint-unique n [] h = absurd h
varint-unique n (b ∷ []) h = rw h.1 (sym (varint-last b h.0))
varint-unique n (b ∷ c ∷ bytes) h =
    let many : 128 ≤ n = omega (arith, h.0, h.3, h.4) in
    let low-is : n % 128 + 128 ≡ b = omega (arith, h.0, h.1, h.4) in
    let high-is : n / 128 ≡ h.2 = omega (arith, h.0, h.1, h.4) in
    rw (varint-step n many, low-is, high-is) (ap (λ (t : List ℕ). b ∷ t) (varint-unique h.2 (c ∷ bytes) h.5))

pub IsVarint_iff : (n : ℕ) (bytes : List ℕ) → IsVarint n bytes ↔ (bytes ≡ varint n)
IsVarint_iff n bytes = (
  varint-unique n bytes,
  λ same. let P : List ℕ → Type 0 = λ xs. IsVarint n xs in subst P (sym same) (IsVarint-varint n n (omega arith)),
)
