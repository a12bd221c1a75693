-- Numbers in groups of seven bits, least significant first, in the shortest form.
use Rattle.std.specs.Prelude.{◌≡◌, ℕ, zero, suc, ◌+◌, ◌-◌, ◌*◌, ◌/◌, ◌%◌, ◌^◌, ◌<◌, ◌≤◌, List, [], ◌∷◌, nat_lt, ◌==◌, Result, Ok, Err, if◌then◌else◌}
use Rattle.std.proofs.Common.{refl, pow-suc, subst, cond, ◌≢◌, ◌++◌, ap, arith, length, inl, inr, true, false}
use Rattle.std.proofs.lemmas.Bool.{cases_lt, lt-ltb, le-ltb, ltb-false, eqb-false, ne_eqb}
use Rattle.types_codec.specs.declared.codec.CodecError.{CodecError}
use Rattle.types_codec.specs.declared.codec.CodecError.TheVariants.{End, Invalid}
use Rattle.types_codec.specs.Codec.{◌>>=◌, IsCodec, bind_ok, refused_ok, ok_is}

-- A byte below 128 is the last, and stands for itself. One from 128 on has the low seven bits, and the
-- bytes after it stand for the rest, which isn't 0: so each number has one form.
abbrev pub IsVarint : ℕ → List ℕ → Type 0
IsVarint n [] = ⊥
IsVarint n (b ∷ []) = (b < 128) × (n ≡ b)
IsVarint n (b ∷ c ∷ bytes) = (128 ≤ b) × (b < 256) × (high : ℕ) × (0 < high) × (n + 128 ≡ b + 128 * high) × IsVarint high (c ∷ bytes)

-- the same as a function, which stops at the latest after the first number of groups
unfoldable pub varint_in : ℕ → ℕ → List ℕ
varint_in zero n = n ∷ []
varint_in (suc k) n = if nat_lt n 128 then n ∷ [] else ((n % 128 + 128) ∷ varint_in k (n / 128))

-- a number in groups of seven bits
unfoldable pub varint : ℕ → List ℕ
varint n = varint_in n n

-- any number of groups that is enough gives the same
groups_enough : (k m n : ℕ) → n ≤ k → n ≤ m → varint_in k n ≡ varint_in m n
unfolding varint_in
groups_enough zero zero n p q = refl
groups_enough zero (suc m) n p q = rw (let e : nat_lt n 128 ≡ true = lt-ltb n 128 (omega arith) in e) refl
groups_enough (suc k) zero n p q = rw (let e : nat_lt n 128 ≡ true = lt-ltb n 128 (omega arith) in e) refl
groups_enough (suc k) (suc m) n p q = elim (cases_lt n 128) [
  | inl lt ↦ rw (lt-ltb n 128 lt) refl
  | inr le ↦ rw (le-ltb n 128 le) (ap (λ (xs : List ℕ). (n % 128 + 128) ∷ xs) (groups_enough k m (n / 128) (omega arith) (omega arith)))
]

-- a number below 128 is one group
pub varint-last : (n : ℕ) → n < 128 → varint n ≡ n ∷ []
unfolding varint varint_in
varint-last zero p = refl
varint-last (suc n) p = rw (lt-ltb (suc n) 128 p) refl

-- another begins with its low seven bits
pub varint-step : (n : ℕ) → 128 ≤ n → varint n ≡ (n % 128 + 128) ∷ varint (n / 128)
unfolding varint varint_in
varint-step zero p = absurd (omega arith)
varint-step (suc n) p = rw (le-ltb (suc n) 128 p) (ap (λ (xs : List ℕ). (suc n % 128 + 128) ∷ xs) (groups_enough n (suc n / 128) (suc n / 128) (omega arith) (omega arith)))

-- Reading a number up to most.
unfoldable pub varint_at : ℕ → List ℕ → Result (ℕ × List ℕ) CodecError
varint_at most [] = Err End
varint_at most (b ∷ bytes) =
    if nat_lt b 128 then (if nat_lt most b then Err Invalid else Ok (b, bytes))
    else if nat_lt b 256 then (if nat_lt most 128 then Err Invalid else (do
      high ← varint_at ((most - (b - 128)) / 128) bytes
      if high.0 == 0 then Err Invalid else Ok (b - 128 + 128 * high.0, high.1)))
    else Err Invalid

-- what was spelled is read again, for any number of groups that is enough
again_in : (k most n : ℕ) (rest : List ℕ) → n ≤ k → n ≤ most → varint_at most (varint_in k n ++ rest) ≡ Ok (n, rest)
unfolding varint_at varint_in
again_in zero most n rest p q = rw (lt-ltb n 128 (omega arith), le-ltb most n q) refl
again_in (suc k) most n rest p q = elim (cases_lt n 128) [
  | inl lt ↦ rw (lt-ltb n 128 lt) (rw (lt-ltb n 128 lt, le-ltb most n q) refl)
  | inr le ↦
      let low : n % 128 < 128 = omega arith in
      let b-is : nat_lt (n % 128 + 128) 128 ≡ false = le-ltb _ _ (omega arith) in
      let b-small : nat_lt (n % 128 + 128) 256 ≡ true = lt-ltb _ _ (omega arith) in
      let room : nat_lt most 128 ≡ false = le-ltb _ _ (omega arith) in
      let inner : varint_at ((most - (n % 128 + 128 - 128)) / 128) (varint_in k (n / 128) ++ rest) ≡ Ok (n / 128, rest) = again_in k ((most - (n % 128 + 128 - 128)) / 128) (n / 128) rest (omega arith) (omega arith) in
      let some : (n / 128 == 0) ≡ false = ne_eqb (n / 128) 0 (omega arith) in
      let whole : n % 128 + 128 - 128 + 128 * (n / 128) ≡ n = omega arith in
      rw (le-ltb n 128 le) (rw (b-is, b-small, room, inner, some) (ap (λ (m : ℕ). Ok (m, rest)) whole))
]

-- what was spelled is read again, whatever follows
again : (most n : ℕ) (rest : List ℕ) → n ≤ most → varint_at most (varint n ++ rest) ≡ Ok (n, rest)
unfolding varint
again most n rest p = again_in n most n rest (omega arith) p

-- what is read was spelled, and is at most the bound
takes : (most : ℕ) (bytes : List ℕ) (x : ℕ) (rest : List ℕ) → varint_at most bytes ≡ Ok (x, rest) → (bytes ≡ varint x ++ rest) × (x ≤ most)
unfolding varint_at
takes most [] x rest e = absurd cc
takes most (b ∷ bytes) x rest e = elim (cases_lt b 128) [
  | inl lt ↦
      let f = rw (lt-ltb b 128 lt) at e in
      let g = refused_ok (nat_lt most b) Invalid (Ok (b, bytes)) (x, rest) f in
      let p = ok_is (b, bytes) (x, rest) g.1 in
      subst (λ (q : ℕ × List ℕ). (b ∷ bytes ≡ varint q.0 ++ q.1) × (q.0 ≤ most)) p (rw (varint-last b lt) refl, ltb-false _ _ g.0)
  | inr le ↦ elim (cases_lt b 256) [
    | inl small ↦
        let f = rw (le-ltb b 128 le, lt-ltb b 256 small) at e in
        let g = refused_ok (nat_lt most 128) Invalid (varint_at ((most - (b - 128)) / 128) bytes >>= λ high. cond (high.0 == 0) (Err Invalid) (Ok (b - 128 + 128 * high.0, high.1))) (x, rest) f in
        let h = bind_ok (varint_at ((most - (b - 128)) / 128) bytes) (λ high. cond (high.0 == 0) (Err Invalid) (Ok (b - 128 + 128 * high.0, high.1))) (x, rest) g.1 in
        let i = refused_ok (h.0.0 == 0) Invalid (Ok (b - 128 + 128 * h.0.0, h.0.1)) (x, rest) h.2 in
        let p = ok_is (b - 128 + 128 * h.0.0, h.0.1) (x, rest) i.1 in
        let inner = takes ((most - (b - 128)) / 128) bytes h.0.0 h.0.1 h.1 in
        let some : h.0.0 ≢ 0 = eqb-false h.0.0 0 i.0 in
        let room : 128 ≤ most = ltb-false _ _ g.0 in
        let many : 128 ≤ b - 128 + 128 * h.0.0 = omega arith in
        let l-is : (b - 128 + 128 * h.0.0) % 128 + 128 ≡ b = omega arith in
        let h-is : (b - 128 + 128 * h.0.0) / 128 ≡ h.0.0 = omega arith in
        let whole : b ∷ bytes ≡ varint (b - 128 + 128 * h.0.0) ++ h.0.1 = rw (varint-step _ many, l-is, h-is) (ap (λ (t : List ℕ). b ∷ t) inner.0) in
        subst (λ (q : ℕ × List ℕ). (b ∷ bytes ≡ varint q.0 ++ q.1) × (q.0 ≤ most)) p (whole, omega (arith, inner.1))
    | inr big ↦ absurd (let f = rw (le-ltb b 128 le, le-ltb b 256 big) at e in cc)
  ]
]

-- each number up to a bound has one spelling
pub varint-IsCodec : (most : ℕ) → IsCodec (λ n. n ≤ most) varint (varint_at most)
varint-IsCodec most = record { takes = takes most; again = again most }

-- the greatest number of 64 bits
abbrev pub max_u64 : ℕ
max_u64 = 18446744073709551615

-- the greatest number of 32 bits
abbrev pub max_u32 : ℕ
max_u32 = 4294967295

-- a number below 128 to the power of a count has at most so many groups
pub length-varint : (k n : ℕ) → n < 128 ^ suc k → length (varint n) ≤ suc k
length-varint zero n small =
    let low : n < 128 = omega (arith, pow-suc 128 0, small) in
    rw (varint-last n low) (omega arith)
length-varint (suc k) n small = elim (cases_lt n 128) [
  | inl lt ↦ rw (varint-last n lt) (omega arith)
  | inr le ↦ rw (varint-step n le) (omega (arith, length-varint k (n / 128) (omega (arith, pow-suc 128 (suc k), small))))
]

-- one more group is counted, and what is left has at most the groups that are left of eleven
pub fewer_groups : (size rest : ℕ) → size ≤ 10 → 128 ≤ rest → rest < 128 ^ (11 - size) → (size < 10) × (rest / 128 < 128 ^ (11 - (size + 1)))
fewer_groups size rest p q r = elim (cases_lt size 10) [
  | inl lt ↦
      let e : 11 - size ≡ suc (10 - size) = omega arith in
      let f : 11 - (size + 1) ≡ 10 - size = omega arith in
      let g : rest < 128 ^ (suc (10 - size)) = subst (λ (k : ℕ). rest < 128 ^ k) e r in
      (lt, rw f (omega (arith, pow-suc 128 (10 - size), g)))
  | inr le ↦
      let e : 11 - size ≡ 1 = omega arith in
      let g : rest < 128 ^ 1 = subst (λ (k : ℕ). rest < 128 ^ k) e r in absurd (omega arith)
]

-- what a number's groups are, by its size
pub ruleset varint_steps = (varint-last, varint-step)
