-- What stands behind a closed gate, by the bytes at its places.
use Rattle.std.proofs.Common.{◌≡◌, ◌≢◌, ◌⊎◌, inl, inr, ⊎_elim, ℕ, ◌+◌, ◌-◌, ◌<◌, ◌≤◌, List, [], ◌∷◌, ◌++◌, length, get_or, take, drop, refl, sym, ap, ◌∙◌, arith, length-append, length-take, length-drop, take-append-drop}
use Rattle.std.proofs.Math.Seq.{get_or-append_seam}
use Rattle.std.proofs.lemmas.List.{drop_more, get_or-drop}
use Rattle.journal_single.specs.Record.{size}
use Rattle.journal_look.specs.Look.{HasMore}

-- the number that the first four bytes spell
abbrev pub size_at : List ℕ → ℕ
size_at bytes = size (get_or bytes 0 0) (get_or bytes 1 0) (get_or bytes 2 0) (get_or bytes 3 0)

-- what is known of bytes that hold a length, a body and a gate
pub record Stands (bytes : List ℕ) (more : HasMore bytes) : Type 0 where
  pub size_is : size_at bytes ≡ length more.body
  pub long : length bytes ≡ 5 + length more.body + length more.beyond
  pub gate : get_or bytes (4 + size_at bytes) 0 ≡ more.gate

pub stands : (bytes : List ℕ) (more : HasMore bytes) → Stands bytes more
stands bytes more =
    let a : get_or bytes 0 0 ≡ more.a = ap (λ (l : List ℕ). get_or l 0 0) more.split in
    let b : get_or bytes 1 0 ≡ more.b = ap (λ (l : List ℕ). get_or l 1 0) more.split in
    let c : get_or bytes 2 0 ≡ more.c = ap (λ (l : List ℕ). get_or l 2 0) more.split in
    let d : get_or bytes 3 0 ≡ more.d = ap (λ (l : List ℕ). get_or l 3 0) more.split in
    let is : size_at bytes ≡ length more.body = omega (arith, a, b, c, d, more.long) in
    let front : List ℕ = more.a ∷ more.b ∷ more.c ∷ more.d ∷ more.body in
    let at : 4 + size_at bytes ≡ length front = omega (arith, is) in
    record {
      size_is = is;
      long = omega (arith, ap length more.split, length-append more.body (more.gate ∷ more.beyond));
      gate = ap (λ (n : ℕ). get_or bytes n 0) at ∙ ap (λ (l : List ℕ). get_or l (length front) 0) more.split ∙ get_or-append_seam front more.gate more.beyond 0;
    }

-- too few bytes for a length, a body and a gate
pub too_few : (bytes : List ℕ) → length bytes < 5 → ¬ HasMore bytes
too_few bytes few more = let s = stands bytes more in omega (arith, few, s.long)

pub too_short : (bytes : List ℕ) → length bytes < 5 + size_at bytes → ¬ HasMore bytes
too_short bytes few more = let s = stands bytes more in omega (arith, few, s.long, s.size_is)

empty : (xs : List ℕ) → length xs ≡ 0 → xs ≡ []
empty [] is = refl
empty (x ∷ xs) is = absurd (omega (arith, is))

-- the gate is the last byte: so it is open
pub ends_open : (bytes : List ℕ) → length bytes ≤ 5 + size_at bytes → HasMore bytes → get_or bytes (4 + size_at bytes) 0 ≡ 1
ends_open bytes long more =
    let s = stands bytes more in
    let none : length more.beyond ≡ 0 = omega (arith, long, s.long, s.size_is) in
    ⊎_elim (λ (open_gate : more.gate ≡ 1). s.gate ∙ open_gate) (λ (some : more.beyond ≢ []). absurd (some (empty more.beyond none))) more.more

-- a length, a body and a gate stand there, and the gate is open, or isn't the last byte
four : (bytes : List ℕ) → 4 ≤ length bytes → bytes ≡ get_or bytes 0 0 ∷ get_or bytes 1 0 ∷ get_or bytes 2 0 ∷ get_or bytes 3 0 ∷ drop 4 bytes
four [] long = absurd (omega (arith, long))
four (a ∷ []) long = absurd (omega (arith, long))
four (a ∷ b ∷ []) long = absurd (omega (arith, long))
four (a ∷ b ∷ c ∷ []) long = absurd (omega (arith, long))
four (a ∷ b ∷ c ∷ d ∷ bytes) long = refl

pub more_here : (bytes : List ℕ) → 5 + size_at bytes ≤ length bytes → (get_or bytes (4 + size_at bytes) 0 ≡ 1) ⊎ (5 + size_at bytes < length bytes) → HasMore bytes
more_here bytes long more =
    let n = size_at bytes in
    let behind = drop 4 bytes in
    let in_behind : n < length behind = omega (arith, long, length-drop 4 bytes) in
    record {
      a = get_or bytes 0 0;
      b = get_or bytes 1 0;
      c = get_or bytes 2 0;
      d = get_or bytes 3 0;
      body = take n behind;
      gate = get_or behind n 0;
      beyond = drop (n + 1) behind;
      split = four bytes (omega (arith, long))
          ∙ ap (λ (l : List ℕ). get_or bytes 0 0 ∷ get_or bytes 1 0 ∷ get_or bytes 2 0 ∷ get_or bytes 3 0 ∷ l) (sym (take-append-drop n behind) ∙ ap (λ (l : List ℕ). take n behind ++ l) (drop_more behind n 0 in_behind));
      long = omega (arith, length-take n behind, in_behind);
      more = ⊎_elim (λ (open_gate : get_or bytes (4 + n) 0 ≡ 1). inl (get_or-drop 4 bytes n 0 ∙ open_gate))
          (λ (more : 5 + n < length bytes). inr (λ (none : drop (n + 1) behind ≡ []). omega (arith, more, ap length none, length-drop (n + 1) behind, length-drop 4 bytes))) more;
    }
