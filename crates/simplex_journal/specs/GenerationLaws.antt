-- What those who stand above take from these words.
use Rattle.std.proofs.Common.{◌≡◌, ◌≢◌, ◌⊎◌, inl, inr, ⊎_elim, ℕ, Bool, true, false, ◌+◌, ◌<◌, ◌≤◌, List, [], ◌∷◌, ◌++◌, length, get_or, take, drop, refl, sym, ◌∙◌, ap, arith, length-append, length-drop, take-append-drop}
use Rattle.std.proofs.lemmas.Bool.{cases_eq}
use Rattle.journal_single.specs.Record.{size}
use Rattle.simplex_journal.specs.Generation.{IsGeneration, HasNone, IsOf, IsNumber, IsBelow, IsPassed}

pub none_short : (bytes : List ℕ) → length bytes ≤ 9 → HasNone bytes
none_short bytes short g rest is = absurd (omega (arith, short, ap length is.split, is.some))

pub none_first : (bytes : List ℕ) → get_or bytes 0 0 ≢ 2 → HasNone bytes
none_first bytes shut g rest is = shut (ap (λ (l : List ℕ). get_or l 0 0) is.split)

pub none_place : (bytes : List ℕ) (i v : ℕ) → get_or bytes i 0 ≢ v → ((g : ℕ) (rest : List ℕ) → IsGeneration bytes g rest → get_or bytes i 0 ≡ v) → HasNone bytes
none_place bytes i v ne agree g rest is = ne (agree g rest is)

-- bytes are of one generation
pub one_generation : {bytes : List ℕ} {g h : ℕ} {rest more : List ℕ} → IsGeneration bytes g rest → IsGeneration bytes h more → g ≡ h
one_generation {bytes} {g} {h} {rest} {more} x y =
    let same = sym x.split ∙ y.split in
    let a : x.a ≡ y.a = ap (λ (l : List ℕ). get_or l 5 0) same in
    let b : x.b ≡ y.b = ap (λ (l : List ℕ). get_or l 6 0) same in
    let c : x.c ≡ y.c = ap (λ (l : List ℕ). get_or l 7 0) same in
    let d : x.d ≡ y.d = ap (λ (l : List ℕ). get_or l 8 0) same in
    omega (arith, a, b, c, d, x.number, y.number)

pub one_of : {bytes : List ℕ} {g h : ℕ} {rest more : List ℕ} → IsOf bytes g rest → IsOf bytes h more → (g ≡ h) × (rest ≡ more)
one_of {bytes} {g} {h} {rest} {more} x y = ⊎_elim
    (λ some. ⊎_elim
    (λ other. (one_generation some other, ap (λ (l : List ℕ). drop 9 l) (sym some.split ∙ other.split)))
    (λ none. absurd (none.0 g rest some)) y)
    (λ none. ⊎_elim
    (λ other. absurd (none.0 h more other))
    (λ others. (none.1 ∙ sym others.1, none.2 ∙ sym others.2)) y) x

ten : (bytes : List ℕ) → 9 < length bytes → bytes ≡ get_or bytes 0 0 ∷ get_or bytes 1 0 ∷ get_or bytes 2 0 ∷ get_or bytes 3 0 ∷ get_or bytes 4 0 ∷ get_or bytes 5 0 ∷ get_or bytes 6 0 ∷ get_or bytes 7 0 ∷ get_or bytes 8 0 ∷ drop 9 bytes
ten [] long = absurd (omega (arith, long))
ten (a ∷ []) long = absurd (omega (arith, long))
ten (a ∷ b ∷ []) long = absurd (omega (arith, long))
ten (a ∷ b ∷ c ∷ []) long = absurd (omega (arith, long))
ten (a ∷ b ∷ c ∷ d ∷ []) long = absurd (omega (arith, long))
ten (a ∷ b ∷ c ∷ d ∷ e ∷ []) long = absurd (omega (arith, long))
ten (a ∷ b ∷ c ∷ d ∷ e ∷ f ∷ []) long = absurd (omega (arith, long))
ten (a ∷ b ∷ c ∷ d ∷ e ∷ f ∷ g ∷ []) long = absurd (omega (arith, long))
ten (a ∷ b ∷ c ∷ d ∷ e ∷ f ∷ g ∷ h ∷ []) long = absurd (omega (arith, long))
ten (a ∷ b ∷ c ∷ d ∷ e ∷ f ∷ g ∷ h ∷ i ∷ bytes) long = refl

-- where the first five bytes are those of a head, and the next four spell a positive number
pub generation_here : (bytes : List ℕ) (n : ℕ) → 9 < length bytes → get_or bytes 0 0 ≡ 2 → get_or bytes 1 0 ≡ 255 → get_or bytes 2 0 ≡ 255 → get_or bytes 3 0 ≡ 255 → get_or bytes 4 0 ≡ 255
    → n ≡ size (get_or bytes 5 0) (get_or bytes 6 0) (get_or bytes 7 0) (get_or bytes 8 0) → 0 < n → IsGeneration bytes n (drop 9 bytes)
generation_here bytes n long is0 is1 is2 is3 is4 is some = record {
  a = get_or bytes 5 0;
  b = get_or bytes 6 0;
  c = get_or bytes 7 0;
  d = get_or bytes 8 0;
  split = ten bytes long ∙ (λ i. is0 i ∷ is1 i ∷ is2 i ∷ is3 i ∷ is4 i ∷ get_or bytes 5 0 ∷ get_or bytes 6 0 ∷ get_or bytes 7 0 ∷ get_or bytes 8 0 ∷ drop 9 bytes);
  number = is;
  from_one = some;
  some = omega (arith, long, length-drop 9 bytes);
}

-- bytes of this number are of no generation from a greater one on
pub below_number : (bytes : List ℕ) (g bound : ℕ) → IsNumber bytes g → g < bound → IsBelow bytes bound
below_number bytes g bound is lt h more has = ⊎_elim (λ some. omega (arith, one_generation some has, lt)) (λ none. absurd (none.0 h more has)) is.1

-- what begins a disk is of no other generation
pub of_front : (n : ℕ) (bytes : List ℕ) (g : ℕ) (rest : List ℕ) → IsGeneration (take n bytes) g rest → IsGeneration bytes g (rest ++ drop n bytes)
of_front n bytes g rest is = record {
  a = is.a;
  b = is.b;
  c = is.c;
  d = is.d;
  split = sym (take-append-drop n bytes) ∙ ap (λ (l : List ℕ). l ++ drop n bytes) is.split;
  number = is.number;
  from_one = is.from_one;
  some = omega (arith, is.some, length-append rest (drop n bytes));
}

below_front : (n : ℕ) (bytes : List ℕ) (bound : ℕ) → IsBelow bytes bound → IsBelow (take n bytes) bound
below_front n bytes bound below g rest is = below g (rest ++ drop n bytes) (of_front n bytes g rest is)

pub passed_front : (is_first : Bool) (n : ℕ) (bytes : List ℕ) (g : ℕ) → IsPassed is_first bytes g → IsPassed is_first (take n bytes) g
passed_front true n bytes g passed = below_front n bytes (g + 1) passed
passed_front false n bytes g passed = (passed.0, below_front n bytes g passed.1)

pub passed_none : (is_first : Bool) (bytes image : List ℕ) (g : ℕ) → IsPassed is_first bytes g → HasNone image → IsPassed is_first image g
passed_none true bytes image g passed none = λ h rest is. absurd (none h rest is)
passed_none false bytes image g passed none = (passed.0, λ h rest is. absurd (none h rest is))

-- ---- each disk is of some generation

short_or_long : (n : ℕ) → (n ≤ 9) ⊎ (9 < n)
short_or_long n = grind arith

none_or_some : (n : ℕ) → (n ≡ 0) ⊎ (0 < n)
none_or_some n = grind arith

-- these bytes are of some generation
abbrev HasNumber : List ℕ → Type 0
HasNumber bytes = (generation : ℕ) × IsNumber bytes generation

number_none : (bytes : List ℕ) → HasNone bytes → HasNumber bytes
number_none bytes none = (0, (bytes, inr (none, refl, refl)))

pub number_any : (bytes : List ℕ) → (generation : ℕ) × IsNumber bytes generation
number_any bytes =
    let at = λ (i : ℕ). get_or bytes i 0 in
    let number = size (at 5) (at 6) (at 7) (at 8) in
    elim (short_or_long (length bytes)) [
      | inl short ↦ number_none bytes (none_short bytes short)
      | inr long ↦ elim (cases_eq (at 0) 2) [
        | inr ne ↦ number_none bytes (none_place bytes 0 2 ne (λ g rest is. ap (λ (l : List ℕ). get_or l 0 0) is.split))
        | inl is0 ↦ elim (cases_eq (at 1) 255) [
          | inr ne ↦ number_none bytes (none_place bytes 1 255 ne (λ g rest is. ap (λ (l : List ℕ). get_or l 1 0) is.split))
          | inl is1 ↦ elim (cases_eq (at 2) 255) [
            | inr ne ↦ number_none bytes (none_place bytes 2 255 ne (λ g rest is. ap (λ (l : List ℕ). get_or l 2 0) is.split))
            | inl is2 ↦ elim (cases_eq (at 3) 255) [
              | inr ne ↦ number_none bytes (none_place bytes 3 255 ne (λ g rest is. ap (λ (l : List ℕ). get_or l 3 0) is.split))
              | inl is3 ↦ elim (cases_eq (at 4) 255) [
                | inr ne ↦ number_none bytes (none_place bytes 4 255 ne (λ g rest is. ap (λ (l : List ℕ). get_or l 4 0) is.split))
                | inl is4 ↦ elim (none_or_some number) [
                  | inl none ↦ number_none bytes (λ g rest is. absurd (omega (arith, none, is.number, is.from_one, ap (λ (l : List ℕ). size (get_or l 5 0) (get_or l 6 0) (get_or l 7 0) (get_or l 8 0)) is.split)))
                  | inr some ↦ (number, (drop 9 bytes, inl (generation_here bytes number long is0 is1 is2 is3 is4 refl some)))
                ]
              ]
            ]
          ]
        ]
      ]
    ]
