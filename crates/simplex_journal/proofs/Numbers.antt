-- The number of a generation, from its bytes.
use Rattle.std.proofs.Common.{◌≡◌, ◌≢◌, inl, inr, ⊎_elim, ℕ, ◌≤◌, ◌<◌, List, ◌++◌, length, get_or, take, drop, refl, ap, arith, length-take}
use Rattle.std.specs.Prelude.{◌⊎◌}
use Rattle.journal_single.specs.Record.{size}
use Rattle.simplex_journal.specs.Generation.{HasNone, IsNumber}
use Rattle.simplex_journal.specs.GenerationLaws.{none_place, generation_here, of_front}

none_or_some : (n : ℕ) → (n ≡ 0) ⊎ (0 < n)
none_or_some n = grind arith

pub of_none : (bytes : List ℕ) → HasNone bytes → IsNumber bytes 0
of_none bytes none = (bytes, inr (none, refl, refl))

-- the four bytes behind the first are not all 255
pub number_none : (bytes : List ℕ) → size (get_or bytes 1 0) (get_or bytes 2 0) (get_or bytes 3 0) (get_or bytes 4 0) ≢ size 255 255 255 255 → IsNumber bytes 0
number_none bytes ne = of_none bytes (λ g rest is. ne (ap (λ (l : List ℕ). size (get_or l 1 0) (get_or l 2 0) (get_or l 3 0) (get_or l 4 0)) is.split))

pub first_none : (bytes : List ℕ) → get_or bytes 0 0 ≢ 2 → IsNumber bytes 0
first_none bytes ne = of_none bytes (none_place bytes 0 2 ne (λ g rest is. ap (λ (l : List ℕ). get_or l 0 0) is.split))

pub short_none : (bytes : List ℕ) → length bytes ≤ 9 → IsNumber bytes 0
short_none bytes short = of_none bytes (λ g rest is. absurd (omega (arith, short, ap length is.split, is.some)))

-- they are
pub number_there : (bytes : List ℕ) (n : ℕ) → 9 < length bytes → get_or bytes 0 0 ≡ 2 → get_or bytes 1 0 ≡ 255 → get_or bytes 2 0 ≡ 255 → get_or bytes 3 0 ≡ 255 → get_or bytes 4 0 ≡ 255
    → n ≡ size (get_or bytes 5 0) (get_or bytes 6 0) (get_or bytes 7 0) (get_or bytes 8 0) → IsNumber bytes n
number_there bytes n long is0 is1 is2 is3 is4 is = elim (none_or_some n) [
  | inl none ↦ (bytes, inr (λ g rest has. absurd (omega (arith, none, is, has.number, has.from_one, ap (λ (l : List ℕ). size (get_or l 5 0) (get_or l 6 0) (get_or l 7 0) (get_or l 8 0)) has.split)), none, refl))
  | inr some ↦ (drop 9 bytes, inl (generation_here bytes n long is0 is1 is2 is3 is4 is some))
]

-- ten bytes tell it of all
pub number_front : (bytes : List ℕ) (n : ℕ) → 9 < length bytes → IsNumber (take 10 bytes) n → IsNumber bytes n
number_front bytes n long is = ⊎_elim
    (λ some. (is.0 ++ drop 10 bytes, inl (of_front 10 bytes n is.0 some)))
    (λ none. (
      bytes,
      inr (
        λ g rest has. none.0 g (take 1 rest) (record {
          a = has.a;
          b = has.b;
          c = has.c;
          d = has.d;
          split = ap (λ (l : List ℕ). take 10 l) has.split;
          number = has.number;
          from_one = has.from_one;
          some = omega (arith, has.some, length-take 1 rest);
        }),
        none.1,
        refl,
      ),
    )) is.1
