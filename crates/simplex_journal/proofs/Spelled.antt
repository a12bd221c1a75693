-- A generation as its list spells it.
use Rattle.std.proofs.Common.{◌≡◌, ◌⊎◌, ℕ, zero, suc, get_or, ◌+◌, ◌/◌, ◌%◌, ◌-◌, ◌^◌, ◌<◌, ◌≤◌, List, [], ◌∷◌, ◌++◌, length, take, map, refl, sym, ◌∙◌, ap, arith, length-append, take-append-drop, drop}
use Rattle.std.specs.Prelude.{All}
use Rattle.std.specs.List.{flat_map}
use Rattle.std.proofs.lemmas.List.{map-append}
use Rattle.std.proofs.lemmas.List.Elements.{All-head, All-tail}
use Rattle.journal_single.specs.Record.{size, AreEntries, end_of}
use Rattle.simplex_journal.specs.Reading.{SpellsGeneration}
use Rattle.simplex_journal.specs.Standing.{four_bytes, entry_of}

-- four bytes spell their number
number_is : (n : ℕ) → n < 2 ^ 32 → n ≡ size (n / 2 ^ 24) (n / 2 ^ 16 % 256) (n / 2 ^ 8 % 256) (n % 256)
number_is n small = omega arith

are_entries : {M : Type 0} (spelling : M → List ℕ) (list : List M) → All (λ message. length (spelling message) < 2 ^ 32 - 1) list → AreEntries (flat_map (λ message. entry_of (spelling message)) list) (map spelling list)
are_entries spelling [] short = refl
are_entries spelling (m ∷ list) short =
    let small : length (spelling m) < 2 ^ 32 = omega (arith, All-head (λ message. length (spelling message) < 2 ^ 32 - 1) m list short) in
    let n = length (spelling m) in
    (n / 2 ^ 24, n / 2 ^ 16 % 256, n / 2 ^ 8 % 256, n % 256, flat_map (λ message. entry_of (spelling message)) list, refl, number_is n small, are_entries spelling list (All-tail (λ message. length (spelling message) < 2 ^ 32 - 1) m list short))

pub spelled_generation : {M : Type 0} (spelling : M → List ℕ) (list : List M) (g : ℕ) (bytes : List ℕ) → 0 < g → g < 2 ^ 32 → All (λ message. length (spelling message) < 2 ^ 32 - 1) list
    → bytes ≡ ((four_bytes (2 ^ 32 - 1) ++ four_bytes g) ++ flat_map (λ message. entry_of (spelling message)) list) ++ 0 ∷ [] → SpellsGeneration bytes g (map spelling list)
spelled_generation spelling list g bytes from_one small short is = record {
  front = flat_map (λ message. entry_of (spelling message)) list;
  whole = record {
    a = g / 2 ^ 24;
    b = g / 2 ^ 16 % 256;
    c = g / 2 ^ 8 % 256;
    d = g % 256;
    split = ap (λ (l : List ℕ). 2 ∷ l) is;
    number = number_is g small;
    from_one = from_one;
    some = omega (arith, length-append (flat_map (λ message. entry_of (spelling message)) list) (0 ∷ []));
  };
  entries = are_entries spelling list short;
}

end_append : (xs ys : List (List ℕ)) → end_of (xs ++ ys) ≡ end_of xs + end_of ys
end_append [] ys = omega arith
end_append (x ∷ xs) ys = omega (arith, end_append xs ys)

-- a front of a list ends no later
pub end_front : {M : Type 0} (spelling : M → List ℕ) (n : ℕ) (list : List M) → end_of (map spelling (take n list)) ≤ end_of (map spelling list)
end_front spelling n list =
    let split : map spelling list ≡ map spelling (take n list) ++ map spelling (drop n list) = ap (λ l. map spelling l) (sym (take-append-drop n list)) ∙ map-append spelling (take n list) (drop n list) in
    omega (arith, ap end_of split, end_append (map spelling (take n list)) (map spelling (drop n list)))

-- an entry more
pub end_next : {M : Type 0} (spelling : M → List ℕ) (list : List M) (i : ℕ) (m : M) → i < length list → m ≡ get_or list i m → end_of (map spelling (take (suc i) list)) ≡ end_of (map spelling (take i list)) + 5 + length (spelling m)
end_next spelling [] i m lt is = absurd (omega (arith, lt))
end_next spelling (x ∷ list) zero m lt is = let same : length (spelling m) ≡ length (spelling x) = ap (λ n. length (spelling n)) is in omega (arith, same)
end_next spelling (x ∷ list) (suc i) m lt is = omega (arith, end_next spelling list i m (omega (arith, lt)) is)

pub get_or_same : {M : Type 0} (list : List M) (i : ℕ) (d e : M) → i < length list → get_or list i d ≡ get_or list i e
get_or_same [] i d e lt = absurd (omega (arith, lt))
get_or_same (x ∷ list) zero d e lt = refl
get_or_same (x ∷ list) (suc i) d e lt = get_or_same list i d e (omega (arith, lt))

pub before_or_at : (j i : ℕ) → j < i + 1 → (j < i) ⊎ (j ≡ i)
before_or_at j i lt = grind arith
