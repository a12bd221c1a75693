-- Bytes by their places.
use Rattle.std.proofs.Common.{◌≡◌, ◌≢◌, ℕ, zero, suc, ◌+◌, ◌<◌, ◌≤◌, List, [], ◌∷◌, ◌++◌, length, get_or, take, drop, refl, sym, ◌∙◌, ap, arith, append_assoc, length-append, take_at, drop_at}
use Rattle.std.proofs.lemmas.List.{append-nil, take_all, drop_all}
use Rattle.journal_single.specs.Disk.{IsOverwritten}

pub same_places : (xs ys : List ℕ) → length xs ≡ length ys → ((i : ℕ) → i < length ys → get_or xs i 0 ≡ get_or ys i 0) → xs ≡ ys
same_places [] [] same each = refl
same_places [] (y ∷ ys) same each = absurd (omega (arith, same))
same_places (x ∷ xs) [] same each = absurd (omega (arith, same))
same_places (x ∷ xs) (y ∷ ys) same each =
    let head : x ≡ y = each 0 (omega arith) in
    let tail : xs ≡ ys = same_places xs ys (omega (arith, same)) (λ i lt. each (suc i) (omega (arith, lt))) in
    λ i. head i ∷ tail i

-- what keeps the places of a front begins with it
pub kept_front : (xs c : List ℕ) → length xs ≤ length c → ((i : ℕ) → i < length xs → get_or c i 0 ≡ get_or xs i 0) → c ≡ xs ++ drop (length xs) c
kept_front [] c long each = refl
kept_front (x ∷ xs) [] long each = absurd (omega (arith, long))
kept_front (x ∷ xs) (y ∷ c) long each =
    let head : y ≡ x = each 0 (omega arith) in
    let tail : c ≡ xs ++ drop (length xs) c = kept_front xs c (omega (arith, long)) (λ i lt. each (suc i) (omega (arith, lt))) in
    λ i. head i ∷ tail i

-- what is no longer and keeps its places is a front
pub kept_take : (xs c : List ℕ) → length c ≤ length xs → ((i : ℕ) → i < length c → get_or c i 0 ≡ get_or xs i 0) → c ≡ take (length c) xs
kept_take xs [] short each = refl
kept_take [] (y ∷ c) short each = absurd (omega (arith, short))
kept_take (x ∷ xs) (y ∷ c) short each =
    let head : y ≡ x = each 0 (omega arith) in
    let tail : c ≡ take (length c) xs = kept_take xs c (omega (arith, short)) (λ i lt. each (suc i) (omega (arith, lt))) in
    λ i. head i ∷ tail i

pub record OneByte (front tail c : List ℕ) : Type 0 where
  pub byte : ℕ
  pub is : c ≡ front ++ byte ∷ tail

-- one byte may be another, the others stay
pub one_byte : (front : List ℕ) (g : ℕ) (tail c : List ℕ) → length c ≡ length (front ++ g ∷ tail) → ((i : ℕ) → i < length c → i ≢ length front → get_or c i 0 ≡ get_or (front ++ g ∷ tail) i 0) → OneByte front tail c
one_byte [] g tail [] same each = absurd (omega (arith, same))
one_byte [] g tail (x ∷ c) same each = record {
  byte = x;
  is = ap (λ (l : List ℕ). x ∷ l) (same_places c tail (omega (arith, same)) (λ i lt. each (suc i) (omega (arith, lt, same)) (λ e. absurd (omega (arith, e)))));
}
one_byte (f ∷ front) g tail [] same each = absurd (omega (arith, same))
one_byte (f ∷ front) g tail (x ∷ c) same each =
    let rest = one_byte front g tail c (omega (arith, same)) (λ i lt ne. each (suc i) (omega (arith, lt)) (λ e. ne (omega (arith, e)))) in
    let head : x ≡ f = each 0 (omega arith) (λ e. absurd (omega (arith, e))) in
    record { byte = rest.byte; is = λ i. head i ∷ rest.is i }

pub take_past : (xs ys : List ℕ) (m n : ℕ) → m ≡ length xs + n → take m (xs ++ ys) ≡ xs ++ take n ys
take_past [] ys m n is = let same : m ≡ n = omega (arith, is) in ap (λ (k : ℕ). take k ys) same
take_past (x ∷ xs) ys zero n is = absurd (omega (arith, is))
take_past (x ∷ xs) ys (suc m) n is = ap (λ (l : List ℕ). x ∷ l) (take_past xs ys m n (omega (arith, is)))

-- a write behind the end
pub held_behind : (old bytes new : List ℕ) (at : ℕ) → at ≡ length old → IsOverwritten old at bytes new → new ≡ old ++ bytes
held_behind old bytes new at is holds =
    holds
    ∙ ap (λ (l : List ℕ). l ++ bytes ++ drop (at + length bytes) old) (take_all at old (omega (arith, is)))
    ∙ ap (λ (l : List ℕ). old ++ bytes ++ l) (drop_all (at + length bytes) old (omega (arith, is)))
    ∙ append-nil (old ++ bytes)

-- a write of one byte
pub held_byte : (front : List ℕ) (g byte : ℕ) (tail new : List ℕ) (at : ℕ) → at ≡ length front → IsOverwritten (front ++ g ∷ tail) at (byte ∷ []) new → new ≡ front ++ byte ∷ tail
held_byte front g byte tail new at is holds =
    let back : drop (at + 1) (front ++ g ∷ tail) ≡ tail =
    ap (λ (l : List ℕ). drop (at + 1) l) (sym (append_assoc front (g ∷ []) tail)) ∙ drop_at (front ++ g ∷ []) tail (at + 1) (omega (arith, is, length-append front (g ∷ []))) in
    holds
    ∙ ap (λ (l : List ℕ). l ++ (byte ∷ []) ++ drop (at + 1) (front ++ g ∷ tail)) (take_at front (g ∷ tail) at (sym is))
    ∙ append_assoc front (byte ∷ []) (drop (at + 1) (front ++ g ∷ tail))
    ∙ ap (λ (l : List ℕ). front ++ byte ∷ l) back
