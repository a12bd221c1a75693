-- What reading a number gives where the number is short.
use Rattle.std.proofs.Common.{◌≡◌, ℕ, ◌+◌, ◌-◌, ◌*◌, ◌/◌, ◌<◌, ◌≤◌, ◌==◌, List, [], ◌∷◌, length, take, drop, slice_index_or, Ok, refl, false, arith}
use Rattle.std.proofs.lemmas.Bool.{lt-ltb, le-ltb, ne_eqb}
use Rattle.std.proofs.lemmas.List.{take_all}
use Rattle.types_codec.specs.Varint.{varint_at}

-- a byte that is the last
last : (most a : ℕ) (rest : List ℕ) → a < 128 → a ≤ most → varint_at most (a ∷ rest) ≡ Ok (a, rest)
unfolding varint_at
last most a rest low room = rw (lt-ltb a 128 low, le-ltb most a room) refl

-- a byte in front of others
front : (most a high : ℕ) (bytes rest : List ℕ) → 128 ≤ a → a < 256 → 128 ≤ most → 0 < high
    → varint_at ((most - (a - 128)) / 128) bytes ≡ Ok (high, rest) → varint_at most (a ∷ bytes) ≡ Ok (a - 128 + 128 * high, rest)
unfolding varint_at
front most a high bytes rest many byte room some inner =
    let not_none : (high == 0) ≡ false = ne_eqb high 0 (omega arith) in
    rw (le-ltb a 128 many, lt-ltb a 256 byte, le-ltb most 128 room, inner, not_none) refl

-- two bytes
two : (most a b : ℕ) (rest : List ℕ) → 128 ≤ a → a < 256 → 0 < b → b < 128 → 16383 ≤ most
    → varint_at most (a ∷ b ∷ rest) ≡ Ok (a - 128 + 128 * b, rest)
two most a b rest many byte some low room =
    front most a b (b ∷ rest) rest many byte (omega arith) some (last ((most - (a - 128)) / 128) b rest low (omega arith))

-- three bytes
three : (most a b c : ℕ) (rest : List ℕ) → 128 ≤ a → a < 256 → 128 ≤ b → b < 256 → 0 < c → c < 128 → 2097151 ≤ most
    → varint_at most (a ∷ b ∷ c ∷ rest) ≡ Ok (a - 128 + 128 * (b - 128 + 128 * c), rest)
three most a b c rest many byte more small some low room =
    front most a (b - 128 + 128 * c) (b ∷ c ∷ rest) rest many byte (omega arith) (omega arith) (two ((most - (a - 128)) / 128) b c rest more small some low (omega arith))

-- a number of one byte at the front
pub one_byte : (most a : ℕ) (bytes : List ℕ) → 1 ≤ length bytes → a ≡ slice_index_or bytes 0 0 → a < 128 → a ≤ most
    → varint_at most bytes ≡ Ok (a, take (length bytes - 1) (drop 1 bytes))
one_byte most a [] long is low room = absurd (omega arith)
one_byte most a (x ∷ rest) long is low room =
    rw (take_all (length (x ∷ rest) - 1) rest (omega arith), is) (last most x rest (omega arith) (omega arith))

-- a number of two bytes at the front
pub two_bytes : (most a b : ℕ) (bytes : List ℕ) → 2 ≤ length bytes → a ≡ slice_index_or bytes 0 0 → b ≡ slice_index_or bytes 1 0 → 128 ≤ a → a < 256 → 0 < b → b < 128 → 16383 ≤ most
    → varint_at most bytes ≡ Ok (a - 128 + 128 * b, take (length bytes - 2) (drop 2 bytes))
two_bytes most a b [] long a-is b-is many byte some low room = absurd (omega arith)
two_bytes most a b (x ∷ []) long a-is b-is many byte some low room = absurd (omega arith)
two_bytes most a b (x ∷ y ∷ rest) long a-is b-is many byte some low room =
    rw (take_all (length (x ∷ y ∷ rest) - 2) rest (omega arith), a-is, b-is) (two most x y rest (omega arith) (omega arith) (omega arith) (omega arith) room)

-- a number of three bytes at the front
pub three_bytes : (most a b c : ℕ) (bytes : List ℕ) → 3 ≤ length bytes → a ≡ slice_index_or bytes 0 0 → b ≡ slice_index_or bytes 1 0 → c ≡ slice_index_or bytes 2 0 → 128 ≤ a → a < 256 → 128 ≤ b → b < 256 → 0 < c → c < 128 → 2097151 ≤ most
    → varint_at most bytes ≡ Ok (a - 128 + 128 * (b - 128 + 128 * c), take (length bytes - 3) (drop 3 bytes))
three_bytes most a b c [] long a-is b-is c-is many byte more small some low room = absurd (omega arith)
three_bytes most a b c (x ∷ []) long a-is b-is c-is many byte more small some low room = absurd (omega arith)
three_bytes most a b c (x ∷ y ∷ []) long a-is b-is c-is many byte more small some low room = absurd (omega arith)
three_bytes most a b c (x ∷ y ∷ z ∷ rest) long a-is b-is c-is many byte more small some low room =
    rw (take_all (length (x ∷ y ∷ z ∷ rest) - 3) rest (omega arith), a-is, b-is, c-is) (three most x y z rest (omega arith) (omega arith) (omega arith) (omega arith) (omega arith) (omega arith) room)

-- what reading gives at numbers of up to three bytes
pub ruleset short_varints = (one_byte, two_bytes, three_bytes)
