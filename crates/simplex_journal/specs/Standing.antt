-- What a journal over two disks holds.
use Rattle.std.specs.Prelude.{◌≡◌, ◌+◌, ◌-◌, ◌<◌, ◌^◌, ◌/◌, ◌%◌, ℕ, Bool, false, List, [], ◌∷◌, ◌++◌, length, map, All}
use Rattle.journal_single.specs.Disk.{Call}
use Rattle.journal_single.specs.Record.{end_of}
use Rattle.simplex_journal.specs.Reading.{IsPairAtRest}

-- a journal over two disks: whether the first is read or the second, of which generation it is, the place of the gate
-- that is closed behind its last entry, and whether an append or a rewrite has failed
pub record PairStanding (K : Type 0) : Type 0 where
  pub first : K
  pub second : K
  pub is_first : Bool
  pub generation : ℕ
  pub gate : ℕ
  pub failed : Bool

-- the journal's record is these messages: the disk that is read holds their entries, and a crash leaves nothing else
abbrev pub IsPairRecord : {M K : Type 0} → (M → List ℕ) → (K → List ℕ) → (K → List Call) → PairStanding K → List M → Type 0
IsPairRecord spelling seen calls pair messages = (pair.failed ≡ false)
    × IsPairAtRest pair.is_first pair.generation (seen pair.first) (calls pair.first) (seen pair.second) (calls pair.second) pair.gate (map spelling messages)

-- a list is short enough for a rewrite: the body of each of its messages is, and its last gate stands at most at place
-- 2^63-1
abbrev pub IsShortList : {M : Type 0} → (M → List ℕ) → List M → Type 0
IsShortList spelling list = All (λ message. length (spelling message) < 2 ^ 32 - 1) list × (9 + end_of (map spelling list) < 2 ^ 63)

-- a number in four bytes, most significant first
abbrev pub four_bytes : ℕ → List ℕ
four_bytes n = n / 2 ^ 24 ∷ n / 2 ^ 16 % 256 ∷ n / 2 ^ 8 % 256 ∷ n % 256 ∷ []

-- the open entry of a body
abbrev pub entry_of : List ℕ → List ℕ
entry_of body = 1 ∷ four_bytes (length body) ++ body
