-- Where the record of one of two disks begins, and the places that are named in it.
use Rattle.std.proofs.Common.{◌≡◌, ◌≢◌, inl, inr, ℕ, ◌≤◌, ◌<◌, List, length, get_or, drop, refl, sym, ap, subst, arith, length-append}
use Rattle.journal_single.specs.Record.{size}
use Rattle.simplex_journal.specs.Generation.{HasNone, IsGeneration, IsOf}
use Rattle.simplex_journal.specs.GenerationLaws.{generation_here, number_any}
use Rattle.simplex_record.specs.declared.owner.Owner.{Owner}
use Rattle.cli_opening.specs.declared.looking.Barred.{Barred}
use Rattle.cli_opening.specs.declared.looking.Barred.TheVariants as barred
use Rattle.cli_opening.specs.Halves.{IsBarredOnHalf, behind, place_of}
use Rattle.cli_opening.specs.Looking.{IsBarredBy, IsBeyondCut}

-- bytes of no generation are their record
pub of_none : (bytes : List ℕ) → HasNone bytes → (generation : ℕ) × IsOf bytes generation (drop 0 bytes)
of_none bytes none = (0, inr (none, refl, refl))

-- the four bytes behind the first are not all 255
pub number_none : (bytes : List ℕ) → size (get_or bytes 1 0) (get_or bytes 2 0) (get_or bytes 3 0) (get_or bytes 4 0) ≢ size 255 255 255 255 → HasNone bytes
number_none bytes ne = λ g rest is. ne (ap (λ (l : List ℕ). size (get_or l 1 0) (get_or l 2 0) (get_or l 3 0) (get_or l 4 0)) is.split)

-- no generation is of number 0
pub zero_none : (bytes : List ℕ) → size (get_or bytes 5 0) (get_or bytes 6 0) (get_or bytes 7 0) (get_or bytes 8 0) ≡ 0 → HasNone bytes
zero_none bytes zero = λ g rest is.
    absurd (omega (arith, zero, is.number, is.from_one, ap (λ (l : List ℕ). size (get_or l 5 0) (get_or l 6 0) (get_or l 7 0) (get_or l 8 0)) is.split))

-- the head of one stands in front
pub number_there : (bytes : List ℕ) (n : ℕ) → 9 < length bytes → get_or bytes 0 0 ≡ 2 → get_or bytes 1 0 ≡ 255 → get_or bytes 2 0 ≡ 255 → get_or bytes 3 0 ≡ 255 → get_or bytes 4 0 ≡ 255
    → n ≡ size (get_or bytes 5 0) (get_or bytes 6 0) (get_or bytes 7 0) (get_or bytes 8 0) → 0 < n → (generation : ℕ) × IsOf bytes generation (drop 9 bytes)
number_there bytes n long is0 is1 is2 is3 is4 is some = (n, inl (generation_here bytes n long is0 is1 is2 is3 is4 is some))

-- a place that is named stands in the bytes
pub place_within : (base : List ℕ) (count : ℕ) (owner : Owner) (bytes : List ℕ) (why : Barred) → IsBarredBy base count owner bytes why → place_of why ≤ length bytes
place_within base count owner bytes barred.Memory is = omega arith
place_within base count owner bytes barred.Device is = omega arith
place_within base count owner bytes barred.NoRecord is = omega arith
place_within base count owner bytes (barred.Foreign place) is = omega (arith, is.place_is, ap length is.left.split, length-append is.left.front is.rest)
place_within base count owner bytes (barred.Unlawful position) is = omega arith
place_within base count owner bytes (barred.Unclosed place) (artifacts, fitting, found, unclosed) = omega (arith, found.gate_is, ap length found.left.split, length-append found.left.front found.rest)
place_within base count owner bytes (barred.Behind place) (artifacts, fitting, found, more) = omega (arith, found.gate_is, ap length found.left.split, length-append found.left.front found.rest)

-- what a cut doesn't mend it doesn't mend behind a head, and no failure of a disk is made of another cause
pub beyond_behind : (head : ℕ) (why : Barred) → IsBeyondCut why → IsBeyondCut (behind head why)
beyond_behind head barred.Memory is = tt
beyond_behind head barred.Device is = tt
beyond_behind head barred.NoRecord is = tt
beyond_behind head (barred.Foreign place) is = tt
beyond_behind head (barred.Unlawful position) is = tt
beyond_behind head (barred.Unclosed place) is = absurd is
beyond_behind head (barred.Behind place) is = absurd is

pub device_behind : (head : ℕ) (why : Barred) → why ≢ barred.Device → behind head why ≢ barred.Device
device_behind head barred.Memory other is = absurd cc
device_behind head barred.Device other is = other refl
device_behind head barred.NoRecord other is = absurd cc
device_behind head (barred.Foreign place) other is = absurd cc
device_behind head (barred.Unlawful position) other is = absurd cc
device_behind head (barred.Unclosed place) other is = absurd cc
device_behind head (barred.Behind place) other is = absurd cc

-- any bytes are of a generation or of none
headed : (bytes : List ℕ) (generation : ℕ) (rest : List ℕ) → IsOf bytes generation rest → (number : ℕ) × (head : ℕ) × IsOf bytes number (drop head bytes)
headed bytes generation rest (inl is) =
    (generation, 9, inl (subst (λ (l : List ℕ). IsGeneration bytes generation l) (sym (ap (λ (l : List ℕ). drop 9 l) is.split)) is))
headed bytes generation rest (inr (none, zero, same)) = (0, 0, inr (none, refl, refl))

-- so of bytes that weren't read nothing is said
pub unread : (base : List ℕ) (count : ℕ) (owner : Owner) (bytes : List ℕ) → IsBarredOnHalf base count owner bytes barred.Memory × IsBarredOnHalf base count owner bytes barred.Device
unread base count owner bytes =
    let any = number_any bytes in
    let so = headed bytes any.0 any.1.0 any.1.1 in (
      record { generation = so.0; head = so.1; of = so.2; cause = barred.Memory; told = refl; barred = tt },
      record { generation = so.0; head = so.1; of = so.2; cause = barred.Device; told = refl; barred = tt },
    )
