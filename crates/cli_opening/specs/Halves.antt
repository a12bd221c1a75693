-- What is found on one of two disks before a node opens both.
use Rattle.std.specs.Prelude.{◌≡◌, ℕ, ◌+◌, List, Bool, drop}
use Rattle.simplex_journal.specs.Generation.{IsOf}
use Rattle.simplex_record.specs.declared.owner.Owner.{Owner}
use Rattle.cli_opening.specs.declared.looking.Barred.{Barred}
use Rattle.cli_opening.specs.declared.looking.Barred.TheVariants as barred
use Rattle.cli_opening.specs.declared.looking.Found.{Found}
use Rattle.cli_opening.specs.Looking.{IsBarredBy, IsFoundBy}

-- the place that is named, if one is
abbrev pub place_of : Barred → ℕ
place_of barred.Memory = 0
place_of barred.Device = 0
place_of barred.NoRecord = 0
place_of (barred.Foreign place) = place
place_of (barred.Unlawful position) = 0
place_of (barred.Unclosed place) = place
place_of (barred.Behind place) = place

-- why a file is left whose record stands behind so many bytes: places are counted from its first
abbrev pub behind : ℕ → Barred → Barred
behind head barred.Memory = barred.Memory
behind head barred.Device = barred.Device
behind head barred.NoRecord = barred.NoRecord
behind head (barred.Foreign place) = barred.Foreign (place + head)
behind head (barred.Unlawful position) = barred.Unlawful position
behind head (barred.Unclosed place) = barred.Unclosed (place + head)
behind head (barred.Behind place) = barred.Behind (place + head)

-- the bytes are of a generation or of none, and their record is a lawful one of this owner in that committee, of which this is said
pub record IsFoundOnHalf (base : List ℕ) (count : ℕ) (owner : Owner) (cuts : Bool) (bytes : List ℕ) (found : Found) : Type 0 where
  pub generation : ℕ
  pub head : ℕ
  pub of : IsOf bytes generation (drop head bytes)
  pub says : IsFoundBy base count owner cuts (drop head bytes) found

-- why one of two disks of these bytes is left as it is: for what its record is, behind the head of its generation
pub record IsBarredOnHalf (base : List ℕ) (count : ℕ) (owner : Owner) (bytes : List ℕ) (why : Barred) : Type 0 where
  pub generation : ℕ
  pub head : ℕ
  pub of : IsOf bytes generation (drop head bytes)
  pub cause : Barred
  pub told : why ≡ behind head cause
  pub barred : IsBarredBy base count owner (drop head bytes) cause
