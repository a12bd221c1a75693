-- Who leads by the elector of the scripts.
use Rattle.std.specs.Prelude.{◌≡◌, ◌+◌, ◌%◌, ◌^◌, refl, ℕ, List, length, Option, Some, None}
use Rattle.types_terms.specs.declared.elector.Mode.{Mode}
use Rattle.types_terms.specs.declared.elector.Mode.TheVariants.{Scheduled, Dynamic}

-- how many turns are passed over: none by a schedule, else as many as members signed the certificate
abbrev pub passed : {A : Type 0} → Mode → Option (List A) → ℕ
passed Scheduled c = 0
passed Dynamic None = 0
passed Dynamic (Some listed) = length listed

-- the view whose turn it is
abbrev pub turn : {A : Type 0} → Mode → ℕ → Option (List A) → ℕ
turn mode view c = (view + passed mode c) % 2 ^ 64

-- by a schedule no certificate matters
pub turn-scheduled : {A : Type 0} (mode : Mode) (view : ℕ) (c d : Option (List A)) → mode ≡ Scheduled → turn mode view c ≡ turn mode view d
turn-scheduled Scheduled view c d is = refl
turn-scheduled Dynamic view c d is = absurd (let other : Dynamic ≡ Scheduled = is in cc)
