-- What is kept, by what is told of it.
use Rattle.std.proofs.Common.{◌≡◌, ◌≢◌, ℕ, Option, None, Some, refl}
use Rattle.std.specs.Prelude.{IsSome}
use Rattle.cli_calls.specs.Kept.{count_of}

-- a value that is there
pub value_of : {A : Type 0} (kept : Option A) → IsSome kept → (x : A) × (kept ≡ Some x)
value_of None is = absurd cc
value_of (Some x) is = (x, refl)

-- where not one is counted none is kept
pub none_by : {A : Type 0} (kept : Option A) (n : ℕ) → n ≡ count_of kept → n ≢ 1 → kept ≡ None
none_by None n is not = refl
none_by (Some x) n is not = absurd (not is)
