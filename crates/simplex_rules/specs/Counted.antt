-- What an audit has counted of the bytes that it reads.
use Rattle.std.specs.Prelude.{◌≡◌, ◌≢◌, ℕ, Bool, true, false, List, [], ◌∷◌, ◌++◌, All, Result, Ok, Err, Option}
use Rattle.std.specs.List.{flat_map}
use Rattle.types_codec.specs.declared.codec.CodecError.{CodecError}
use Rattle.types_codec.specs.declared.codec.CodecError.TheVariants.{Memory}
use Rattle.simplex_messages.specs.declared.activity.Activity.{Activity}
use Rattle.simplex_rules.specs.Audit.{IsRead}

-- T is what is kept of the reports that were counted
module _ {S D P G C T : Type 0} (Holds : List (Activity S D P G C) → T → Type 0) where
  -- the report that was read, if one was, is counted: whether it is, and what is kept before and after
  abbrev pub CountsRead : Result (Activity S D P G C) CodecError → T → T → Bool → Type 0
  CountsRead (Ok report) old new counted = (counted ≡ true) × ((reports : List (Activity S D P G C)) → Holds reports old → Holds (reports ++ report ∷ []) new)
  CountsRead (Err e) old new counted = (counted ≡ false) × (e ≢ Memory) × (new ≡ old)

  module _ (Fits : Activity S D P G C → Type 0) (spelling : Activity S D P G C → List ℕ) where
    -- so far these reports were read, and their votes counted
    pub record CountsSoFar (bytes : List ℕ) (rest : List ℕ) (kept : T) : Type 0 where
      pub reports : List (Activity S D P G C)
      pub fitting : All Fits reports
      pub whole : bytes ≡ flat_map spelling reports ++ rest
      pub holds : Holds reports kept

    -- one report was read, and its votes counted beside those of whatever reports were counted before
    pub record CountsOne (rest : List ℕ) (after : List ℕ) (old : T) (new : T) : Type 0 where
      pub report : Activity S D P G C
      pub fits : Fits report
      pub whole : rest ≡ spelling report ++ after
      pub counted : (reports : List (Activity S D P G C)) → Holds reports old → Holds (reports ++ report ∷ []) new

    -- the reports of the bytes up to the fault were read, and their votes counted
    pub record Counts (reading : List ℕ → Result (Activity S D P G C × List ℕ) CodecError) (bytes : List ℕ) (fault : Option ℕ) (kept : T) : Type 0 where
      pub reports : List (Activity S D P G C)
      pub read : IsRead Fits spelling reading bytes reports fault
      pub holds : Holds reports kept
