-- The marks of what bytes are read as.
use Rattle.std.proofs.Common.{◌≡◌, ◌⊎◌, inl, inr, sym, ap, ◌∙◌, refl, ℕ, List}
use Rattle.std.specs.Prelude.{Result, Ok, Err}
use Rattle.types_codec.specs.Codec.{Gives}
use Rattle.types_codec.specs.declared.codec.CodecError.{CodecError}
use Rattle.types_codec.specs.declared.codec.CodecError.TheVariants.{End, Invalid, TooLong, Memory}
use Rattle.cli_attestations.specs.declared.listing.Mark.{Mark}
use Rattle.cli_attestations.specs.Marks.{marked}

-- those of a message that is read
pub marked_is : {A : Type 0} (marks : A → List Mark) (read : Result (A × List ℕ) CodecError) (x : A) (rest : List ℕ) (found : List Mark)
    → read ≡ Ok (x, rest) → found ≡ marks x → marked marks read ≡ Ok found
marked_is marks read x rest found is are = ap (marked marks) is ∙ ap Ok (sym are)

-- and its refusal
pub marked_not : {A : Type 0} (marks : A → List Mark) (reading : List ℕ → Result (A × List ℕ) CodecError) (old new : List ℕ) (why : CodecError)
    → Gives reading old new (Err why) → (why ≡ Memory) ⊎ (marked marks (reading old) ≡ Err why)
marked_not marks reading old new End gives = inr (ap (marked marks) gives.0)
marked_not marks reading old new Invalid gives = inr (ap (marked marks) gives.0)
marked_not marks reading old new TooLong gives = inr (ap (marked marks) gives.0)
marked_not marks reading old new Memory gives = inl refl
