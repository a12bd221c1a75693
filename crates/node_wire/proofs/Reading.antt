-- What a reader answered, in the words of what is spelled.
use Rattle.std.proofs.Common.{◌≡◌, ℕ, List, ◌++◌, Result, Ok, Err, IfOk}
use Rattle.types_codec.specs.declared.codec.CodecError.{CodecError}
use Rattle.types_codec.specs.Codec.{GivesBy, IsCodec}

-- what was read is spelled at the front, and fits
pub spelled_of : {X A : Type 0} {F : A → Type 0} {f : A → List ℕ} {r : List ℕ → Result (A × List ℕ) CodecError} → IsCodec F f r → (view : X → A) (old new : List ℕ) (read : Result X CodecError)
    → GivesBy view r old new read → IfOk read (λ x. (old ≡ f (view x) ++ new) × F (view x))
spelled_of codec view old new (Ok x) gives = codec.takes old (view x) new gives
spelled_of codec view old new (Err e) gives = tt
