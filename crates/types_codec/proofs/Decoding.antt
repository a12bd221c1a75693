-- When bytes are exactly one value.
use Rattle.std.proofs.Common.{◌≡◌, ◌≢◌, ◌==◌, List, [], ◌∷◌, ◌++◌, ℕ, length, refl, ap, sym, ◌∙◌, arith}
use Rattle.std.specs.Prelude.{Result, Ok, Err, true, false}
use Rattle.std.proofs.lemmas.Bool.{eqb-true}
use Rattle.std.proofs.lemmas.List.{append-nil}
use Rattle.types_codec.specs.declared.codec.CodecError.{CodecError}
use Rattle.types_codec.specs.Codec.{IsCodec, SpellsNone, ok_is}

-- a list of no length is empty
empty-from : (xs : List ℕ) → (length xs == 0) ≡ true → xs ≡ []
empty-from [] none = refl
empty-from (x ∷ xs) none = absurd (omega (arith, eqb-true (length (x ∷ xs)) 0 none))

-- and one of some length is not
some-from : (xs : List ℕ) → (length xs == 0) ≡ false → xs ≢ []
some-from xs some none = absurd (let never : true ≡ false = sym (ap (λ (l : List ℕ). length l == 0) none) ∙ some in cc)

module _ {A : Type 0} {Fits : A → Type 0} {spelling : A → List ℕ} {reading : List ℕ → Result (A × List ℕ) CodecError} (codec : IsCodec Fits spelling reading) (bytes : List ℕ) where
  -- what is read with nothing left is spelled by the bytes
  pub value-whole : (x : A) (rest : List ℕ) → reading bytes ≡ Ok (x, rest) → (length rest == 0) ≡ true → (bytes ≡ spelling x) × Fits x
  value-whole x rest gives none =
      let taken = codec.takes bytes x rest gives in
      (taken.0 ∙ ap (λ (l : List ℕ). spelling x ++ l) (empty-from rest none) ∙ append-nil (spelling x), taken.1)

  -- the spelling of a value is read with nothing left
  read-whole : (x : A) → Fits x → bytes ≡ spelling x → reading bytes ≡ Ok (x, [])
  read-whole x fits is = ap reading (is ∙ sym (append-nil (spelling x))) ∙ codec.again x [] fits

  -- where something is left the bytes spell no value
  pub none-left : (x : A) (rest : List ℕ) → reading bytes ≡ Ok (x, rest) → (length rest == 0) ≡ false → SpellsNone Fits spelling bytes
  none-left x rest gives some y fits is = some-from rest some (ap (λ (p : A × List ℕ). p.1) (ok_is (x, rest) (y, []) (sym gives ∙ read-whole y fits is)))

  -- and where nothing is read
  pub none-read : (e : CodecError) → reading bytes ≡ Err e → SpellsNone Fits spelling bytes
  none-read e gives x fits is = absurd (let never : reading bytes ≡ Ok (x, []) = read-whole x fits is in let both = sym gives ∙ never in cc)
