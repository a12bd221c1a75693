-- Truth values as bytes.
use Rattle.std.specs.Prelude.{◌≡◌, ℕ, ◌==◌, Bool, true, false, List, [], ◌∷◌, ◌++◌, Result, Ok, Err, if◌then◌else◌, ⊤, refl}
use Rattle.std.proofs.Common.{inl, inr, ap, subst}
use Rattle.std.proofs.lemmas.Bool.{cases_Bool, eqb-true}
use Rattle.types_codec.specs.declared.codec.CodecError.{CodecError}
use Rattle.types_codec.specs.declared.codec.CodecError.TheVariants.{End, Invalid}
use Rattle.types_codec.specs.Codec.{IsCodec, ok_is}

-- a truth value's byte
abbrev pub truth_spelling : Bool → List ℕ
truth_spelling false = 0 ∷ []
truth_spelling true = 1 ∷ []

-- reading a truth value: 0 is false, 1 is true, and no other byte stands there
unfoldable pub truth_at : List ℕ → Result (Bool × List ℕ) CodecError
truth_at [] = Err End
truth_at (byte ∷ bytes) = if byte == 0 then Ok (false, bytes) else if byte == 1 then Ok (true, bytes) else Err Invalid

takes : (bytes : List ℕ) (x : Bool) (rest : List ℕ) → truth_at bytes ≡ Ok (x, rest) → (bytes ≡ truth_spelling x ++ rest) × ⊤
unfolding truth_at
takes [] x rest e = absurd cc
takes (byte ∷ bytes) x rest e = elim (cases_Bool (byte == 0)) [
  | inl zero-it ↦
      let f = rw zero-it at e in
      let byte-is : byte ≡ 0 = eqb-true byte 0 zero-it in
      subst (λ (q : Bool × List ℕ). (byte ∷ bytes ≡ truth_spelling q.0 ++ q.1) × ⊤) (ok_is (false, bytes) (x, rest) f) (ap (λ (b : ℕ). b ∷ bytes) byte-is, tt)
  | inr not-zero ↦ elim (cases_Bool (byte == 1)) [
    | inl one-it ↦
        let f = rw (not-zero, one-it) at e in
        let byte-is : byte ≡ 1 = eqb-true byte 1 one-it in
        subst (λ (q : Bool × List ℕ). (byte ∷ bytes ≡ truth_spelling q.0 ++ q.1) × ⊤) (ok_is (true, bytes) (x, rest) f) (ap (λ (b : ℕ). b ∷ bytes) byte-is, tt)
    | inr other ↦ absurd (let f = rw (not-zero, other) at e in cc)
  ]
]

again : (x : Bool) (rest : List ℕ) → ⊤ → truth_at (truth_spelling x ++ rest) ≡ Ok (x, rest)
unfolding truth_at
again false rest h = refl
again true rest h = refl

-- each truth value has one spelling
pub truth-IsCodec : IsCodec (λ _. ⊤) truth_spelling truth_at
truth-IsCodec = record { takes = takes; again = again }
