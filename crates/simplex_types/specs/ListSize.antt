-- How long the bytes of a list of attestations are.
use Rattle.std.specs.Prelude.{◌≡◌, ℕ, ◌+◌, ◌*◌, ◌≤◌, ◌<◌, ◌^◌, List, [], ◌∷◌, length, All}
use Rattle.std.specs.List.{flat_map}
use Rattle.std.proofs.Common.{arith, ap, ◌∙◌, length-append}
use Rattle.std.proofs.lemmas.List.Concat.{flat_map-cons}
use Rattle.std.proofs.lemmas.List.Elements.{All-tail}
use Rattle.std.proofs.lemmas.Nat.{mul-le}
use Rattle.std.proofs.Math.Nat.{suc-mul, mul-le-mul_right}
use Rattle.types_codec.specs.Varint.{varint, length-varint}
use Rattle.types_core.specs.declared.attestation.Attestation.{Attestation}
use Rattle.types_core.specs.Attestation.{attestation_spelling, attestation_fits}
use Rattle.simplex_types.specs.AttestationList.{list_spelling, list_fits, list_within}

-- more bytes than any list of attestations has, of which each has at most 1,029
abbrev pub longest_list : ℕ
longest_list = 10 + 4294967295 * 1029

module _ {G : Type 0} (F : G → Type 0) (f : G → List ℕ) (most : ℕ) where
  -- each attestation has at most five bytes of index and the most of its signature
  all_short : ((x : G) → F x → length (f x) ≤ most) → (x : List (Attestation G)) → All (attestation_fits F) x → length (flat_map (attestation_spelling f) x) ≤ length x * (5 + most)
  all_short bounds [] fits = omega arith
  all_short bounds (a ∷ x) fits =
      let own : attestation_fits F a = fits 0 a (omega arith) in
      let index : length (varint a.signer) ≤ 5 = length-varint 4 a.signer (omega (arith, own.0)) in
      let signature : length (f a.signature) ≤ most = bounds a.signature own.1 in
      let rest = all_short bounds x (All-tail (attestation_fits F) a x fits) in
      let whole : length (flat_map (attestation_spelling f) (a ∷ x)) ≡ (length (varint a.signer) + length (f a.signature)) + length (flat_map (attestation_spelling f) x) =
      ap length (flat_map-cons (attestation_spelling f) a x) ∙ length-append (attestation_spelling f a) (flat_map (attestation_spelling f) x) ∙ ap (λ (k : ℕ). k + length (flat_map (attestation_spelling f) x)) (length-append (varint a.signer) (f a.signature)) in
      omega (arith, whole, index, signature, rest, suc-mul (length x) (5 + most))

  -- a list within the bound n has at most five bytes of count, and n attestations
  pub list_longest : ((x : G) → F x → length (f x) ≤ most) → (n : ℕ) (x : List (Attestation G)) → n < 2 ^ 32 → list_fits F x → list_within n x → length (list_spelling f x) ≤ 5 + n * (5 + most)
  unfolding list_fits list_within list_spelling
  list_longest bounds n x small fits within =
      let count : length (varint (length x)) ≤ 5 = length-varint 4 (length x) (omega (arith, fits.2)) in
      let all = all_short bounds x fits.0 in
      let more : length x * (5 + most) ≤ n * (5 + most) = mul-le-mul_right (5 + most) within.1 in
      omega (arith, length-append (varint (length x)) (flat_map (attestation_spelling f) x), count, all, more)

-- which is far less than what memory holds
pub list_modest : (most : ℕ) → most ≤ 1024 → (n : ℕ) → n < 2 ^ 32 → 5 + n * (5 + most) ≤ 2 ^ 43
list_modest most short n small =
    let all : n * (5 + most) ≤ 4294967295 * 1029 = mul-le n (5 + most) 4294967295 1029 (omega arith) (omega (arith, short)) in
    omega (arith, all)
