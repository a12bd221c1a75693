-- One spelling for each list of attestations.
use Rattle.std.specs.Prelude.{◌≡◌, ℕ, zero, suc, ◌≤◌, ◌<◌, ◌^◌, ◌+◌, List, [], ◌∷◌, ◌++◌, length, All, Result, Ok, Err, refl, nat_lt, true, false, ⊤}
use Rattle.std.specs.List.{flat_map}
use Rattle.std.proofs.Common.{sym, ap, ◌∙◌, subst, append_assoc, arith, cond, inl, inr}
use Rattle.std.proofs.lemmas.Bool.{ltb-false, le-ltb, lt-ltb, ltb-true, cases_lt}
use Rattle.std.proofs.lemmas.List.Concat.{flat_map-cons}
use Rattle.std.proofs.lemmas.List.Elements.{All-nil, All-cons, All-tail}
use Rattle.types_codec.specs.declared.codec.CodecError.{CodecError}
use Rattle.types_codec.specs.declared.codec.CodecError.TheVariants.{TooLong}
use Rattle.types_core.specs.declared.attestation.Attestation.{Attestation}
use Rattle.types_core.specs.Attestation.{attestation_of, attestation_parts, attestation_spelling, attestation_fits}
use Rattle.types_codec.specs.Codec.{◌>>=◌, IsCodec, Readable, both-IsCodec, as-IsCodec, checked-IsCodec, said-IsCodec, bind_ok, refused_ok, ok_is}
use Rattle.types_codec.specs.Varint.{varint, varint_at, varint-IsCodec, max_u32, max_u64}
use Rattle.types_core.specs.Ascending.{AscendsFrom}
use Rattle.simplex_types.specs.AttestationList.{list_spelling, list_fits, list_within, is_next, next_at, ascending_at, list_at}

-- what passes stands from low on and below n
next_true : (n low index : ℕ) → is_next n low index ≡ true → (low ≤ index) × (index < n)
next_true n low index e = elim (cases_lt index low) [
  | inl lt ↦ absurd (let f = rw (lt-ltb index low lt) at e in cc)
  | inr le ↦ let f = rw (le-ltb index low le) at e in (le, ltb-true index n f)
]

-- and what stands there passes
true_next : (n low index : ℕ) → low ≤ index → index < n → is_next n low index ≡ true
true_next n low index le lt = rw (le-ltb index low le, lt-ltb index n lt) refl

module _ {G : Type 0} where
  -- an attestation that may stand from low on and below n
  abbrev IsNext : (G → Type 0) → ℕ → ℕ → Attestation G → Type 0
  IsNext F n low a = ((a.signer ≤ max_u32) × (is_next n low a.signer ≡ true)) × F a.signature

  -- attestations that may stand so one after the other
  abbrev AreNext : (G → Type 0) → ℕ → ℕ → List (Attestation G) → Type 0
  AreNext F n low [] = ⊤
  AreNext F n low (a ∷ rest) = IsNext F n low a × AreNext F n (a.signer + 1) rest

  next-IsCodec : {F : G → Type 0} {f : G → List ℕ} {r : List ℕ → Result (G × List ℕ) CodecError} (n low : ℕ) → IsCodec F f r → IsCodec (IsNext F n low) (attestation_spelling f) (next_at r n low)
  unfolding next_at
  next-IsCodec n low p = as-IsCodec attestation_of attestation_parts (λ x. refl) (λ y. refl) (both-IsCodec (checked-IsCodec (is_next n low) (varint-IsCodec max_u32)) p)

  module _ {F : G → Type 0} {f : G → List ℕ} {r : List ℕ → Result (G × List ℕ) CodecError} where
    takes_all : IsCodec F f r → (n k low : ℕ) (bytes : List ℕ) (x : List (Attestation G)) (rest : List ℕ) → ascending_at r n k low bytes ≡ Ok (x, rest) → (bytes ≡ flat_map (attestation_spelling f) x ++ rest) × AreNext F n low x × (length x ≡ k)
    unfolding ascending_at
    takes_all p n zero low bytes x rest e =
        subst (λ (y : List (Attestation G) × List ℕ). (bytes ≡ flat_map (attestation_spelling f) y.0 ++ y.1) × AreNext F n low y.0 × (length y.0 ≡ 0)) (ok_is ([], bytes) (x, rest) e) (refl, tt, refl)
    takes_all p n (suc k) low bytes x rest e =
        let a = bind_ok (next_at r n low bytes) (λ first. ascending_at r n k (first.0.signer + 1) first.1 >>= λ others. Ok (first.0 ∷ others.0, others.1)) (x, rest) e in
        let b = bind_ok (ascending_at r n k (a.0.0.signer + 1) a.0.1) (λ others. Ok (a.0.0 ∷ others.0, others.1)) (x, rest) a.2 in
        let c = ok_is (a.0.0 ∷ b.0.0, b.0.1) (x, rest) b.2 in
        let first = (next-IsCodec n low p).takes bytes a.0.0 a.0.1 a.1 in
        let second = takes_all p n k (a.0.0.signer + 1) a.0.1 b.0.0 b.0.1 b.1 in
        let whole : bytes ≡ flat_map (attestation_spelling f) (a.0.0 ∷ b.0.0) ++ b.0.1 = first.0 ∙ ap (λ (t : List ℕ). attestation_spelling f a.0.0 ++ t) second.0 ∙ sym (ap (λ (t : List ℕ). t ++ b.0.1) (flat_map-cons (attestation_spelling f) a.0.0 b.0.0) ∙ append_assoc (attestation_spelling f a.0.0) (flat_map (attestation_spelling f) b.0.0) b.0.1) in
        subst (λ (y : List (Attestation G) × List ℕ). (bytes ≡ flat_map (attestation_spelling f) y.0 ++ y.1) × AreNext F n low y.0 × (length y.0 ≡ suc k)) c (whole, (first.1, second.1), ap suc second.2)

    again_all : IsCodec F f r → (n low : ℕ) (x : List (Attestation G)) (rest : List ℕ) → AreNext F n low x → ascending_at r n (length x) low (flat_map (attestation_spelling f) x ++ rest) ≡ Ok (x, rest)
    unfolding ascending_at
    again_all p n low [] rest fits = refl
    again_all p n low (a ∷ x) rest fits =
        let regrouped : flat_map (attestation_spelling f) (a ∷ x) ++ rest ≡ attestation_spelling f a ++ (flat_map (attestation_spelling f) x ++ rest) = ap (λ (t : List ℕ). t ++ rest) (flat_map-cons (attestation_spelling f) a x) ∙ append_assoc (attestation_spelling f a) (flat_map (attestation_spelling f) x) rest in
        ap (ascending_at r n (suc (length x)) low) regrouped ∙ rw ((next-IsCodec n low p).again a (flat_map (attestation_spelling f) x ++ rest) fits.0, again_all p n (a.signer + 1) x rest fits.1) refl

    counted-IsCodec : IsCodec F f r → (n : ℕ) → n ≤ max_u32 → IsCodec (λ x. AreNext F n 0 x × (length x ≤ n)) (list_spelling f) (list_at r n)
    unfolding list_at list_spelling
    counted-IsCodec p n small = record {
      takes = λ bytes x rest e.
          let a = bind_ok (varint_at max_u64 bytes) (λ count. cond (nat_lt n count.0) (Err TooLong) (ascending_at r n count.0 0 count.1)) (x, rest) e in
          let g = refused_ok (nat_lt n a.0.0) TooLong (ascending_at r n a.0.0 0 a.0.1) (x, rest) a.2 in
          let first = (varint-IsCodec max_u64).takes bytes a.0.0 a.0.1 a.1 in
          let second = takes_all p n a.0.0 0 a.0.1 x rest g.1 in
          let few : a.0.0 ≤ n = ltb-false _ _ g.0 in
          let whole : bytes ≡ (varint (length x) ++ flat_map (attestation_spelling f) x) ++ rest = first.0 ∙ ap (λ (k : ℕ). varint k ++ a.0.1) (sym second.2) ∙ ap (λ (t : List ℕ). varint (length x) ++ t) second.0 ∙ sym (append_assoc (varint (length x)) (flat_map (attestation_spelling f) x) rest) in
          (whole, (second.1, omega (arith, second.2, few)));
      again = λ x rest fits.
          let few : nat_lt n (length x) ≡ false = le-ltb _ _ fits.1 in
          ap (list_at r n) (append_assoc (varint (length x)) (flat_map (attestation_spelling f) x) rest)
          ∙ rw ((varint-IsCodec max_u64).again (length x) (flat_map (attestation_spelling f) x ++ rest) (omega (arith, fits.1, small)), few) (again_all p n 0 x rest fits.0);
    }

  module _ (F : G → Type 0) (n : ℕ) where
    fits_all : (low : ℕ) (x : List (Attestation G)) → AreNext F n low x → All (attestation_fits F) x
    fits_all low [] h = All-nil _
    fits_all low (a ∷ x) h = All-cons (attestation_fits F) a x (h.0.0.0, h.0.1) (fits_all (a.signer + 1) x h.1)

    ascends : (low : ℕ) (x : List (Attestation G)) → AreNext F n low x → AscendsFrom low x
    ascends low [] h = tt
    ascends low (a ∷ x) h = ((next_true n low a.signer h.0.0.1).0, ascends (a.signer + 1) x h.1)

    below_all : (low : ℕ) (x : List (Attestation G)) → AreNext F n low x → All (λ a. a.signer < n) x
    below_all low [] h = All-nil _
    below_all low (a ∷ x) h = All-cons (λ (b : Attestation G). b.signer < n) a x (next_true n low a.signer h.0.0.1).1 (below_all (a.signer + 1) x h.1)

    next_all : (low : ℕ) (x : List (Attestation G)) → All (attestation_fits F) x → AscendsFrom low x → All (λ a. a.signer < n) x → AreNext F n low x
    next_all low [] fits up below = tt
    next_all low (a ∷ x) fits up below =
        let first : attestation_fits F a = fits 0 a (omega arith) in
        (((first.0, true_next n low a.signer up.0 (below 0 a (omega arith))), first.1), next_all (a.signer + 1) x (All-tail (attestation_fits F) a x fits) up.1 (All-tail (λ (b : Attestation G). b.signer < n) a x below))

  -- so many attestations that were read ascend
  pub ascending-read : {F : G → Type 0} {f : G → List ℕ} {r : List ℕ → Result (G × List ℕ) CodecError} → IsCodec F f r → (n k low : ℕ) (bytes : List ℕ) (x : List (Attestation G)) (rest : List ℕ) → ascending_at r n k low bytes ≡ Ok (x, rest) → AscendsFrom low x × (length x ≡ k)
  ascending-read {F} p n k low bytes x rest e =
      let q = takes_all p n k low bytes x rest e in
      (ascends F n low x q.1, q.2)

  -- a list of attestations is read exactly where its bytes stand
  pub list-IsCodec : {F : G → Type 0} {f : G → List ℕ} {r : List ℕ → Result (G × List ℕ) CodecError} (n : ℕ) → n < 2 ^ 32 → IsCodec F f r → IsCodec (Readable (list_fits F) (list_within n)) (list_spelling f) (list_at r n)
  unfolding list_fits list_within
  list-IsCodec {F} n small p = said-IsCodec (counted-IsCodec p n (omega arith))
      (λ x h. ((fits_all F n 0 x h.0, ascends F n 0 x h.0, omega (arith, h.1, small)), (below_all F n 0 x h.0, h.1)))
      (λ x h. (next_all F n 0 x h.0.0 h.0.1 h.1.0, h.1.1))
