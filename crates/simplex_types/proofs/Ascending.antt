-- Reading attestations one after the other, as a loop does.
use Rattle.std.proofs.Common.{◌≡◌, ℕ, suc, ◌-◌, ◌+◌, ◌≤◌, ◌<◌, List, [], ◌∷◌, ◌++◌, Result, Ok, Err, refl, sym, ap, ◌∙◌, append_assoc, arith}
use Rattle.std.proofs.lemmas.List.{append-nil}
use Rattle.types_codec.specs.declared.codec.CodecError.{CodecError}
use Rattle.types_codec.specs.declared.codec.CodecError.TheVariants.{End, Invalid, TooLong, Memory}
use Rattle.types_core.specs.declared.attestation.Attestation.{Attestation}
use Rattle.types_codec.specs.Codec.{◌>>=◌, Gives, GivesBy}
use Rattle.simplex_types.specs.AttestationList.{next_at, ascending_at}

module _ {G : Type 0} where
  -- what was read before, and what is still read
  abbrev pub with_front : List (Attestation G) → Result (List (Attestation G) × List ℕ) CodecError → Result (List (Attestation G) × List ℕ) CodecError
  with_front front read = read >>= λ x. Ok (front ++ x.0, x.1)

  regroup : (front : List (Attestation G)) (a : Attestation G) (read : Result (List (Attestation G) × List ℕ) CodecError) → with_front front (read >>= λ x. Ok (a ∷ x.0, x.1)) ≡ with_front (front ++ a ∷ []) read
  regroup front a (Ok x) = ap (λ (ns : List (Attestation G)). Ok (ns, x.1)) (simp append_assoc)
  regroup front a (Err f) = refl

  module _ (r : List ℕ → Result (G × List ℕ) CodecError) (n low : ℕ) where
    -- one more was read
    pub goes_on : (front : List (Attestation G)) (count i : ℕ) (bytes : List ℕ) (a : Attestation G) (after : List ℕ) (total : Result (List (Attestation G) × List ℕ) CodecError) → i < count → next_at r n low bytes ≡ Ok (a, after)
        → with_front front (ascending_at r n (count - i) low bytes) ≡ total → with_front (front ++ a ∷ []) (ascending_at r n (count - (i + 1)) (a.signer + 1) after) ≡ total
    unfolding ascending_at
    goes_on front count i bytes a after total lt h so_far =
        let k : count - i ≡ suc (count - (i + 1)) = omega arith in
        let one : with_front front (ascending_at r n (count - i) low bytes) ≡ with_front (front ++ a ∷ []) (ascending_at r n (count - (i + 1)) (a.signer + 1) after) = rw (k, h) (regroup front a (ascending_at r n (count - (i + 1)) (a.signer + 1) after)) in
        sym one ∙ so_far

    ends : (e : CodecError) (front : List (Attestation G)) (count i : ℕ) (bytes : List ℕ) (total : Result (List (Attestation G) × List ℕ) CodecError) → i < count → next_at r n low bytes ≡ Err e
        → with_front front (ascending_at r n (count - i) low bytes) ≡ total → total ≡ Err e
    unfolding ascending_at
    ends e front count i bytes total lt h so_far =
        let k : count - i ≡ suc (count - (i + 1)) = omega arith in
        let one : with_front front (ascending_at r n (count - i) low bytes) ≡ Err e = rw (k, h) refl in
        sym so_far ∙ one

    -- all were read
    pub is_done : (front : List (Attestation G)) (count i : ℕ) (bytes : List ℕ) (total : Result (List (Attestation G) × List ℕ) CodecError) → count ≤ i → with_front front (ascending_at r n (count - i) low bytes) ≡ total → total ≡ Ok (front, bytes)
    unfolding ascending_at
    is_done front count i bytes total le so_far =
        let k : count - i ≡ 0 = omega arith in
        let one : with_front front (ascending_at r n (count - i) low bytes) ≡ Ok (front, bytes) = rw k (ap (λ (ns : List (Attestation G)). Ok (ns, bytes)) (append-nil front)) in
        sym so_far ∙ one

    -- there was trouble
    pub stops : {X : Type 0} (view : X → List (Attestation G)) (reading : List ℕ → Result (List (Attestation G) × List ℕ) CodecError) (e : CodecError) (front : List (Attestation G)) (count i : ℕ) (bytes after old : List ℕ) → i < count → Gives (next_at r n low) bytes after (Err e)
        → with_front front (ascending_at r n (count - i) low bytes) ≡ reading old → GivesBy view reading old old (Err e)
    stops view reading End front count i bytes after old lt g so_far = (ends End front count i bytes (reading old) lt g.0 so_far, refl)
    stops view reading Invalid front count i bytes after old lt g so_far = (ends Invalid front count i bytes (reading old) lt g.0 so_far, refl)
    stops view reading TooLong front count i bytes after old lt g so_far = (ends TooLong front count i bytes (reading old) lt g.0 so_far, refl)
    stops view reading Memory front count i bytes after old lt g so_far = refl
