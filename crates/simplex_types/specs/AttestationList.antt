-- Lists of attestations as bytes: the certificates of schemes that list.
use Rattle.std.specs.Prelude.{ℕ, zero, suc, ◌+◌, ◌≤◌, ◌<◌, nat_lt, ◌&&◌, ◌==◌, Bool, not, List, [], ◌∷◌, ◌++◌, length, All, Result, Ok, Err, if◌then◌else◌}
use Rattle.std.specs.List.{flat_map}
use Rattle.std.specs.Ordering.{on, eq_of_both}
use Rattle.std.proofs.Common.{arith}
use Rattle.std.specs.Cmp.Lexicographic.{pointwise}
use Rattle.types_codec.specs.declared.codec.CodecError.{CodecError}
use Rattle.types_codec.specs.declared.codec.CodecError.TheVariants.{TooLong}
use Rattle.types_core.specs.declared.attestation.Attestation.{Attestation}
use Rattle.types_core.specs.Ascending.{AscendsFrom}
use Rattle.types_core.specs.Attestation.{attestation_of, attestation_spelling, attestation_fits}
use Rattle.types_codec.specs.Codec.{◌>>=◌, both_at, as_at, checked_at}
use Rattle.types_codec.specs.Varint.{varint, varint_at, max_u32, max_u64}

-- an index that may stand behind others of which the last is below low, under the bound n
abbrev pub is_next : ℕ → ℕ → ℕ → Bool
is_next n low index = not (nat_lt index low) && nat_lt index n

module _ {G : Type 0} where
  -- a list's bytes: how many, then each attestation
  unfoldable pub list_spelling : (G → List ℕ) → List (Attestation G) → List ℕ
  list_spelling signature listed = varint (length listed) ++ flat_map (attestation_spelling signature) listed

  -- a list that can be spelled: its indices ascend, and its numbers fit their types
  unfoldable pub list_fits : (G → Type 0) → List (Attestation G) → Type 0
  list_fits F listed = All (attestation_fits F) listed × AscendsFrom 0 listed × (length listed ≤ max_u32)

  -- a list within the bound n: at most n attestations, each index below n
  unfoldable pub list_within : ℕ → List (Attestation G) → Type 0
  list_within n listed = All (λ a. a.signer < n) listed × (length listed ≤ n)

  -- and so within each greater bound
  pub list_within-grows : (n m : ℕ) (listed : List (Attestation G)) → n ≤ m → list_within n listed → list_within m listed
  unfolding list_within
  list_within-grows n m listed up within = ((λ k d l. omega (arith, up, within.0 k d l)), omega (arith, up, within.1))

  -- one attestation, of an index from low on and below n, which is judged when it is read
  unfoldable pub next_at : (List ℕ → Result (G × List ℕ) CodecError) → ℕ → ℕ → List ℕ → Result (Attestation G × List ℕ) CodecError
  next_at signature n low = as_at attestation_of (both_at (checked_at (is_next n low) (varint_at max_u32)) signature)

  -- so many attestations, of ascending indices
  unfoldable pub ascending_at : (List ℕ → Result (G × List ℕ) CodecError) → ℕ → ℕ → ℕ → List ℕ → Result (List (Attestation G) × List ℕ) CodecError
  ascending_at signature n zero low bytes = Ok ([], bytes)
  ascending_at signature n (suc k) low bytes = do
    first ← next_at signature n low bytes
    others ← ascending_at signature n k (first.0.signer + 1) first.1
    Ok (first.0 ∷ others.0, others.1)

  -- the list at the front: a count, which is judged when it is read, then so many attestations
  unfoldable pub list_at : (List ℕ → Result (G × List ℕ) CodecError) → ℕ → List ℕ → Result (List (Attestation G) × List ℕ) CodecError
  list_at signature n bytes = do
    count ← varint_at max_u64 bytes
    if nat_lt n count.0 then Err TooLong else ascending_at signature n count.0 0 count.1

  -- equality of lists under an equality of signatures
  abbrev pub same_list : (G → G → Bool) → List (Attestation G) → List (Attestation G) → Bool
  same_list same = pointwise (eq_of_both (on (λ a. a.signer) ◌==◌) (on (λ a. a.signature) same))
