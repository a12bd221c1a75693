-- What comes of attestations of one statement that wait to be judged.
use Rattle.std.specs.Prelude.{◌≡◌, ◌≤◌, ◌<◌, ◌⊎◌, ◌==◌, ◌||◌, ℕ, Bool, true, false, not, List, [], ◌∷◌, ◌++◌, length, filter, Contains, Some, MatchOption}
use Rattle.types_core.specs.declared.attestation.Attestation.{Attestation}
use Rattle.batcher_assembly.specs.declared.judging.Judged.{Judged}
use Rattle.types_core.specs.Batching.{AreFailing}

-- the number is one of these
abbrev pub is_among : List ℕ → ℕ → Bool
is_among [] i = false
is_among (j ∷ others) i = (j == i) || is_among others i

module _ {G : Type 0} where
  -- the attestations that are left where those of these signers go
  abbrev pub without : List ℕ → List (Attestation G) → List (Attestation G)
  without signers attestations = filter (λ a. not (is_among signers a.signer)) attestations

  module _ {C : Type 0} (certifies : C → Type 0) (lists : C → List (Attestation G)) where
    -- the certificate certifies, and lists only attestations that it was given
    pub record IsSound (given : List (Attestation G)) (certificate : C) : Type 0 where
      pub does_certify : certifies certificate
      pub only_given : (a : Attestation G) → Contains (lists certificate) a → Contains given a

    -- the certificate certifies, and lists what it was given, all of it where certificates enumerate
    pub record IsWhole (Enumerates : Type 0) (given : List (Attestation G)) (certificate : C) : Type 0 where
      pub sound : IsSound given certificate
      pub all_given : Enumerates → (a : Attestation G) → Contains given a → Contains (lists certificate) a

    -- the scheme made a certificate without a look at each
    pub record IsAtOnce (batchable : Bool) (given : List (Attestation G)) (judged : Judged C) : Type 0 where
      pub batchable_is : batchable ≡ true
      pub fallback_is : judged.fallback ≡ false
      pub none_invalid : judged.invalid.items ≡ []
      pub certificate : C
      pub made : judged.certificate ≡ Some certificate
      pub sound : IsSound given certificate

    -- Each was judged, and a certificate made where a quorum is left. A scheme that judges many at once was asked for a
    -- certificate of all before, and may give none of these.
    pub record IsOneByOne (batchable : Bool) (may_decline : List (Attestation G) → Type 0) (attests : ℕ → G → Type 0) (Enumerates : Type 0)
        (needed : ℕ) (verified waiting : List (Attestation G)) (judged : Judged C) : Type 0 where
      pub fallback_is : judged.fallback ≡ batchable
      pub declined : batchable ≡ true → may_decline (verified ++ waiting)
      pub invalid_are : AreFailing attests waiting judged.invalid.items
      pub made : MatchOption judged.certificate
          (length (verified ++ without judged.invalid.items waiting) < needed)
          (λ c. (needed ≤ length (verified ++ without judged.invalid.items waiting))
          × IsWhole Enumerates (verified ++ without judged.invalid.items waiting) c)

    -- what comes of attestations that wait, beside those that are verified
    abbrev pub IsJudged : Bool → (List (Attestation G) → Type 0) → (ℕ → G → Type 0) → Type 0 → ℕ → List (Attestation G)
        → List (Attestation G) → Judged C → Type 0
    IsJudged batchable may_decline attests Enumerates needed verified waiting judged =
        IsAtOnce batchable (verified ++ waiting) judged ⊎ IsOneByOne batchable may_decline attests Enumerates needed verified waiting judged
