-- A loop that gathers the signers whose attestations fail.
use Rattle.std.proofs.Common.{◌≡◌, ◌<◌, ◌≤◌, ◌+◌, ◌⊎◌, inl, inr, ℕ, List, [], ◌∷◌, ◌++◌, get_or, length, arith, refl}
use Rattle.std.proofs.lemmas.List.{get_or_default}
use Rattle.std.specs.List.{All, Contains}
use Rattle.std.specs.List.Sorted.{IsStrictlyIncreasing}
use Rattle.std.proofs.lemmas.List.Elements.{All-push, All-contains, Contains-push, Contains-append_left, Contains-get_or}
use Rattle.types_core.specs.declared.attestation.Attestation.{Attestation}
use Rattle.types_core.specs.Batching.{FailsIn, AreFailing}

-- below n + 1 is below n, or n
lt-or-eq : (k n : ℕ) → k < n + 1 → (k < n) ⊎ (k ≡ n)
lt-or-eq k n h = grind arith

module _ {G : Type 0} (attests : ℕ → G → Type 0) (xs : List (Attestation G)) where
  -- of the attestation at place k
  abbrev pub Attests : ℕ → Attestation G → Type 0
  Attests k d = attests (get_or xs k d).signer (get_or xs k d).signature

  -- in the name of each signer found an attestation fails, and each of the first n attests or is of one found
  pub record Gathered (n : ℕ) (found : List ℕ) : Type 0 where
    pub sound : All (FailsIn attests xs) found
    pub complete : (k : ℕ) (d : Attestation G) → k < n → Attests k d ⊎ Contains found (get_or xs k d).signer

  pub Gathered-failing : (n : ℕ) (found : List ℕ) (x : Attestation G) → n < length xs → x ≡ get_or xs n x → (attests x.signer x.signature → ⊥) → Gathered n found → Gathered (n + 1) (found ++ x.signer ∷ [])
  Gathered-failing n found x l is fails so =
      let there = Contains-get_or xs n x l in
      record {
        sound = All-push (FailsIn attests xs) found x.signer so.sound (record { failing = x; is_there = rw (← is) at there; signer_is = refl; fails = fails });
        complete = λ k d below. elim (lt-or-eq k n below) [
          | inl lt ↦ elim (so.complete k d lt) [ inl a ↦ inl a | inr c ↦ inr (Contains-append_left found (x.signer ∷ []) _ c) ]
          | inr e ↦ inr (rw (e, get_or_default xs n d x l, ← is) (Contains-push found x.signer))
        ];
      }

  pub Gathered-attesting : (n : ℕ) (found : List ℕ) (x : Attestation G) → n < length xs → x ≡ get_or xs n x → attests x.signer x.signature → Gathered n found → Gathered (n + 1) found
  Gathered-attesting n found x l is good so = record {
    sound = so.sound;
    complete = λ k d below. elim (lt-or-eq k n below) [
      | inl lt ↦ so.complete k d lt
      | inr e ↦ inl (rw (e, get_or_default xs n d x l, ← is) good)
    ];
  }

  -- of all of them, in another order and each once, they are the failing
  pub Gathered-all : (found failing : List ℕ) (n : ℕ) → length xs ≤ n → Gathered n found → IsStrictlyIncreasing failing → ((i : ℕ) → Contains found i → Contains failing i) → ((i : ℕ) → Contains failing i → Contains found i) → AreFailing attests xs failing
  Gathered-all found failing n whole so up into back = record {
    each_fails = λ k d below. All-contains (FailsIn attests xs) found _ so.sound (back _ (Contains-get_or failing k d below));
    others_attest = λ a there. elim (so.complete there.0 a (let below = there.1 in omega arith)) [
      | inl good ↦ inl (rw there.2 at good)
      | inr listed ↦ inr (into _ (rw there.2 at listed))
    ];
    ascending = up;
  }
