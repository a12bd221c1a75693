-- Attestations by ascending index.
use Rattle.std.specs.Prelude.{ℕ, ◌+◌, ◌≤◌, List, [], ◌∷◌, ⊤}
use Rattle.types_core.specs.declared.attestation.Attestation.{Attestation}

module _ {G : Type 0} where
  -- the indices ascend, the first from low on
  abbrev pub AscendsFrom : ℕ → List (Attestation G) → Type 0
  AscendsFrom low [] = ⊤
  AscendsFrom low (a ∷ rest) = (low ≤ a.signer) × AscendsFrom (a.signer + 1) rest
