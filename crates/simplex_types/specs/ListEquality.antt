-- Equality of lists of attestations is identity.
use Rattle.std.specs.Prelude.{◌≡◌, ◌↔◌, ◌&&◌, Bool, true, false, IsTrue, List, [], ◌∷◌, refl}
use Rattle.std.proofs.Common.{ap, ◌∙◌, arith}
use Rattle.std.proofs.lemmas.Bool.{eqb-true}
use Rattle.types_core.specs.declared.attestation.Attestation.{Attestation}
use Rattle.types_core.specs.Attestation.{attestation_of}
use Rattle.simplex_types.specs.AttestationList.{same_list}

-- a conjunction that is true has both its parts
both_true : (a b : Bool) → (a && b) ≡ true → (a ≡ true) × (b ≡ true)
both_true true b e = (refl, e)
both_true false b e = absurd cc

module _ {G : Type 0} (same : G → G → Bool) (is : (x y : G) → IsTrue (same x y) ↔ (x ≡ y)) where
  told : (xs ys : List (Attestation G)) → same_list same xs ys ≡ true → xs ≡ ys
  told [] [] e = refl
  told [] (y ∷ ys) e = absurd cc
  told (x ∷ xs) [] e = absurd cc
  told (x ∷ xs) (y ∷ ys) e =
      let parts = both_true _ _ e in
      let fields = both_true _ _ parts.0 in
      let signer : x.signer ≡ y.signer = eqb-true x.signer y.signer fields.0 in
      let signature : x.signature ≡ y.signature = (is x.signature y.signature).0 fields.1 in
      let first : attestation_of (x.signer, x.signature) ≡ attestation_of (y.signer, y.signature) = rw (signer, signature) refl in
      ap (λ (a : Attestation G). a ∷ xs) first ∙ ap (λ (rest : List (Attestation G)). y ∷ rest) (told xs ys parts.1)

  itself : (xs : List (Attestation G)) → same_list same xs xs ≡ true
  itself [] = refl
  itself (x ∷ xs) = rw ((is x.signature x.signature).1 refl, itself xs) (search arith)

  pub same_list-is : (xs ys : List (Attestation G)) → IsTrue (same_list same xs ys) ↔ (xs ≡ ys)
  same_list-is xs ys = (told xs ys, λ e. rw e (itself ys))
