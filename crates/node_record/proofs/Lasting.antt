-- The own nullify of the current view is the last one.
use Rattle.std.proofs.Common.{◌≡◌, ◌≤◌, ◌∙◌, inl, inr, ℕ, List, [], ◌∷◌, ◌++◌, sym, ap, subst, arith, append_assoc}
use Rattle.std.specs.Prelude.{Contains}
use Rattle.std.proofs.lemmas.List.{map-append}
use Rattle.std.proofs.lemmas.List.Elements.{Contains-append_cases}
use Rattle.types_quorum.specs.Counting.{Contains-cases, Contains-nil}
use Rattle.types_core.specs.Subject.{Statement, nullify}
use Rattle.messages_certificates.specs.declared.artifact.Artifact.{Artifact}
use Rattle.messages_certificates.specs.declared.artifact.Artifact.TheVariants as artifact
use Rattle.messages_certificates.specs.declared.nullify.Nullify.{Nullify}
use Rattle.simplex_record.specs.declared.owner.Owner.{Owner}
use Rattle.simplex_record.specs.Record.{entry, entries, current_view, enters, greatest}
use Rattle.simplex_record.specs.Lawful.{IsLawful}
use Rattle.node_record.specs.Recorded.{IsLastNullifyOf}
use Rattle.node_record.proofs.Nullifies.{says}

module _ {X : Type 0} where
  above_least : (least : ℕ) (f : X → ℕ) (xs : List X) → least ≤ greatest least f xs
  above_least least f [] = omega arith
  above_least least f (x ∷ xs) = let rest = above_least least f xs in omega (arith, rest)

  grows : (least : ℕ) (f : X → ℕ) (xs ys : List X) → greatest least f xs ≤ greatest least f (xs ++ ys)
  grows least f [] ys = above_least least f ys
  grows least f (x ∷ xs) ys = let rest = grows least f xs ys in omega (arith, rest)

  -- what is in a list stands somewhere in it
  parted : (xs : List X) (x : X) → Contains xs x → (before : List X) × (after : List X) × (xs ≡ before ++ x ∷ after)
  parted [] x there = absurd (Contains-nil x there)
  parted (y ∷ xs) x there = elim (Contains-cases y xs x there) [
    | inl is ↦ ([], xs, ap (λ (z : X). z ∷ xs) is)
    | inr later ↦ let p = parted xs x later in (y ∷ p.0, p.1, ap (λ (l : List X). y ∷ l) p.2)
  ]

module _ {S D P G C : Type 0} (attests : ℕ → Statement D → G → Type 0) (certifies : Statement D → C → Type 0) (owner : Owner) where
  -- no view is entered that is lower than one that was entered before
  entered_before : (before after : List (Artifact S D P G C)) → current_view owner.term_length (entries before) ≤ current_view owner.term_length (entries (before ++ after))
  entered_before before after = rw (map-append entry before after) (grows 1 (enters owner.term_length) (entries before) (entries after))

  -- of the current view none is recorded before the last
  none_before : (xs before after : List (Artifact S D P G C)) (v w : Nullify S D P G C) → IsLawful attests certifies owner xs → v.round.view ≡ current_view owner.term_length (entries xs)
      → xs ≡ before ++ artifact.Nullify w ∷ after → Contains before (artifact.Nullify v) → ⊥
  none_before xs before after v w lawful current is there =
      let last = (lawful before after (artifact.Nullify w) is).follows in
      let p = parted before (artifact.Nullify v) there in
      let whole : xs ≡ p.0 ++ artifact.Nullify v ∷ (p.1 ++ artifact.Nullify w ∷ after) =
      is ∙ ap (λ (l : List (Artifact S D P G C)). l ++ artifact.Nullify w ∷ after) p.2 ∙ append_assoc p.0 (artifact.Nullify v ∷ p.1) (artifact.Nullify w ∷ after) in
      let own = (lawful p.0 (p.1 ++ artifact.Nullify w ∷ after) (artifact.Nullify v) whole).follows in
      let rises : current_view owner.term_length (entries p.0) ≤ current_view owner.term_length (entries before) =
      subst (λ (l : List (Artifact S D P G C)). current_view owner.term_length (entries p.0) ≤ current_view owner.term_length (entries l)) (sym p.2) (entered_before p.0 (artifact.Nullify v ∷ p.1)) in
      let goes_on : current_view owner.term_length (entries before) ≤ current_view owner.term_length (entries xs) =
      subst (λ (l : List (Artifact S D P G C)). current_view owner.term_length (entries before) ≤ current_view owner.term_length (entries l)) (sym is) (entered_before before (artifact.Nullify w ∷ after)) in
      let same : w.round.view ≡ v.round.view = omega (arith, last.current, own.current, rises, goes_on, current) in
      last.first (nullify v.round) same (says before (artifact.Nullify v) there)

  pub last_is : (xs : List (Artifact S D P G C)) (v w : Nullify S D P G C) → IsLawful attests certifies owner xs → Contains xs (artifact.Nullify v) → v.round.view ≡ current_view owner.term_length (entries xs)
      → IsLastNullifyOf xs w → w ≡ v
  last_is xs v w lawful there current last =
      let here = subst (λ (l : List (Artifact S D P G C)). Contains l (artifact.Nullify v)) last.is there in
      elim (Contains-append_cases last.before (artifact.Nullify w ∷ last.after) (artifact.Nullify v) here) [
        | inl before ↦ absurd (none_before xs last.before last.after v w lawful current last.is before)
        | inr behind ↦ elim (Contains-cases (artifact.Nullify w) last.after (artifact.Nullify v) behind) [
          | inl is ↦ cc is
          | inr later ↦ absurd (last.last v later)
        ]
      ]
