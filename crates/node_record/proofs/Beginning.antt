-- The finalization that a rewrite makes a record begin with.
use Rattle.std.proofs.Common.{◌≡◌, ◌≤◌, ◌<◌, ◌==◌, ◌∙◌, inl, inr, ℕ, zero, suc, Bool, true, false, List, [], ◌∷◌, Option, Some, None, refl, sym, ap, subst, arith, if◌then◌else◌}
use Rattle.std.specs.Prelude.{Contains, IsSome, MatchOption, nat_lt}
use Rattle.std.specs.BTreeMap.{BTreeMap, IsLowerBound, btree_map_len}
use Rattle.std.specs.declared.cmp.Reverse.{Reverse}
use Rattle.std.proofs.lemmas.Bool.{eqb-true, lt-ltb}
use Rattle.std.proofs.lemmas.Bool.Decides.{nat_tests}
use Rattle.std.proofs.lemmas.List.{nil_from_length}
use Rattle.std.proofs.lemmas.Map.Keys.{le_from_not_gt}
use Rattle.types_quorum.specs.Counting.{Contains-cases, Contains-head, Contains-nil, Contains-rest}
use Rattle.types_core.specs.LatestFirst.{as_key, latest_first, stored}
use Rattle.messages_certificates.specs.declared.artifact.Artifact.{Artifact}
use Rattle.messages_certificates.specs.declared.artifact.Artifact.TheVariants as artifact
use Rattle.messages_certificates.specs.ProposalCertificate.{Finalization}
use Rattle.simplex_record.specs.Record.{entries, entry, finalizes, floor, greatest, last_finalized}
use Rattle.simplex_member.specs.Recorded.{finalization_in, next_floor}
use Rattle.node_record.specs.Places.{IsFoundAt, KnowsPlaces}
use Rattle.node_record.proofs.Nullifies.{says}

-- what is told of an option that isn't there, and of one that is
told-none : {X : Type 0} (o : Option X) (A : Type 0) (B : X → Type 0) → o ≡ None → MatchOption o A B → A
told-none None A B is told = told
told-none (Some x) A B is told = absurd (cc is)

told-some : {X : Type 0} (o : Option X) (A : Type 0) (B : X → Type 0) (x : X) → o ≡ Some x → MatchOption o A B → B x
told-some None A B x is told = absurd (cc is)
told-some {X} (Some y) A B x is told = let same : y ≡ x = cc is in subst B same told

-- an option is there or not
there-or : {X : Type 0} (o : Option X) (Q : Type 0) → (o ≡ None → Q) → (IsSome o → Q) → Q
there-or None Q none some = none refl
there-or (Some x) Q none some = some refl

-- what f gives of an element is at most the greatest that it gives of a list that has it
pub at-most : {X : Type 0} (f : X → ℕ) (xs : List X) (x : X) → Contains xs x → f x ≤ greatest 0 f xs
at-most f [] x there = absurd (Contains-nil x there)
at-most f (y ∷ xs) x there = elim (Contains-cases y xs x there) [
  | inl is ↦ let same : f y ≡ f x = ap f is in omega (arith, same)
  | inr later ↦ let rest = at-most f xs x later in omega (arith, rest)
]

module _ {S D P G C : Type 0} where
  -- the finalization of a view that a record has is in it, and of that view
  in-record : (xs : List (Artifact S D P G C)) (view : ℕ) (c : Finalization S D P G C) → finalization_in xs view ≡ Some c → Contains xs (artifact.Finalization c) × (c.proposal.round.view ≡ view)
  in-record [] view c is = absurd (cc is)
  in-record (artifact.Finalization d ∷ xs) view c is = go (d.proposal.round.view == view) (eqb-true d.proposal.round.view view) is (λ later. in-record xs view c later)
    where
      go : (b : Bool) → (b ≡ true → d.proposal.round.view ≡ view) → (if b then Some d else finalization_in xs view) ≡ Some c
          → (finalization_in xs view ≡ Some c → Contains xs (artifact.Finalization c) × (c.proposal.round.view ≡ view))
          → Contains (artifact.Finalization d ∷ xs) (artifact.Finalization c) × (c.proposal.round.view ≡ view)
      go true same found later =
          let here : Some d ≡ Some c = found in
          let one : d ≡ c = cc here in (
            subst (λ (x : Finalization S D P G C). Contains (artifact.Finalization d ∷ xs) (artifact.Finalization x)) one (Contains-head (artifact.Finalization d) xs),
            ap (λ (x : Finalization S D P G C). x.proposal.round.view) (sym one) ∙ same refl,
          )
      go false same found later = let more = later found in (Contains-rest (artifact.Finalization d) xs (artifact.Finalization c) more.0, more.1)
  in-record (x ∷ xs) view c is = let more = in-record xs view c is in (Contains-rest x xs (artifact.Finalization c) more.0, more.1)

  -- the view that an artifact of a record finalizes is none above the last finalized one
  none-above : (xs : List (Artifact S D P G C)) (x : Artifact S D P G C) → Contains xs x → finalizes (entry x) ≤ last_finalized (entries xs)
  none-above xs x there = at-most finalizes (entries xs) (entry x) (says xs x there)

  -- where a record has a last finalized view, it has the finalization
  last-there : (xs : List (Artifact S D P G C)) (view : ℕ) → 0 < view → last_finalized (entries xs) ≡ view → finalization_in xs view ≡ None → ⊥
  last-there [] view some is none = absurd (omega (arith, some, is))
  last-there (artifact.Finalization d ∷ xs) view some is none = go (d.proposal.round.view == view) refl none (λ rest gone. last-there xs view some rest gone)
    where
      go : (b : Bool) → (d.proposal.round.view == view) ≡ b → (if b then Some d else finalization_in xs view) ≡ None → (last_finalized (entries xs) ≡ view → finalization_in xs view ≡ None → ⊥) → ⊥
      go true same gone later = let never : Some d ≡ None = gone in absurd (cc never)
      go false other gone later =
          let apart : d.proposal.round.view ≡ view → ⊥ = grind (arith, nat_tests, other) in
          let rest : last_finalized (entries xs) ≡ view = omega (arith, is, apart) in
          later rest gone
  last-there (artifact.Notarize v ∷ xs) view some is none = last-there xs view some (omega (arith, is)) none
  last-there (artifact.Notarization c ∷ xs) view some is none = last-there xs view some (omega (arith, is)) none
  last-there (artifact.Certification round ok ∷ xs) view some is none = last-there xs view some (omega (arith, is)) none
  last-there (artifact.Nullify v ∷ xs) view some is none = last-there xs view some (omega (arith, is)) none
  last-there (artifact.Nullification c ∷ xs) view some is none = last-there xs view some (omega (arith, is)) none
  last-there (artifact.Finalize v ∷ xs) view some is none = last-there xs view some (omega (arith, is)) none

  module _ (m : BTreeMap (Reverse ℕ) ℕ) (xs : List (Artifact S D P G C)) (knows : KnowsPlaces finalization_in artifact.Finalization m xs) where
    -- no last finalized view lies above the first of the views of which a finalization is known
    none-later : (last : ℕ) → IsLowerBound latest_first m (as_key last) → (view : ℕ) → last_finalized (entries xs) ≡ view → view ≤ last
    none-later last least zero is = omega arith
    none-later last least (suc v) is = there-or (stored m (suc v)) (suc v ≤ last)
        (λ none. absurd (last-there xs (suc v) (omega arith) is (told-none (stored m (suc v)) (finalization_in xs (suc v) ≡ None) (IsFoundAt finalization_in artifact.Finalization xs (suc v)) none (knows (suc v)))))
        (λ some. le_from_not_gt (suc v) last (least (as_key (suc v)) some))

    -- that first one is the last finalized view
    pub last-known : (last place : ℕ) → stored m last ≡ Some place → IsLowerBound latest_first m (as_key last) → last ≡ last_finalized (entries xs)
    last-known last place there least =
        let at : IsFoundAt finalization_in artifact.Finalization xs last place = told-some (stored m last) (finalization_in xs last ≡ None) (IsFoundAt finalization_in artifact.Finalization xs last) place there (knows last) in
        let is = in-record xs last at.0 at.1 in
        let above = none-above xs (artifact.Finalization at.0) is.0 in
        let low : last ≤ last_finalized (entries xs) = subst (λ (v : ℕ). v ≤ last_finalized (entries xs)) is.1 above in
        let high = none-later last least (last_finalized (entries xs)) refl in
        omega (arith, low, high)

    -- and where none is known, there is none
    pub none-known : (0 < btree_map_len m → ⊥) → 0 ≡ last_finalized (entries xs)
    none-known empty = go (last_finalized (entries xs)) refl
      where
        none : (view : ℕ) → stored m view ≡ None
        none view = let gone : m.entries ≡ [] = nil_from_length m.entries (omega (arith, empty)) in rw gone refl

        go : (view : ℕ) → last_finalized (entries xs) ≡ view → 0 ≡ last_finalized (entries xs)
        go zero is = sym is
        go (suc v) is = absurd (last-there xs (suc v) (omega arith) is (told-none (stored m (suc v)) (finalization_in xs (suc v) ≡ None) (IsFoundAt finalization_in artifact.Finalization xs (suc v)) (none (suc v)) (knows (suc v))))

  -- a record that begins behind its last finalized view is not to begin with another finalization
  pub no-next : (xs : List (Artifact S D P G C)) (begins last : ℕ) → begins ≡ floor (entries xs) → last ≡ last_finalized (entries xs) → last ≤ begins → None ≡ next_floor xs
  no-next xs begins last is at low =
      let above : last_finalized (entries xs) ≤ floor (entries xs) = omega (arith, is, at, low) in
      let none : nat_lt (floor (entries xs)) (last_finalized (entries xs)) ≡ false = grind (arith, nat_tests, above) in
      sym (ap (λ (b : Bool). if b then finalization_in xs (last_finalized (entries xs)) else None) none)

  -- and another one is to begin with that of the last finalized view
  pub next-there : (xs : List (Artifact S D P G C)) (begins last : ℕ) (found : Option (Finalization S D P G C)) → begins ≡ floor (entries xs) → last ≡ last_finalized (entries xs) → begins < last
      → found ≡ finalization_in xs last → found ≡ next_floor xs
  next-there xs begins last found is at above found_is =
      let behind : floor (entries xs) < last_finalized (entries xs) = omega (arith, is, at, above) in
      found_is
      ∙ ap (λ (v : ℕ). finalization_in xs v) at
      ∙ sym (ap (λ (b : Bool). if b then finalization_in xs (last_finalized (entries xs)) else None) (lt-ltb (floor (entries xs)) (last_finalized (entries xs)) behind))

  -- the finalization that a record is to begin with is in it, of its last finalized view
  pub next-is-last : (xs : List (Artifact S D P G C)) (c : Finalization S D P G C) → next_floor xs ≡ Some c → Contains xs (artifact.Finalization c) × (c.proposal.round.view ≡ last_finalized (entries xs))
  next-is-last xs c is = go (nat_lt (floor (entries xs)) (last_finalized (entries xs))) is
    where
      go : (b : Bool) → (if b then finalization_in xs (last_finalized (entries xs)) else None) ≡ Some c → Contains xs (artifact.Finalization c) × (c.proposal.round.view ≡ last_finalized (entries xs))
      go true found = in-record xs (last_finalized (entries xs)) c found
      go false none = let never : None ≡ Some c = none in absurd (cc never)
