-- The evidence that is kept is the verdict.
use Rattle.std.proofs.Common.{◌≡◌, ℕ, List, [], ◌∷◌, ◌++◌, Option, Some, None, refl, sym, ap, ◌∙◌, subst, inl, inr, arith, map}
use Rattle.std.specs.Prelude.{⊤, Contains, IsTrue, AllPairs}
use Rattle.std.specs.List.{flat_map}
use Rattle.std.specs.List.Sorted.{IsStrictlySortedBy}
use Rattle.std.specs.Cmp.{IsTotalOrder}
use Rattle.std.specs.BTreeSet.{BTreeSet, contains, IsOrdered}
use Rattle.std.specs.declared.cmp.Ordering.{Ordering}
use Rattle.std.specs.declared.cmp.Ordering.TheVariants.{Less}
use Rattle.std.proofs.lemmas.List.Elements.{Contains-append_left, Contains-append_right, Contains-append_cases, All-contains}
use Rattle.std.proofs.lemmas.Map.Keys.{sorted_tail}
use Rattle.std.proofs.lemmas.Map.Views.{All-after_first, btree_set_contains_iff}
use Rattle.types_core.specs.declared.attestation.Attestation.{Attestation}
use Rattle.types_core.specs.declared.position.Round.{Round}
use Rattle.types_core.specs.Subject.{Statement, notarize, finalize}
use Rattle.types_quorum.specs.Counting.{Contains-nil, Contains-head, Contains-rest}
use Rattle.simplex_messages.specs.declared.activity.Activity.{Activity}
use Rattle.messages_certificates.specs.declared.nullify.Nullify.{Nullify}
use Rattle.messages_certificates.specs.ProposalVote.{Finalize}
use Rattle.simplex_messages.specs.Activity.{conflicting_notarize_report, conflicting_finalize_report, nullify_finalize_report}
use Rattle.simplex_messages.specs.Guilt.{notarizes_of, nullifies_of, finalizes_of, IsGuilty, IsGuiltyBeside}
use Rattle.simplex_rules.specs.declared.cast.Kept.{Kept}
use Rattle.simplex_rules.specs.declared.cast.Kept.TheVariants.{Nothing, Claim, One, Two}
use Rattle.simplex_rules.specs.declared.cast.Suspect.{Suspect}
use Rattle.simplex_rules.specs.declared.tally.Tally.{Tally}
use Rattle.simplex_rules.specs.Kept.{kept_of, suspect_cmp}
use Rattle.simplex_rules.specs.Audit.{Accusation, Offence, TwoNotarizes, TwoFinalizes, NullifyBeside, accused, AreInOrder, IsAccused, IsLeast, IsVerdict}
use Rattle.simplex_rules.specs.Survey.{HasGuilty}
use Rattle.simplex_rules.specs.Tally.{HoldsReports, IsBesideIn, IsBesideOf, vote_of, nullify_suspect, conflict_in, reported, evidence_at}
use Rattle.simplex_rules.proofs.Lists.{only_element, Contains-map, in-map, Contains-flat_map, in-flat_map, AllPairs-nil, AllPairs-append}
use Rattle.simplex_rules.proofs.Pieces.{Pieces, piece}
use Rattle.simplex_rules.proofs.Suspects.{suspects_total, suspects_exact, accusation_of, StandsBefore-from_less}
use Rattle.simplex_rules.proofs.Judging.{suspect_from, IsLeastEvidence-from_two, guilty_are_kept}

module _ {S D P G C : Type 0} where
  -- each of these accuses the suspect of the offence
  abbrev AreOf : Suspect → Offence → List (Activity S D P G C) → Type 0
  AreOf q o xs = (a : Activity S D P G C) → Contains xs a → accused a ≡ Some (accusation_of q o)

  conflict_notarize-AreOf : (q : Suspect) (k : Option (Kept D G)) → AreOf q TwoNotarizes (reported conflicting_notarize_report (conflict_in q k))
  conflict_notarize-AreOf q None a there = absurd (Contains-nil a there)
  conflict_notarize-AreOf q (Some Nothing) a there = absurd (Contains-nil a there)
  conflict_notarize-AreOf q (Some (Claim b)) a there = absurd (Contains-nil a there)
  conflict_notarize-AreOf q (Some (One b)) a there = absurd (Contains-nil a there)
  conflict_notarize-AreOf q (Some (Two b c)) a there = ap (λ (x : Activity S D P G C). accused x) (sym (only_element _ a there))

  conflict_finalize-AreOf : (q : Suspect) (k : Option (Kept D G)) → AreOf q TwoFinalizes (reported conflicting_finalize_report (conflict_in q k))
  conflict_finalize-AreOf q None a there = absurd (Contains-nil a there)
  conflict_finalize-AreOf q (Some Nothing) a there = absurd (Contains-nil a there)
  conflict_finalize-AreOf q (Some (Claim b)) a there = absurd (Contains-nil a there)
  conflict_finalize-AreOf q (Some (One b)) a there = absurd (Contains-nil a there)
  conflict_finalize-AreOf q (Some (Two b c)) a there = ap (λ (x : Activity S D P G C). accused x) (sym (only_element _ a there))

  -- a nullify beside a finalize, if there are such, is the suspect's
  abbrev IsOwn : Suspect → Option (Nullify S D P G C × Finalize S D P G C) → Type 0
  IsOwn q None = ⊤
  IsOwn q (Some x) = nullify_suspect x.0 ≡ q

  own_accusation : (q : Suspect) (x : Nullify S D P G C × Finalize S D P G C) → nullify_suspect x.0 ≡ q → accused {S = S} {D = D} {P = P} {G = G} {C = C} (nullify_finalize_report x) ≡ Some (accusation_of q NullifyBeside)
  own_accusation q x own = ap (λ (y : Suspect). Some (accusation_of y NullifyBeside)) own

  beside-AreOf : (q : Suspect) (b : Option (Nullify S D P G C × Finalize S D P G C)) → IsOwn q b → AreOf q NullifyBeside (reported nullify_finalize_report b)
  beside-AreOf q None own a there = absurd (Contains-nil a there)
  beside-AreOf q (Some x) own a there = ap (λ (y : Activity S D P G C). accused y) (sym (only_element _ a there)) ∙ own_accusation q x own

  -- evidence in the order of its accusations
  abbrev InOrder : Activity S D P G C → Activity S D P G C → Type 0
  InOrder a b = AreInOrder (accused a) (accused b)

  in_order : (a b : Activity S D P G C) (x y : Accusation) → accused a ≡ Some x → accused b ≡ Some y → AreInOrder (Some x) (Some y) → InOrder a b
  in_order a b x y first second h = rw (first, second) h

  at_most_one : {A : Type 0} (report : A → Activity S D P G C) (o : Option A) → AllPairs InOrder (reported report o)
  at_most_one report None = AllPairs-nil InOrder
  at_most_one report (Some x) = λ i j d lt small. absurd (omega arith)

  abbrev notarized : BTreeSet Suspect → Tally S D P G C → Suspect → List (Activity S D P G C)
  notarized contested t q = reported conflicting_notarize_report (conflict_in q (kept_of contested t.notarizes.kept.items q))

  abbrev finalized : BTreeSet Suspect → Tally S D P G C → Suspect → List (Activity S D P G C)
  finalized contested t q = reported conflicting_finalize_report (conflict_in q (kept_of contested t.finalizes.kept.items q))

  -- a suspect's evidence stands in the order of offences
  evidence_at-sorted : (contested : BTreeSet Suspect) (t : Tally S D P G C) (q : Suspect) (b : Option (Nullify S D P G C × Finalize S D P G C)) → IsOwn q b → AllPairs InOrder (evidence_at contested t q b)
  evidence_at-sorted contested t q b own =
      let nullified = reported nullify_finalize_report b in
      let one = conflict_notarize-AreOf q (kept_of contested t.notarizes.kept.items q) in
      let two = conflict_finalize-AreOf q (kept_of contested t.finalizes.kept.items q) in
      let three = beside-AreOf q b own in
      AllPairs-append InOrder (notarized contested t q) (finalized contested t q ++ nullified) (at_most_one conflicting_notarize_report (conflict_in q (kept_of contested t.notarizes.kept.items q)))
      (AllPairs-append InOrder (finalized contested t q) nullified (at_most_one conflicting_finalize_report (conflict_in q (kept_of contested t.finalizes.kept.items q)))
      (at_most_one nullify_finalize_report b)
      (λ x y first second. in_order x y (accusation_of q TwoFinalizes) (accusation_of q NullifyBeside) (two x first) (three y second) (inr (refl, inr (refl, inr (refl, omega arith))))))
      (λ x y first second. elim (Contains-append_cases (finalized contested t q) nullified y second) [
        | inl left ↦ in_order x y (accusation_of q TwoNotarizes) (accusation_of q TwoFinalizes) (one x first) (two y left) (inr (refl, inr (refl, inr (refl, omega arith))))
        | inr right ↦ in_order x y (accusation_of q TwoNotarizes) (accusation_of q NullifyBeside) (one x first) (three y right) (inr (refl, inr (refl, inr (refl, omega arith))))
      ])

  -- a suspect's evidence is against the suspect
  evidence_at-own : (contested : BTreeSet Suspect) (t : Tally S D P G C) (q : Suspect) (b : Option (Nullify S D P G C × Finalize S D P G C)) → IsOwn q b → (a : Activity S D P G C) → Contains (evidence_at contested t q b) a → (o : Offence) × (accused a ≡ Some (accusation_of q o))
  evidence_at-own contested t q b own a there = elim (Contains-append_cases (notarized contested t q) (finalized contested t q ++ reported nullify_finalize_report b) a there) [
    | inl first ↦ (TwoNotarizes, conflict_notarize-AreOf q (kept_of contested t.notarizes.kept.items q) a first)
    | inr later ↦ elim (Contains-append_cases (finalized contested t q) (reported nullify_finalize_report b) a later) [
      | inl second ↦ (TwoFinalizes, conflict_finalize-AreOf q (kept_of contested t.finalizes.kept.items q) a second)
      | inr third ↦ (NullifyBeside, beside-AreOf q b own a third)
    ]
  ]

  -- the evidence stands in the order of suspects
  evidence-sorted : (contested : BTreeSet Suspect) (t : Tally S D P G C) (ps : List (Suspect × Option (Nullify S D P G C × Finalize S D P G C))) → IsStrictlySortedBy suspect_cmp (map (λ p. p.0) ps) → ((p : Suspect × Option (Nullify S D P G C × Finalize S D P G C)) → Contains ps p → IsOwn p.0 p.1) → AllPairs InOrder (flat_map (piece contested t) ps)
  evidence-sorted contested t [] ordered own = AllPairs-nil InOrder
  evidence-sorted contested t (p ∷ ps) ordered own =
      let here : IsOwn p.0 p.1 = own p (Contains-head p ps) in
      let qs = map (λ (r : Suspect × Option (Nullify S D P G C × Finalize S D P G C)). r.0) ps in
      AllPairs-append InOrder (piece contested t p) (flat_map (piece contested t) ps) (evidence_at-sorted contested t p.0 p.1 here) (evidence-sorted contested t ps (sorted_tail suspect_cmp p.0 qs ordered) (λ r there. own r (Contains-rest p ps r there)))
      (λ a b first later.
      let mine = evidence_at-own contested t p.0 p.1 here a first in
      let found = Contains-flat_map (piece contested t) ps b later in
      let other = evidence_at-own contested t found.0.0 found.0.1 (own found.0 (Contains-rest p ps found.0 found.1)) b found.2 in
      let below : suspect_cmp p.0 found.0.0 ≡ Less = All-contains (λ r. suspect_cmp p.0 r ≡ Less) qs found.0.0 (All-after_first suspect_cmp p.0 qs ordered) (in-map (λ (r : Suspect × Option (Nullify S D P G C × Finalize S D P G C)). r.0) ps found.0 found.1) in
      in_order a b (accusation_of p.0 mine.0) (accusation_of found.0.0 other.0) mine.1 other.1 (StandsBefore-from_less p.0 found.0.0 mine.0 other.0 below))

  module _ (lists : C → List (Attestation G)) (attests : ℕ → Statement D → G → Type 0) (cmp : D → D → Ordering) (order : IsTotalOrder cmp) (contested : BTreeSet Suspect) (reports : List (Activity S D P G C)) (t : Tally S D P G C) (h : HoldsReports lists attests cmp contested reports t) where
    two_notarizes-least : (q : Suspect) (k : Option (Kept D G)) → kept_of contested t.notarizes.kept.items q ≡ k → (a : Activity S D P G C) → Contains (reported conflicting_notarize_report (conflict_in q k)) a → IsLeast lists attests cmp reports a
    two_notarizes-least q None found a there = absurd (Contains-nil a there)
    two_notarizes-least q (Some Nothing) found a there = absurd (Contains-nil a there)
    two_notarizes-least q (Some (Claim b)) found a there = absurd (Contains-nil a there)
    two_notarizes-least q (Some (One b)) found a there = absurd (Contains-nil a there)
    two_notarizes-least q (Some (Two b c)) found a there = subst (λ (x : Activity S D P G C). IsLeast lists attests cmp reports x) (only_element _ a there) (IsLeastEvidence-from_two notarize attests (notarizes_of lists reports) cmp contested t.notarizes.kept.items h.notarizes order q b c found)

    two_finalizes-least : (q : Suspect) (k : Option (Kept D G)) → kept_of contested t.finalizes.kept.items q ≡ k → (a : Activity S D P G C) → Contains (reported conflicting_finalize_report (conflict_in q k)) a → IsLeast lists attests cmp reports a
    two_finalizes-least q None found a there = absurd (Contains-nil a there)
    two_finalizes-least q (Some Nothing) found a there = absurd (Contains-nil a there)
    two_finalizes-least q (Some (Claim b)) found a there = absurd (Contains-nil a there)
    two_finalizes-least q (Some (One b)) found a there = absurd (Contains-nil a there)
    two_finalizes-least q (Some (Two b c)) found a there = subst (λ (x : Activity S D P G C). IsLeast lists attests cmp reports x) (only_element _ a there) (IsLeastEvidence-from_two finalize attests (finalizes_of lists reports) cmp contested t.finalizes.kept.items h.finalizes order q b c found)

    beside-least : (q : Suspect) (b : Option (Nullify S D P G C × Finalize S D P G C)) → IsBesideOf attests cmp (nullifies_of lists reports) (finalizes_of lists reports) q b → (a : Activity S D P G C) → Contains (reported nullify_finalize_report b) a → IsLeast lists attests cmp reports a
    beside-least q None beside a there = absurd (Contains-nil a there)
    beside-least q (Some x) beside a there = subst (λ (y : Activity S D P G C). IsLeast lists attests cmp reports y) (only_element _ a there) beside.1

    beside-own : (q : Suspect) (b : Option (Nullify S D P G C × Finalize S D P G C)) → IsBesideOf attests cmp (nullifies_of lists reports) (finalizes_of lists reports) q b → IsOwn q b
    beside-own q None beside = tt
    beside-own q (Some x) beside = beside.0

    -- each piece of a suspect's evidence is the least
    evidence_at-least : (q : Suspect) (b : Option (Nullify S D P G C × Finalize S D P G C)) → IsTrue (contains suspect_cmp contested q) → IsBesideIn lists attests cmp contested t q b → (a : Activity S D P G C) → Contains (evidence_at contested t q b) a → IsLeast lists attests cmp reports a
    evidence_at-least q b contests beside a there = elim (Contains-append_cases (notarized contested t q) (finalized contested t q ++ reported nullify_finalize_report b) a there) [
      | inl first ↦ two_notarizes-least q (kept_of contested t.notarizes.kept.items q) refl a first
      | inr later ↦ elim (Contains-append_cases (finalized contested t q) (reported nullify_finalize_report b) a later) [
        | inl second ↦ two_finalizes-least q (kept_of contested t.finalizes.kept.items q) refl a second
        | inr third ↦ beside-least q b (beside reports h contests) a third
      ]
    ]

    -- who is guilty of a nullify beside a finalize is told
    beside-told : (round : Round) (signer : ℕ) (b : Option (Nullify S D P G C × Finalize S D P G C)) → IsBesideOf attests cmp (nullifies_of lists reports) (finalizes_of lists reports) (suspect_from round signer) b
        → IsGuiltyBeside attests (nullifies_of lists reports) (finalizes_of lists reports) round signer
        → (a : Activity S D P G C) × Contains (reported nullify_finalize_report b) a × (accused a ≡ Some (accusation_of (suspect_from round signer) NullifyBeside))
    beside-told round signer None beside g = absurd (beside g)
    beside-told round signer (Some x) beside g = (nullify_finalize_report x, Contains-head (nullify_finalize_report x) [], own_accusation (suspect_from round signer) x beside.0)

    module _ (all : HasGuilty lists attests reports contested) (evidence : List (Activity S D P G C)) (ps : Pieces lists attests cmp contested t contested.keys evidence) where
      abbrev told : List (Activity S D P G C)
      told = flat_map (piece contested t) ps.pieces

      -- of each suspect in the set there is a piece
      piece_of : (q : Suspect) → IsTrue (contains suspect_cmp contested q) → (b : Option (Nullify S D P G C × Finalize S D P G C)) × Contains ps.pieces (q, b)
      piece_of q there =
          let key : Contains contested.keys q = (btree_set_contains_iff suspects_total suspects_exact contested q).0 there in
          let found = Contains-map (λ (p : Suspect × Option (Nullify S D P G C × Finalize S D P G C)). p.0) ps.pieces q (subst (λ (qs : List Suspect). Contains qs q) (sym ps.suspects_are) key) in
          (found.0.1, subst (λ (x : Suspect). Contains ps.pieces (x, found.0.1)) found.2 found.1)

      -- the suspect of each piece is in the set
      piece-contested : (p : Suspect × Option (Nullify S D P G C × Finalize S D P G C)) → Contains ps.pieces p → IsTrue (contains suspect_cmp contested p.0)
      piece-contested p there =
          let key : Contains contested.keys p.0 = subst (λ (qs : List Suspect). Contains qs p.0) ps.suspects_are (in-map (λ (r : Suspect × Option (Nullify S D P G C × Finalize S D P G C)). r.0) ps.pieces p there) in
          (btree_set_contains_iff suspects_total suspects_exact contested p.0).1 key

      two_notarizes-told : (round : Round) (signer : ℕ) → IsGuilty notarize attests (notarizes_of lists reports) round signer → IsAccused told (accusation_of (suspect_from round signer) TwoNotarizes)
      two_notarizes-told round signer g =
          let q = suspect_from round signer in
          let kept = guilty_are_kept notarize attests (notarizes_of lists reports) cmp contested t.notarizes.kept.items h.notarizes round signer (all.two_notarizes round signer g) g in
          let report = conflicting_notarize_report (vote_of q kept.0, vote_of q kept.1) in
          let own : Contains (notarized contested t q) report = rw kept.2 (Contains-head report []) in
          let p = piece_of q (all.two_notarizes round signer g) in
          (report, in-flat_map (piece contested t) ps.pieces (q, p.0) report p.1 (Contains-append_left (notarized contested t q) _ report own), refl)

      two_finalizes-told : (round : Round) (signer : ℕ) → IsGuilty finalize attests (finalizes_of lists reports) round signer → IsAccused told (accusation_of (suspect_from round signer) TwoFinalizes)
      two_finalizes-told round signer g =
          let q = suspect_from round signer in
          let kept = guilty_are_kept finalize attests (finalizes_of lists reports) cmp contested t.finalizes.kept.items h.finalizes round signer (all.two_finalizes round signer g) g in
          let report = conflicting_finalize_report (vote_of q kept.0, vote_of q kept.1) in
          let own : Contains (finalized contested t q) report = rw kept.2 (Contains-head report []) in
          let p = piece_of q (all.two_finalizes round signer g) in
          (report, in-flat_map (piece contested t) ps.pieces (q, p.0) report p.1 (Contains-append_right (notarized contested t q) _ report (Contains-append_left (finalized contested t q) _ report own)), refl)

      nullify_beside-told : (round : Round) (signer : ℕ) → IsGuiltyBeside attests (nullifies_of lists reports) (finalizes_of lists reports) round signer → IsAccused told (accusation_of (suspect_from round signer) NullifyBeside)
      nullify_beside-told round signer g =
          let q = suspect_from round signer in
          let p = piece_of q (all.nullify_beside round signer g) in
          let found = beside-told round signer p.0 (ps.besides (q, p.0) p.1 reports h (all.nullify_beside round signer g)) g in
          (found.0, in-flat_map (piece contested t) ps.pieces (q, p.0) found.0 p.1 (Contains-append_right (notarized contested t q) _ found.0 (Contains-append_right (finalized contested t q) _ found.0 found.1)), found.2)

      told_least : (a : Activity S D P G C) → Contains told a → IsLeast lists attests cmp reports a
      told_least a there =
          let found = Contains-flat_map (piece contested t) ps.pieces a there in
          evidence_at-least found.0.0 found.0.1 (piece-contested found.0 found.1) (ps.besides found.0 found.1) a found.2

      -- the evidence that is kept of the suspects in the set is the verdict
      pub IsVerdict-from_pieces : IsOrdered suspect_cmp contested → IsVerdict lists attests cmp reports evidence
      IsVerdict-from_pieces ordered = subst (λ (xs : List (Activity S D P G C)). IsVerdict lists attests cmp reports xs) (sym ps.whole) (record {
        sound = told_least;
        two_notarizes = two_notarizes-told;
        two_finalizes = two_finalizes-told;
        nullify_beside = nullify_beside-told;
        sorted = evidence-sorted contested t ps.pieces (subst (λ (qs : List Suspect). IsStrictlySortedBy suspect_cmp qs) (sym ps.suspects_are) ordered) (λ p there. beside-own p.0 p.1 (ps.besides p there reports h (piece-contested p there)));
      })
