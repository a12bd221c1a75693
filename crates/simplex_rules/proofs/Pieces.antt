-- The evidence of one suspect after the other.
use Rattle.std.proofs.Common.{◌≡◌, ℕ, List, [], ◌∷◌, ◌++◌, Option, refl, sym, ap, ◌∙◌, map}
use Rattle.std.specs.Prelude.{Contains}
use Rattle.std.specs.List.{flat_map}
use Rattle.std.specs.BTreeSet.{BTreeSet}
use Rattle.std.specs.declared.cmp.Ordering.{Ordering}
use Rattle.std.proofs.lemmas.List.{append-nil, map-append}
use Rattle.std.proofs.lemmas.List.Concat.{flat_map-append}
use Rattle.types_core.specs.declared.attestation.Attestation.{Attestation}
use Rattle.types_core.specs.Subject.{Statement}
use Rattle.types_quorum.specs.Counting.{Contains-nil}
use Rattle.simplex_messages.specs.declared.activity.Activity.{Activity}
use Rattle.messages_certificates.specs.declared.nullify.Nullify.{Nullify}
use Rattle.messages_certificates.specs.ProposalVote.{Finalize}
use Rattle.simplex_rules.specs.declared.cast.Suspect.{Suspect}
use Rattle.simplex_rules.specs.declared.tally.Tally.{Tally}
use Rattle.simplex_rules.specs.Tally.{AddsEvidence, IsBesideIn, evidence_at}
use Rattle.simplex_rules.proofs.Lists.{each_push}

module _ {S D P G C : Type 0} where
  -- the evidence of one suspect
  abbrev pub piece : BTreeSet Suspect → Tally S D P G C → Suspect × Option (Nullify S D P G C × Finalize S D P G C) → List (Activity S D P G C)
  piece contested t p = evidence_at contested t p.0 p.1

  -- the evidence is that of these suspects, one after the other
  pub record Pieces (lists : C → List (Attestation G)) (attests : ℕ → Statement D → G → Type 0) (cmp : D → D → Ordering) (contested : BTreeSet Suspect) (t : Tally S D P G C) (suspects : List Suspect) (evidence : List (Activity S D P G C)) : Type 0 where
    pub pieces : List (Suspect × Option (Nullify S D P G C × Finalize S D P G C))
    pub suspects_are : map (λ p. p.0) pieces ≡ suspects
    pub besides : (p : Suspect × Option (Nullify S D P G C × Finalize S D P G C)) → Contains pieces p → IsBesideIn lists attests cmp contested t p.0 p.1
    pub whole : evidence ≡ flat_map (piece contested t) pieces

  module _ (lists : C → List (Attestation G)) (attests : ℕ → Statement D → G → Type 0) (cmp : D → D → Ordering) (contested : BTreeSet Suspect) (t : Tally S D P G C) where
    pub pieces_none : Pieces lists attests cmp contested t [] []
    pieces_none = record { pieces = []; suspects_are = refl; besides = λ p there. absurd (Contains-nil p there); whole = refl }

    -- one more suspect
    pub pieces_more : (suspects : List Suspect) (q : Suspect) (old new : List (Activity S D P G C)) → Pieces lists attests cmp contested t suspects old → AddsEvidence lists attests cmp contested t q (evidence_at contested t q) old new → Pieces lists attests cmp contested t (suspects ++ q ∷ []) new
    pieces_more suspects q old new ps a = record {
      pieces = ps.pieces ++ (q, a.beside) ∷ [];
      suspects_are = map-append (λ (p : Suspect × Option (Nullify S D P G C × Finalize S D P G C)). p.0) ps.pieces ((q, a.beside) ∷ []) ∙ ap (λ (qs : List Suspect). qs ++ q ∷ []) ps.suspects_are;
      besides = each_push (λ p. IsBesideIn lists attests cmp contested t p.0 p.1) ps.pieces (q, a.beside) ps.besides a.is_beside;
      whole = a.whole ∙ ap (λ (xs : List (Activity S D P G C)). xs ++ evidence_at contested t q a.beside) ps.whole
          ∙ sym (flat_map-append (piece contested t) ps.pieces ((q, a.beside) ∷ []) ∙ ap (λ (xs : List (Activity S D P G C)). flat_map (piece contested t) ps.pieces ++ xs) (append-nil (evidence_at contested t q a.beside)));
    }
