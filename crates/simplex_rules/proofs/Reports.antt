-- One more report in the count.
use Rattle.std.proofs.Common.{◌≡◌, ℕ, List, [], ◌∷◌, ◌++◌, ap, ◌∙◌}
use Rattle.std.specs.Prelude.{OnOk, Result, Ok, Err}
use Rattle.std.specs.List.{flat_map}
use Rattle.std.specs.BTreeSet.{BTreeSet}
use Rattle.std.specs.declared.cmp.Ordering.{Ordering}
use Rattle.std.proofs.lemmas.List.{append-nil}
use Rattle.std.proofs.lemmas.List.Concat.{flat_map-append}
use Rattle.types_core.specs.declared.attestation.Attestation.{Attestation}
use Rattle.types_core.specs.Subject.{Statement, finalize, notarize}
use Rattle.messages_certificates.specs.declared.nullify.Nullify.{Nullify}
use Rattle.messages_certificates.specs.ProposalVote.{Finalize, Notarize}
use Rattle.simplex_messages.specs.declared.activity.Activity.{Activity}
use Rattle.simplex_messages.specs.Guilt.{finalizes_in, finalizes_of, notarizes_in, notarizes_of, nullifies_in, nullifies_of}
use Rattle.simplex_rules.specs.declared.cast.Suspect.{Suspect}
use Rattle.simplex_rules.specs.declared.tally.Tally.{Tally}
use Rattle.simplex_rules.specs.Tally.{HoldsNullifies, HoldsReports, HoldsVotes}

-- what one more gives stands behind what the others do
behind : {X Y : Type 0} (f : X → List Y) (xs : List X) (x : X) → flat_map f (xs ++ x ∷ []) ≡ flat_map f xs ++ f x
behind f xs x = flat_map-append f xs (x ∷ []) ∙ ap (λ ys. flat_map f xs ++ ys) (append-nil (f x))

module _ {S D P G C : Type 0} (lists : C → List (Attestation G)) (attests : ℕ → Statement D → G → Type 0) (cmp : D → D → Ordering) (contested : BTreeSet Suspect) where
  -- its votes of each kind were counted
  pub OnOk-reported : {T E : Type 0} (r : Result T E) (report : Activity S D P G C) (old new : Tally S D P G C)
      → ((votes : List (Notarize S D P G C)) → HoldsVotes notarize attests cmp contested votes old.notarizes.kept.items → HoldsVotes notarize attests cmp contested (votes ++ notarizes_in lists report) new.notarizes.kept.items)
      → ((votes : List (Nullify S D P G C)) → HoldsNullifies attests contested votes old.nullifies.kept.items → HoldsNullifies attests contested (votes ++ nullifies_in lists report) new.nullifies.kept.items)
      → OnOk r ((votes : List (Finalize S D P G C)) → HoldsVotes finalize attests cmp contested votes old.finalizes.kept.items → HoldsVotes finalize attests cmp contested (votes ++ finalizes_in lists report) new.finalizes.kept.items)
      → OnOk r ((reports : List (Activity S D P G C)) → HoldsReports lists attests cmp contested reports old → HoldsReports lists attests cmp contested (reports ++ report ∷ []) new)
  OnOk-reported (Ok x) report old new first second third = λ reports h. record {
    notarizes = rw (behind (notarizes_in lists) reports report) (first (notarizes_of lists reports) h.notarizes);
    nullifies = rw (behind (nullifies_in lists) reports report) (second (nullifies_of lists reports) h.nullifies);
    finalizes = rw (behind (finalizes_in lists) reports report) (third (finalizes_of lists reports) h.finalizes);
  }
  OnOk-reported (Err e) report old new first second third = tt
