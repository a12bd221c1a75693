use Rattle.std.proofs.Common.{◌≡◌, ℕ, ◌++◌, List}
use Rattle.std.specs.Prelude.{Result, Ok, Err, OnOk, slice_get}
use Rattle.std.specs.BTreeSet.{BTreeSet}
use Rattle.std.specs.declared.cmp.Ordering.{Ordering}
use Rattle.types_core.specs.declared.attestation.Attestation.{Attestation}
use Rattle.types_core.specs.Subject.{Statement}
use Rattle.simplex_messages.specs.declared.activity.Activity.{Activity}
use Rattle.simplex_messages.specs.Activity.{conflicting_finalize_report, conflicting_notarize_report, nullify_finalize_report}
use Rattle.simplex_rules.specs.declared.cast.Suspect.{Suspect}
use Rattle.simplex_rules.specs.declared.tally.Tally.{Tally}
use Rattle.simplex_rules.specs.Kept.{StandsAt}
use Rattle.simplex_rules.specs.Tally.{AddsEvidence, conflict_in, evidence_at, reported}
use Rattle.simplex_rules.proofs.Lists.{appended_three}
use Rattle.simplex_rules.proofs.Standing.{kept_at_place}
use Rattle.simplex_rules.proofs.tally.Tally.push_evidence.Goals as goal

-- a list after two were appended, and then what a suspect's nullify beside its finalize adds
OnOk-added_three : {S D P G C T E : Type 0} (lists : C → List (Attestation G)) (attests : ℕ → Statement D → G → Type 0) (cmp : D → D → Ordering) (t : Tally S D P G C) (place : ℕ) (q : Suspect) (r : Result T E) (xs ys zs us : List (Activity S D P G C))
    → ys ≡ xs ++ reported conflicting_notarize_report (conflict_in q (slice_get t.notarizes.kept.items place)) → zs ≡ ys ++ reported conflicting_finalize_report (conflict_in q (slice_get t.finalizes.kept.items place))
    → OnOk r ((contested : BTreeSet Suspect) → StandsAt contested place q → AddsEvidence lists attests cmp contested t q (reported nullify_finalize_report) zs us)
    → OnOk r ((contested : BTreeSet Suspect) → StandsAt contested place q → AddsEvidence lists attests cmp contested t q (evidence_at contested t q) xs us)
OnOk-added_three lists attests cmp t place q (Ok x) xs ys zs us first second third = λ contested stands.
    let last = third contested stands in
    let notarizes = kept_at_place contested t.notarizes.kept.items place q stands in
    let finalizes = kept_at_place contested t.finalizes.kept.items place q stands in
    record {
      beside = last.beside;
      is_beside = last.is_beside;
      whole = rw (notarizes, finalizes) (appended_three xs ys zs us _ _ (reported nullify_finalize_report last.beside) first second last.whole);
    }
OnOk-added_three lists attests cmp t place q (Err e) xs ys zs us first second third = tt

pub returns : goal.returns
returns g c = OnOk-added_three g.S.Scheme.lists (g.S.Scheme.attests c.args.scheme.now) g.D.Ord.cmp c.args.self.now c.args.place c.args.suspect.now c.push_beside.result _ _ _ _ c.in_ok-push_notarizes.ensures c.in_ok-push_finalizes.ensures c.push_beside.ensures
