use Rattle.std.proofs.Common.{◌≡◌, ℕ, ◌++◌, ◌∷◌, [], List, Some, None, sym}
use Rattle.std.specs.Prelude.{Result, Ok, Err, OnOk}
use Rattle.std.specs.BTreeSet.{BTreeSet}
use Rattle.std.specs.declared.cmp.Ordering.{Ordering}
use Rattle.std.proofs.lemmas.List.{append-nil}
use Rattle.types_core.specs.declared.attestation.Attestation.{Attestation}
use Rattle.types_core.specs.Subject.{Statement}
use Rattle.simplex_messages.specs.declared.activity.Activity.{Activity}
use Rattle.messages_certificates.specs.declared.nullify.Nullify.{Nullify}
use Rattle.messages_certificates.specs.ProposalVote.{Finalize}
use Rattle.simplex_messages.specs.Activity.{nullify_finalize_report}
use Rattle.simplex_rules.specs.declared.cast.Suspect.{Suspect}
use Rattle.simplex_rules.specs.declared.tally.Tally.{Tally}
use Rattle.simplex_rules.specs.Kept.{StandsAt}
use Rattle.simplex_rules.specs.Tally.{AddsEvidence, IsBesideIn, reported}
use Rattle.simplex_rules.proofs.tally.Tally.push_beside.Goals as goal

-- a list to which a suspect's nullify beside its finalize was appended
OnOk-appended : {S D P G C T E : Type 0} (lists : C → List (Attestation G)) (attests : ℕ → Statement D → G → Type 0) (cmp : D → D → Ordering) (t : Tally S D P G C) (place : ℕ) (q : Suspect) (r : Result T E) (x : Nullify S D P G C × Finalize S D P G C) (old new : List (Activity S D P G C))
    → ((contested : BTreeSet Suspect) → StandsAt contested place q → IsBesideIn lists attests cmp contested t q (Some x)) → OnOk r (new ≡ old ++ nullify_finalize_report x ∷ [])
    → OnOk r ((contested : BTreeSet Suspect) → StandsAt contested place q → AddsEvidence lists attests cmp contested t q (reported nullify_finalize_report) old new)
OnOk-appended lists attests cmp t place q (Ok u) x old new beside whole = λ contested stands. record { beside = Some x; is_beside = beside contested stands; whole = whole }
OnOk-appended lists attests cmp t place q (Err e) x old new beside whole = tt

pub returns-in-None : goal.returns-in-None
returns-in-None g c = λ contested stands. record { beside = None; is_beside = rw c.in-None.is at (c.beside.ensures contested stands); whole = sym (append-nil _) }

pub returns-in-Some : goal.returns-in-Some
returns-in-Some g c = OnOk-appended g.S.Scheme.lists (g.S.Scheme.attests c.args.scheme.now) g.D.Ord.cmp c.args.self.now c.args.place c.args.suspect.now c.push.result c.in-Some.votes _ _ (λ contested stands. rw c.in-Some.is at (c.beside.ensures contested stands)) c.push.ensures
