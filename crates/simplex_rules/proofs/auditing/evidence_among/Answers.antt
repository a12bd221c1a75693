use Rattle.std.proofs.Common.{◌≡◌, ℕ, List, Option, length, sym, ◌∙◌, subst}
use Rattle.std.proofs.lemmas.Bool.{eqb-true}
use Rattle.std.specs.Prelude.{Result, Ok, Err, IfOk}
use Rattle.std.specs.BTreeSet.{BTreeSet}
use Rattle.std.specs.declared.cmp.Ordering.{Ordering}
use Rattle.types_core.specs.declared.attestation.Attestation.{Attestation}
use Rattle.types_codec.specs.Codec.{bounded-IsCodec}
use Rattle.types_core.specs.Subject.{Statement}
use Rattle.simplex_messages.specs.declared.activity.Activity.{Activity}
use Rattle.simplex_messages.specs.Activity.{activity-IsCodec}
use Rattle.simplex_rules.specs.declared.cast.Suspect.{Suspect}
use Rattle.simplex_rules.specs.declared.tally.Tally.{Tally}
use Rattle.simplex_rules.specs.Audit.{IsVerdict}
use Rattle.simplex_rules.specs.Survey.{HasGuilty}
use Rattle.simplex_rules.specs.Tally.{HoldsReports}
use Rattle.simplex_rules.proofs.Reading.{IsRead-unique, shorter}
use Rattle.simplex_rules.proofs.Surveys.{nobody-verdict}
use Rattle.simplex_rules.proofs.auditing.evidence_among.Goals as goal

-- a verdict by the reports that were counted is one by whatever reports were read, since these are the same
IfOk-verdict : {S D P G C E V : Type 0} (lists : C → List (Attestation G)) (attests : ℕ → Statement D → G → Type 0) (cmp : D → D → Ordering) (contested : BTreeSet Suspect) (t : Tally S D P G C) (items : V → List (Activity S D P G C)) (Reads : List (Activity S D P G C) → Option ℕ → Type 0) (counted : List (Activity S D P G C))
    → HoldsReports lists attests cmp contested counted t → ((reports : List (Activity S D P G C)) (fault : Option ℕ) → Reads reports fault → counted ≡ reports) → (r : Result V E)
    → IfOk r (λ evidence. (reports : List (Activity S D P G C)) → HasGuilty lists attests reports contested → HoldsReports lists attests cmp contested reports t → IsVerdict lists attests cmp reports (items evidence))
    → IfOk r (λ evidence. (reports : List (Activity S D P G C)) (fault : Option ℕ) → Reads reports fault → HasGuilty lists attests reports contested → IsVerdict lists attests cmp reports (items evidence))
IfOk-verdict lists attests cmp contested t items Reads counted holds same (Ok evidence) verdict = λ reports fault read guilty.
    verdict reports guilty (subst (λ (rs : List (Activity _ _ _ _ _)). HoldsReports lists attests cmp contested rs t) (same reports fault read) holds)
IfOk-verdict lists attests cmp contested t items Reads counted holds same (Err e) verdict = tt

pub returns-then-is_empty : goal.returns-then-is_empty
returns-then-is_empty g c = λ reports fault read guilty.
    rw c.new.ensures.items (nobody-verdict g.S.Scheme.lists (g.S.Scheme.attests c.args.scheme.now) g.D.Ord.cmp reports c.args.contested.now guilty (rw c.as_slice.ensures.keys at (eqb-true (length c.as_slice.result.now) 0 (sym c.is_empty.ensures ∙ c.if-is_empty.true))))

pub count_reports-requires-clause-empty : goal.count_reports-requires-clause-empty
count_reports-requires-clause-empty g c = c.new-tally.ensures c.args.scheme.now c.args.contested.now

pub returns : goal.returns
returns g c =
    let n = g.S.Scheme.size c.args.scheme.now in
    let small = rw c.requires.bound at c.ranges.participants.fits in
    let codec = activity-IsCodec g.D.PartialEq.eq (bounded-IsCodec (g.met.D.Read.one_spelling n small) (g.met.D.Digest.unbounded n)) (bounded-IsCodec (g.met.S.Signature.Read.one_spelling n small) (g.met.S.Signature.Signature.unbounded n)) (g.met.S.Certificate.Read.one_spelling n small) in
    let counts = c.in_ok-_fault.ensures in
    IfOk-verdict g.S.Scheme.lists (g.S.Scheme.attests c.args.scheme.now) g.D.Ord.cmp c.args.contested.now c.count_reports.new.tally (λ evidence. evidence.items) _ counts.reports counts.holds
    (λ reports fault read. IsRead-unique codec (shorter g.D.Write.spelling g.S.Signature.Write.spelling g.S.Certificate.Write.spelling) c.args.bytes.now counts.reports reports _ fault counts.read read) c.evidence.result c.evidence.ensures
