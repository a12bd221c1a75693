use Rattle.std.proofs.Common.{ℕ, sym, arith}
use Rattle.std.proofs.lemmas.Bool.Decides.{nat_tests}
use Rattle.std.proofs.lemmas.Map.Keys.{le_from_is_le}
use Rattle.simplex_record.specs.Coverage.{IsCovered}
use Rattle.simplex_record.proofs.CoverageMaps.{IsLatest-from_range, none_up_to}
use Rattle.simplex_record.proofs.CoverageSpans.{lies_in_latest, bare_before, bare_behind}
use Rattle.simplex_record.proofs.coverage.Coverage.span_of.Goals as goal
use Rattle.simplex_record.proofs.coverage.Coverage.span_of.Goals.{in_default-via-in-Some+else-le, in_default-via-in_default}

pub returns-in-Some : goal.returns-in-Some
returns-in-Some c =
    let map = c.self.inside.last_by_first in
    let span : ℕ × ℕ = (c.in-Some.first.now, c.in-Some.last.now) in
    let latest = IsLatest-from_range map c.range.ensures.ordered c.args.view _ (c.range.ensures.in_range tt) _ span c.in-Some.ensures.steps in
    rw (← c.self.view_is) (record {
      none = λ never _. cc;
      holds = (latest.begins, le_from_is_le _ _ (sym c.if-le.ensures));
      covered = λ within lies. (span, latest.there, lies);
      bare_before = bare_before map.entries c.self.invariant span latest.there;
      bare_behind = bare_behind map.entries c.self.invariant span latest.there;
    })

pub returns-in_default-clause-none : goal.returns-in_default-clause-none
returns-in_default-clause-none c = λ _ covers.
    let map = c.self.inside.last_by_first in
    let ordered = c.range.ensures.ordered in
    let range = c.range.ensures.in_range tt in
    let covered : IsCovered map.entries c.args.view = rw (← c.self.view_is) at covers in
    elim c.in_default.branch [
      | in_default-via-in-Some+else-le w ↦
          let latest = IsLatest-from_range map ordered c.args.view _ range _ (w.in-Some.first.now, w.in-Some.last.now) w.in-Some.ensures.steps in
          let reaches = lies_in_latest map.entries c.self.invariant c.args.view _ latest covered in
          grind (arith, nat_tests, w.if-le.ensures)
      | in_default-via-in_default w ↦
          let past = none_up_to map ordered c.args.view _ range w.in_default.ensures.steps.0 covered.0 covered.1 in
          omega (arith, covered.2)
    ]
