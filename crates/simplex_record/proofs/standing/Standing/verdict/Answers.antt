use Rattle.std.proofs.Common.{◌≡◌, sym, ◌∙◌}
use Rattle.types_core.specs.LatestFirst.{stored}
use Rattle.simplex_record.proofs.Ruling.{kept_verdict}
use Rattle.simplex_record.proofs.standing.Standing.verdict.Goals as goal

pub returns : goal.returns
returns g c = λ views before k verdict.
    let same : c.copied.result ≡ stored c.args.self.now.verdicts c.args.view = c.copied.ensures ∙ c.get.ensures.value in
    let kept = kept_verdict c.args.self.now.verdicts before k.by_view.verdicts c.args.view verdict in (
      λ is. kept.0 (sym same ∙ is),
      λ has. same ∙ kept.1 has,
    )
