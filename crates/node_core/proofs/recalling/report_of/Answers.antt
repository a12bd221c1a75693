use Rattle.std.proofs.Common.{◌∷◌, ◌++◌, ◌∙◌, sym, ap}
use Rattle.std.proofs.lemmas.Result.{IfOk-weaker}
use Rattle.simplex_member.specs.Setup.{owner_of}
use Rattle.node_core.specs.Saying.{said_artifact}
use Rattle.node_core.proofs.Recalled.{certificate-reported, verdict-reported, vote-reported}
use Rattle.node_core.proofs.recalling.report_of.Goals as goal

pub returns-in-Vote : goal.returns-in-Vote
returns-in-Vote g c = λ s before rest is.
    vote-reported before c.args.artifact.now c.in-Vote.vote c.from-in-Vote.result (sym c.in_ok-duplicate.ensures ∙ (c.from.ensures ∙ ap said_artifact c.in-Vote.is)) c.from-in-Vote.ensures

pub returns-in-Certificate : goal.returns-in-Certificate
returns-in-Certificate g c = λ s before rest is.
    certificate-reported before c.args.artifact.now c.in-Certificate.certificate c.from-in-Certificate.result (sym c.in_ok-duplicate.ensures ∙ (c.from.ensures ∙ ap said_artifact c.in-Certificate.is)) c.from-in-Certificate.ensures

pub returns-in-Verdict : goal.returns-in-Verdict
returns-in-Verdict g c = IfOk-weaker c.report_of_verdict.result _ _
    (λ report told s before rest is. verdict-reported g.S.Scheme s c.args.recorded.now before rest c.args.artifact.now c.in-Verdict.round c.in-Verdict.ok report (sym c.in_ok-duplicate.ensures ∙ (c.from.ensures ∙ ap said_artifact c.in-Verdict.is)) is (told (owner_of s) (before ++ c.args.artifact.now ∷ rest) is.holds))
    c.report_of_verdict.ensures
