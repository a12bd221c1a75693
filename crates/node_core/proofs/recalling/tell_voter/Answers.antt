use Rattle.std.proofs.Common.{◌∷◌, ◌∙◌, sym, ap, subst}
use Rattle.std.proofs.lemmas.Result.{on_ok_weaker}
use Rattle.types_core.specs.declared.position.Round.{Round}
use Rattle.types_core.specs.Positions.{HasRoom}
use Rattle.simplex_state.specs.State as voting
use Rattle.messages_certificates.specs.Artifact.{artifact_round}
use Rattle.voter_views.specs.Views.{recalls}
use Rattle.node_core.specs.Saying.{said_artifact}
use Rattle.node_core.specs.SaidRounds.{of_certificate}
use Rattle.node_core.proofs.Finding.{found-certificate, found-verdict, found-vote, still-unknown}
use Rattle.voter_history.specs.Past as past
use Rattle.voter_history.specs.History.{seen}
use Rattle.node_core.proofs.Knowing.{known-recalled, none-some}
use Rattle.node_core.proofs.recalling.tell_voter.Goals as goal

pub returns-in-Vote : goal.returns-in-Vote
returns-in-Vote g c = λ s h k room new.
    let r = c.in_ok-replay.ensures s h k in
    (r.0, r.1, found-vote (voting.Keeps g.S.Scheme g.L.Elector s c.replay.new.self) c.args.now c.args.artifact.now r.0 h c.in-Vote.field-0 (sym c.in_ok-duplicate.ensures ∙ (c.from.ensures ∙ ap said_artifact c.in-Vote.is)) r.2)

pub returns-in-Certificate : goal.returns-in-Certificate
returns-in-Certificate g c = on_ok_weaker c.give.result (λ told s h k room new.
    let r = c.in_ok-replay.ensures s h k in
    let x = c.args.artifact.now in
    let is = sym c.in_ok-duplicate.ensures ∙ (c.from.ensures ∙ ap said_artifact c.in-Certificate.is) in
    let roomy = subst (λ (u : Round). HasRoom s.length u.view) (ap artifact_round is ∙ of_certificate c.in-Certificate.certificate) room in (
      r.0,
      r.1,
      found-certificate (voting.Keeps g.S.Scheme g.L.Elector s c.give.new.voter) c.args.now x r.0 h c.in-Certificate.certificate is
          (told s (recalls r.0 x ∷ h) r.2 roomy (still-unknown s h r.0 x new c.in-Certificate.certificate is)),
    ))
    c.give.ensures

pub returns-in-Some : goal.returns-in-Some
returns-in-Some g c = λ s h k room new.
    let r = c.in_ok-replay.ensures s h k in
    (r.0, r.1, found-verdict (voting.Keeps g.S.Scheme g.L.Elector s c.certified.new.self) c.args.now c.args.artifact.now r.0 h c.in-Verdict.round c.in-Verdict.ok (sym c.in_ok-duplicate.ensures ∙ (c.from.ensures ∙ ap said_artifact c.in-Verdict.is)) ((rw c.in-Some.is at c.in_ok-certified-in-Verdict.ensures.keeps) s (recalls r.0 c.args.artifact.now ∷ h) r.2))

-- a verdict is on a notarization that is known
pub unreachable-requires : goal.unreachable-requires
unreachable-requires g c =
    let at = c.requires in
    let r = c.in_ok-replay.ensures at.s at.h at.keeps in
    let x = c.args.artifact.now in
    let is = sym c.in_ok-duplicate.ensures ∙ (c.from.ensures ∙ ap said_artifact c.in-Verdict.is) in
    let roomy = subst (λ (u : Round). HasRoom at.s.length u.view) (ap artifact_round is) at.room in
    let none = (rw c.in-None.is at c.in_ok-certified-in-Verdict.ensures.answer) at.s (recalls r.0 x ∷ at.h) r.2 roomy ∙ known-recalled at.s at.h x c.in-Verdict.round c.in-Verdict.ok r.0 is in
    none-some (past.notarization (seen at.s at.h c.in-Verdict.round.view)) none (at.known c.in-Verdict.round c.in-Verdict.ok is)
