use Rattle.std.proofs.Common.{◌≢◌, refl, rules}
use Rattle.types_codec.specs.declared.codec.CodecError.TheVariants.{Memory}
use Rattle.simplex_messages.specs.Activity.{notarize_report}
use Rattle.simplex_rules.specs.Survey.{AreSurveyed}
use Rattle.simplex_rules.proofs.Loose.{loose-counted, loose-none}
use Rattle.simplex_rules.proofs.Surveys.{surveyed-more}
use Rattle.simplex_rules.proofs.auditing.survey_next.Goals as goal

pub returns-in_ok-note_notarize-in-Ok : goal.returns-in_ok-note_notarize-in-Ok
returns-in_ok-note_notarize-in-Ok g c =
    let lists = g.S.Scheme.lists in
    let vote = c.in-Ok.vote in
    rw c.in-Some.ensures (loose-counted (AreSurveyed lists) _ _ _ _ _ _ _ _ vote c.in-Some.behind.now c.next_message-read.new.input.now c.args.survey.now c.note_notarize.new.self
    (rw c.in-Ok.is at c.next_message-read.ensures.fitting) (rw c.in-Ok.is at c.next_message-read.ensures.spelled)
    (λ reports all. surveyed-more lists reports (notarize_report vote) c.args.survey.now c.note_notarize.new.self c.in_ok-note_notarize-in-Ok.ensures all))

pub returns-in-Err : goal.returns-in-Err
returns-in-Err g c =
    let n = g.S.Scheme.size c.args.scheme.now in
    let other : c.in-Err.field-0 ≢ Memory = search rules in
    let gives = rw (c.requires.bound, c.in-Err.is) at c.next_message-read.ensures.exact in
    (rw c.in-Some.ensures (loose-none _ _ g.D.PartialEq.eq (g.D.Read.reading n) (g.S.Signature.Read.reading n) (g.S.Certificate.Read.reading n) c.in-Some.behind.now c.next_message-read.new.input.now c.in-Err.field-0 gives other), refl, refl)
