use Rattle.std.proofs.Common.{[], ◌∷◌, map, refl}
use Rattle.std.specs.Prelude.{option_to_list}
use Rattle.std.proofs.lemmas.Result.{on_ok_weaker}
use Rattle.simplex_member.specs.Deeds.{Blocks, Reports}
use Rattle.node_outbox.specs.Handing.{both_more, hands_as, nothing_more}
use Rattle.node_input.specs.Hearing.{admission_deeds}
use Rattle.node_input.proofs.Heeding.{deeds-added, deeds-blocked, deeds-passed}
use Rattle.node_input.proofs.hearing.hand_admission_out.Goals as goal

pub returns-then-admission-clause-done : goal.returns-then-admission-clause-done
returns-then-admission-clause-done g c = on_ok_weaker c.report_if.result (λ done f.
    hands_as f c.args.out.now.items c.report_if.new.out.items (admission_deeds c.args.sender c.args.admission) (map Reports (option_to_list c.args.admission.report)) (deeds-added c.args.sender c.args.admission c.if-admission.true) (done f)) c.report_if.ensures.done

pub returns-then-not-admission-clause-done : goal.returns-then-not-admission-clause-done
returns-then-not-admission-clause-done g c = λ f.
    hands_as f c.args.out.now.items c.args.out.now.items (admission_deeds c.args.sender c.args.admission) [] (deeds-passed c.args.sender c.args.admission c.if-admission.false c.if-not-admission.true) (nothing_more f c.args.out.now.items)

pub returns-in-Ok-clause-done : goal.returns-in-Ok-clause-done
returns-in-Ok-clause-done g c = on_ok_weaker c.report_if-in-Ok.result (λ done f.
    let reports = map Reports (option_to_list c.args.admission.report) in
    hands_as f c.args.out.now.items c.report_if-in-Ok.new.out.items (admission_deeds c.args.sender c.args.admission) (Blocks c.args.sender ∷ reports) (deeds-blocked c.args.sender c.args.admission c.if-admission.false c.if-not-admission.false)
    (both_more f c.args.out.now.items c.hand_out.new.out.items c.report_if-in-Ok.new.out.items (Blocks c.args.sender ∷ []) reports (c.in-Ok.ensures.done f (Blocks c.args.sender) refl) (done f))) c.report_if-in-Ok.ensures.done
