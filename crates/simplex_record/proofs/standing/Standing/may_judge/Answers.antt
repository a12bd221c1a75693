use Rattle.std.specs.Option.{option_copied}
use Rattle.std.proofs.Common.{sym, ◌∙◌, ap}
use Rattle.simplex_record.proofs.Checks.{judged_room}
use Rattle.simplex_record.proofs.Ruling.{no_verdict, notarized_of, none_notarized, unlike, rounds_eq, eq_rounds}
use Rattle.simplex_record.proofs.standing.Standing.may_judge.Goals as goal

pub returns-then-not-has_room-clause-lawful : goal.returns-then-not-has_room-clause-lawful
returns-then-not-has_room-clause-lawful g c = λ before k. unlike (λ may. sym (c.has_room.ensures.1 (judged_room c.args.length c.args.self.now.certificates before k.by_view.certificates c.args.round may)) ∙ c.if-not-has_room.true)

pub returns-then-contains_key-clause-lawful : goal.returns-then-contains_key-clause-lawful
returns-then-contains_key-clause-lawful g c = λ before k. unlike (λ may. sym (c.if-contains_key.true) ∙ c.contains_key.ensures ∙ (no_verdict c.args.self.now.verdicts before k.by_view.verdicts c.args.round).1 may.first)

pub returns-in-Some-clause-lawful : goal.returns-in-Some-clause-lawful
returns-in-Some-clause-lawful g c = λ before k.
    let kept = sym c.notarized.ensures ∙ ap option_copied c.in-Some.is in
    let of_round = notarized_of c.args.length c.args.self.now.certificates before k.by_view.certificates c.args.round c.in-Some.proposal.now kept in (
      λ same. record {
        notarized = of_round.0 (rounds_eq c.in-Some.proposal.now.round c.args.round (sym c.eq.ensures ∙ same));
        first = (no_verdict c.args.self.now.verdicts before k.by_view.verdicts c.args.round).0 (sym c.contains_key.ensures ∙ c.if-contains_key.false);
      },
      λ may. c.eq.ensures ∙ eq_rounds c.in-Some.proposal.now.round c.args.round (of_round.1 may.notarized),
    )

pub returns-in-None-clause-lawful : goal.returns-in-None-clause-lawful
returns-in-None-clause-lawful g c = λ before k. unlike (λ may. none_notarized c.args.length c.args.self.now.certificates before k.by_view.certificates c.args.round (sym c.notarized.ensures ∙ ap option_copied c.in-None.is) may.notarized)
