use Rattle.std.proofs.Common.{◌<◌, ⊎_elim, sym, ◌∙◌, arith}
use Rattle.std.proofs.lemmas.Bool.Decides.{nat_tests}
use Rattle.types_core.specs.Subject.{notarize}
use Rattle.simplex_record.proofs.Ruling.{no_nullify, no_finalize, none_above, notarized_is, notarized_kept, true_verdict, unlike}
use Rattle.simplex_record.proofs.standing.Standing.may_finalize.Goals as goal

pub returns-then-not-has_room-clause-lawful : goal.returns-then-not-has_room-clause-lawful
returns-then-not-has_room-clause-lawful g c = λ before k.
    unlike (λ may. sym (c.has_room.ensures.1 (k.by_view.certificates.room (notarize c.args.proposal.now) may.notarized)) ∙ c.if-not-has_room.true)

pub returns-then-contains-clause-lawful : goal.returns-then-contains-clause-lawful
returns-then-contains-clause-lawful g c = λ before k. unlike (λ may. sym (c.if-contains.true) ∙ c.contains.ensures ∙ (no_nullify c.args.self.now.votes before k.by_view.votes c.args.proposal.now.round).1 may.not_given_up)

pub returns-then-contains-2-clause-lawful : goal.returns-then-contains-2-clause-lawful
returns-then-contains-2-clause-lawful g c = λ before k. unlike (λ may. sym (c.if-contains-2.true) ∙ c.contains-2.ensures ∙ (no_finalize c.args.self.now.votes before k.by_view.votes c.args.proposal.now).1 may.first)

pub returns-then-not-has_notarized-clause-lawful : goal.returns-then-not-has_notarized-clause-lawful
returns-then-not-has_notarized-clause-lawful g c = λ before k. unlike (λ may. sym (c.has_notarized.ensures.1 (notarized_kept c.args.length c.args.self.now.certificates before k.by_view.certificates c.args.proposal.now may.notarized)) ∙ c.if-not-has_notarized.true)

pub returns-then-not-is_certified-clause-lawful : goal.returns-then-not-is_certified-clause-lawful
returns-then-not-is_certified-clause-lawful g c = λ before k. unlike (λ may. sym (c.is_certified.ensures.1 ((true_verdict c.args.self.now.verdicts before k.by_view.verdicts c.args.proposal.now.round.view).1 may.certified)) ∙ c.if-not-is_certified.true)

pub returns-clause-lawful : goal.returns-clause-lawful
returns-clause-lawful g c = λ before k.
    let above : c.args.self.now.last_finalized < c.args.proposal.now.round.view = grind (arith, nat_tests, c.ge.ensures, c.if-ge.false) in
    let kept = c.has_notarized.ensures.0 c.if-not-has_notarized.false in
    let notarized = (notarized_is c.args.length c.args.self.now.certificates before k.by_view.certificates c.args.proposal.now c.args.proposal.now.round.view kept).1 in (
      λ is_healed. record {
        above = omega (arith, above, k.by_view.last_finalized);
        not_given_up = (no_nullify c.args.self.now.votes before k.by_view.votes c.args.proposal.now.round).0 (sym c.contains.ensures ∙ c.if-contains.false);
        first = (no_finalize c.args.self.now.votes before k.by_view.votes c.args.proposal.now).0 (sym c.contains-2.ensures ∙ c.if-contains-2.false);
        notarized = notarized;
        certified = (true_verdict c.args.self.now.verdicts before k.by_view.verdicts c.args.proposal.now.round.view).0 (c.is_certified.ensures.0 c.if-not-is_certified.false);
        no_other = λ q same here. ⊎_elim
            (λ other. k.by_view.certificates.one_notarized q c.args.proposal.now same other notarized)
            (λ final. absurd (none_above before c.args.proposal.now q (omega (arith, above, k.by_view.last_finalized)) same final)) here;
        healed = (c.is_healed.ensures before k).0 is_healed;
      },
      λ may. (c.is_healed.ensures before k).1 may.healed,
    )
