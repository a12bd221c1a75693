use Rattle.std.proofs.Common.{sym, ◌∙◌, arith}
use Rattle.simplex_record.proofs.Ruling.{no_finalization, true_not, unlike}
use Rattle.simplex_record.proofs.standing.Standing.may_take_finalization.Goals as goal

pub returns-then-not-can_be_certified-clause-lawful : goal.returns-then-not-can_be_certified-clause-lawful
returns-then-not-can_be_certified-clause-lawful g c = λ before k. unlike (λ may. sym (c.can_be_certified.ensures.1 (may.room, may.parent_below)) ∙ c.if-not-can_be_certified.true)

pub returns-clause-lawful : goal.returns-clause-lawful
returns-clause-lawful g c = λ before k.
    let can = c.can_be_certified.ensures.0 c.if-not-can_be_certified.false in
    let never = no_finalization c.args.length c.args.self.now.certificates before k.by_view.certificates c.args.proposal.now in (
      λ none. record {
        from_one = omega (arith, can);
        room = can.0;
        parent_below = can.1;
        first = never.0 (sym c.contains.ensures ∙ (true_not c.contains.result).0 none);
      },
      λ may. (true_not c.contains.result).1 (c.contains.ensures ∙ never.1 may.first),
    )
