use Rattle.std.proofs.Common.{◌≢◌, sym, ◌∙◌, arith}
use Rattle.simplex_record.proofs.Ruling.{no_nullification, true_not, true-false}
use Rattle.simplex_record.proofs.standing.Standing.may_take_nullification.Goals as goal

pub returns-clause-lawful : goal.returns-clause-lawful
returns-clause-lawful g c = λ before k.
    let some : c.args.round.view ≢ 0 = λ zero. true-false (sym (c.is_zero.ensures.1 zero) ∙ c.if-is_zero.false) in
    let never = no_nullification c.args.length c.args.self.now.certificates before k.by_view.certificates c.args.round in (
      λ none. record {
        from_one = grind (arith, some);
        room = c.has_room.ensures.0 c.if-not-has_room.false;
        parent_below = tt;
        first = never.0 (sym c.contains.ensures ∙ (true_not c.contains.result).0 none);
      },
      λ may. (true_not c.contains.result).1 (c.contains.ensures ∙ never.1 may.first),
    )
