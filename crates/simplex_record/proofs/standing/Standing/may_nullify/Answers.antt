use Rattle.std.proofs.Common.{◌≡◌, ◌≤◌, sym, ◌∙◌, arith}
use Rattle.std.proofs.lemmas.Bool.Decides.{nat_tests}
use Rattle.simplex_record.specs.Record.{current_view, enters}
use Rattle.simplex_record.proofs.Figures.{greatest-least}
use Rattle.simplex_record.proofs.Ruling.{no_nullify, no_finalize_of, unlike, true_not}
use Rattle.simplex_record.proofs.standing.Standing.may_nullify.Goals as goal

pub returns-then-eq-clause-lawful : goal.returns-then-eq-clause-lawful
returns-then-eq-clause-lawful g c = λ before k. unlike (λ may.
    let zero : c.args.round.view ≡ 0 = grind (arith, nat_tests, c.eq.ensures, c.zero.ensures, c.if-eq.true) in
    let some : 1 ≤ current_view c.args.length before = greatest-least 1 (enters c.args.length) before in
    absurd (omega (arith, zero, some, may.current)))

pub returns-then-not-has_room-clause-lawful : goal.returns-then-not-has_room-clause-lawful
returns-then-not-has_room-clause-lawful g c = λ before k. unlike (λ may. sym (c.has_room.ensures.1 may.room) ∙ c.if-not-has_room.true)

pub returns-then-contains-clause-lawful : goal.returns-then-contains-clause-lawful
returns-then-contains-clause-lawful g c = λ before k. unlike (λ may. sym (c.if-contains.true) ∙ c.contains.ensures ∙ (no_nullify c.args.self.now.votes before k.by_view.votes c.args.round).1 may.first)

pub returns-clause-lawful : goal.returns-clause-lawful
returns-clause-lawful g c = λ before k.
    let same : c.args.round.view ≡ c.args.self.now.current_view = grind (arith, nat_tests, c.ne.ensures, c.if-ne.false) in
    let never = no_finalize_of c.args.self.now.votes before k.by_view.votes c.args.round.view in (
      λ none. record {
        room = c.has_room.ensures.0 c.if-not-has_room.false;
        current = same ∙ k.by_view.current_view;
        first = (no_nullify c.args.self.now.votes before k.by_view.votes c.args.round).0 (sym c.contains.ensures ∙ c.if-contains.false);
        not_finalized = never.0 (sym c.contains-2.ensures ∙ (true_not c.contains-2.result).0 none);
      },
      λ may. (true_not c.contains-2.result).1 (c.contains-2.ensures ∙ never.1 may.not_finalized),
    )
