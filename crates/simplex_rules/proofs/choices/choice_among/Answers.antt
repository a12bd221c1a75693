use Rattle.std.proofs.Common.{get_or, sym, rules}
use Rattle.std.proofs.lemmas.Cmp.{tied_back}
use Rattle.std.proofs.lemmas.List.Sorted.{answers_always}
use Rattle.simplex_rules.proofs.Rounds.{rounds_total, above_last, at_last, choice_in-at, comparisons_rise, found_nowhere}
use Rattle.simplex_rules.proofs.choices.choice_among.Goals as goal

pub returns-in-Less : goal.returns-in-Less
returns-in-Less g c = sym (above_last c.args.ascending.now c.args.round.now c.in_ok-last.field-0.now c.requires c.in_ok-last.ensures.value (sym c.in-Less.ensures))

pub returns-in-Equal : goal.returns-in-Equal
returns-in-Equal g c = sym (at_last c.args.ascending.now c.args.round.now c.in_ok-last.field-0.now c.requires c.in_ok-last.ensures.value (sym c.in-Equal.ensures))

-- the closure gives the round of a pair
pub returns-in-Ok : goal.returns-in-Ok
returns-in-Ok g c =
    let ties = c.in-Ok.ensures.position (λ x. x.0) (answers_always _ _ _ (λ f a r h called. search rules)) c.index-ascending-place.result in
    let stands = get_or c.args.ascending.now c.in-Ok.place c.index-ascending-place.result in
    sym (choice_in-at c.args.ascending.now c.args.round.now c.in-Ok.place c.index-ascending-place.result c.requires c.in-Ok.ensures.bound (tied_back rounds_total stands.0 c.args.round.now ties))

pub returns-in-Err : goal.returns-in-Err
returns-in-Err g c =
    let parts = c.in-Err.ensures.position (λ x. x.0) (answers_always _ _ _ (λ f a r h called. search rules)) in
    sym (found_nowhere c.args.ascending.now c.args.round.now c.in-Err.field-0 (parts (comparisons_rise c.args.ascending.now c.args.round.now c.requires)))
