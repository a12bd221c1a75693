use Rattle.std.proofs.Common.{◌∷◌, ◌++◌, [], List, sym, ap, ◌∙◌, subst}
use Rattle.std.specs.List.Sorted.{IsStrictlySortedBy}
use Rattle.std.specs.Map.Iter.{deref}
use Rattle.std.proofs.lemmas.List.{map-append}
use Rattle.std.proofs.lemmas.Map.Iter.{iter_end}
use Rattle.simplex_rules.specs.declared.cast.Suspect.{Suspect}
use Rattle.simplex_rules.specs.Kept.{set_of, suspect_cmp}
use Rattle.simplex_rules.proofs.roster.listed.Goals as goal

pub loop-suspect-preserved : goal.loop-suspect-preserved
loop-suspect-preserved c = c.in_ok-push.ensures.items ∙ ap (λ (qs : List Suspect). qs ++ c.in-Some.suspect.now ∷ []) c.loop-suspect.invariant ∙ sym (map-append deref c.loop-suspect.yielded (c.in-Some.suspect ∷ []))

pub invariant_of-result : goal.invariant_of-result
invariant_of-result c =
    let gives = c.into_iter-suspect-iterator.ensures.into_iter_gives in
    let end = iter_end deref c.args.all.now.keys c.loop-suspect.yielded c.into_iter-suspect-iterator.result c.loop-suspect.suspect-iterator c.next.new.self c.next.result gives.0 c.loop-suspect.yielded_by c.in-None.is c.next.ensures.steps in
    subst (λ (qs : List Suspect). IsStrictlySortedBy suspect_cmp qs) (sym (c.loop-suspect.invariant ∙ end.0)) gives.4

pub returns : goal.returns
returns c =
    let gives = c.into_iter-suspect-iterator.ensures.into_iter_gives in
    let end = iter_end deref c.args.all.now.keys c.loop-suspect.yielded c.into_iter-suspect-iterator.result c.loop-suspect.suspect-iterator c.next.new.self c.next.result gives.0 c.loop-suspect.yielded_by c.in-None.is c.next.ensures.steps in
    ap set_of (c.loop-suspect.invariant ∙ end.0)
