use Rattle.std.proofs.Common.{◌≡◌, length, suc, refl, sym, ap, ◌∙◌, Some, arith}
use Rattle.std.specs.Ordering.{is_eq}
use Rattle.std.proofs.lemmas.Option.{slice_get_read}
use Rattle.simplex_rules.proofs.Suspects.{suspect_cmp-exact}
use Rattle.simplex_rules.proofs.Standing.{between}
use Rattle.simplex_rules.proofs.roster.place_before.Goals as goal

pub returns-in-Less-clause-absent : goal.returns-in-Less-clause-absent
returns-in-Less-clause-absent c = λ _.
    let item = c.in-Some-get.ensures.lookup in
    let found = slice_get_read c.args.suspects.now (length c.args.suspects.now) c.in-Some.before c.in-Some-get.last.now refl item.3.0 item.1 in
    let behind : c.args.next ≡ suc c.in-Some.before = omega (arith, c.in-Some.ensures.0, c.in-Some.ensures.1) in
    between c.args.suspects.now c.args.suspect.now c.in-Some.before c.in-Some-get.last.now c.requires.sorted found (sym c.in-Less.ensures) (rw behind at c.requires.below)

pub returns-in-Equal-clause-found : goal.returns-in-Equal-clause-found
returns-in-Equal-clause-found c =
    let item = c.in-Some-get.ensures.lookup in
    let found = slice_get_read c.args.suspects.now (length c.args.suspects.now) c.in-Some.before c.in-Some-get.last.now refl item.3.0 item.1 in
    (c.requires.sorted, found ∙ ap Some (suspect_cmp-exact c.in-Some-get.last.now c.args.suspect.now (ap is_eq (sym c.in-Equal.ensures))))
