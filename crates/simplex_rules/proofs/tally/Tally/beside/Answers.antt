use Rattle.std.proofs.Common.{sym, ◌∙◌}
use Rattle.types_core.specs.Subject.{finalize}
use Rattle.simplex_messages.specs.Guilt.{nullifies_of, finalizes_of}
use Rattle.simplex_rules.proofs.Besides.{beside-no_nullify, beside-no_finalize, beside-both}
use Rattle.simplex_rules.proofs.Judging.{least-absent}
use Rattle.simplex_rules.proofs.Standing.{kept_at_place}
use Rattle.simplex_rules.proofs.tally.Tally.beside.Goals as goal

pub returns-then-not-contains : goal.returns-then-not-contains
returns-then-not-contains g c = λ contested stands reports h there.
    let nullifies = nullifies_of g.S.Scheme.lists reports in
    let finalizes = finalizes_of g.S.Scheme.lists reports in
    let attests = g.S.Scheme.attests c.args.scheme.now in
    let kept = c.args.self.now.finalizes.kept.items in
    let at = kept_at_place contested kept c.args.place c.args.suspect.now stands in
    beside-no_finalize attests g.D.Ord.cmp nullifies finalizes c.args.suspect.now (least-absent finalize attests finalizes g.D.Ord.cmp contested kept h.finalizes c.args.suspect.now there (λ k found. c.contains.ensures c.if-not-contains.true k (sym at ∙ found)))

pub returns-in_err-nullify : goal.returns-in_err-nullify
returns-in_err-nullify g c = λ contested stands reports h there.
    let nullifies = nullifies_of g.S.Scheme.lists reports in
    let finalizes = finalizes_of g.S.Scheme.lists reports in
    rw c.from_residual.ensures (beside-no_nullify (g.S.Scheme.attests c.args.scheme.now) g.D.Ord.cmp nullifies finalizes c.args.suspect.now (c.in_err-nullify.ensures.first contested nullifies stands h.nullifies))

pub returns-in_err-finalize : goal.returns-in_err-finalize
returns-in_err-finalize g c = λ contested stands reports h there.
    let nullifies = nullifies_of g.S.Scheme.lists reports in
    let finalizes = finalizes_of g.S.Scheme.lists reports in
    rw c.from_residual-in_err-finalize.ensures (beside-no_finalize (g.S.Scheme.attests c.args.scheme.now) g.D.Ord.cmp nullifies finalizes c.args.suspect.now (c.in_err-finalize.ensures.least contested finalizes stands h.finalizes))

pub returns : goal.returns
returns g c = λ contested stands reports h there.
    let nullifies = nullifies_of g.S.Scheme.lists reports in
    let finalizes = finalizes_of g.S.Scheme.lists reports in
    rw c.new.ensures (beside-both (g.S.Scheme.attests c.args.scheme.now) g.D.Ord.cmp nullifies finalizes c.args.suspect.now c.in_ok-nullify.nullify c.in_ok-finalize.finalize c.in_ok-nullify.ensures.own c.in_ok-finalize.ensures.own
    (c.in_ok-nullify.ensures.first contested nullifies stands h.nullifies) (c.in_ok-finalize.ensures.least contested finalizes stands h.finalizes))
