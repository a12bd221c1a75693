use Rattle.std.specs.Prelude.{is_some, not}
use Rattle.std.proofs.Common.{◌≡◌, ◌+◌, max, sym, ◌∙◌, ap, inl, inr, arith}
use Rattle.std.proofs.lemmas.Bool.Decides.{nat_tests}
use Rattle.types_core.specs.Positions.{term_start}
use Rattle.simplex_record.proofs.Healing.{none_between, first_between, healed-none, none-healed}
use Rattle.simplex_record.proofs.Ruling.{false_not}
use Rattle.simplex_record.proofs.Telling.{is_some-false, cases_option}
use Rattle.simplex_record.proofs.standing.Standing.is_healed.Goals as goal

pub returns : goal.returns
returns g c = λ before k.
    let low_is : c.max-low.result ≡ max (term_start c.args.length c.args.view) (c.args.self.now.last_finalized + 1) = grind (arith, nat_tests, c.max-low.ensures, c.term_start-start.ensures, c.next.ensures) in
    let range = c.range.ensures.in_range tt in (
      λ none.
          let empty = (rw (is_some-false c.next-2.result (c.is_none.ensures ∙ ap not none)) at c.next-2.ensures.steps).0 in
          healed-none c.args.self.now.votes before k.by_view.votes c.args.length c.args.view (λ view above past below.
          none_between c.args.self.now.votes.nullifies c.max-low.result c.args.view c.range.result range empty view (omega (arith, low_is, above, past, k.by_view.last_finalized)) below),
      λ healed. elim (cases_option c.next-2.result) [
        | inl none ↦ false_not c.is_none.result (sym c.is_none.ensures ∙ ap is_some none)
        | inr some ↦
            let first = first_between c.args.self.now.votes.nullifies c.max-low.result c.args.view c.range.result range some.0.now.0 _ (rw some.1 at c.next-2.ensures.steps) in
            absurd (none-healed c.args.self.now.votes before k.by_view.votes c.args.length c.args.view some.0.now.0 healed (omega (arith, low_is, first)) (omega (arith, low_is, first, k.by_view.last_finalized)) first.1 first.2)
      ],
    )
