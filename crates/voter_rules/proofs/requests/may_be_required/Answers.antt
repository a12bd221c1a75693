use Rattle.std.proofs.Common.{refl, ◌∙◌, ap}
use Rattle.std.specs.Prelude.{not}
use Rattle.voter_rules.proofs.Asking.{none_required, spans_where_required}
use Rattle.voter_rules.proofs.requests.may_be_required.Goals as goal

pub returns-then-is_none : goal.returns-then-is_none
returns-then-is_none g c = λ m k shown.
    let none = none_required m k c.args.view c.args.parent c.required_parent.result (c.is_none.ensures ∙ ap not c.if-is_none.true) (c.required_parent.ensures m k shown) in
    (λ so required asked. absurd (none required asked), λ all. refl)

pub returns : goal.returns
returns g c = λ m k shown.
    spans_where_required m k c.args.view c.args.parent c.required_parent.result c.span_fault.result c.is_none-2.result (c.is_none.ensures ∙ ap not c.if-is_none.false)
    (c.required_parent.ensures m k shown) c.is_none-2.ensures (c.span_fault.ensures.fault m k shown)
