use Rattle.std.proofs.Common.{sym, ◌∙◌, ap}
use Rattle.std.specs.Prelude.{is_some}
use Rattle.voter_rules.specs.Ancestry.{explicit}
use Rattle.voter_rules.proofs.Asking.{nothing, ready_alone, ready_over, waits_for, fetches}
use Rattle.voter_rules.proofs.requests.verdict_over.Goals as goal

pub returns-in_default : goal.returns-in_default
returns-in_default g c = λ m k shown opens. ready_alone m k c.args.view c.args.proposal opens (c.in_default.ensures m k shown)

pub returns-then-is_waiting : goal.returns-then-is_waiting
returns-then-is_waiting g c = λ m k shown opens q other. (
  sym (c.is_waiting.ensures m k shown) ∙ c.if-is_waiting.true,
  (
    c.in-Some.required,
    waits_for m k c.args.view c.args.proposal opens c.in-Some.required (c.in-Some.ensures m k shown)
        (nothing (explicit m k c.in-Some.required) (ap is_some (sym (c.explicit_payload.ensures m k shown)) ∙ sym c.is_some.ensures ∙ c.if-is_some.false)),
  ),
)

pub returns-then-is_notarized : goal.returns-then-is_notarized
returns-then-is_notarized g c = λ m k shown opens. (
  record {
    waits = waits_for m k c.args.view c.args.proposal opens c.in-Some.required (c.in-Some.ensures m k shown)
        (nothing (explicit m k c.in-Some.required) (ap is_some (sym (c.explicit_payload.ensures m k shown)) ∙ sym c.is_some.ensures ∙ c.if-is_some.false));
    first = sym (c.is_waiting.ensures m k shown) ∙ c.if-is_waiting.false;
  },
  sym (c.is_notarized.ensures m k shown) ∙ c.if-is_notarized.true,
)

pub returns : goal.returns
returns g c = λ m k shown opens.
    fetches m k c.args.view c.args.proposal opens c.in-Some.required (c.in-Some.ensures m k shown)
    (nothing (explicit m k c.in-Some.required) (ap is_some (sym (c.explicit_payload.ensures m k shown)) ∙ sym c.is_some.ensures ∙ c.if-is_some.false))
    (sym (c.is_waiting.ensures m k shown) ∙ c.if-is_waiting.false) (nothing (k.notarized c.in-Some.required) (sym (c.is_notarized.ensures m k shown) ∙ c.if-is_notarized.false))

pub returns-then-is_some : goal.returns-then-is_some
returns-then-is_some g c = λ m k shown opens.
    ready_over m k c.args.view c.args.proposal opens c.in-Some.required (c.in-Some.ensures m k shown) (ap is_some (sym (c.explicit_payload.ensures m k shown)) ∙ sym c.is_some.ensures ∙ c.if-is_some.true)
