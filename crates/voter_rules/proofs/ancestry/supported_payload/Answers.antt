use Rattle.std.proofs.lemmas.Bool.{iff_false}
use Rattle.voter_rules.proofs.Windowing.{inside_supports, outside_supports}
use Rattle.voter_rules.proofs.ancestry.supported_payload.Goals as goal

pub returns-then-is_in_window : goal.returns-then-is_in_window
returns-then-is_in_window g c = λ m k shown.
    inside_supports m k c.args.view c.args.parent c.optimistic_payload.result ((c.is_in_window.ensures m k shown).0 c.if-is_in_window.true) (c.optimistic_payload.ensures m k shown)

pub returns : goal.returns
returns g c = λ m k shown.
    outside_supports m k c.args.view c.args.parent c.explicit_payload.result (iff_false (c.is_in_window.ensures m k shown) c.if-is_in_window.false) (c.explicit_payload.ensures m k shown)
