use Rattle.std.proofs.Common.{ℕ, ◌∙◌, ap, subst, ◌+◌, ◌≤◌}
use Rattle.types_core.specs.Positions.{term_start}
use Rattle.voter_rules.proofs.Testing.{never, le_passes, max_is}
use Rattle.voter_rules.proofs.Walking.{settled_is_sound, failed_by}
use Rattle.voter_rules.proofs.ancestry.has_failed.Goals as goal

pub returns-then-le : goal.returns-then-le
returns-then-le g c = λ m k shown.
    let settled = subst (λ (u : ℕ). c.args.view ≤ u) (c.last_finalized-finalized.ensures m k shown) (le_passes c.args.view c.last_finalized-finalized.result c.le.ensures c.if-le.true) in
    never (settled_is_sound m k c.args.view settled)

pub returns : goal.returns
returns g c = λ m k shown.
    failed_by m k c.args.view c.max.result c.next-2.result c.has_failed_within.result
    (max_is c.term_start-start.result c.next.result c.max.ensures (c.term_start-start.ensures ∙ ap (λ (n : ℕ). term_start n c.args.view) (c.lookahead.ensures.length m k shown)) (c.next.ensures ∙ ap (λ (u : ℕ). u + 1) (c.last_finalized-finalized.ensures m k shown))) c.next-2.ensures (c.has_failed_within.ensures m k shown)
