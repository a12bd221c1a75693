use Rattle.std.proofs.Common.{ℕ, ◌∙◌, ap, subst, ◌+◌, ◌≤◌}
use Rattle.types_core.specs.Positions.{term_start}
use Rattle.voter_rules.proofs.Testing.{always, le_passes, max_is, none_between}
use Rattle.voter_rules.proofs.Voting.{healed_by}
use Rattle.voter_rules.proofs.votes.is_healed.Goals as goal

pub returns : goal.returns
returns g c = λ m k shown. healed_by m k c.args.view c.max.result c.has_given_up_within.result
    (max_is c.term_start-start.result c.next.result c.max.ensures (c.term_start-start.ensures ∙ ap (λ (n : ℕ). term_start n c.args.view) (c.lookahead.ensures.length m k shown))
    (c.next.ensures ∙ ap (λ (u : ℕ). u + 1) (c.last_finalized-finalized.ensures m k shown)))
    (c.has_given_up_within.ensures m k shown)

pub returns-then-le : goal.returns-then-le
returns-then-le g c = λ m k shown.
    let settled = subst (λ (u : ℕ). c.args.view ≤ u) (c.last_finalized-finalized.ensures m k shown) (le_passes c.args.view c.last_finalized-finalized.result c.le.ensures c.if-le.true) in
    always (λ u from below above. absurd (none_between k.last_finalized u c.args.view above below settled))
