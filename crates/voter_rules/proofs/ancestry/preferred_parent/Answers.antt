use Rattle.std.proofs.Common.{ℕ, subst}
use Rattle.std.proofs.lemmas.Bool.{iff_false}
use Rattle.types_core.specs.Positions.{IsTermStart}
use Rattle.voter_rules.proofs.ancestry.preferred_parent.Goals as goal

pub returns-then-is_term_start : goal.returns-then-is_term_start
returns-then-is_term_start g c = λ m k shown.
    c.last_parent.ensures m k shown (subst (λ (n : ℕ). IsTermStart n c.args.view) (c.lookahead.ensures.length m k shown) (c.is_term_start.ensures.0 c.if-is_term_start.true))

pub returns : goal.returns
returns g c = λ m k shown.
    c.previous_parent.ensures m k shown (subst (λ (n : ℕ). ¬ IsTermStart n c.args.view) (c.lookahead.ensures.length m k shown) (iff_false c.is_term_start.ensures c.if-is_term_start.false))
