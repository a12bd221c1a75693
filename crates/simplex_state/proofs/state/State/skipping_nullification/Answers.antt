use Rattle.std.proofs.Common.{◌∙◌}
use Rattle.std.specs.Prelude.{None}
use Rattle.voter_rules.specs.Answers.{covering_nullification}
use Rattle.types_core.specs.Positions.{term_start}
use Rattle.simplex_state.specs.State.{Keeps}
use Rattle.simplex_state.proofs.Entering.{covering_is, where_not, where_starts}
use Rattle.simplex_state.proofs.state.State.skipping_nullification.Goals as goal

pub returns-then-not-is_term_start : goal.returns-then-not-is_term_start
unfolding Keeps
returns-then-not-is_term_start g c = λ s h k.
    where_not c.args.view (term_start s.length c.args.view) c.is_term_start.result (covering_nullification s h c.args.before) None (rw (c.lookahead.ensures.length s h k.views) at c.is_term_start.ensures) c.if-not-is_term_start.true

pub returns : goal.returns
unfolding Keeps
returns g c = λ s h k.
    covering_is s h c.args.before c.covering_nullification.result (c.covering_nullification.ensures s h k.views)
    ∙ where_starts c.args.view (term_start s.length c.args.view) c.is_term_start.result (covering_nullification s h c.args.before) None (rw (c.lookahead.ensures.length s h k.views) at c.is_term_start.ensures) c.if-not-is_term_start.false
