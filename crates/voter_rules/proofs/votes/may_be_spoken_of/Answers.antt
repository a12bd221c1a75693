use Rattle.std.proofs.Common.{ℕ, sym, subst}
use Rattle.std.proofs.lemmas.Bool.{iff_false}
use Rattle.types_core.specs.Positions.{HasRoom}
use Rattle.voter_rules.proofs.Testing.{never}
use Rattle.voter_rules.proofs.Voting.{spoken_by}
use Rattle.voter_rules.proofs.votes.may_be_spoken_of.Goals as goal

pub returns-then-not-has_room : goal.returns-then-not-has_room
returns-then-not-has_room g c = λ m k shown.
    never (λ spoken. iff_false c.has_room.ensures c.if-not-has_room.true (subst (λ (n : ℕ). HasRoom n c.args.view) (sym (c.lookahead-lookahead.ensures.length m k shown)) spoken.0))

pub returns : goal.returns
returns g c = λ m k shown.
    spoken_by m k c.args.view c.lookahead-lookahead.result.length c.lookahead-lookahead.result.optimistic_views c.current_view.result c.admits_outbound.result
    (c.lookahead-lookahead.ensures.length m k shown) (c.lookahead-lookahead.ensures.optimistic_views m k shown) (c.current_view.ensures m k shown) (c.has_room.ensures.0 c.if-not-has_room.false)
    c.admits_outbound.ensures
