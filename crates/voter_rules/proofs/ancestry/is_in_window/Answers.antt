use Rattle.std.proofs.Common.{inl, inr, refl}
use Rattle.std.proofs.lemmas.Bool.{true≢false, iff_false}
use Rattle.voter_rules.proofs.Testing.{never}
use Rattle.voter_rules.proofs.Windowing.{outside_by, inside_by, anchored}
use Rattle.voter_rules.proofs.ancestry.is_in_window.Goals as goal

pub returns-in_default : goal.returns-in_default
returns-in_default g c = λ m k shown.
    let it = c.lookahead.ensures in
    never (outside_by m k c.args.view c.lookahead.result.length c.lookahead.result.optimistic_views (it.length m k shown) (it.optimistic_views m k shown) (c.in_default.ensures.none.0 refl))

pub returns-then-is_zero : goal.returns-then-is_zero
returns-then-is_zero g c = λ m k shown.
    let it = c.lookahead.ensures in (
      λ so. inside_by m k c.args.view c.lookahead.result.length c.lookahead.result.optimistic_views (it.length m k shown) (it.optimistic_views m k shown) c.in-Some.floor c.in-Some.ensures.floor
          (λ outside. true≢false (c.in-Some.ensures.none.1 outside)) (inl (c.is_zero.ensures.0 so)),
      λ inside. c.if-is_zero.true,
    )

pub returns-else-is_zero : goal.returns-else-is_zero
returns-else-is_zero g c = λ m k shown.
    let it = c.lookahead.ensures in
    let law = c.has_certificate_within.ensures m k shown in (
      λ so. inside_by m k c.args.view c.lookahead.result.length c.lookahead.result.optimistic_views (it.length m k shown) (it.optimistic_views m k shown) c.in-Some.floor c.in-Some.ensures.floor
          (λ outside. true≢false (c.in-Some.ensures.none.1 outside)) (inr (law.0 so)),
      λ inside. law.1 (anchored m k c.args.view c.lookahead.result.length c.lookahead.result.optimistic_views (it.length m k shown) (it.optimistic_views m k shown) c.in-Some.floor
          c.in-Some.ensures.floor inside (iff_false c.is_zero.ensures c.if-is_zero.false)),
    )
