use Rattle.std.proofs.Common.{ℕ, sym, subst, refl}
use Rattle.std.proofs.lemmas.Bool.{true≢false, iff_false}
use Rattle.types_core.specs.Positions.{IsTermStart}
use Rattle.voter_rules.proofs.Testing.{never, next_after}
use Rattle.voter_rules.proofs.Preferring.{ends_term, handoff_by}
use Rattle.voter_rules.proofs.ancestry.is_handoff_parent.Goals as goal

pub returns-in_default : goal.returns-in_default
returns-in_default g c = λ m k shown. never (λ both. both.0 (c.in_default.ensures.none.0 refl))

pub returns-then-not-is_term_start : goal.returns-then-not-is_term_start
returns-then-not-is_term_start g c = λ m k shown.
    never (λ both. iff_false c.is_term_start.ensures c.if-not-is_term_start.true
    (subst (λ (n : ℕ). IsTermStart n c.next-next.result) (sym (c.lookahead.ensures.length m k shown)) (ends_term m k c.args.view c.next-next.result c.next-next.ensures both.1)))

pub returns-then-not-leads_by_schedule : goal.returns-then-not-leads_by_schedule
returns-then-not-leads_by_schedule g c = λ m k shown.
    never (λ both. iff_false (c.leads_by_schedule.ensures m k shown) c.if-not-leads_by_schedule.true (rw c.next-next.ensures both.1.leads))

pub returns : goal.returns
returns g c = λ m k shown.
    let starts = subst (λ (n : ℕ). IsTermStart n c.next-next.result) (c.lookahead.ensures.length m k shown) (c.is_term_start.ensures.0 c.if-not-is_term_start.false) in
    handoff_by m k c.in-Some.before c.args.view c.next-next.result
    (next_after c.args.view c.in-Some.before (λ zero. true≢false (c.in-Some.ensures.none.1 zero)) c.in-Some.ensures.before) c.next-next.ensures
    starts ((c.leads_by_schedule.ensures m k shown).0 c.if-not-leads_by_schedule.false) c.first_uncovered.result c.is_some.result c.is_some.ensures (c.first_uncovered.ensures m k shown)
