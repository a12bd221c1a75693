use Rattle.std.proofs.Common.{ℕ, sym, ◌∙◌, subst, refl}
use Rattle.std.proofs.lemmas.Bool.{true≢false, false≢true, iff_false}
use Rattle.types_core.specs.Positions.{IsTermStart}
use Rattle.voter_rules.proofs.Testing.{ne_passes, ne_fails, next_after, none_before, same_before}
use Rattle.voter_rules.proofs.ancestry.required_parent.Goals as goal

pub returns-in_err-before : goal.returns-in_err-before
returns-in_err-before g c = λ m k shown. rw c.from_residual.ensures (λ required is. none_before c.args.view required (c.in_err-before.ensures.none.0 refl) is.next)

pub returns-then-not-is_term_start : goal.returns-then-not-is_term_start
returns-then-not-is_term_start g c = λ m k shown. record {
  next = next_after c.args.view c.in_ok-before.before (λ zero. true≢false (c.in_ok-before.ensures.none.1 zero)) c.in_ok-before.ensures.before;
  early = λ starts.
      absurd (iff_false c.is_term_start.ensures c.if-not-is_term_start.true (subst (λ (n : ℕ). IsTermStart n c.args.view) (sym (c.lookahead.ensures.length m k shown)) starts));
}

pub returns-then-ne : goal.returns-then-ne
returns-then-ne g c = λ m k shown required is.
    let starts = subst (λ (n : ℕ). IsTermStart n c.args.view) (c.lookahead.ensures.length m k shown) (c.is_term_start.ensures.0 c.if-not-is_term_start.false) in
    ne_passes c.args.parent c.in_ok-before.before c.ne.ensures c.if-ne.true ((is.early starts).0 ∙ same_before c.args.view required c.in_ok-before.before is.next c.in_ok-before.ensures.before)

pub returns-then-not-leads_by_schedule : goal.returns-then-not-leads_by_schedule
returns-then-not-leads_by_schedule g c = λ m k shown required is.
    let starts = subst (λ (n : ℕ). IsTermStart n c.args.view) (c.lookahead.ensures.length m k shown) (c.is_term_start.ensures.0 c.if-not-is_term_start.false) in
    iff_false (c.leads_by_schedule.ensures m k shown) c.if-not-leads_by_schedule.true (is.early starts).1

pub returns-then-not-broadcast_notarize : goal.returns-then-not-broadcast_notarize
returns-then-not-broadcast_notarize g c = λ m k shown required is.
    let starts = subst (λ (n : ℕ). IsTermStart n c.args.view) (c.lookahead.ensures.length m k shown) (c.is_term_start.ensures.0 c.if-not-is_term_start.false) in
    false≢true (sym c.if-not-broadcast_notarize.true ∙ c.broadcast_notarize.ensures m k shown ∙ (is.early starts).2)

pub returns : goal.returns
returns g c = λ m k shown. record {
  next = next_after c.args.view c.in_ok-before.before (λ zero. true≢false (c.in_ok-before.ensures.none.1 zero)) c.in_ok-before.ensures.before;
  early = λ starts. (
    ne_fails c.args.parent c.in_ok-before.before c.ne.ensures c.if-ne.false,
    (c.leads_by_schedule.ensures m k shown).0 c.if-not-leads_by_schedule.false,
    sym (c.broadcast_notarize.ensures m k shown) ∙ c.if-not-broadcast_notarize.false,
  );
}
