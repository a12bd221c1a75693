use Rattle.std.proofs.Common.{ℕ, sym, ap, subst}
use Rattle.std.specs.Prelude.{not}
use Rattle.std.proofs.lemmas.Bool.{false_from_ne_true, iff_false, not-true}
use Rattle.types_core.specs.Positions.{IsTermStart}
use Rattle.voter_rules.proofs.Testing.{never}
use Rattle.voter_rules.proofs.requests.is_handoff.Goals as goal

pub returns-then-not-is_term_start : goal.returns-then-not-is_term_start
returns-then-not-is_term_start g c = λ m k shown.
    never (λ handoff. iff_false c.is_term_start.ensures c.if-not-is_term_start.true (subst (λ (n : ℕ). IsTermStart n c.args.view) (sym (c.lookahead.ensures.length m k shown)) handoff.starts))

pub returns : goal.returns
returns g c = λ m k shown.
    let there = c.is_explicit_with.ensures m k shown in (
      λ so. record {
        starts = subst (λ (n : ℕ). IsTermStart n c.args.view) (c.lookahead.ensures.length m k shown) (c.is_term_start.ensures.0 c.if-not-is_term_start.false);
        early = λ explicit_. iff_false there (not-true c.is_explicit_with.result so) explicit_;
      },
      λ handoff. ap not (false_from_ne_true c.is_explicit_with.result (λ yes. handoff.early (there.0 yes))),
    )
