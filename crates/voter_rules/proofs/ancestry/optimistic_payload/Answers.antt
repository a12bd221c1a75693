use Rattle.std.proofs.Common.{ℕ, sym, subst}
use Rattle.std.specs.Prelude.{Option}
use Rattle.voter_rules.specs.Knowing.{Rests}
use Rattle.voter_rules.proofs.ancestry.optimistic_payload.Goals as goal

pub returns-in_err-first : goal.returns-in_err-first
returns-in_err-first g c = λ m k shown. rw c.from_residual.ensures (c.in_err-first.ensures.link m k shown)

pub views-init : goal.views-init
views-init g c = record {
  lower = c.in_ok-first.ensures.lower;
  holds = λ m k shown. (c.in_ok-first.ensures.link m k shown).holds;
  needs = λ m k shown. (c.in_ok-first.ensures.link m k shown).needs;
}

pub returns : goal.returns
returns g c = λ m k shown. c.views.invariant.holds m k shown (subst (λ (b : Option (ℕ × Option g.row.D.Denot)). Rests m k b) (sym c.in_default.is) tt)
