use Rattle.std.proofs.Common.{refl}
use Rattle.std.proofs.lemmas.Bool.{true≢false, iff_false}
use Rattle.voter_rules.proofs.Preferring.{not_over, unsupported_over}
use Rattle.voter_rules.proofs.Testing.{next_after, none_before}
use Rattle.voter_rules.proofs.ancestry.handed_over.Goals as goal

pub returns-in_err-parent : goal.returns-in_err-parent
returns-in_err-parent g c = λ m k shown starts no_other.
    rw c.from_residual.ensures (λ parent payload over. none_before c.args.view parent (c.in_err-parent.ensures.none.0 refl) over.next)

pub returns-then-not-is_handoff_parent : goal.returns-then-not-is_handoff_parent
returns-then-not-is_handoff_parent g c = λ m k shown starts no_other.
    not_over m k c.args.view c.in_ok-parent.parent (next_after c.args.view c.in_ok-parent.parent (λ zero. true≢false (c.in_ok-parent.ensures.none.1 zero)) c.in_ok-parent.ensures.before)
    (iff_false (c.is_handoff_parent.ensures m k shown) c.if-not-is_handoff_parent.true)

pub returns-in-Some : goal.returns-in-Some
returns-in-Some g c = λ m k shown starts no_other. record {
  starts = starts;
  no_other = no_other;
  next = next_after c.args.view c.in_ok-parent.parent (λ zero. true≢false (c.in_ok-parent.ensures.none.1 zero)) c.in_ok-parent.ensures.before;
  handoff = ((c.is_handoff_parent.ensures m k shown).0 c.if-not-is_handoff_parent.false).1;
  there = c.in-Some.ensures m k shown;
}

pub returns-in-None : goal.returns-in-None
returns-in-None g c = λ m k shown starts no_other.
    unsupported_over m k c.args.view c.in_ok-parent.parent
    (next_after c.args.view c.in_ok-parent.parent (λ zero. true≢false (c.in_ok-parent.ensures.none.1 zero)) c.in_ok-parent.ensures.before) (c.in-None.ensures m k shown)
