use Rattle.std.proofs.Common.{inl, refl}
use Rattle.std.proofs.lemmas.Bool.{true≢false}
use Rattle.voter_rules.proofs.Preferring.{no_predecessor}
use Rattle.voter_rules.proofs.Testing.{next_after, starts_at}
use Rattle.voter_rules.proofs.ancestry.previous_parent.Goals as goal

pub returns-in_err-parent : goal.returns-in_err-parent
returns-in_err-parent g c = λ m k shown inside. absurd (inside (starts_at m.length c.args.view (c.in_err-parent.ensures.none.0 refl)))

pub returns-in-Some : goal.returns-in-Some
returns-in-Some g c = λ m k shown inside. inl (record {
  inside = inside;
  next = next_after c.args.view c.in_ok-parent.parent (λ zero. true≢false (c.in_ok-parent.ensures.none.1 zero)) c.in_ok-parent.ensures.before;
  supports = c.in-Some.ensures m k shown;
})

pub returns-in-None : goal.returns-in-None
returns-in-None g c = λ m k shown inside.
    no_predecessor m k c.args.view c.in_ok-parent.parent inside
    (next_after c.args.view c.in_ok-parent.parent (λ zero. true≢false (c.in_ok-parent.ensures.none.1 zero)) c.in_ok-parent.ensures.before) (c.in-None.ensures m k shown)
