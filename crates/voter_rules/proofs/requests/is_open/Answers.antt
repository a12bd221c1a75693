use Rattle.std.proofs.Common.{ℕ, sym, ◌∙◌, ap, subst, ◌<◌, ◌≤◌}
use Rattle.std.proofs.lemmas.Bool.{iff_false, not-true}
use Rattle.std.specs.Prelude.{not}
use Rattle.voter_rules.proofs.Testing.{never, crossed, lt_passes, lt_fails}
use Rattle.voter_rules.proofs.requests.is_open.Goals as goal

pub returns-then-lt : goal.returns-then-lt
returns-then-lt g c = λ m k shown.
    let before = subst (λ (u : ℕ). c.args.view < u) (c.current_view.ensures m k shown) (lt_passes c.args.view c.current_view.result c.lt.ensures c.if-lt.true) in
    never (λ opens. crossed c.args.view k.current before opens.from)

pub returns-then-not-may_be_spoken_of : goal.returns-then-not-may_be_spoken_of
returns-then-not-may_be_spoken_of g c = λ m k shown.
    never (λ opens. iff_false (c.may_be_spoken_of.ensures m k shown) c.if-not-may_be_spoken_of.true (opens.room, opens.outbound))

pub returns : goal.returns
returns g c = λ m k shown.
    let spoken = (c.may_be_spoken_of.ensures m k shown).0 c.if-not-may_be_spoken_of.false in
    let given_up = c.broadcast_nullify.ensures m k shown in (
      λ so. record {
        from = subst (λ (u : ℕ). u ≤ c.args.view) (c.current_view.ensures m k shown) (lt_fails c.args.view c.current_view.result c.lt.ensures c.if-lt.false);
        room = spoken.0;
        outbound = spoken.1;
        not_given_up = sym given_up ∙ not-true c.broadcast_nullify.result so;
      },
      λ opens. ap not (given_up ∙ opens.not_given_up),
    )
