use Rattle.std.proofs.Common.{◌==◌, ◌∙◌, ℕ, refl, inl, inr, arith, if◌then◌else◌}
use Rattle.std.specs.Prelude.{Option, Some, None}
use Rattle.std.proofs.lemmas.Result.{MatchResult-weaker}
use Rattle.voter_history.specs.Leaders.{extend}
use Rattle.voter_rounds.specs.Laws.{IsKept-led}
use Rattle.voter_rounds.specs.Rounds.{learn}
use Rattle.voter_rounds.specs.Tracked.{Holds, inherits_by}
use Rattle.voter_rounds.proofs.Leading.{behind_first, handed-on-below, learnt-kept, named-first}
use Rattle.voter_rounds.proofs.tracked.Tracked.lead.Goals as goal

pub returns-then-get-eq18446744073709551615 : goal.returns-then-get-eq18446744073709551615
unfolding Holds
returns-then-get-eq18446744073709551615 g c = λ f t k some member closed.
    let here : ℕ → Option ℕ = λ u. if u == c.args.first then Some c.args.leader else None in
    IsKept-led {t = record t { led = learn c.args.first c.args.leader t.led }} (extend here (inherits_by f t) t.led)
    (learnt-kept c.args.first c.args.leader k member (c.in_ok-_new.ensures.keeps f.common t.led t.past k.rounds member))
    (λ u fits. named-first c.args.first c.args.leader (inherits_by f t) t.led some (λ v lt. closed v (inl lt) (omega (arith, lt, c.get.ensures.fits))) u
    ∙ handed-on-below here (inherits_by f t) t.led _ u (omega arith))

pub returns : goal.returns
unfolding Holds
returns g c = MatchResult-weaker c.hand_on.result c.hand_on.ensures
    (λ _ handed f t k some member closed.
    handed f (record t { led = learn c.args.first c.args.leader t.led })
    (learnt-kept c.args.first c.args.leader k member (c.in_ok-_new.ensures.keeps f.common t.led t.past k.rounds member))
    (λ u. if u == c.args.first then Some c.args.leader else None) t.led
    (record {
      led = λ u. rw c.next.ensures (named-first c.args.first c.args.leader (inherits_by f t) t.led some (λ v lt. closed v (inl lt) (omega (arith, lt, c.get.ensures.fits))) u);
      unnamed = λ u le. rw (behind_first c.args.first c.next.result u c.next.ensures le) refl;
      closed = λ u le fits. closed u (inr le) fits;
    }))
    (λ e _. tt)
