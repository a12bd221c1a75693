use Rattle.std.proofs.Common.{◌==◌, ◌+◌, ℕ, ⊎_elim, sym, arith, if◌then◌else◌}
use Rattle.std.specs.Prelude.{Option, None}
use Rattle.std.proofs.lemmas.Bool.{ne_eqb}
use Rattle.std.proofs.lemmas.Result.{MatchResult-weaker}
use Rattle.voter_history.specs.Leaders.{extend}
use Rattle.voter_rounds.specs.Laws.{IsKept-led}
use Rattle.voter_rounds.specs.Tracked.{Holds, inherits_by}
use Rattle.voter_rounds.proofs.Leading.{extend-below, nobody-next, not-yet-next}
use Rattle.voter_rounds.proofs.tracked.Tracked.follow_vote.Goals as goal

pub returns-in_default : goal.returns-in_default
unfolding Holds
returns-in_default g c = MatchResult-weaker c.follow.result c.follow.ensures
    (λ _ followed f t k member closed.
    IsKept-led {t = record t { led = extend (λ u. None) (inherits_by f t) t.led }} (extend (λ u. if u == c.args.view + 1 then c.args.next_leader else None) (inherits_by f t) t.led)
    (followed f t k closed)
    (λ u fits. λ i. extend (λ v. nobody-next c.args.view c.args.next_leader c.in_default.is v i) (inherits_by f t) t.led u))
    (λ e _. tt)

pub returns-then-get-eq18446744073709551615 : goal.returns-then-get-eq18446744073709551615
unfolding Holds
returns-then-get-eq18446744073709551615 g c = λ f t k member closed.
    let here : ℕ → Option ℕ = λ u. if u == c.args.view + 1 then c.args.next_leader else None in
    IsKept-led (extend here (inherits_by f t) t.led) k
    (λ u fits. sym (extend-below here (inherits_by f t) t.led (c.args.view + 1) (not-yet-next c.args.view c.args.next_leader)
    (λ v lt. closed v (ne_eqb c.args.view v (λ e. omega (arith, e, lt)))) u (omega arith)))

pub returns : goal.returns
unfolding Holds
returns g c = MatchResult-weaker c.lead.result c.lead.ensures
    (λ _ led f t k member closed.
    rw (c.in-Some.is, ← c.next-next.ensures) (led f t k (omega (arith, c.next-next.ensures)) (member c.in-Some.leader c.in-Some.is)
    (λ u far fits. closed u (ne_eqb c.args.view u (λ e. ⊎_elim (λ lt. omega (arith, e, lt, c.next-next.ensures)) (λ le. omega (arith, e, le, c.next-next.ensures)) far)))))
    (λ e _. tt)
