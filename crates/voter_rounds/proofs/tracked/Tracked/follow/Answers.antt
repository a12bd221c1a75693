use Rattle.std.proofs.Common.{refl, sym, arith}
use Rattle.std.specs.Prelude.{None}
use Rattle.std.proofs.lemmas.Bool.{ne_eqb}
use Rattle.std.proofs.lemmas.Result.{MatchResult-weaker}
use Rattle.voter_history.specs.Leaders.{extend}
use Rattle.voter_rounds.specs.Tracked.{Holds, inherits_by}
use Rattle.voter_rounds.specs.Laws.{IsKept-led}
use Rattle.voter_rounds.proofs.Leading.{extend-upto, handed-on-upto}
use Rattle.voter_rounds.proofs.tracked.Tracked.follow.Goals as goal

pub returns-then-get-eq18446744073709551615 : goal.returns-then-get-eq18446744073709551615
unfolding Holds
returns-then-get-eq18446744073709551615 g c = λ f t k closed. IsKept-led (extend (λ u. None) (inherits_by f t) t.led) k
    (λ u fits. sym (extend-upto (λ v. None) (inherits_by f t) t.led c.args.view u (omega arith) (λ v. refl) closed))

pub returns : goal.returns
returns g c = MatchResult-weaker c.hand_on.result c.hand_on.ensures
    (λ _ handed f t k closed. handed f t k (λ u. None) t.led
    (record {
      led = λ u. rw c.next-next.ensures (handed-on-upto (λ v. None) (inherits_by f t) t.led c.args.view u (λ v. refl) closed);
      unnamed = λ u le. refl;
      closed = λ u le fits. closed u (ne_eqb c.args.view u (λ e. omega (arith, e, le, c.next-next.ensures)));
    }))
    (λ e _. tt)
