use Rattle.std.proofs.Common.{◌≤◌, ◌<◌, ◌∙◌, arith}
use Rattle.std.proofs.lemmas.Bool.Decides.{nat_tests}
use Rattle.node_votes.proofs.Changing.{dropped}
use Rattle.node_votes.proofs.Dropping.{is-above, none-before, none-in-empty, other-view}
use Rattle.node_votes.proofs.rounds.Rounds.drop_below.Goals as goal

pub returns-then-le : goal.returns-then-le
returns-then-le g c = λ s up happened k.
    let above : c.args.floor ≤ c.in-Some.first.now.0 = grind (arith, nat_tests, c.if-le.ensures) in
    dropped g.S.Scheme g.D.PartialEq.eq s c.args.floor c.args.self.now c.views.self up happened c.views.invariant (none-before c.views.self.by_view c.in-Some.first.now.0 c.args.floor c.in-Some.ensures.greatest above) k

pub views-preserved : goal.views-preserved
views-preserved g c =
    let below : c.in-Some.first.now.0 < c.args.floor = is-above c.in-Some.first.now.0 c.args.floor c.if-le.ensures in
    record {
      shared = c.forget.ensures.shared ∙ c.views.invariant.shared;
      rounds = λ u ge. (c.forget.ensures.others u (other-view c.in-Some.first.now.0 u c.args.floor below ge)).rounds ∙ c.views.invariant.rounds u ge;
      touched = λ u ge. (c.forget.ensures.others u (other-view c.in-Some.first.now.0 u c.args.floor below ge)).touched ∙ c.views.invariant.touched u ge;
      unled = λ u ge. (c.forget.ensures.others u (other-view c.in-Some.first.now.0 u c.args.floor below ge)).unled ∙ c.views.invariant.unled u ge;
    }

pub returns : goal.returns
returns g c = λ s up happened k.
    dropped g.S.Scheme g.D.PartialEq.eq s c.args.floor c.args.self.now c.views.self up happened c.views.invariant (λ u lt. none-in-empty c.views.self.by_view (λ some. absurd (cc (c.in_default.ensures.variant.1 some))) u) k
