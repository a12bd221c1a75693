use Rattle.node_votes.proofs.Unled.{looks_on, next_behind}
use Rattle.node_votes.proofs.rounds.Rounds.first_unled.Goals as goal

pub returns-then-is_up-clause-first : goal.returns-then-is_up-clause-first
returns-then-is_up-clause-first g c = λ s up happened k. record {
  behind = rw c.in-Some.is at c.views.invariant.behind;
  there = (c.is_up.ensures s up happened k).0 c.if-is_up.true;
  waits = k.waits c.in-Some.view (rw c.in-Some.is at c.views.invariant.there);
  first = rw c.in-Some.is at (c.views.invariant.looks s up happened k);
}

pub views-preserved : goal.views-preserved
views-preserved g c = record {
  behind = next_behind c.unled_behind-found.result c.args.from c.in-Some.view (rw c.in-Some.is at c.views.invariant.behind) c.unled_behind-found.ensures.behind;
  there = c.unled_behind-found.ensures.there;
  looks = λ s up happened k. looks_on g.S.Scheme g.D.PartialEq.eq s c.args.self.now up happened k c.args.from c.in-Some.view (rw c.in-Some.is at (c.views.invariant.looks s up happened k))
      (λ some. absurd (cc ((c.is_up.ensures s up happened k).1 some, c.if-is_up.false))) c.unled_behind-found.result c.unled_behind-found.ensures.first;
}

pub returns-clause-first : goal.returns-clause-first
returns-clause-first g c = λ s up happened k. rw c.in_default.is at (c.views.invariant.looks s up happened k)
