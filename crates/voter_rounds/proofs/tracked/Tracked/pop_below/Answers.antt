use Rattle.std.proofs.Common.{◌+◌, refl}
use Rattle.voter_rounds.specs.Tracked.{Holds, count}
use Rattle.voter_rounds.proofs.Dropping.{forget-members, next_fits}
use Rattle.voter_rounds.proofs.Showing.{forgotten-shown}
use Rattle.voter_rounds.proofs.tracked.Tracked.pop_below.Goals as goal

pub returns-in_default-clause-keeps : goal.returns-in_default-clause-keeps
unfolding Holds
returns-in_default-clause-keeps g c = λ f t k. record {
  length = rw c.forget_marks.ensures.lookahead k.length;
  optimistic_views = rw c.forget_marks.ensures.lookahead k.optimistic_views;
  rounds = rw c.forget_marks.ensures.rounds (rw c.in_default.is at (c.pop_below.ensures.keeps f.common t.led t.past k.rounds));
  signs = forgotten-shown c.args.floor c.forget_marks.ensures.direct c.forget_marks.ensures.certified c.forget_marks.ensures.failed c.forget_marks.ensures.given_up k.signs;
  noted = c.forget_marks.ensures.noted t.noted k.noted;
  members = forget-members _ c.args.floor t.led k.members;
}

pub returns-in_default-clause-popped : goal.returns-in_default-clause-popped
unfolding Holds
returns-in_default-clause-popped g c = λ f t k. rw c.in_default.is at (c.pop_below.ensures.popped f.common t.led t.past k.rounds)

pub next-requires : goal.next-requires
next-requires g c = next_fits c.in-Some.entry.0 c.args.floor (rw c.in-Some.is at c.pop_below.ensures.below) c.get-number.ensures.fits

pub returns-clause-keeps : goal.returns-clause-keeps
unfolding Holds
returns-clause-keeps g c =
    λ f t k. record {
      length = rw c.forget_marks-2.ensures.lookahead k.length;
      optimistic_views = rw c.forget_marks-2.ensures.lookahead k.optimistic_views;
      rounds = rw c.forget_marks-2.ensures.rounds (rw c.in-Some.is at (c.pop_below.ensures.keeps f.common t.led t.past k.rounds));
      signs = rw c.next.ensures at (forgotten-shown _ c.forget_marks-2.ensures.direct c.forget_marks-2.ensures.certified c.forget_marks-2.ensures.failed c.forget_marks-2.ensures.given_up k.signs);
      noted = rw c.next.ensures at (c.forget_marks-2.ensures.noted t.noted k.noted);
      members = forget-members _ (c.in-Some.entry.0 + 1) t.led k.members;
    }

pub returns-clause-fewer : goal.returns-clause-fewer
unfolding count
returns-clause-fewer g c = λ some. rw c.forget_marks-2.ensures.rounds (c.pop_below.ensures.fewer (rw c.in-Some.is refl))

pub returns-clause-popped : goal.returns-clause-popped
unfolding Holds
returns-clause-popped g c = λ f t k. rw c.in-Some.is at (c.pop_below.ensures.popped f.common t.led t.past k.rounds)
