use Rattle.std.proofs.Common.{refl}
use Rattle.voter_rounds.specs.Tracked.{Holds}
use Rattle.voter_rounds.proofs.tracked.Tracked.new.Goals as goal

pub returns : goal.returns
unfolding Holds
returns g c = record {
  length = refl;
  optimistic_views = refl;
  rounds = c.new.ensures;
  signs = record { direct = c.new-2.ensures; certified = c.new-3.ensures; failed = c.new-4.ensures; given_up = c.new-5.ensures };
  noted = c.new-6.ensures;
  members = λ view i lt none. absurd (cc none);
}
