use Rattle.std.proofs.Common.{◌<◌}
use Rattle.std.specs.Option.{ForSome}
use Rattle.voter_history.specs.Known.{Known}
use Rattle.voter_rules.specs.Ancestry.{Member, Optimistic}
use Rattle.voter_rules.specs.Knowing.{Rests, height}
use Rattle.voter_rules.proofs.ancestry.optimistic_payload.Given as goal

abbrev pub invariant-views : goal.invariant-views
invariant-views g l = record {
  lower : ForSome l.below (λ below. below.0 < l.fn.view);
  holds : (m : Member) (k : Known g.row.D.Denot) → g.K.Knowledge.shows l.known m k → Rests m k l.below → Optimistic m k l.fn.view l.first.payload;
  needs : (m : Member) (k : Known g.row.D.Denot) → g.K.Knowledge.shows l.known m k → (payload : g.row.D.Denot) → Optimistic m k l.fn.view payload → Rests m k l.below;
}

abbrev pub decreases-views : goal.decreases-views
decreases-views g l = height l.below
