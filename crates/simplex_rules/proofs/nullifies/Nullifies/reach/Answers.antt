use Rattle.std.proofs.Common.{refl}
use Rattle.simplex_rules.specs.declared.nullifies.Given.TheVariants.{Nothing}
use Rattle.simplex_rules.specs.Tally.{KeepsNullifies}
use Rattle.simplex_rules.proofs.Tallies.{Tallies-reach}
use Rattle.simplex_rules.proofs.nullifies.Nullifies.reach.Goals as goal

pub loop-self-preserved : goal.loop-self-preserved
loop-self-preserved g c = λ scheme contested counted before.
    rw c.in_ok-push.ensures.items (Tallies-reach contested (KeepsNullifies (g.S.Scheme.attests scheme)) Nothing (λ q. refl) counted c.loop-self.self.kept.items (c.loop-self.invariant scheme contested counted before))
