use Rattle.std.proofs.Common.{refl, []}
use Rattle.simplex_rules.specs.Tally.{KeepsNullifies}
use Rattle.simplex_rules.proofs.Tallies.{Tallies-none}
use Rattle.simplex_rules.proofs.nullifies.Nullifies.new.Goals as goal

pub returns : goal.returns
returns g c = λ scheme contested. rw c.new.ensures.items (record { counted = []; all_counted = refl; tallies = Tallies-none contested (KeepsNullifies (g.S.Scheme.attests scheme)) })
