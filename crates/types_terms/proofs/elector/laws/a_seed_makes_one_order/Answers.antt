use Rattle.types_terms.proofs.Shuffles.{IsShuffled-one}
use Rattle.types_terms.proofs.elector.laws.a_seed_makes_one_order.Goals as goal

pub returns : goal.returns
returns c = IsShuffled-one
