use Rattle.types_terms.proofs.Windows.{floor-between}
use Rattle.types_terms.proofs.lookahead.issuance_floor_leaves_the_optimistic_views_between.Goals as goal

pub returns : goal.returns
returns c = floor-between
