use Rattle.types_terms.proofs.Windows.{listened-count}
use Rattle.types_terms.proofs.lookahead.few_views_ahead_are_listened_to.Goals as goal

pub returns : goal.returns
returns c = listened-count
