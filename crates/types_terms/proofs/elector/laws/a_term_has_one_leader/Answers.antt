use Rattle.std.proofs.Common.{ℕ, ap}
use Rattle.types_terms.specs.Rotation.{term_leader}
use Rattle.types_terms.proofs.elector.laws.a_term_has_one_leader.Goals as goal

pub returns : goal.returns
returns c = λ r epoch view later same. ap (λ (t : ℕ). term_leader r.order epoch t) same
