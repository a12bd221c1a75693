use Rattle.std.proofs.Common.{inl, inr, ⊎_elim}
use Rattle.std.proofs.lemmas.Bool.{both_ways, cases_Bool}
use Rattle.voter_laws.proofs.Bound.{due_notarize_is_bound}
use Rattle.voter_laws.proofs.laws.what_is_found_good_is_bound.Goals as goal

pub returns : goal.returns
returns g c =
    let law = g.met.D.Digest.equal_is_same in
    due_notarize_is_bound (λ x y.
    ⊎_elim (λ is. inl ((law x y).0 is)) (λ no. inr (λ one. both_ways (g.D.PartialEq.eq x y) no ((law x y).1 one))) (cases_Bool (g.D.PartialEq.eq x y)))
