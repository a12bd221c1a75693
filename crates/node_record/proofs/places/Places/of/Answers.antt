use Rattle.std.proofs.Common.{◌≡◌, ◌+◌, ◌∙◌, ◌++◌, ◌∷◌, [], length, take, refl, sym, ap, subst, arith}
use Rattle.std.proofs.lemmas.List.{length-take-le, take_all, take_more}
use Rattle.node_record.specs.Places.{KeepsPlaces}
use Rattle.node_record.proofs.places.Places.of.Goals as goal

pub loop-place-preserved : goal.loop-place-preserved
loop-place-preserved g c =
    let xs = c.args.artifacts.now in
    let x = c.index-artifacts-place.result in
    let i = c.loop-place.place in
    let more : take (i + 1) xs ≡ take i xs ++ x ∷ [] = take_more xs i x c.loop-place-test.true ∙ ap (λ y. take i xs ++ y ∷ []) (sym c.index-artifacts-place.is) in
    let at : i ≡ length (take i xs) = sym (length-take-le i xs (omega arith)) in
    subst (λ ys. KeepsPlaces c.add.new.self ys) (sym more) (c.in_ok-add.ensures (take i xs) at c.loop-place.invariant)

pub loop-place-init : goal.loop-place-init
loop-place-init g c = record {
  notarizations = λ view. rw c.new.ensures.empty refl;
  finalizations = λ view. rw c.new-2.ensures.empty refl;
}

pub returns : goal.returns
returns g c = subst (λ ys. KeepsPlaces c.loop-place.places ys) (take_all c.loop-place.place c.args.artifacts.now c.loop-place-test.false) c.loop-place.invariant
