use Rattle.std.proofs.Common.{◌≡◌, map}
use Rattle.std.proofs.lemmas.Result.{IfOk-weaker}
use Rattle.types_terms.specs.Shuffle.{IsShuffled}
use Rattle.types_terms.proofs.Shuffles.{IsShuffled-from_sort}
use Rattle.types_terms.proofs.elector.shuffle.shuffled.Goals as goal

pub returns : goal.returns
returns c =
    let seed = c.args.seed.now in
    let n = c.args.participants in
    let moved = rw c.in_ok-lots.ensures at c.sort_unstable.ensures.permutation in
    let order = IsShuffled-from_sort seed n c.sort_unstable.new.self.items moved c.sort_unstable.ensures.sorted in
    IfOk-weaker c.members.result (λ m. m.items ≡ map (λ x. x.1) c.deref.result.now) (λ m. IsShuffled seed n m.items) (λ m e. rw (e, c.deref.ensures.value) order) c.members.ensures
