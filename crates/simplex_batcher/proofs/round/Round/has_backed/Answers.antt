use Rattle.std.proofs.Common.{◌≡◌, ◌∙◌, ◌||◌, Bool, true, false, ap, refl, sym}
use Rattle.simplex_batcher.specs.Queries.{passes, is_backing}
use Rattle.simplex_batcher.specs.Rounds.{RoundKeeps}
use Rattle.simplex_batcher.proofs.round.Round.has_backed.Goals as goal

first-of : (a x y : Bool) → a ≡ x → a ≡ true → a ≡ x || y
first-of a x y e yes_ = let one : x ≡ true = sym e ∙ yes_ in rw (one, yes_) refl

second-of : (a b x y : Bool) → a ≡ x → a ≡ false → b ≡ y → b ≡ x || y
second-of a b x y e none second = let one : x ≡ false = sym e ∙ none in rw one second

pub returns-then-is_for : goal.returns-then-is_for
unfolding RoundKeeps
returns-then-is_for g c = λ s h k.
    first-of _ _ _ (c.is_for.ensures ∙ ap (passes (is_backing g.D.PartialEq.eq c.args.proposal.now)) (c.vote_of.ensures s h k.verifier k.of_members)) c.if-is_for.true

pub returns-else-is_for : goal.returns-else-is_for
unfolding RoundKeeps
returns-else-is_for g c = λ s h k.
    second-of _ _ _ _ (c.is_for.ensures ∙ ap (passes (is_backing g.D.PartialEq.eq c.args.proposal.now)) (c.vote_of.ensures s h k.verifier k.of_members)) c.if-is_for.false
    (c.is_for-else-is_for.ensures ∙ ap (passes (is_backing g.D.PartialEq.eq c.args.proposal.now)) (c.vote_of-else-is_for.ensures s h k.verifier k.of_members))
