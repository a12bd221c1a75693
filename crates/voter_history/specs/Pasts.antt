-- What happened to each view.
use Rattle.std.specs.Prelude.{◌==◌, ◌||◌, nat_lt, ℕ, Bool, List, [], ◌∷◌, Option, Some, None, is_some, if◌then◌else◌}
use Rattle.types_core.specs.declared.proposal.Proposal.{Proposal}
use Rattle.voter_history.specs.Past as past
use Rattle.voter_history.specs.Past.{Item}
use Rattle.voter_history.specs.declared.sign.Sign.{Sign}
use Rattle.voter_history.specs.declared.sign.Sign.TheVariants as sign

module _ {X : Type 0} where
  -- one more thing happened to a view
  abbrev pub put : ℕ → X → (ℕ → List X) → ℕ → List X
  put at x t view = if at == view then x ∷ t view else t view

  -- of the views below the floor nothing is known any more
  abbrev pub forget : ℕ → (ℕ → List X) → ℕ → List X
  forget floor t view = if nat_lt view floor then [] else t view

module _ {S D P G C : Type 0} where
  -- a view has a notarization or finalization
  abbrev pub is_direct : List (Item S D P G C) → Bool
  is_direct x = is_some (past.notarization x) || is_some (past.finalization x)

  -- a view is finalized, or its verdict is true
  abbrev pub is_certified : List (Item S D P G C) → Bool
  is_certified x = is_some (past.finalization x) || past.verdict_is_true (past.verdict x)

  -- what happened to a view leaves this sign
  abbrev pub bears : Sign → List (Item S D P G C) → Bool
  bears sign.Direct x = is_direct x
  bears sign.Certified x = is_certified x
  bears sign.Failed x = past.verdict_is_false (past.verdict x)
  bears sign.GivenUp x = past.has_nullified x

  -- a proposal is bound to its parent's payload, where there is one
  abbrev pub bind : Option D → Proposal D → (ℕ → List (Item S D P G C)) → ℕ → List (Item S D P G C)
  bind None p t = t
  bind (Some payload) p t = put p.round.view (past.bound p payload) t
