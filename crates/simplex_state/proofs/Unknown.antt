-- A view of which nothing is known.
use Rattle.std.proofs.Common.{◌≡◌, ◌≢◌, inl, ℕ, List, [], ◌∷◌, refl, subst, sym}
use Rattle.std.proofs.lemmas.Option.{none-some}
use Rattle.voter_history.specs.Held.{IsUnverified}
use Rattle.voter_history.specs.Past as past
use Rattle.voter_history.specs.Past.{Item}
use Rattle.voter_history.specs.History.{Setup, Point, seen}
use Rattle.voter_history.specs.Known.{known}
use Rattle.voter_rules.specs.Ancestry.{member, IsSteady, Stands}
use Rattle.voter_rules.specs.GivingUp.{IsTracked}
use Rattle.std.specs.Option.{ForSome}

-- a list that can't be other than empty is
nothing_in : {X : Type 0} (l : List X) → ((l ≢ []) → ⊥) → l ≡ []
nothing_in [] never = refl
nothing_in (x ∷ l) never = absurd (never (λ is. cc is))

module _ {S D P G C : Type 0} (s : Setup S C) (h : List (Point S D P G C)) (view : ℕ) (none : ¬ IsTracked s h view) where
  -- nothing happened to it
  pub unseen : seen s h view ≡ []
  unseen = nothing_in (seen s h view) (λ some. none (inl some))

  -- so it holds no proposal, and none is bound
  pub unverified_never : ¬ IsUnverified (past.offers (seen s h view))
  unverified_never waits = let held = rw unseen at waits.0 in absurd (cc held)

  pub steady_unseen : IsSteady (member s) (known s h) view
  steady_unseen = subst (λ (l : List (Item S D P G C)). ForSome (past.binding l) (Stands (member s) (known s h) view)) (sym unseen) (λ b is. absurd (none-some b is))
