-- What stays known as a history goes on, and what a prune leaves of the answers about a build or a verdict: statements.
use Rattle.std.specs.Prelude.{◌≡◌, ◌<◌, ◌≤◌, ℕ, Bool, true, List, ◌∷◌, Some, IsSome, ⊤}
use Rattle.types_core.specs.declared.proposal.Proposal.{Proposal}
use Rattle.voter_history.specs.Held.{IsConfirmed, IsTainted, held}
use Rattle.voter_history.specs.History.{Setup, Point, pruned, current, last_finalized, min_active}
use Rattle.voter_history.specs.Known.{Known, known}
use Rattle.voter_rules.specs.Ancestry.{Member, member, IsSteady}
use Rattle.voter_rules.specs.Requests.{IsCaptured, IsPutOff}

module _ {D : Type 0} where
  -- what is known of the view stays known: its leader, that a proposal is held, that it was contradicted or found good, what the
  -- view is notarized and finalized for, its verdict, the own votes, and what was asked for or put off for its verdict
  pub record StaysKnown (k j : Known D) (view : ℕ) : Type 0 where
    pub leader : (i : ℕ) → k.leader view ≡ Some i → j.leader view ≡ Some i
    pub holds : IsSome (held (k.offers view)) → IsSome (held (j.offers view))
    pub tainted : IsTainted (k.offers view) → IsTainted (j.offers view)
    pub confirmed : IsConfirmed (k.offers view) → IsConfirmed (j.offers view)
    pub nullified : k.nullified view ≡ true → j.nullified view ≡ true
    pub notarized : (p : Proposal D) → k.notarized view ≡ Some p → j.notarized view ≡ Some p
    pub finalized : (p : Proposal D) → k.finalized view ≡ Some p → j.finalized view ≡ Some p
    pub verdict : (ok : Bool) → k.verdict view ≡ Some ok → j.verdict view ≡ Some ok
    pub has_notarized : k.has_notarized view ≡ true → j.has_notarized view ≡ true
    pub has_nullified : k.has_nullified view ≡ true → j.has_nullified view ≡ true
    pub has_finalized : k.has_finalized view ≡ true → j.has_finalized view ≡ true
    pub is_backed : k.is_backed view ≡ true → j.is_backed view ≡ true
    pub certify_asked : k.certify_asked view ≡ true → j.certify_asked view ≡ true
    pub certify_waited : k.certify_waited view ≡ true → j.certify_waited view ≡ true

  -- the same parents may be used for the view, what it is bound to stands alike, and its verdict is put off alike
  pub record AreUsedAlike (m : Member) (k j : Known D) (view : ℕ) : Type 0 where
    pub steady : IsSteady m k view → IsSteady m j view
    pub captured : (parent : ℕ) (payload : D) → IsCaptured m k view parent payload → IsCaptured m j view parent payload
    pub put_off : (required : ℕ) → IsPutOff m k view required → IsPutOff m j view required

module _ {S D P G C : Type 0} where
  -- a point leaves what is known of the view, unless it is a prune and the view need not be kept
  abbrev pub IsLeft : Setup S C → List (Point S D P G C) → ℕ → Point S D P G C → Type 0
  IsLeft s h view pruned = min_active s h ≤ view
  IsLeft s h view x = ⊤

module _ (S D P G C : Type 0) where
  abbrev pub WhatIsKnownStays : Type 0
  WhatIsKnownStays = (s : Setup S C) (h : List (Point S D P G C)) (view : ℕ) (x : Point S D P G C) → IsLeft s h view x → StaysKnown (known s h) (known s (x ∷ h)) view

  -- the current view, the last finalized one and the least that is kept never fall
  abbrev pub ViewsNeverFall : Type 0
  ViewsNeverFall = (s : Setup S C) (h : List (Point S D P G C)) (x : Point S D P G C)
      → (current s h ≤ current s (x ∷ h)) × (last_finalized h ≤ last_finalized (x ∷ h)) × (min_active s h ≤ min_active s (x ∷ h))

  -- dropping the views that need not be kept changes nothing of the answers about builds and verdicts above the last finalized one
  abbrev pub PruneKeepsUses : Type 0
  PruneKeepsUses = (s : Setup S C) (h : List (Point S D P G C)) (view : ℕ) → last_finalized h < view
      → AreUsedAlike (member s) (known s h) (known s (pruned ∷ h)) view × AreUsedAlike (member s) (known s (pruned ∷ h)) (known s h) view
