-- Where a voter stands once its views moved on.
use Rattle.std.proofs.Common.{◌≡◌, ◌∷◌, ℕ, List, Bool, if◌then◌else◌, true, false}
use Rattle.std.specs.Prelude.{Some, None, Result, Ok, Err, IfOk}
use Rattle.std.specs.BTreeSet.{BTreeSet}
use Rattle.types_core.specs.declared.scheme.Scheme.{Ghosts}
use Rattle.types_terms.specs.declared.elector.Elector as elector
use Rattle.voter_views.specs.declared.views.Views.{Views}
use Rattle.voter_history.specs.History.{Setup, Point, seen}
use Rattle.voter_views.specs.Views as above
use Rattle.simplex_state.specs.declared.owed.Owed.{Owed}
use Rattle.simplex_state.specs.Candidates.{AreAmong, IsWoken}
use Rattle.simplex_state.specs.LowestDue.{AreOwed}
use Rattle.simplex_state.specs.State.{Keeps}
use Rattle.simplex_state.specs.declared.state.State.{State}
use Rattle.simplex_state.proofs.Waking.{told, stays, wakes, wakes_if}
use Rattle.simplex_state.proofs.Owing.{IsQuiet, owed_still}

-- what follows from two facts of a value follows from both clauses
pub both_of : {T E : Type 0} (r : Result T E) (P Q R : T → Type 0) → ((x : T) → P x → Q x → R x) → IfOk r P → IfOk r Q → IfOk r R
both_of (Ok x) P Q R join p q = join x p q
both_of (Err e) P Q R join p q = tt

module _ {S L D P G C : Type 0} where
  -- the voter over other views and candidates, and others that may owe votes
  abbrev pub with_owed : State S L D P G C → Views S L D P G C → BTreeSet ℕ → Owed → Owed → State S L D P G C
  with_owed state views candidates notarizes finalizes =
      record { scheme = state.scheme; views = views; timeout_retry = state.timeout_retry; skip_budget = state.skip_budget; candidates = candidates; notarizes = notarizes; finalizes = finalizes }

  abbrev pub over : State S L D P G C → Views S L D P G C → BTreeSet ℕ → State S L D P G C
  over state views candidates = with_owed state views candidates state.notarizes state.finalizes

module _ {S L D P G C : Type 0} (g : Ghosts S D P G C) (e : elector.Ghosts L S D P G C) (s : Setup S C) (h : List (Point S D P G C)) (state : State S L D P G C) (views : Views S L D P G C) (k : Keeps g e s state h) where
  -- behind whatever happened
  pub keeps_by : (end : List (Point S D P G C)) (candidates : BTreeSet ℕ) (notarizes finalizes : Owed) → AreAmong s end candidates → AreOwed false (seen s end) notarizes → AreOwed true (seen s end) finalizes
      → above.Keeps g e s views end → Keeps g e s (with_owed state views candidates notarizes finalizes) end
  unfolding Keeps
  keeps_by end candidates notarizes finalizes among owed more v =
      record { scheme = k.scheme; me = k.me; timeout_retry = k.timeout_retry; skip_budget = k.skip_budget; views = v; candidates = among; notarizes = owed; finalizes = more }

  -- behind a point that tells nothing that verdicts rest on
  pub keeps_still : (x : Point S D P G C) → told x ≡ None → IsQuiet false x → IsQuiet true x → above.Keeps g e s views (x ∷ h) → Keeps g e s (over state views state.candidates) (x ∷ h)
  unfolding Keeps
  keeps_still x silent is also v =
      keeps_by (x ∷ h) state.candidates state.notarizes state.finalizes (stays s h x state.candidates silent k.candidates) (owed_still s h false x state.notarizes is k.notarizes) (owed_still s h true x state.finalizes also k.finalizes) v

  pub keeps_still_if : (b : Bool) (x : Point S D P G C) → told x ≡ None → IsQuiet false x → IsQuiet true x → above.Keeps g e s views (if b then x ∷ h else h) → Keeps g e s (over state views state.candidates) (if b then x ∷ h else h)
  unfolding Keeps
  keeps_still_if true x silent is also v = keeps_still x silent is also v
  keeps_still_if false x silent is also v = keeps_by h state.candidates state.notarizes state.finalizes k.candidates k.notarizes k.finalizes v

  -- behind a proposal or a verdict, where that came
  pub keeps_owed_if : (b : Bool) (x : Point S D P G C) (candidates : BTreeSet ℕ) (notarizes finalizes : Owed) (view : ℕ) → told x ≡ Some view → IsWoken state.candidates candidates view
      → AreOwed false (seen s h) notarizes → AreOwed true (seen s h) finalizes → AreOwed false (seen s (x ∷ h)) notarizes → AreOwed true (seen s (x ∷ h)) finalizes
      → above.Keeps g e s views (if b then x ∷ h else h) → Keeps g e s (with_owed state views candidates notarizes finalizes) (if b then x ∷ h else h)
  unfolding Keeps
  keeps_owed_if true x candidates notarizes finalizes view tells woken owed more owed_then more_then v =
      keeps_by (x ∷ h) candidates notarizes finalizes (wakes_if s h true x state.candidates candidates view tells woken k.candidates) owed_then more_then v
  keeps_owed_if false x candidates notarizes finalizes view tells woken owed more owed_then more_then v =
      keeps_by h candidates notarizes finalizes (wakes_if s h false x state.candidates candidates view tells woken k.candidates) owed more v

  -- behind one that tells of a view that was woken
  pub keeps_woken : (x : Point S D P G C) → IsQuiet false x → IsQuiet true x → (candidates : BTreeSet ℕ) (view : ℕ) → ((u : ℕ) → told x ≡ Some u → u ≡ view) → IsWoken state.candidates candidates view → above.Keeps g e s views (x ∷ h)
      → Keeps g e s (over state views candidates) (x ∷ h)
  unfolding Keeps
  keeps_woken x is also candidates view tells woken v =
      keeps_by (x ∷ h) candidates state.notarizes state.finalizes (wakes s h x state.candidates candidates view tells woken k.candidates) (owed_still s h false x state.notarizes is k.notarizes) (owed_still s h true x state.finalizes also k.finalizes) v

  pub keeps_woken_if : (b : Bool) (x : Point S D P G C) → IsQuiet false x → IsQuiet true x → (candidates : BTreeSet ℕ) (view : ℕ) → told x ≡ Some view → IsWoken state.candidates candidates view → above.Keeps g e s views (if b then x ∷ h else h)
      → Keeps g e s (over state views candidates) (if b then x ∷ h else h)
  unfolding Keeps
  keeps_woken_if true x is also candidates view tells woken v =
      keeps_by (x ∷ h) candidates state.notarizes state.finalizes (wakes_if s h true x state.candidates candidates view tells woken k.candidates) (owed_still s h false x state.notarizes is k.notarizes) (owed_still s h true x state.finalizes also k.finalizes) v
  keeps_woken_if false x is also candidates view tells woken v =
      keeps_by h candidates state.notarizes state.finalizes (wakes_if s h false x state.candidates candidates view tells woken k.candidates) k.notarizes k.finalizes v
