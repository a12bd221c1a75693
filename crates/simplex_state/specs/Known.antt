-- What becomes of a call on a view of which nothing may be known.
use Rattle.std.specs.Prelude.{◌⊎◌, ℕ, Bool, true, false, List, ◌∷◌}
use Rattle.types_core.specs.declared.scheme.Scheme.{Ghosts}
use Rattle.types_terms.specs.declared.elector.Elector as elector
use Rattle.voter_history.specs.History.{Setup, Point}
use Rattle.voter_rules.specs.GivingUp.{IsTracked}
use Rattle.simplex_state.specs.declared.state.State.{State}
use Rattle.simplex_state.specs.State.{Keeps}

module _ {S L D P G C : Type 0} (g : Ghosts S D P G C) (e : elector.Ghosts L S D P G C) (s : Setup S C) (state : State S L D P G C) (h : List (Point S D P G C)) (view : ℕ) (x : Point S D P G C) where
  -- where something is known of the view, this happened to the voter; else nothing did
  abbrev pub AddsIfTracked : Type 0
  AddsIfTracked = (IsTracked s h view × Keeps g e s state (x ∷ h)) ⊎ ((¬ IsTracked s h view) × Keeps g e s state h)

  -- the same where the answer says that it took effect, and else nothing happened
  abbrev pub AddsWhere : Bool → Type 0
  AddsWhere true = AddsIfTracked
  AddsWhere false = Keeps g e s state h
