-- At which history a voter stands.
use Rattle.std.specs.Prelude.{◌≡◌, false, true, List}
use Rattle.types_core.specs.declared.scheme.Scheme.{Ghosts}
use Rattle.types_terms.specs.declared.elector.Elector as elector
use Rattle.voter_history.specs.History.{Setup, Point, seen}
use Rattle.voter_views.specs.Views as views
use Rattle.simplex_state.specs.Candidates.{AreAmong}
use Rattle.simplex_state.specs.LowestDue.{AreOwed}
use Rattle.simplex_state.specs.declared.state.State.{State}

module _ {S L D P G C : Type 0} where
  pub record IsKept (g : Ghosts S D P G C) (e : elector.Ghosts L S D P G C) (s : Setup S C) (state : State S L D P G C) (h : List (Point S D P G C)) : Type 0 where
    pub scheme : state.scheme.value ≡ s.scheme
    pub me : g.own s.scheme ≡ s.me
    pub timeout_retry : state.timeout_retry ≡ s.timeout_retry
    pub skip_budget : state.skip_budget ≡ s.skip_budget
    pub views : views.Keeps g e s state.views h
    pub candidates : AreAmong s h state.candidates
    pub notarizes : AreOwed false (seen s h) state.notarizes
    pub finalizes : AreOwed true (seen s h) state.finalizes

  -- the voter stands where this history leads, closed for those who stand above
  unfoldable pub Keeps : Ghosts S D P G C → elector.Ghosts L S D P G C → Setup S C → State S L D P G C → List (Point S D P G C) → Type 0
  Keeps g e s state h = IsKept g e s state h

  -- what holds of each history that leads here
  abbrev pub AtEach : Ghosts S D P G C → elector.Ghosts L S D P G C → State S L D P G C → (Setup S C → List (Point S D P G C) → Type 0) → Type 0
  AtEach g e state Q = (s : Setup S C) (h : List (Point S D P G C)) → Keeps g e s state h → Q s h
