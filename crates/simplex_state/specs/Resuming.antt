-- What a voter asks for of the proposals from a view on.
use Rattle.std.specs.Prelude.{◌≤◌, ◌<◌, ℕ, max, List, ⊤}
use Rattle.types_core.specs.declared.scheme.Scheme.{Ghosts}
use Rattle.types_terms.specs.declared.elector.Elector as elector
use Rattle.types_terms.specs.Windows.{AdmitsOutbound}
use Rattle.voter_history.specs.History.{Setup, Point, current}
use Rattle.voter_history.specs.Known.{known}
use Rattle.voter_rules.specs.Ancestry.{member}
use Rattle.voter_rules.specs.Requests.{AsksNothing, Scanned}
use Rattle.simplex_state.specs.declared.state.State.{State}
use Rattle.simplex_state.specs.declared.verify.Verify.{Verify}
use Rattle.simplex_state.specs.declared.verify.Verify.TheVariants as verify
use Rattle.simplex_state.specs.State.{Keeps}
use Rattle.simplex_state.specs.Verifying.{AsksCertificate, AsksVerification}

-- what is asked for is for the proposal of this view or one above it
abbrev pub IsFrom : {D P : Type 0} → ℕ → Verify D P → Type 0
IsFrom from (verify.Ready context p) = from ≤ context.round.view
IsFrom from (verify.Resolve proposal view what target) = from ≤ proposal
IsFrom from verify.Wait = ⊤

module _ {S D P G C : Type 0} (s : Setup S C) (h : List (Point S D P G C)) where
  -- where a look from this view on begins: there, or at the current view where that lies above
  abbrev pub first_looked : ℕ → ℕ
  first_looked from = max from (current s h)

  -- behind a look at the views from this one on, which came to that view, this holds of where it led
  pub record BehindLookFrom (now from view : ℕ) (Q : List (Point S D P G C) → Type 0) : Type 0 where
    pub end : List (Point S D P G C)
    pub looked : Scanned s now (first_looked from) h view end
    pub holds : Q end

module _ {S L D P G C : Type 0} (g : Ghosts S D P G C) (e : elector.Ghosts L S D P G C) (s : Setup S C) (state : State S L D P G C) where
  -- a look from this view on that passed all views before the last passed all that may be spoken of: nothing is to be asked for any
  -- view from this one on
  pub record PassesFrom (from last : ℕ) (h : List (Point S D P G C)) : Type 0 where
    pub whole : (u : ℕ) → AdmitsOutbound s.length s.optimistic_views (current s h) u → u < last
    pub idle : (u : ℕ) → from ≤ u → AsksNothing (member s) (known s h) u
    pub keeps : Keeps g e s state h

  -- what is answered behind a look at the proposals that wait, from this view and the current one on: of the lowest view for which
  -- something is to be asked that is asked; and where there is none, nothing is
  abbrev pub AnswersFrom : ℕ → List (Point S D P G C) → ℕ → Verify D P → Type 0
  AnswersFrom now h from (verify.Ready context p) = BehindLookFrom s h now from context.round.view (λ end. AsksVerification g e s state end context p)
  AnswersFrom now h from (verify.Resolve proposal view what target) = BehindLookFrom s h now from proposal (λ end. AsksCertificate g e s state end proposal view what target)
  AnswersFrom now h from verify.Wait = (last : ℕ) × BehindLookFrom s h now from last (PassesFrom from last)
