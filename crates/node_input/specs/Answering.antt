-- What becomes of what the application answers.
use Rattle.std.specs.Prelude.{◌++◌, ℕ, Bool, List, Option}
use Rattle.types_core.specs.declared.scheme.Scheme.{Ghosts}
use Rattle.types_terms.specs.declared.elector.Elector as elector
use Rattle.journal_single.specs.declared.disk.Disk as disk
use Rattle.simplex_state.specs.declared.state.State.{State}
use Rattle.simplex_state.specs.State as voting
use Rattle.simplex_member.specs.declared.action.Action.{Action}
use Rattle.simplex_member.specs.declared.event.Event.{Event}
use Rattle.simplex_member.specs.Allowed.{ComesOf}
use Rattle.simplex_member.specs.Layers.{takes_outcome, voter_of}
use Rattle.simplex_member.specs.Member.{IsPointOf}
use Rattle.simplex_member.specs.Packet.{Formats}
use Rattle.simplex_member.specs.Point.{Outcome, Point, History}
use Rattle.simplex_member.specs.Setup.{Setup}
use Rattle.node_core.specs.declared.node_state.Core.{Core}
use Rattle.node_core.specs.Taking.{IsTaken}

module _ {S L D P G C : Type 0} (g : Ghosts S D P G C) (e : elector.Ghosts L S D P G C) (f : Formats S D P G C) (s : Setup S D C) where
  -- a voter takes an answer on the proposal of a view at a moment: it stands behind what comes of it
  pub record TakesAnswer (voter : State S L D P G C) (h : History S D P G C) (now view : ℕ) (answer : Option Bool) : Type 0 where
    pub outcome : Outcome
    pub comes : ComesOf g f s h view answer outcome
    pub keeps : voting.Keeps g e s.voter voter (takes_outcome now view answer outcome ++ voter_of s h)

module _ {S L D P G C K : Type 0} (g : Ghosts S D P G C) (e : elector.Ghosts L S D P G C) (k : disk.Ghosts K) (f : Formats S D P G C) (s : Setup S D C) where
  -- an event is taken, at a point that it is
  pub record TakesEvent (new : Core S L D K P G C) (h : History S D P G C) (came : Event D) (before after : List (Action S D P G C)) : Type 0 where
    pub point : Point S D P G C
    pub is : IsPointOf g f s came point
    pub taken : IsTaken g e k f s new h point before after
