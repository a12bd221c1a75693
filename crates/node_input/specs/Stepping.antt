-- What is answered to an event.
use Rattle.std.specs.Prelude.{◌≡◌, ◌∷◌, [], true, List, Option, Some, Result, IfOk, IsOk, MatchOption}
use Rattle.types_core.specs.declared.scheme.Scheme.{Ghosts}
use Rattle.types_terms.specs.declared.elector.Elector as elector
use Rattle.journal_single.specs.declared.disk.Disk as disk
use Rattle.journal_books.specs.Books.{LeaveBook}
use Rattle.simplex_member.specs.declared.action.Action.{Action}
use Rattle.simplex_member.specs.declared.action.Reply.{Reply}
use Rattle.simplex_member.specs.declared.event.Event.{Event}
use Rattle.simplex_member.specs.declared.fault.NodeFault.{NodeFault}
use Rattle.simplex_member.specs.declared.refusal.Refusal.{Refusal}
use Rattle.simplex_member.specs.Deeds.{AreActions, all_deeds}
use Rattle.simplex_member.specs.First.{IsFirst}
use Rattle.simplex_member.specs.Member.{AreStep, Goes, IsReached}
use Rattle.simplex_member.specs.Packet.{Formats}
use Rattle.simplex_member.specs.Point.{Point, History}
use Rattle.simplex_member.specs.Refusals.{needs_nothing, refused_deeds, tests}
use Rattle.simplex_member.specs.Setup.{Setup}
use Rattle.node_core.specs.declared.node_state.Core.{Core}
use Rattle.node_core.specs.Keeps.{CoreKeeps, book_of}

module _ {S D P G C : Type 0} (g : Ghosts S D P G C) (f : Formats S D P G C) (s : Setup S D C) where
  -- an event is taken, and what it brings is done and handed out; of what is due behind it nothing is yet
  pub record TakesAtOnce (h : History S D P G C) (e : Event D) (actions : List (Action S D P G C)) (end : History S D P G C) : Type 0 where
    pub point : Point S D P G C
    pub step : AreStep g f s h e (point ∷ [])
    pub goes : Goes g f s h (point ∷ []) end
    pub are : AreActions f actions (all_deeds g f s h (point ∷ []))

  -- one step, of which this is handed out: the event is refused for this reason, the first that applies, or taken where none does
  abbrev pub StepsBy : History S D P G C → Event D → Option Refusal → List (Action S D P G C) → History S D P G C → Type 0
  StepsBy h e refused actions end = IsFirst (tests g f s h e) refused × MatchOption refused
      (TakesAtOnce h e actions end)
      (λ r. (end ≡ h) × AreActions f actions (refused_deeds g f s h e r))

  -- one step: the first test that applies refuses the event, or it is taken
  abbrev pub StepsAtOnce : History S D P G C → Event D → Reply S D P G C → History S D P G C → Type 0
  StepsAtOnce h e reply end = IsFirst (tests g f s h e) reply.refused × MatchOption reply.refused
      (TakesAtOnce h e reply.actions.items end)
      (λ r. (end ≡ h) × AreActions f reply.actions.items (refused_deeds g f s h e r))

module _ {S L D P G C K : Type 0} (g : Ghosts S D P G C) (e : elector.Ghosts L S D P G C) (k : disk.Ghosts K) (f : Formats S D P G C) (s : Setup S D C) where
  -- an event was answered: the node made a step, a crash at any moment leaves a point of it, and what needs neither memory nor the disk was
  -- told where it is the first reason
  pub record IsAnswered (old new : Core S L D K P G C) (h : History S D P G C) (event : Event D) (answer : Result (Reply S D P G C) NodeFault) : Type 0 where
    pub ok : IfOk answer (λ reply. (end : History S D P G C) × StepsAtOnce g f s h event reply end × CoreKeeps g e k f s new end)
    pub any_moment : k.keeps → LeaveBook k (book_of old) (book_of new) (IsReached g f s h event)
    pub without_memory : (r : Refusal) → IsFirst (tests g f s h event) (Some r) → needs_nothing r ≡ true → IsOk answer

  -- the same of what is answered beside the actions: why the event is refused, if it is
  pub record IsHandled (old new : Core S L D K P G C) (h : History S D P G C) (event : Event D) (actions : List (Action S D P G C)) (answer : Result (Option Refusal) NodeFault) : Type 0 where
    pub ok : IfOk answer (λ refused. (end : History S D P G C) × StepsBy g f s h event refused actions end × CoreKeeps g e k f s new end)
    pub any_moment : k.keeps → LeaveBook k (book_of old) (book_of new) (IsReached g f s h event)
    pub without_memory : (r : Refusal) → IsFirst (tests g f s h event) (Some r) → needs_nothing r ≡ true → IsOk answer
