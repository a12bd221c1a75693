-- What is answered to an event.
use Rattle.std.specs.Prelude.{◌≡◌, true, Some, Result, IfOk, IsOk}
use Rattle.types_core.specs.declared.scheme.Scheme.{Ghosts}
use Rattle.types_terms.specs.declared.elector.Elector as elector
use Rattle.journal_single.specs.declared.disk.Disk as disk
use Rattle.journal_books.specs.Books.{LeaveBook}
use Rattle.simplex_member.specs.declared.action.Reply.{Reply}
use Rattle.simplex_member.specs.declared.event.Event.{Event}
use Rattle.simplex_member.specs.declared.fault.NodeFault.{NodeFault}
use Rattle.simplex_member.specs.declared.refusal.Refusal.{Refusal}
use Rattle.simplex_member.specs.First.{IsFirst}
use Rattle.simplex_member.specs.Member.{IsReached, Steps}
use Rattle.simplex_member.specs.Packet.{Formats}
use Rattle.simplex_member.specs.Point.{History}
use Rattle.simplex_member.specs.Refusals.{needs_nothing, tests}
use Rattle.simplex_member.specs.Setup.{Setup}
use Rattle.node_core.specs.declared.node_state.Core.{Core}
use Rattle.node_core.specs.Keeps.{CoreKeeps, book_of}

module _ {S L D P G C K : Type 0} (g : Ghosts S D P G C) (e : elector.Ghosts L S D P G C) (k : disk.Ghosts K) (f : Formats S D P G C) (s : Setup S D C) where
  -- an event was answered, with all that is due behind it: the node made a step, a crash at any moment leaves a point of it, and what
  -- needs neither memory nor the disk was told where it is the first reason
  pub record IsAnsweredWhole (old new : Core S L D K P G C) (h : History S D P G C) (event : Event D) (answer : Result (Reply S D P G C) NodeFault) : Type 0 where
    pub ok : IfOk answer (λ reply. (end : History S D P G C) × Steps g f s h event reply end × CoreKeeps g e k f s new end)
    pub any_moment : k.keeps → LeaveBook k (book_of old) (book_of new) (IsReached g f s h event)
    pub without_memory : (r : Refusal) → IsFirst (tests g f s h event) (Some r) → needs_nothing r ≡ true → IsOk answer

  -- behind a reply by which the node came from one history to another it goes on until nothing is due. A crash at any moment leaves a
  -- point of the whole step
  pub record GoesOn (old new : Core S L D K P G C) (h mid : History S D P G C) (event : Event D) (answer : Result (Reply S D P G C) NodeFault) : Type 0 where
    pub ok : IfOk answer (λ reply. (end : History S D P G C) × Steps g f s h event reply end × CoreKeeps g e k f s new end)
    pub any_moment : k.keeps → LeaveBook k (book_of old) (book_of new) (IsReached g f s h event)
