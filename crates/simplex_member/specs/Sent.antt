-- What is due is sent, and only that: statements, of members that live by their nodes.
use Rattle.std.specs.Prelude.{ℕ, List, [], ◌∷◌, Contains, Option}
use Rattle.types_core.specs.declared.scheme.Scheme.{Ghosts}
use Rattle.simplex_messages.specs.declared.vote.Vote.{Vote}
use Rattle.simplex_record.specs.World.{World, IsCorrect}
use Rattle.simplex_member.specs.Deeds.{Sends}
use Rattle.simplex_member.specs.Laws.{HasReached, IsCastDue}
use Rattle.simplex_member.specs.Lives.{Course, Life, Broken, Lasting, Turn, Refuses, Rewrites, Went, HandedOut, LiveByNodes, Members}
use Rattle.simplex_member.specs.Member.{NoneDue, after}
use Rattle.simplex_member.specs.Packet.{Formats, of_vote}
use Rattle.simplex_member.specs.Point.{Point, Rewrote, History}

module _ {S D P G C : Type 0} where
  -- the histories at which turns answered
  abbrev pub turns_answer : History S D P G C → List (Turn S D P G C) → List (History S D P G C)
  turns_answer h [] = []
  turns_answer h (Refuses e r ∷ turns) = h ∷ turns_answer h turns
  turns_answer h (Went e points ∷ turns) = after h points ∷ turns_answer (after h points) turns
  turns_answer h (Rewrites c ∷ turns) = (Rewrote c ∷ h) ∷ turns_answer (Rewrote c ∷ h) turns

  -- the histories at which a life answered: that of its opening, and that of each reply; none where it was cut off
  abbrev pub answers_of : Course S D P G C → List (History S D P G C)
  answers_of (Broken now points) = []
  answers_of (Lasting now points turns cut) = after [] points ∷ turns_answer (after [] points) turns

module _ {S D P G C : Type 0} (g : Ghosts S D P G C) (f : Formats S D P G C) where
  -- a life of a member led to a history at which this vote was due, and then to a point that casts or repeats it
  pub record WasCastDue (m : Members S D P G C) (i : ℕ) (v : Vote S D P G C) : Type 0 where
    pub life : Life S D P G C
    pub h : History S D P G C
    pub p : Point S D P G C
    pub next : HasReached m i life (p ∷ h)
    pub due : IsCastDue g f life.setup h p v

  -- each vote that a correct member sends was due at its point
  abbrev pub EachVoteSentWasDue : Type 0
  EachVoteSentWasDue = (scheme : S) (m : Members S D P G C) (world : World S D P G C) → LiveByNodes g f scheme m world → (i : ℕ)
      → IsCorrect world i
      → (to : Option ℕ) (v : Vote S D P G C) → HandedOut g f scheme m world i (Sends to (of_vote v)) → WasCastDue m i v

  -- none is due where a correct member has answered, be it a reply or an opening, nor is anything else that it does of its own
  abbrev pub NoneIsDueBehindAnswers : Type 0
  NoneIsDueBehindAnswers = (scheme : S) (m : Members S D P G C) (world : World S D P G C) → LiveByNodes g f scheme m world → (i : ℕ)
      → IsCorrect world i
      → (life : Life S D P G C) → Contains (m.lives i) life → (h : History S D P G C) → Contains (answers_of life.course) h
      → NoneDue g f life.setup h
