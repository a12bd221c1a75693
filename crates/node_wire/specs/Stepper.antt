-- What steps over several events answer, one after another.
use Rattle.std.specs.Prelude.{◌≡◌, ◌++◌, List, [], ◌∷◌, Option, None, Some, Result, Ok, Err}
use Rattle.simplex_member.specs.declared.action.Reply.{Reply}
use Rattle.simplex_member.specs.declared.event.Event.{Event}
use Rattle.simplex_member.specs.declared.fault.NodeFault.{NodeFault}

-- by what a step over an event may answer, and leave
module _ {S D P G C N : Type 0} (steps : N → Event D → Result (Reply S D P G C) NodeFault → N → Type 0) where
  -- steps over these events, one after another, answer these replies, and lead from old to new
  abbrev pub Answer : N → N → List (Event D) → List (Reply S D P G C) → Type 0
  Answer old new [] [] = new ≡ old
  Answer old new (e ∷ events) (reply ∷ replies) = (mid : N) × steps old e (Ok reply) mid × Answer mid new events replies
  Answer old new events replies = ⊥

  -- and the step over the event behind them fails for this reason, and leaves new
  pub record AnswerBefore (old new : N) (events : List (Event D)) (replies : List (Reply S D P G C)) (event : Event D) (why : NodeFault) : Type 0 where
    pub before : N
    pub answer : Answer old before events replies
    pub failed : steps before event (Err why) new

  -- no step over any event answers a reply
  abbrev pub AnswersNone : N → Type 0
  AnswersNone old = (event : Event D) → (reply : Reply S D P G C) → (new : N) → ¬ steps old event (Ok reply) new

-- what came of a list of events, by what holds where events were answered, and where behind such the step over one failed for a reason:
-- all were answered by these replies, or, where a fault is told, those before one whose step failed
abbrev pub EndsList : {S D P G C : Type 0} → (List (Event D) → List (Reply S D P G C) → Type 0) → (List (Event D) → List (Reply S D P G C) → Event D → NodeFault → Type 0)
    → List (Event D) → List (Reply S D P G C) → Option NodeFault → Type 0
EndsList Answered Failed events replies None = Answered events replies
EndsList {D = D} Answered Failed events replies (Some why) = (answered : List (Event D)) × (event : Event D) × (left : List (Event D)) × (events ≡ answered ++ event ∷ left) × Failed answered replies event why

-- of events and replies, by which of them were there before
module _ {S D P G C : Type 0} (before : List (Event D)) (said : List (Reply S D P G C)) where
  -- the others of these events were answered by the others of these replies
  pub record Behind (Answered : List (Event D) → List (Reply S D P G C) → Type 0) (events : List (Event D)) (replies : List (Reply S D P G C)) : Type 0 where
    pub later : List (Event D)
    pub answers : List (Reply S D P G C)
    pub split : events ≡ before ++ later
    pub replied : replies ≡ said ++ answers
    pub answered : Answered later answers

  -- they were, and at the event behind them a step failed
  pub record FailsBehind (Failed : List (Event D) → List (Reply S D P G C) → Event D → NodeFault → Type 0) (events : List (Event D)) (replies : List (Reply S D P G C)) (event : Event D) (why : NodeFault) : Type 0 where
    pub later : List (Event D)
    pub answers : List (Reply S D P G C)
    pub split : events ≡ before ++ later
    pub replied : replies ≡ said ++ answers
    pub failed : Failed later answers event why
