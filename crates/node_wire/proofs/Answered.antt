-- Steps go on by one.
use Rattle.std.proofs.Common.{◌≡◌, List, [], ◌∷◌, ◌++◌, refl, sym, ap, ◌∙◌, subst, append_assoc, append-nil}
use Rattle.std.specs.Prelude.{Result, Ok, Err, Some, None}
use Rattle.simplex_member.specs.declared.action.Reply.{Reply}
use Rattle.simplex_member.specs.declared.event.Event.{Event}
use Rattle.simplex_member.specs.declared.fault.NodeFault.{NodeFault}
use Rattle.node_wire.specs.Stepper.{Answer, AnswerBefore, EndsList}

module _ {S D P G C N : Type 0} (steps : N → Event D → Result (Reply S D P G C) NodeFault → N → Type 0) where
  -- one step more
  pub answer_on : (events : List (Event D)) (replies : List (Reply S D P G C)) (old mid new : N) (e : Event D) (reply : Reply S D P G C) → Answer steps old mid events replies → steps mid e (Ok reply) new
      → Answer steps old new (events ++ e ∷ []) (replies ++ reply ∷ [])
  answer_on [] [] old mid new e reply same step = (new, subst (λ (x : N). steps x e (Ok reply) new) same step, refl)
  answer_on [] (r ∷ replies) old mid new e reply run step = absurd run
  answer_on (x ∷ events) [] old mid new e reply run step = absurd run
  answer_on (x ∷ events) (r ∷ replies) old mid new e reply run step = (run.0, run.1, answer_on events replies run.0 mid new e reply run.2 step)

  -- the events before the rest were answered so
  pub record ListsOn (old new : N) (all rest : List (Event D)) (replies : List (Reply S D P G C)) : Type 0 where
    pub answered : List (Event D)
    pub split : all ≡ answered ++ rest
    pub answer : Answer steps old new answered replies

  -- none was at first
  pub lists_none : (old : N) (all rest : List (Event D)) (replies : List (Reply S D P G C)) → rest ≡ all → replies ≡ [] → ListsOn old old all rest replies
  lists_none old all rest replies items none = record { answered = []; split = sym items; answer = subst (λ (l : List (Reply S D P G C)). Answer steps old old [] l) (sym none) refl }

  -- one more is answered
  pub lists_one : (old mid new : N) (all left rest : List (Event D)) (event : Event D) (replies more : List (Reply S D P G C)) (reply : Reply S D P G C) → left ≡ event ∷ rest → more ≡ replies ++ reply ∷ []
      → ListsOn old mid all left replies → steps mid event (Ok reply) new → ListsOn old new all rest more
  lists_one old mid new all left rest event replies more reply left_is more_is so_far step = record {
    answered = so_far.answered ++ event ∷ [];
    split = so_far.split ∙ ap (λ (l : List (Event D)). so_far.answered ++ l) left_is ∙ sym (append_assoc so_far.answered (event ∷ []) rest);
    answer = subst (λ (l : List (Reply S D P G C)). Answer steps old new (so_far.answered ++ event ∷ []) l) (sym more_is) (answer_on so_far.answered replies old mid new event reply so_far.answer step);
  }

  -- all are answered where none is left
  pub lists_end : (old new : N) (all rest : List (Event D)) (replies : List (Reply S D P G C)) → rest ≡ [] → ListsOn old new all rest replies → EndsList (Answer steps old new) (AnswerBefore steps old new) all replies None
  lists_end old new all rest replies none so_far =
      let whole : all ≡ so_far.answered = so_far.split ∙ ap (λ (l : List (Event D)). so_far.answered ++ l) none ∙ append-nil so_far.answered in
      subst (λ (l : List (Event D)). Answer steps old new l replies) (sym whole) so_far.answer

  -- the step over the next failed
  pub lists_failed : (old mid new : N) (all left rest : List (Event D)) (event : Event D) (replies : List (Reply S D P G C)) (why : NodeFault) → left ≡ event ∷ rest → ListsOn old mid all left replies → steps mid event (Err why) new
      → EndsList (Answer steps old new) (AnswerBefore steps old new) all replies (Some why)
  lists_failed old mid new all left rest event replies why left_is so_far failed =
      (so_far.answered, event, rest, so_far.split ∙ ap (λ (l : List (Event D)). so_far.answered ++ l) left_is, record { before = mid; answer = so_far.answer; failed = failed })
