-- A run as far as it has come.
use Rattle.std.proofs.Common.{◌≡◌, List, [], ◌∷◌, ◌++◌, refl, append_assoc, append-nil, Bool}
use Rattle.std.specs.List.{All}
use Rattle.std.proofs.lemmas.List.Elements.{All-head, All-tail}
use Rattle.types_core.specs.declared.scheme.Scheme.{Ghosts}
use Rattle.simplex_batcher.specs.declared.call.Call.{Call}
use Rattle.simplex_batcher.specs.declared.call.Answer.{Answer}
use Rattle.batcher_verifier.specs.History.{History, Setup}
use Rattle.simplex_batcher.specs.Run.{IsAsked, Answers, AnswersAre, after_call, after_all}

module _ {S D P G C : Type 0} (g : Ghosts S D P G C) (same : D → D → Bool) where
  -- from the history first these answers led to the history h, with these calls left
  pub record Reached (s : Setup S) (first : History S D P G C) (calls : List (Call S D P G C)) (answers : List (Answer S D P G C)) (h : History S D P G C) (rest : List (Call S D P G C)) : Type 0 where
    pub right : (more : List (Answer S D P G C)) → AnswersAre g same s h rest more → AnswersAre g same s first calls (answers ++ more)
    pub history : (more : List (Answer S D P G C)) → after_all same s first calls (answers ++ more) ≡ after_all same s h rest more
    pub asked : All (IsAsked g.attests s) rest

  pub Reached-start : (s : Setup S) (h : History S D P G C) (calls : List (Call S D P G C)) → All (IsAsked g.attests s) calls → Reached s h calls [] h calls
  Reached-start s h calls all = record { right = λ more a. a; history = λ more. refl; asked = all }

  -- what the next call asks
  pub Reached-asked : (s : Setup S) (first : History S D P G C) (calls : List (Call S D P G C)) (answers : List (Answer S D P G C)) (h : History S D P G C) (rest : List (Call S D P G C)) (call : Call S D P G C)
      → Reached s first calls answers h (call ∷ rest) → IsAsked g.attests s call
  Reached-asked s first calls answers h rest call r = All-head (IsAsked g.attests s) call rest r.asked

  pub Reached-step : (s : Setup S) (first : History S D P G C) (calls : List (Call S D P G C)) (answers : List (Answer S D P G C)) (h : History S D P G C) (rest : List (Call S D P G C)) (call : Call S D P G C) (answer : Answer S D P G C)
      → Reached s first calls answers h (call ∷ rest) → Answers g same s h call answer → Reached s first calls (answers ++ answer ∷ []) (after_call same s h call answer) rest
  Reached-step s first calls answers h rest call answer r a = record {
    right = λ more m. rw (append_assoc answers (answer ∷ []) more) (r.right (answer ∷ more) (a, m));
    history = λ more. rw (append_assoc answers (answer ∷ []) more) (r.history (answer ∷ more));
    asked = All-tail (IsAsked g.attests s) call rest r.asked;
  }

  -- with no call left, the answers are right
  pub Reached-end : (s : Setup S) (first : History S D P G C) (calls : List (Call S D P G C)) (answers : List (Answer S D P G C)) (h : History S D P G C) (rest : List (Call S D P G C))
      → Reached s first calls answers h rest → rest ≡ [] → AnswersAre g same s first calls answers × (after_all same s first calls answers ≡ h)
  Reached-end s first calls answers h rest r e =
      let right = rw e at r.right in
      let history = rw e at r.history in
      (rw append-nil at (right [] tt), rw append-nil at (history []))
