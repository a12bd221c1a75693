-- What a crash leaves of a run that goes on.
use Rattle.std.proofs.Common.{inl, inr, ℕ, List, [], ◌∷◌, ◌++◌, refl, sym, ap, ◌∙◌, subst, append_assoc}
use Rattle.types_core.specs.declared.scheme.Scheme.{Ghosts}
use Rattle.messages_certificates.specs.declared.artifact.Artifact.{Artifact}
use Rattle.journal_books.specs.declared.books.Books.{Books}
use Rattle.journal_single.specs.declared.disk.Disk as disk
use Rattle.journal_books.specs.Books.{LeaveBook}
use Rattle.journal_books.specs.BooksLaws.{book_then, book_weaker}
use Rattle.simplex_member.specs.declared.action.Reply.{Reply}
use Rattle.simplex_member.specs.declared.event.Event.{Event}
use Rattle.simplex_member.specs.Member.{IsReached, Run, Steps}
use Rattle.simplex_member.specs.Packet.{Formats}
use Rattle.simplex_member.specs.Point.{History}
use Rattle.simplex_member.specs.Setup.{Setup}
use Rattle.simplex_node.specs.Running.{IsPassed, LeavesAtMost}

module _ {S D P G C : Type 0} (g : Ghosts S D P G C) (f : Formats S D P G C) (s : Setup S D C) where
  -- what the steps over some events may leave, the steps over more may leave
  pub passed_more : (h : History S D P G C) (events more : List (Event D)) (read : List (List ℕ)) → IsPassed g f s h events read → IsPassed g f s h (events ++ more) read
  passed_more h events more read p = record {
    before = p.before;
    event = p.event;
    behind = p.behind ++ more;
    split = ap (λ (l : List (Event D)). l ++ more) p.split ∙ append_assoc p.before (p.event ∷ p.behind) more;
    replies = p.replies;
    mid = p.mid;
    run = p.run;
    reached = p.reached;
  }

  -- so what the step over the last of them may leave
  pub passed_last : (h mid : History S D P G C) (events : List (Event D)) (replies : List (Reply S D P G C)) (e : Event D) (read : List (List ℕ))
      → Run g f s h events replies mid → IsReached g f s mid e read → IsPassed g f s h (events ++ e ∷ []) read
  passed_last h mid events replies e read run reached = record { before = events; event = e; behind = []; split = refl; replies = replies; mid = mid; run = run; reached = reached }

  -- a crash at any moment of some steps, and of one more
  pub leaves_on : {K : Type 0} (k : disk.Ghosts K) (h mid : History S D P G C) (events : List (Event D)) (replies : List (Reply S D P G C)) (e : Event D) (old now new : Books (Artifact S D P G C) K)
      → Run g f s h events replies mid → LeavesAtMost k old now (IsPassed g f s h events) → LeaveBook k now new (IsReached g f s mid e) → LeavesAtMost k old new (IsPassed g f s h (events ++ e ∷ []))
  leaves_on {K = K} k h mid events replies e old now new run (inl same) step =
      inr (subst (λ (b : Books (Artifact S D P G C) K). LeaveBook k b new (IsPassed g f s h (events ++ e ∷ []))) same (book_weaker k (IsReached g f s mid e) (IsPassed g f s h (events ++ e ∷ [])) (λ read reached. passed_last h mid events replies e read run reached) now new step))
  leaves_on {K = K} k h mid events replies e old now new run (inr left) step =
      inr (book_then k (IsPassed g f s h (events ++ e ∷ [])) old now new (book_weaker k (IsPassed g f s h events) (IsPassed g f s h (events ++ e ∷ [])) (λ read passed. passed_more h events (e ∷ []) read passed) old now left)
      (book_weaker k (IsReached g f s mid e) (IsPassed g f s h (events ++ e ∷ [])) (λ read reached. passed_last h mid events replies e read run reached) now new step))

  -- a crash at any moment of the steps over some events, in the words of more events
  pub leaves_more : {K : Type 0} (k : disk.Ghosts K) (h : History S D P G C) (events more : List (Event D)) (old new : Books (Artifact S D P G C) K) → LeavesAtMost k old new (IsPassed g f s h events) → LeavesAtMost k old new (IsPassed g f s h (events ++ more))
  leaves_more k h events more old new (inl same) = inl same
  leaves_more k h events more old new (inr left) = inr (book_weaker k (IsPassed g f s h events) (IsPassed g f s h (events ++ more)) (λ read passed. passed_more h events more read passed) old new left)

  -- what the step over the first of some events may leave, the steps over all of them may leave
  passed_here : (h : History S D P G C) (e : Event D) (events : List (Event D)) (read : List (List ℕ)) → IsReached g f s h e read → IsPassed g f s h (e ∷ events) read
  passed_here h e events read reached = record { before = []; event = e; behind = events; split = refl; replies = []; mid = h; run = refl; reached = reached }

  -- so what the steps over the others may leave
  passed_behind : (h mid : History S D P G C) (e : Event D) (reply : Reply S D P G C) (events : List (Event D)) (read : List (List ℕ)) → Steps g f s h e reply mid → IsPassed g f s mid events read → IsPassed g f s h (e ∷ events) read
  passed_behind h mid e reply events read step p = record {
    before = e ∷ p.before;
    event = p.event;
    behind = p.behind;
    split = ap (λ (l : List (Event D)). e ∷ l) p.split;
    replies = reply ∷ p.replies;
    mid = p.mid;
    run = (mid, step, p.run);
    reached = p.reached;
  }

  -- a crash at any moment of one step, and of some behind it
  pub leaves_behind : {K : Type 0} (k : disk.Ghosts K) (h mid : History S D P G C) (e : Event D) (reply : Reply S D P G C) (events : List (Event D)) (old now new : Books (Artifact S D P G C) K)
      → Steps g f s h e reply mid → LeaveBook k old now (IsReached g f s h e) → LeavesAtMost k now new (IsPassed g f s mid events) → LeavesAtMost k old new (IsPassed g f s h (e ∷ events))
  leaves_behind {K = K} k h mid e reply events old now new step left (inl same) =
      inr (subst (λ (b : Books (Artifact S D P G C) K). LeaveBook k old b (IsPassed g f s h (e ∷ events))) (sym same) (book_weaker k (IsReached g f s h e) (IsPassed g f s h (e ∷ events)) (λ read reached. passed_here h e events read reached) old now left))
  leaves_behind {K = K} k h mid e reply events old now new step left (inr more) =
      inr (book_then k (IsPassed g f s h (e ∷ events)) old now new (book_weaker k (IsReached g f s h e) (IsPassed g f s h (e ∷ events)) (λ read reached. passed_here h e events read reached) old now left)
      (book_weaker k (IsPassed g f s mid events) (IsPassed g f s h (e ∷ events)) (λ read passed. passed_behind h mid e reply events read step passed) now new more))
