-- What a crash leaves while a point is recorded.
use Rattle.std.proofs.Common.{◌≡◌, ⊎_elim, inl, inr, ℕ, List, [], ◌∷◌, ◌++◌, Some, sym, ◌∙◌, ap, map}
use Rattle.std.proofs.lemmas.List.{map-append}
use Rattle.types_core.specs.declared.scheme.Scheme.{Ghosts}
use Rattle.messages_certificates.specs.declared.artifact.Artifact.{Artifact}
use Rattle.journal_single.specs.declared.disk.Disk as disk
use Rattle.journal_books.specs.declared.books.Books.{Books}
use Rattle.journal_books.specs.Books.{IsWithOrWithout, LeaveBook}
use Rattle.journal_books.specs.BooksLaws.{book_weaker}
use Rattle.simplex_member.specs.Allowed.{Allowed}
use Rattle.simplex_member.specs.Member.{ReadsAsKept}
use Rattle.simplex_member.specs.Packet.{Formats}
use Rattle.simplex_member.specs.Point.{Point, Rewrote, History}
use Rattle.simplex_member.specs.Recorded.{kept_of, put_behind, recorded_by}
use Rattle.simplex_member.specs.Setup.{Setup}
use Rattle.node_core.specs.Taking.{IsLeftBy}

-- what a point records goes behind what is kept
pub kept_behind : {S D P G C : Type 0} (views : ℕ) (h : History S D P G C) (p : Point S D P G C) (x : Artifact S D P G C) → recorded_by p ≡ Some x → kept_of views (p ∷ h) ≡ kept_of views h ++ x ∷ []
kept_behind views h (Rewrote c) x is = absurd (cc is)
kept_behind views h p x is = ap (put_behind (kept_of views h)) is

module _ {S D P G C : Type 0} (g : Ghosts S D P G C) (f : Formats S D P G C) (s : Setup S D C) where
  -- the record with what a point records is that behind the point
  read_behind : (h : History S D P G C) (p : Point S D P G C) (x : Artifact S D P G C) (read : List (List ℕ)) → recorded_by p ≡ Some x
      → read ≡ map f.artifact (kept_of s.voter.length h) ++ f.artifact x ∷ [] → ReadsAsKept g f s read (p ∷ h)
  read_behind h p x read is reads =
      reads ∙ sym (ap (map f.artifact) (kept_behind s.voter.length h p x is) ∙ map-append f.artifact (kept_of s.voter.length h) (x ∷ []))

  module _ {K : Type 0} (k : disk.Ghosts K) where
    -- where a crash leaves the record with what a point records or without it, it leaves what taking the point may leave
    pub left_by : (h : History S D P G C) (p : Point S D P G C) (x : Artifact S D P G C) (old new : Books (Artifact S D P G C) K) → recorded_by p ≡ Some x → Allowed g f s h p
        → LeaveBook k old new (IsWithOrWithout (map f.artifact (kept_of s.voter.length h)) (f.artifact x)) → LeaveBook k old new (IsLeftBy g f s h p)
    left_by h p x old new is allowed leaves =
        book_weaker k (IsWithOrWithout (map f.artifact (kept_of s.voter.length h)) (f.artifact x)) (IsLeftBy g f s h p)
        (λ read either. ⊎_elim (λ before. inl before) (λ behind. inr (allowed, read_behind h p x read is behind)) either) old new leaves

    -- where it leaves the record, it does too
    pub left_at_rest : (h : History S D P G C) (p : Point S D P G C) (old new : Books (Artifact S D P G C) K) → LeaveBook k old new (λ read. read ≡ map f.artifact (kept_of s.voter.length h)) → LeaveBook k old new (IsLeftBy g f s h p)
    left_at_rest h p old new leaves = book_weaker k (λ read. read ≡ map f.artifact (kept_of s.voter.length h)) (IsLeftBy g f s h p) (λ read is. inl is) old new leaves
