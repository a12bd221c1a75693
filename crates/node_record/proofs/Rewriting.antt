-- A rewrite of a record, and what a crash leaves of it.
use Rattle.std.proofs.Common.{◌≡◌, ◌<◌, ◌-◌, ◌^◌, ◌∙◌, ◌↔◌, ◌⊎◌, inl, inr, ⊎_elim, ℕ, Bool, true, false, List, [], ◌∷◌, Option, Some, None, refl, ap, subst, sym, map, arith, ltb-true}
use Rattle.std.specs.Prelude.{All, Contains, IsTrue, option_map}
use Rattle.std.proofs.lemmas.List.Elements.{All-cons, All-head, All-nil, All-tail}
use Rattle.messages_certificates.specs.declared.artifact.Artifact.{Artifact}
use Rattle.messages_certificates.specs.declared.artifact.Artifact.TheVariants as artifact
use Rattle.messages_certificates.specs.ProposalCertificate.{Finalization}
use Rattle.journal_single.specs.declared.disk.Disk as disk
use Rattle.journal_books.specs.declared.books.Books.{Books}
use Rattle.journal_books.specs.declared.books.Books.TheVariants as books
use Rattle.journal_books.specs.declared.disks.Disks.{Disks}
use Rattle.journal_books.specs.Books.{IsBook, Leave, LeaveBook, are_two, disks_of, generation_of, has_failed, may_rewrite}
use Rattle.journal_books.specs.BooksLaws.{book_leaves, book_weaker, leave_weaker}
use Rattle.simplex_record.specs.declared.owner.Owner.{Owner}
use Rattle.simplex_record.specs.Lawful.{rewritten}
use Rattle.simplex_record.specs.Record.{entries, last_finalized}
use Rattle.simplex_member.specs.Recorded.{next_floor}
use Rattle.node_record.specs.declared.recorded.Recorded.{Recorded}
use Rattle.node_record.specs.Ledger.{IsRewriting, KeepsRecord, next_view}
use Rattle.node_record.specs.Recorded.{HoldsRecord}
use Rattle.node_record.proofs.Beginning.{next-is-last}

module _ {X : Type 0} (P : X → Type 0) where
  -- something holds of all just if it holds of those that don't come yet: of the first it does, or it doesn't, or none is left
  pub all-rest : (x : X) (rest : List X) (A : Type 0) → P x → A ↔ All P (x ∷ rest) → A ↔ All P rest
  all-rest x rest A first told = (λ a. All-tail P x rest (told.0 a), λ others. told.1 (All-cons P x rest first others))

  pub all-one : (x : X) (rest : List X) (A : Type 0) (b : Bool) → IsTrue b ↔ P x → b ≡ false → A ↔ All P (x ∷ rest) → IsTrue false ↔ A
  all-one x rest A b is isnt told = (λ never. absurd (cc never), λ a. absurd (let one = is.1 (All-head P x rest (told.0 a)) in cc (one, isnt)))

  pub all-none : (A : Type 0) → A ↔ All P [] → IsTrue true ↔ A
  all-none A told = (λ yes. told.1 (All-nil P), λ a. refl)

module _ {M K : Type 0} where
  -- what can be rewritten is over two disks, and isn't of the last generation
  pub may-two : (b : Books M K) → may_rewrite b ≡ true → are_two (disks_of b) ≡ true
  may-two (books.One journal) may = absurd (cc may)
  may-two (books.Two pair) may = refl

  pub may-further : (b : Books M K) → may_rewrite b ≡ true → (are_two (disks_of b) ≡ true → generation_of b ≡ 2 ^ 32 - 1) → ⊥
  may-further (books.One journal) may last = absurd (cc may)
  may-further (books.Two pair) may last =
      let is : pair.generation ≡ 2 ^ 32 - 1 = last refl in
      let below : pair.generation < 2 ^ 32 - 1 = ltb-true pair.generation (2 ^ 32 - 1) may in
      omega (arith, is, below)

module _ {S D P G C : Type 0} (xs : List (Artifact S D P G C)) where
  -- the view that is told
  pub view-is : (may : Bool) (c : Finalization S D P G C) (view : ℕ) → may ≡ true → next_floor xs ≡ Some c → view ≡ c.proposal.round.view → Some view ≡ next_view may xs
  view-is true c view may next is = ap (λ (v : ℕ). Some v) is ∙ sym (ap (λ (o : Option (Finalization S D P G C)). option_map (λ (d : Finalization S D P G C). d.proposal.round.view) o) next)
  view-is false c view may next is = absurd (cc may)

  -- and where none is to be
  pub no-view : (may : Bool) → next_floor xs ≡ None → None ≡ next_view may xs
  no-view true next = sym (ap (λ (o : Option (Finalization S D P G C)). option_map (λ (d : Finalization S D P G C). d.proposal.round.view) o) next)
  no-view false next = refl

  pub cannot-view : (may : Bool) → may ≡ false → None ≡ next_view may xs
  cannot-view true cannot = absurd (cc cannot)
  cannot-view false cannot = refl

module _ {S D P G C K : Type 0} (k : disk.Ghosts K) (spelled : Artifact S D P G C → List ℕ) (views : ℕ) (xs : List (Artifact S D P G C)) where
  -- while nothing is asked of the disks, a crash leaves the record
  pub rests : (b : Books (Artifact S D P G C) K) → IsBook k spelled b xs → LeaveBook k b b (λ read. read ≡ map spelled xs) → Leave k (disks_of b) (disks_of b) (IsRewriting spelled views xs)
  rests b is leaves = book_leaves k (IsRewriting spelled views xs) spelled xs b b is (book_weaker k _ _ (λ read same. inl same) b b leaves)

  -- while they take what a rewrite leaves, it leaves the record or that
  pub rewrites : (old new : Disks K) (list : List (Artifact S D P G C)) (c : Finalization S D P G C) → next_floor xs ≡ Some c → list ≡ rewritten views c xs
      → Leave k old new (λ read. (read ≡ map spelled xs) ⊎ (read ≡ map spelled list)) → Leave k old new (IsRewriting spelled views xs)
  rewrites old new list c next is leaves =
      leave_weaker k _ _ (λ read. ⊎_elim (λ same. inl same) (λ rewrote. inr (c, next, rewrote ∙ ap (λ (l : List (Artifact S D P G C)). map spelled l) is))) old new leaves

module _ {S D P G C K : Type 0} (k : disk.Ghosts K) (spelled : Artifact S D P G C → List ℕ) (owner : Owner) (xs : List (Artifact S D P G C)) where
  -- once they have taken what a rewrite leaves, that is the record
  pub keeps-left : (b : Books (Artifact S D P G C) K) (left : Recorded S D P G C) (c d : Finalization S D P G C) → Some c ≡ next_floor xs → next_floor xs ≡ Some d
      → left.artifacts.items ≡ rewritten owner.term_length c xs
      → (Contains xs (artifact.Finalization c) → c.proposal.round.view ≡ last_finalized (entries xs) → HoldsRecord owner left (rewritten owner.term_length c xs))
      → has_failed b ≡ false → (k.keeps → IsBook k spelled b left.artifacts.items)
      → KeepsRecord k spelled owner (record { books = b; recorded = left }) (rewritten owner.term_length d xs)
  keeps-left b left c d some next left_is holds runs journal =
      let same : c ≡ d = cc (some, next) in
      let last = next-is-last xs c (sym some) in
      subst (λ (x : Finalization S D P G C). KeepsRecord k spelled owner (record { books = b; recorded = left }) (rewritten owner.term_length x xs)) same (record {
        holds = holds last.0 last.1;
        runs = runs;
        journal = λ keeps. subst (λ (l : List (Artifact S D P G C)). IsBook k spelled b l) left_is (journal keeps);
      })
