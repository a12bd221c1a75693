use Rattle.std.proofs.Common.{◌∙◌, ap, subst, sym}
use Rattle.messages_certificates.specs.declared.artifact.Artifact.{Artifact}
use Rattle.journal_books.specs.declared.books.Books.{Books}
use Rattle.journal_books.specs.Books.{HasNotFailed, disks_of}
use Rattle.journal_books.specs.BooksLaws.{same_not_failed}
use Rattle.node_record.proofs.Rewriting.{cannot-view, keeps-left, no-view, rests, rewrites, view-is}
use Rattle.node_record.proofs.ledger.Ledger.rewrite.Goals as goal

-- ---- it can't be rewritten

pub returns-then-not-may_rewrite-clause-view : goal.returns-then-not-may_rewrite-clause-view
returns-then-not-may_rewrite-clause-view g c = λ owner xs k. cannot-view xs _ (sym c.may_rewrite.ensures ∙ c.if-not-may_rewrite.true)

pub returns-then-not-may_rewrite-clause-keeps : goal.returns-then-not-may_rewrite-clause-keeps
returns-then-not-may_rewrite-clause-keeps g c = λ scheme owner xs d may k lawful next. absurd (cc (may, c.may_rewrite.ensures, c.if-not-may_rewrite.true))

pub returns-then-not-may_rewrite-clause-any_moment : goal.returns-then-not-may_rewrite-clause-any_moment
returns-then-not-may_rewrite-clause-any_moment g c = λ owner xs k keeps.
    rests g.K.Disk _ owner.term_length xs c.args.self.now.books (k.journal keeps) (c.a_book_at_rest_leaves_its_record.ensures c.args.self.now.books xs (k.journal keeps))

-- ---- it begins there already

pub returns-in_default-clause-view : goal.returns-in_default-clause-view
returns-in_default-clause-view g c = λ owner xs k. no-view xs _ (sym (c.in_default.ensures owner xs k.holds))

pub returns-in_default-clause-keeps : goal.returns-in_default-clause-keeps
returns-in_default-clause-keeps g c = λ scheme owner xs d may k lawful next. let none = c.in_default.ensures owner xs k.holds in absurd (cc (none, next))

pub returns-in_default-clause-any_moment : goal.returns-in_default-clause-any_moment
returns-in_default-clause-any_moment g c = λ owner xs k keeps.
    rests g.K.Disk _ owner.term_length xs c.args.self.now.books (k.journal keeps) (c.a_book_at_rest_leaves_its_record.ensures c.args.self.now.books xs (k.journal keeps))

-- ---- no memory for what is left

pub returns-in_default-rewritten-clause-none_if_it_cannot : goal.returns-in_default-rewritten-clause-none_if_it_cannot
returns-in_default-rewritten-clause-none_if_it_cannot g c = λ cannot. absurd (cc (cannot, c.may_rewrite.ensures, c.if-not-may_rewrite.false))

pub returns-in_default-rewritten-clause-none_if_it_begins_there : goal.returns-in_default-rewritten-clause-none_if_it_begins_there
returns-in_default-rewritten-clause-none_if_it_begins_there g c = λ owner xs k next. let some = c.in-Some.ensures owner xs k.holds in absurd (cc (some, next))

pub returns-in_default-rewritten-clause-any_moment : goal.returns-in_default-rewritten-clause-any_moment
returns-in_default-rewritten-clause-any_moment g c = λ owner xs k keeps.
    rests g.K.Disk _ owner.term_length xs c.args.self.now.books (k.journal keeps) (c.a_book_at_rest_leaves_its_record.ensures c.args.self.now.books xs (k.journal keeps))

-- ---- what is left can't be read again

pub returns-then-not-are_within-clause-none_if_it_cannot : goal.returns-then-not-are_within-clause-none_if_it_cannot
returns-then-not-are_within-clause-none_if_it_cannot g c = λ cannot. absurd (cc (cannot, c.may_rewrite.ensures, c.if-not-may_rewrite.false))

pub returns-then-not-are_within-clause-none_if_it_begins_there : goal.returns-then-not-are_within-clause-none_if_it_begins_there
returns-then-not-are_within-clause-none_if_it_begins_there g c = λ owner xs k next. let some = c.in-Some.ensures owner xs k.holds in absurd (cc (some, next))

pub returns-then-not-are_within-clause-any_moment : goal.returns-then-not-are_within-clause-any_moment
returns-then-not-are_within-clause-any_moment g c = λ owner xs k keeps.
    rests g.K.Disk _ owner.term_length xs c.args.self.now.books (k.journal keeps) (c.a_book_at_rest_leaves_its_record.ensures c.args.self.now.books xs (k.journal keeps))

-- ---- it was rewritten

pub returns-in-Ok-rewrite_book-clause-view : goal.returns-in-Ok-rewrite_book-clause-view
returns-in-Ok-rewrite_book-clause-view g c = λ owner xs k.
    view-is xs _ c.in-Some.floor.now c.view-view.result (sym c.may_rewrite.ensures ∙ c.if-not-may_rewrite.false) (sym (c.in-Some.ensures owner xs k.holds)) c.view-view.ensures

pub returns-in-Ok-rewrite_book-clause-keeps : goal.returns-in-Ok-rewrite_book-clause-keeps
returns-in-Ok-rewrite_book-clause-keeps g c = λ scheme owner xs d may k lawful next.
    keeps-left g.K.Disk _ owner xs c.rewrite_book.new.books c.in-Ok.left c.in-Some.floor.now d (c.in-Some.ensures owner xs k.holds) next (c.in-Ok.ensures.artifacts owner xs k.holds)
    (c.in-Ok.ensures.holds scheme owner xs k.holds lawful) c.in-Ok-rewrite_book.ensures.stays_open
    (λ keeps. rw c.deref-2.ensures.value at (c.in-Ok-rewrite_book.ensures.record xs keeps (k.journal keeps)))

pub returns-in-Ok-rewrite_book-clause-none_if_it_cannot : goal.returns-in-Ok-rewrite_book-clause-none_if_it_cannot
returns-in-Ok-rewrite_book-clause-none_if_it_cannot g c = λ cannot. absurd (cc (cannot, c.may_rewrite.ensures, c.if-not-may_rewrite.false))

pub returns-in-Ok-rewrite_book-clause-none_if_it_begins_there : goal.returns-in-Ok-rewrite_book-clause-none_if_it_begins_there
returns-in-Ok-rewrite_book-clause-none_if_it_begins_there g c = λ owner xs k next. let some = c.in-Some.ensures owner xs k.holds in absurd (cc (some, next))

pub returns-in-Ok-rewrite_book-clause-any_moment : goal.returns-in-Ok-rewrite_book-clause-any_moment
returns-in-Ok-rewrite_book-clause-any_moment g c = λ owner xs k keeps.
    rewrites g.K.Disk _ owner.term_length xs _ _ c.in-Ok.left.artifacts.items c.in-Some.floor.now (sym (c.in-Some.ensures owner xs k.holds)) (c.in-Ok.ensures.artifacts owner xs k.holds)
    (rw c.deref-2.ensures.value at (c.in-Ok-rewrite_book.ensures.any_moment xs keeps (k.journal keeps)))

-- ---- the disks didn't take it

pub returns-in-Err-clause-unchanged : goal.returns-in-Err-clause-unchanged
returns-in-Err-clause-unchanged g c = λ other.
    ap (λ (b : Books (Artifact g.row.S.Denot g.row.D.Denot g.row.S-PublicKey.Denot g.row.S-Signature.Denot g.row.S-Certificate.Denot) g.row.K.Denot). record { books = b; recorded = c.args.self.now.recorded })
    (c.in-Err.ensures.unchanged other)

pub returns-in-Err-clause-none_if_it_cannot : goal.returns-in-Err-clause-none_if_it_cannot
returns-in-Err-clause-none_if_it_cannot g c = λ cannot. absurd (cc (cannot, c.may_rewrite.ensures, c.if-not-may_rewrite.false))

pub returns-in-Err-clause-none_if_it_begins_there : goal.returns-in-Err-clause-none_if_it_begins_there
returns-in-Err-clause-none_if_it_begins_there g c = λ owner xs k next. let some = c.in-Some.ensures owner xs k.holds in absurd (cc (some, next))

pub returns-in-Err-clause-any_moment : goal.returns-in-Err-clause-any_moment
returns-in-Err-clause-any_moment g c = λ owner xs k keeps.
    rewrites g.K.Disk _ owner.term_length xs _ _ c.in-Ok.left.artifacts.items c.in-Some.floor.now (sym (c.in-Some.ensures owner xs k.holds)) (c.in-Ok.ensures.artifacts owner xs k.holds)
    (rw c.deref-2.ensures.value at (c.in-Err.ensures.any_moment xs keeps (k.journal keeps)))

pub returns-in-Err-clause-no_device : goal.returns-in-Err-clause-no_device
returns-in-Err-clause-no_device g c = λ other.
    subst (λ (b : Books (Artifact g.row.S.Denot g.row.D.Denot g.row.S-PublicKey.Denot g.row.S-Signature.Denot g.row.S-Certificate.Denot) g.row.K.Denot). HasNotFailed g.K.Disk (disks_of c.args.self.now.books) (disks_of b))
    (sym (c.in-Err.ensures.unchanged other)) (same_not_failed g.K.Disk (disks_of c.args.self.now.books))
