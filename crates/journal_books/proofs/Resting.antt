-- What a crash leaves of a record while nothing is asked of its disk.
use Rattle.std.proofs.Common.{◌≡◌, ℕ, List, [], ◌∷◌, ◌++◌, refl, sym, subst, map}
use Rattle.journal_single.specs.declared.disk.Disk as disk
use Rattle.journal_single.specs.Disk.{Call, MayLeave, LeavesOnly}
use Rattle.journal_single.specs.Images.{only_synced, reads_rest}
use Rattle.journal_single.specs.Moments.{started}
use Rattle.journal_single.specs.Record.{Reads, IsAtRest}
use Rattle.simplex_journal.specs.Leaving.{LeavesReading}
use Rattle.simplex_journal.specs.Standing.{IsPairRecord, PairStanding}
use Rattle.journal_books.specs.declared.books.Books.{Books}
use Rattle.journal_books.specs.declared.books.Books.TheVariants as books
use Rattle.journal_books.specs.Books.{IsBook, LeaveBook}

at_rest_reads : {seen : List ℕ} {calls : List Call} {gate : ℕ} {bodies : List (List ℕ)} → IsAtRest [] seen calls gate bodies → (image : List ℕ) → MayLeave calls image → Reads image bodies
at_rest_reads {calls = calls} {bodies = bodies} r image left =
    let is : image ≡ r.front ++ 0 ∷ [] = only_synced (r.front ++ 0 ∷ []) r.earlier image (subst (λ (l : List Call). MayLeave l image) r.calls_is left) in
    subst (λ (l : List ℕ). Reads l bodies) (sym is) (reads_rest r.front [] bodies r.entries)

-- a crash leaves the record
pub rest_leaves : {seen : List ℕ} {calls : List Call} {gate : ℕ} {bodies : List (List ℕ)} → IsAtRest [] seen calls gate bodies
    → LeavesOnly calls calls (λ image. (read : List (List ℕ)) × Reads image read × (read ≡ bodies))
rest_leaves {calls = calls} {bodies = bodies} r = started calls (λ image. (read : List (List ℕ)) × Reads image read × (read ≡ bodies)) (λ image left. (bodies, at_rest_reads r image left, refl))

-- and so it does of a journal over one disk or two
pub book_rests : {M K : Type 0} (k : disk.Ghosts K) (spelling : M → List ℕ) (messages : List M)
    → ((pair : PairStanding K) → IsPairRecord spelling k.seen k.calls pair messages
    → LeavesReading pair.is_first pair.generation (k.calls pair.first) (k.calls pair.first) (k.calls pair.second) (k.calls pair.second) (λ read. read ≡ map spelling messages))
    → (b : Books M K) → IsBook k spelling b messages → LeaveBook k b b (λ read. read ≡ map spelling messages)
book_rests k spelling messages pairs (books.One journal) is = rest_leaves is.1
book_rests k spelling messages pairs (books.Two pair) is = (refl, refl, pairs pair is)
