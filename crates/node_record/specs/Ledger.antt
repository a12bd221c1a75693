-- What a member has recorded, and that it stands on its disks.
use Rattle.std.specs.Prelude.{◌≡◌, ◌⊎◌, ℕ, Bool, false, List, map, All, Option, Some, None, option_map, if◌then◌else◌}
use Rattle.types_core.specs.Subject.{Statement}
use Rattle.messages_certificates.specs.declared.artifact.Artifact.{Artifact}
use Rattle.messages_certificates.specs.ProposalCertificate.{Finalization}
use Rattle.simplex_record.specs.declared.owner.Owner.{Owner}
use Rattle.simplex_record.specs.Lawful.{IsLawful, IsRefusedAt, rewritten}
use Rattle.journal_single.specs.declared.disk.Disk as disk
use Rattle.simplex_journal.specs.declared.fault.PairFault.{PairFault}
use Rattle.simplex_journal.specs.declared.fault.PairFault.TheVariants as journal_fault
use Rattle.journal_books.specs.declared.books.Books.{Books}
use Rattle.journal_books.specs.declared.disks.Disks.{Disks}
use Rattle.journal_books.specs.Books as words
use Rattle.journal_books.specs.Books.{AreRead, IsBook, MayBeRead, has_failed}
use Rattle.simplex_member.specs.Recorded.{next_floor}
use Rattle.node_record.specs.declared.ledger.Ledger.{Ledger}
use Rattle.node_record.specs.Recorded.{HoldsRecord}

-- the journal that a ledger keeps
abbrev pub book_of : {S D K P G C : Type 0} → Ledger S D K P G C → Books (Artifact S D P G C) K
book_of ledger = ledger.books

-- the disks that it stands on
abbrev pub disks_of : {S D K P G C : Type 0} → Ledger S D K P G C → Disks K
disks_of ledger = words.disks_of ledger.books

-- disks may be refused at their opening for this
abbrev pub IsOpeningFault : PairFault → Type 0
IsOpeningFault fault = (fault ≡ journal_fault.Device) ⊎ ((fault ≡ journal_fault.Memory) ⊎ ((place : ℕ) × (fault ≡ journal_fault.Foreign place)))

module _ {S D P G C : Type 0} where
  -- the view behind which a rewrite makes a record begin, if it does, where the record can be rewritten or can't
  abbrev pub next_view : Bool → List (Artifact S D P G C) → Option ℕ
  next_view may xs = if may then option_map (λ c. c.proposal.round.view) (next_floor xs) else None

  -- what is read is this record, or what a rewrite leaves of it, where terms have so many views
  abbrev pub IsRewriting : (Artifact S D P G C → List ℕ) → ℕ → List (Artifact S D P G C) → List (List ℕ) → Type 0
  IsRewriting spelled views xs read = (read ≡ map spelled xs)
      ⊎ ((c : Finalization S D P G C) × (next_floor xs ≡ Some c) × (read ≡ map spelled (rewritten views c xs)))

module _ {S D P G C K : Type 0} (k : disk.Ghosts K) (spelled : Artifact S D P G C → List ℕ) where
  -- this owner has recorded these artifacts, the oldest first, and its disks hold them: a crash leaves nothing else
  pub record KeepsRecord (owner : Owner) (ledger : Ledger S D K P G C) (xs : List (Artifact S D P G C)) : Type 0 where
    pub holds : HoldsRecord owner ledger.recorded xs
    pub runs : has_failed ledger.books ≡ false
    pub journal : k.keeps → IsBook k spelled ledger.books xs

  -- these artifacts were found on disks: they are read of them, and each can be read
  pub record AreFoundOn (Readable : Artifact S D P G C → Type 0) (on : Disks K) (found : List (Artifact S D P G C)) : Type 0 where
    pub readable : All Readable found
    pub reads : k.keeps → AreRead k on (map spelled found)
    pub left : k.keeps → MayBeRead k on (map spelled found)

  -- the ledger was opened over these disks: what was found there is a lawful record of the owner, and is what it holds
  pub record OpensOver (Readable : Artifact S D P G C → Type 0) (attests : ℕ → Statement D → G → Type 0) (certifies : Statement D → C → Type 0) (owner : Owner) (on : Disks K) (ledger : Ledger S D K P G C) : Type 0 where
    pub found : List (Artifact S D P G C)
    pub are_found : AreFoundOn Readable on found
    pub lawful : IsLawful attests certifies owner found
    pub keeps : KeepsRecord owner ledger found

  -- what was found on these disks is no lawful record of the owner: the artifact behind so many is the first that is refused
  abbrev pub IsContradiction : (Artifact S D P G C → Type 0) → (ℕ → Statement D → G → Type 0) → (Statement D → C → Type 0) → Owner → Disks K → ℕ → Type 0
  IsContradiction Readable attests certifies owner on position = (found : List (Artifact S D P G C)) × AreFoundOn Readable on found × IsRefusedAt attests certifies owner found position
