-- What an opening brings, beside what it finds on its disks.
use Rattle.std.specs.Prelude.{◌≡◌, ◌⊎◌, ◌++◌, ℕ, List, Contains, Option, map}
use Rattle.types_core.specs.Subject.{Statement}
use Rattle.messages_certificates.specs.declared.artifact.Artifact.{Artifact}
use Rattle.messages_certificates.specs.ProposalCertificate.{Finalization}
use Rattle.simplex_record.specs.declared.owner.Owner.{Owner}
use Rattle.simplex_record.specs.Lawful.{IsLawful}
use Rattle.journal_single.specs.declared.disk.Disk as disk
use Rattle.journal_books.specs.declared.disks.Disks.{Disks}
use Rattle.journal_books.specs.Books.{MayBeRead}
use Rattle.simplex_member.specs.Member.{AppendsFloor}
use Rattle.node_record.specs.declared.ledger.Ledger.{Ledger}
use Rattle.node_record.specs.Ledger.{AreFoundOn, KeepsRecord}

module _ {S D P G C : Type 0} (Recordable : Artifact S D P G C → Type 0) (attests : ℕ → Statement D → G → Type 0) (certifies : Statement D → C → Type 0)
    (owner : Owner) (brought : Option (Finalization S D P G C)) where
  -- behind what an opening found it recorded this: the finalization that it brings, where it lies above all that is final there, and that
  -- can be read again; all of it is a lawful record of the owner
  pub record IsAppended (found founded : List (Artifact S D P G C)) : Type 0 where
    pub appends : AppendsFloor brought found founded
    pub recordable : (x : Artifact S D P G C) → Contains founded x → Recordable x
    pub lawful : IsLawful attests certifies owner (found ++ founded)

  module _ (spelled : Artifact S D P G C → List ℕ) where
    -- what is read is what it found, and behind it what it recorded so
    abbrev pub IsReadBehind : List (Artifact S D P G C) → List (List ℕ) → Type 0
    IsReadBehind found read = (founded : List (Artifact S D P G C)) × IsAppended found founded × (read ≡ map spelled (found ++ founded))

    module _ {K : Type 0} (k : disk.Ghosts K) where
      -- a ledger holds that
      pub record HoldsBehind (found : List (Artifact S D P G C)) (ledger : Ledger S D K P G C) : Type 0 where
        pub founded : List (Artifact S D P G C)
        pub appended : IsAppended found founded
        pub keeps : KeepsRecord k spelled owner ledger (found ++ founded)

module _ {S D P G C K : Type 0} (k : disk.Ghosts K) (spelled : Artifact S D P G C → List ℕ) (Readable Recordable : Artifact S D P G C → Type 0)
    (attests : ℕ → Statement D → G → Type 0) (certifies : Statement D → C → Type 0) (owner : Owner) (brought : Option (Finalization S D P G C)) (on : Disks K) where
  -- the first artifacts were found on these disks, and the others recorded behind them
  pub record AreFounded (found founded : List (Artifact S D P G C)) : Type 0 where
    pub are_found : AreFoundOn k spelled Readable on found
    pub appended : IsAppended Recordable attests certifies owner brought found founded

  -- the ledger was opened over these disks with what the opening brings, and holds all of that
  pub record OpensFrom (ledger : Ledger S D K P G C) : Type 0 where
    pub found : List (Artifact S D P G C)
    pub founded : List (Artifact S D P G C)
    pub are : AreFounded found founded
    pub keeps : KeepsRecord k spelled owner ledger (found ++ founded)

  -- what may be read after a crash meanwhile: what might be read after one before it, or what was found with what was recorded behind it
  abbrev pub MayBeFounded : List (List ℕ) → Type 0
  MayBeFounded read = MayBeRead k on read
      ⊎ ((found : List (Artifact S D P G C)) × (founded : List (Artifact S D P G C)) × AreFounded found founded × (read ≡ map spelled (found ++ founded)))
