-- What is found of a record's bytes before a node opens them.
use Rattle.std.specs.Prelude.{◌≡◌, ℕ, ◌+◌, ◌-◌, List, [], Bool, false, codes, length, map, drop, All, ⊤}
use Rattle.journal_single.specs.Record.{IsForeign, IsFound}
use Rattle.journal_look.specs.Look.{BeginsLikeOne, IsTooMuch, IsUnclosed}
use Rattle.journal_look.specs.declared.looking.Strange.{Strange}
use Rattle.journal_look.specs.declared.looking.Strange.TheVariants as strange
use Rattle.messages_certificates.specs.Artifact.{artifact_round}
use Rattle.simplex_record.specs.Record.{entries, greatest, last_finalized}
use Rattle.simplex_record.specs.Lawful.{IsLawful, IsRefusedAt}
use Rattle.types_core.specs.declared.attestation.Attestation.{Attestation}
use Rattle.types_core.specs.Quorum.{IsQuorum}
use Rattle.types_core.specs.Subject.{Statement}
use Rattle.simplex_types.specs.Plain.{Attests}
use Rattle.simplex_record.specs.declared.owner.Owner.{Owner}
use Rattle.cli_tool.specs.ToolAnswers.{Entry, HoldsEntries, IsEntry, entry_spelling, owner_of}
use Rattle.cli_opening.specs.declared.looking.Barred.{Barred}
use Rattle.cli_opening.specs.declared.looking.Barred.TheVariants as barred
use Rattle.cli_opening.specs.declared.looking.Found.{Found}

-- the view that an entry is of
abbrev pub view_of : Entry → ℕ
view_of entry = (artifact_round entry).view

-- what attests and certifies under the plain scheme in a committee of so many, whose members sign under this base
abbrev pub attests_under : List ℕ → ℕ → ℕ → Statement (List ℕ) → List ℕ → Type 0
attests_under base count = Attests (λ d. d) base count

abbrev pub certifies_under : List ℕ → ℕ → Statement (List ℕ) → List (Attestation (List ℕ)) → Type 0
certifies_under base count s listed = IsQuorum count (λ i a. attests_under base count i s a) listed

-- the bytes are a lawful record of this owner in that committee, and this is said of it: how many entries it has, the highest view of one and of a
-- finalization, and how many bytes behind its last gate an opening cuts. That gate is closed and no more stands behind it than a crash leaves,
-- unless whatever stands there is to be cut
pub record IsFoundBy (base : List ℕ) (count : ℕ) (owner : Owner) (cuts : Bool) (bytes : List ℕ) (found : Found) : Type 0 where
  pub artifacts : List Entry
  pub fitting : All IsEntry artifacts
  pub gate : ℕ
  pub held : IsFound [] bytes gate (map entry_spelling artifacts)
  pub begins : BeginsLikeOne bytes
  pub closed : cuts ≡ false → ¬ IsUnclosed (drop gate bytes)
  pub left : cuts ≡ false → ¬ IsTooMuch (drop gate bytes)
  pub lawful : IsLawful (attests_under base count) (certifies_under base count) owner artifacts
  pub entries_are : found.entries ≡ length artifacts
  pub reaches_is : found.reaches ≡ greatest 0 view_of artifacts
  pub finalized_is : found.finalized ≡ last_finalized (entries artifacts)
  pub cut_is : found.cut ≡ length bytes - (gate + 1)

-- why a file of these bytes is left as it is, by whose record it should be
abbrev pub IsBarredBy : List ℕ → ℕ → Owner → List ℕ → Barred → Type 0
IsBarredBy base count owner bytes barred.Memory = ⊤
IsBarredBy base count owner bytes barred.Device = ⊤
IsBarredBy base count owner bytes barred.NoRecord = ¬ BeginsLikeOne bytes
IsBarredBy base count owner bytes (barred.Foreign place) = IsForeign [] IsEntry entry_spelling bytes place
IsBarredBy base count owner bytes (barred.Unlawful position) =
    (artifacts : List Entry) × HoldsEntries bytes artifacts × IsRefusedAt (attests_under base count) (certifies_under base count) owner artifacts position
IsBarredBy base count owner bytes (barred.Unclosed place) =
    (artifacts : List Entry) × All IsEntry artifacts × IsFound [] bytes place (map entry_spelling artifacts) × IsUnclosed (drop place bytes)
IsBarredBy base count owner bytes (barred.Behind place) =
    (artifacts : List Entry) × All IsEntry artifacts × IsFound [] bytes place (map entry_spelling artifacts) × IsTooMuch (drop place bytes)

-- the same of the member of this index, of so many, under the program's settings
abbrev pub IsFoundIn : ℕ → ℕ → Bool → List ℕ → Found → Type 0
IsFoundIn index count = IsFoundBy (codes "simplex") count (owner_of index)

abbrev pub IsBarred : ℕ → ℕ → List ℕ → Barred → Type 0
IsBarred index count = IsBarredBy (codes "simplex") count (owner_of index)

-- a cut behind the last whole entry doesn't mend it
abbrev pub IsBeyondCut : Barred → Type 0
IsBeyondCut barred.Memory = ⊤
IsBeyondCut barred.Device = ⊤
IsBeyondCut barred.NoRecord = ⊤
IsBeyondCut (barred.Foreign place) = ⊤
IsBeyondCut (barred.Unlawful position) = ⊤
IsBeyondCut (barred.Unclosed place) = ⊥
IsBeyondCut (barred.Behind place) = ⊥

-- why a file is left that is so strange
abbrev pub barred_of : Strange → Barred
barred_of strange.Memory = barred.Memory
barred_of strange.NoRecord = barred.NoRecord
barred_of (strange.Foreign place) = barred.Foreign place
barred_of (strange.Unclosed place) = barred.Unclosed place
barred_of (strange.Behind place) = barred.Behind place
