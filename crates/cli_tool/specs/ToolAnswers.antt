-- What is answered to a request about these bytes, and which place is named.
use Rattle.std.specs.Prelude.{◌≡◌, ℕ, List, [], ◌++◌, length, map, All, codes, Option, None, Some, Result, ⊤}
use Rattle.std.specs.Option.{option_map_or}
use Rattle.std.specs.List.{flat_map}
use Rattle.std.specs.Fmt.{decimal}
use Rattle.std.specs.Io.KnownBytes.{Appends}
use Rattle.types_codec.specs.declared.codec.CodecError.{CodecError}
use Rattle.types_codec.specs.Codec.{Readable}
use Rattle.types_core.specs.declared.attestation.Attestation.{Attestation}
use Rattle.simplex_types.specs.AttestationList.{list_fits, list_within, list_spelling}
use Rattle.simplex_types.specs.Plain.{Committee, Attests}
use Rattle.types_core.specs.Quorum.{IsQuorum}
use Rattle.types_core.specs.Subject.{Statement}
use Rattle.messages_certificates.specs.declared.artifact.Artifact.{Artifact}
use Rattle.messages_certificates.specs.Artifact.{artifact_fits, artifact_within, artifact_spelling}
use Rattle.simplex_rules.specs.Audit.{IsRead}
use Rattle.cli_audit.specs.Running.{Report, IsReport, IsPlainAudit, report_at, report_spelling}
use Rattle.journal_single.specs.Record.{IsFound, IsForeign}
use Rattle.types_codec.specs.Front.{AppendsFront}
use Rattle.simplex_record.specs.declared.owner.Owner.{Owner}
use Rattle.simplex_record.specs.Lawful.{IsLawful, IsRefusedAt}
use Rattle.cli_tool.specs.declared.checking.Checked.{Checked}
use Rattle.cli_tool.specs.declared.checking.Checked.TheVariants as checked
use Rattle.cli_tool.specs.declared.command.Call.{Call}
use Rattle.cli_tool.specs.declared.command.Request.{Request}
use Rattle.cli_tool.specs.declared.command.Request.TheVariants as request
use Rattle.cli_tool.specs.declared.style.Style.{Style}
use Rattle.cli_tool.specs.Command.{help_text, version_line}
use Rattle.cli_tool.specs.Lines.{artifact_line, report_line}
use Rattle.cli_tool.specs.Parts.{kind_words, field, line_end, place_line}

-- entries of a record under the plain scheme, which can be read whatever the committee's size
abbrev pub Entry : Type 0
Entry = Artifact Committee (List ℕ) ℕ (List ℕ) (List (Attestation (List ℕ)))

abbrev pub IsEntry : Entry → Type 0
IsEntry = Readable (artifact_fits (λ d. length d ≡ 32) (λ s. length s ≡ 32) (list_fits (λ s. length s ≡ 32))) (artifact_within (list_within 65535))

abbrev pub entry_spelling : Entry → List ℕ
entry_spelling = artifact_spelling (λ d. d) (λ s. s) (list_spelling (λ s. s))

-- the evidence that an audit of these bytes finds, spelled as reports
pub record IsEvidence (count : ℕ) (bytes : List ℕ) (written : List ℕ) (fault : Option ℕ) : Type 0 where
  pub evidence : List Report
  pub audit : IsPlainAudit count bytes evidence fault
  pub written_is : written ≡ flat_map report_spelling evidence

-- messages that can be read, and how they are spelled
module _ {M : Type 0} (Reads : M → Type 0) (spelling : M → List ℕ) where
  -- these bytes are the record of these entries
  pub record Holds (bytes : List ℕ) (entries : List M) : Type 0 where
    pub fitting : All Reads entries
    pub gate : ℕ
    pub found : IsFound [] bytes gate (map spelling entries)

  -- a line for each message that these bytes hold, as a reader takes them, and one for the place at which none stands, if there is one
  pub record AreTold (reading : List ℕ → Result (M × List ℕ) CodecError) (line : M → List ℕ) (style : Style) (bytes text : List ℕ) (fault : Option ℕ) : Type 0 where
    pub messages : List M
    pub read : IsRead Reads spelling reading bytes messages fault
    pub text_is : text ≡ flat_map line messages ++ option_map_or (place_line style (codes "fault")) fault []

-- a line for each report that these bytes hold, and one for the place at which none stands, if there is one
abbrev pub AreReports : Style → ℕ → List ℕ → List ℕ → Option ℕ → Type 0
AreReports style count bytes text fault = AreTold (IsReport count) report_spelling (report_at count) (report_line style) style bytes text fault

-- these bytes are the record of these entries
abbrev pub HoldsEntries : List ℕ → List Entry → Type 0
HoldsEntries = Holds IsEntry entry_spelling

-- a line for each entry of the record, or where one is foreign its place alone
abbrev pub IsRecordTold : Style → List ℕ → List ℕ → Option ℕ → Type 0
IsRecordTold style bytes text None = (entries : List Entry) × HoldsEntries bytes entries × (text ≡ flat_map (artifact_line style) entries)
IsRecordTold style bytes text (Some place) = IsForeign [] IsEntry entry_spelling bytes place × (text ≡ place_line style (codes "foreign") place)

-- whose record it is: a member's of the program, in epoch 0 and terms of four views
abbrev pub owner_of : ℕ → Owner
owner_of index = record { epoch = 0; term_length = 4; signer = index }

-- what attests and certifies in a committee of so many
abbrev pub attests_in : ℕ → ℕ → Statement (List ℕ) → List ℕ → Type 0
attests_in count = Attests (λ d. d) (codes "simplex") count

abbrev pub certifies_in : ℕ → Statement (List ℕ) → List (Attestation (List ℕ)) → Type 0
certifies_in count s listed = IsQuorum count (λ i a. attests_in count i s a) listed

-- what holding these artifacts to the rules finds: that this owner's record of them is lawful, or its first entry that may not stand there
abbrev pub AreHeld : ℕ → Owner → List Entry → Checked → Type 0
AreHeld count owner artifacts (checked.Lawful entries) = IsLawful (attests_in count) (certifies_in count) owner artifacts × (entries ≡ length artifacts)
AreHeld count owner artifacts (checked.Refused entry entries) = IsRefusedAt (attests_in count) (certifies_in count) owner artifacts entry × (entries ≡ length artifacts)
AreHeld count owner artifacts (checked.Foreign place) = ⊥

-- the same of the record that these bytes hold, or the place of its first foreign entry
abbrev pub IsHeld : ℕ → Owner → List ℕ → Checked → Type 0
IsHeld count owner bytes (checked.Lawful entries) = (artifacts : List Entry) × HoldsEntries bytes artifacts × AreHeld count owner artifacts (checked.Lawful entries)
IsHeld count owner bytes (checked.Refused entry entries) = (artifacts : List Entry) × HoldsEntries bytes artifacts × AreHeld count owner artifacts (checked.Refused entry entries)
IsHeld count owner bytes (checked.Foreign place) = IsForeign [] IsEntry entry_spelling bytes place

-- the line of a lawful record, with how many entries it has
abbrev pub lawful_line : Style → ℕ → List ℕ
lawful_line style entries = kind_words style (codes "lawful") ++ (field style (codes "entries") (decimal entries) ++ line_end style)

-- the line of a record that isn't, with its first entry that may not stand there, counted from 0
abbrev pub refused_line : Style → ℕ → List ℕ
refused_line style entry = kind_words style (codes "refused") ++ (field style (codes "entry") (decimal entry) ++ line_end style)

-- how what was found of a record is told, and which entry or place is named
abbrev pub IsSaid : Style → Checked → List ℕ → Option ℕ → Type 0
IsSaid style (checked.Lawful entries) text named = (text ≡ lawful_line style entries) × (named ≡ None)
IsSaid style (checked.Refused entry entries) text named = (text ≡ refused_line style entry) × (named ≡ Some entry)
IsSaid style (checked.Foreign place) text named = (text ≡ place_line style (codes "foreign") place) × (named ≡ Some place)

-- that the record of a member of so many that these bytes hold is lawful, or its first entry that may not stand there
abbrev pub IsChecked : Style → ℕ → ℕ → List ℕ → List ℕ → Option ℕ → Type 0
IsChecked style index count bytes text named = (found : Checked) × IsHeld count (owner_of index) bytes found × IsSaid style found text named

-- what is answered to each request
abbrev pub IsAnswerTo : Style → Request → List ℕ → List ℕ → Option ℕ → Type 0
IsAnswerTo style (request.Evidence count) bytes text place = IsEvidence count bytes text place
IsAnswerTo style (request.Reports count) bytes text place = AreReports style count bytes text place
IsAnswerTo style (request.Record path) bytes text place = IsRecordTold style bytes text place
IsAnswerTo style (request.Check index count path) bytes text place = IsChecked style index count bytes text place
IsAnswerTo style request.Help bytes text place = (text ≡ help_text) × (place ≡ None)
IsAnswerTo style request.Version bytes text place = (text ≡ version_line) × (place ≡ None)

-- the request is about bytes
abbrev pub NeedsInput : Request → Type 0
NeedsInput (request.Evidence count) = ⊤
NeedsInput (request.Reports count) = ⊤
NeedsInput (request.Record path) = ⊤
NeedsInput (request.Check index count path) = ⊤
NeedsInput request.Help = ⊥
NeedsInput request.Version = ⊥

-- the answer to a call about these bytes was written
abbrev pub AnswersOver : Call → List ℕ → Option ℕ → Option (List ℕ) → Option (List ℕ) → Type 0
AnswersOver call bytes named old new = (text : List ℕ) × IsAnswerTo call.style call.request bytes text named × Appends old new text

-- a front of it was
abbrev pub BreaksOff : Call → List ℕ → Option (List ℕ) → Option (List ℕ) → Type 0
BreaksOff call bytes old new = (named : Option ℕ) × (text : List ℕ) × IsAnswerTo call.style call.request bytes text named × AppendsFront old new text
