-- What the program writes for what it reads.
use Rattle.std.specs.Prelude.{◌≡◌, ℕ, List, ◌++◌, length, codes, Option, Result}
use Rattle.std.specs.Ordering.{nat_cmp}
use Rattle.std.specs.Cmp.Lexicographic.{slice_cmp, pointwise}
use Rattle.std.specs.Prelude.{◌==◌}
use Rattle.std.specs.Io.KnownBytes.{Appends}
use Rattle.types_core.specs.declared.attestation.Attestation.{Attestation}
use Rattle.types_codec.specs.Codec.{Readable, bytes_at}
use Rattle.types_codec.specs.declared.codec.CodecError.{CodecError}
use Rattle.simplex_types.specs.Plain.{Committee, Attests}
use Rattle.simplex_messages.specs.declared.activity.Activity.{Activity}
use Rattle.simplex_types.specs.AttestationList.{list_fits, list_within, list_spelling, list_at}
use Rattle.simplex_messages.specs.Activity.{activity_fits, activity_within, activity_spelling, activity_at}
use Rattle.simplex_rules.specs.Audit.{IsAudit}
use Rattle.cli_audit.specs.Lines.{lines_of}
use Rattle.cli_audit.specs.declared.input.InputError.{InputError}
use Rattle.cli_audit.specs.declared.input.InputError.TheVariants as unread
use Rattle.cli_audit.specs.declared.trouble.Trouble.{Trouble}
use Rattle.cli_audit.specs.declared.trouble.Trouble.TheVariants as trouble
use Rattle.types_codec.specs.Front.{AppendsFront}

-- reports of the plain scheme over SHA-256 digests
abbrev pub Report : Type 0
Report = Activity Committee (List ℕ) ℕ (List ℕ) (List (Attestation (List ℕ)))

-- which reports can be read, how a report is spelled, and what bytes read as, in a committee of so many
abbrev pub IsReport : ℕ → Report → Type 0
IsReport count = Readable (activity_fits (pointwise ◌==◌) (λ d. length d ≡ 32) (λ s. length s ≡ 32) (list_fits (λ s. length s ≡ 32))) (activity_within (list_within count))

abbrev pub report_spelling : Report → List ℕ
report_spelling = activity_spelling (λ d. d) (λ s. s) (list_spelling (λ s. s))

abbrev pub report_at : ℕ → List ℕ → Result (Report × List ℕ) CodecError
report_at count = activity_at (pointwise ◌==◌) (bytes_at 32) (bytes_at 32) (list_at (bytes_at 32) count)

-- the evidence and the place are those of the audit of these bytes: whose signatures count is said by the plain scheme of so many
-- members over the base `simplex`
abbrev pub IsPlainAudit : ℕ → List ℕ → List Report → Option ℕ → Type 0
IsPlainAudit count bytes evidence fault = IsAudit (λ c. c) (Attests (λ d. d) (codes "simplex") count) (slice_cmp nat_cmp) (IsReport count) report_spelling (report_at count) bytes evidence fault

-- the text is the lines of the audit of these bytes, which named this place
pub record IsAnswer (count : ℕ) (bytes : List ℕ) (fault : Option ℕ) (text : List ℕ) : Type 0 where
  pub evidence : List Report
  pub audit : IsPlainAudit count bytes evidence fault
  pub text_is : text ≡ lines_of evidence fault

-- the lines of the audit of these bytes, which named this place, were written
abbrev pub AuditsOver : ℕ → List ℕ → Option ℕ → Option (List ℕ) → Option (List ℕ) → Type 0
AuditsOver count bytes fault old new = (text : List ℕ) × IsAnswer count bytes fault text × Appends old new text

-- a front of the lines of the audit of these bytes was written
abbrev pub BreaksOff : ℕ → List ℕ → Option (List ℕ) → Option (List ℕ) → Type 0
BreaksOff count bytes old new = (fault : Option ℕ) × (text : List ℕ) × IsAnswer count bytes fault text × AppendsFront old new text

-- the trouble by whose name a caller is told why the input was not read to its end
abbrev pub trouble_of : InputError → Trouble
trouble_of unread.Memory = trouble.Memory
trouble_of unread.Device = trouble.Device
