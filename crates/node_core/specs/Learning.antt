-- What a voter doesn't know yet.
use Rattle.std.specs.Prelude.{◌≡◌, ℕ, List, None}
use Rattle.types_core.specs.Subject.{Statement}
use Rattle.messages_certificates.specs.declared.artifact.Artifact.{Artifact}
use Rattle.messages_certificates.specs.declared.certificate.Certificate.{Certificate}
use Rattle.messages_certificates.specs.declared.certificate.Certificate.TheVariants as certificate
use Rattle.messages_certificates.specs.Artifact.{certificate_artifact}
use Rattle.messages_certificates.specs.Certificate.{certificate_statement}
use Rattle.simplex_record.specs.Record.{Entry, HasTaken, entry}
use Rattle.simplex_record.specs.Rules.{AreAlike, MayFollow}
use Rattle.voter_history.specs.Past as past
use Rattle.voter_history.specs.History.{Setup, Point, nullification, seen}

-- of a certificate's kind and view the voter knows none
abbrev pub IsUnknown : {S D P G C : Type 0} → Setup S C → List (Point S D P G C) → Certificate S D P G C → Type 0
IsUnknown s h (certificate.Notarization c) = past.notarization (seen s h c.proposal.round.view) ≡ None
IsUnknown s h (certificate.Nullification c) = nullification s h c.round.view ≡ None
IsUnknown s h (certificate.Finalization c) = past.finalization (seen s h c.proposal.round.view) ≡ None

-- of an artifact's kind and view it knows none, where it is a certificate
abbrev pub IsNew : {S D P G C : Type 0} → Setup S C → List (Point S D P G C) → Artifact S D P G C → Type 0
IsNew {S} {D} {P} {G} {C} s h x = (c : Certificate S D P G C) → x ≡ certificate_artifact c → IsUnknown s h c

-- where a certificate may be recorded, none like it is
pub first_of : {S D P G C : Type 0} (length : ℕ) (before : List (Entry D)) (c : Certificate S D P G C) → MayFollow length before (entry (certificate_artifact c)) → (y : Statement D) → AreAlike (certificate_statement c) y → HasTaken before y → ⊥
first_of length before (certificate.Notarization c) follows = follows.first
first_of length before (certificate.Nullification c) follows = follows.first
first_of length before (certificate.Finalization c) follows = follows.first
