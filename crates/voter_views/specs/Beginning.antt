-- Where the member's record begins, by what happened to its voter.
use Rattle.std.specs.Prelude.{◌≡◌, Bool, true, false, List}
use Rattle.messages_certificates.specs.declared.artifact.Artifact.{Artifact}
use Rattle.messages_certificates.specs.declared.artifact.Artifact.TheVariants as artifact
use Rattle.voter_history.specs.History.{Setup, Point, floor, is_blank}
use Rattle.voter_views.specs.declared.beginning.Beginning.{Beginning}

module _ {S D P G C : Type 0} where
  -- it is known behind which view, and whether nothing was recorded yet
  abbrev pub IsBegun : Setup S C → Beginning → List (Point S D P G C) → Type 0
  IsBegun s b h = (b.floor ≡ floor s h) × (b.is_blank ≡ is_blank s h)

  -- an artifact of the record is a vote: it is told where it is recalled, all else where it is given
  abbrev pub tells : Artifact S D P G C → Bool
  tells (artifact.Notarize v) = true
  tells (artifact.Notarization c) = false
  tells (artifact.Certification round ok) = false
  tells (artifact.Nullify v) = true
  tells (artifact.Nullification c) = false
  tells (artifact.Finalize v) = true
  tells (artifact.Finalization c) = false
