-- A lawful record, and one more artifact behind it, or none.
use Rattle.std.proofs.Common.{List, Option, Some, None}
use Rattle.std.specs.Prelude.{IfSome}
use Rattle.types_core.specs.declared.scheme.Scheme.{Ghosts}
use Rattle.messages_certificates.specs.declared.artifact.Artifact.{Artifact}
use Rattle.simplex_record.specs.declared.owner.Owner.{Owner}
use Rattle.simplex_record.specs.Lawful.{Fits, IsLawful}
use Rattle.simplex_member.specs.Laws.{RecordLaws}
use Rattle.simplex_member.specs.Recorded.{put_behind}

-- a lawful record stays so with one more artifact that fits, or none
pub lawful-put : {S D P G C : Type 0} (g : Ghosts S D P G C) → RecordLaws g → (own : S) (owner : Owner) (artifacts : List (Artifact S D P G C)) (o : Option (Artifact S D P G C)) → IsLawful (g.attests own) (g.certifies own) owner artifacts
    → IfSome o (Fits (g.attests own) (g.certifies own) owner artifacts) → IsLawful (g.attests own) (g.certifies own) owner (put_behind artifacts o)
lawful-put g grows own owner artifacts None lawful fits = lawful
lawful-put g grows own owner artifacts (Some x) lawful fits = grows.further own owner artifacts x lawful fits
