-- What is kept of all that was ever recorded, and that it tells the same.
use Rattle.std.specs.Prelude.{◌≡◌, ℕ, ◌≤◌, ◌<◌, List, [], Contains, ⊤}
use Rattle.types_core.specs.Subject.{Statement, notarize}
use Rattle.messages_certificates.specs.declared.artifact.Artifact.{Artifact}
use Rattle.simplex_record.specs.declared.owner.Owner.{Owner}
use Rattle.simplex_record.specs.Record.{Entry, voted, judged, entries, last_finalized, current_view, floor}
use Rattle.simplex_record.specs.Lawful.{IsRecorded}
use Rattle.simplex_record.specs.Rules.{reach}

module _ {D : Type 0} where
  -- what is kept stands for all that was ever recorded: it was recorded, all that reaches above its floor is there, and
  -- both are of one current view and one last finalized view
  pub record StandsForAll (views : ℕ) (ever kept : List (Entry D)) : Type 0 where
    pub within : (e : Entry D) → Contains kept e → Contains ever e
    pub above : (e : Entry D) → Contains ever e → floor kept < reach views e → Contains kept e
    pub floors : floor ever ≤ floor kept
    pub final : last_finalized kept ≡ last_finalized ever
    pub current : current_view views kept ≡ current_view views ever
    pub nothing : kept ≡ [] → ever ≡ []

  -- an entry's parent lies at or above this view, where it is a vote to notarize
  abbrev pub IsFrom : ℕ → Entry D → Type 0
  IsFrom low (voted (notarize p)) = low ≤ p.parent
  IsFrom low e = ⊤

  -- an entry's view lies behind this one, where it is a vote to notarize or a verdict
  abbrev pub IsBehind : ℕ → Entry D → Type 0
  IsBehind low (voted (notarize p)) = low < p.round.view
  IsBehind low (judged r verdict) = low < r.view
  IsBehind low e = ⊤

module _ {S D P G C : Type 0} (attests : ℕ → Statement D → G → Type 0) (certifies : Statement D → C → Type 0) (owner : Owner) where
  -- the three lists of a member: all that it ever recorded; what its opening found and recorded since, whatever a rewrite
  -- dropped; and what its record has since the last rewrite
  pub record AreOfOneMember (ever opened kept : List (Artifact S D P G C)) : Type 0 where
    pub opened_is : IsRecorded attests certifies owner ever opened
    pub kept_is : IsRecorded attests certifies owner ever kept
    pub within : (e : Entry D) → Contains (entries kept) e → Contains (entries opened) e
