-- What is done when something is taken.
use Rattle.std.specs.Prelude.{◌++◌, ◌∷◌, ◌⊎◌, ℕ, List}
use Rattle.types_core.specs.declared.scheme.Scheme.{Ghosts}
use Rattle.types_terms.specs.declared.elector.Elector as elector
use Rattle.journal_single.specs.declared.disk.Disk as disk
use Rattle.simplex_member.specs.declared.action.Action.{Action}
use Rattle.simplex_member.specs.Allowed.{Allowed}
use Rattle.simplex_member.specs.Deeds.{Deed, AreActions, deeds_of}
use Rattle.simplex_member.specs.Member.{ReadsAsKept}
use Rattle.simplex_member.specs.Packet.{Formats}
use Rattle.simplex_member.specs.Point.{Point, History}
use Rattle.simplex_member.specs.Setup.{Setup}
use Rattle.node_core.specs.declared.node_state.Core.{Core}
use Rattle.node_core.specs.Keeps.{CoreKeeps}

module _ {S L D P G C K : Type 0} (g : Ghosts S D P G C) (e : elector.Ghosts L S D P G C) (k : disk.Ghosts K) (f : Formats S D P G C) (s : Setup S D C) where
  -- a point was taken: the node stands behind it, which was allowed, and what it hands out is behind the actions before
  pub record IsTaken (new : Core S L D K P G C) (h : History S D P G C) (p : Point S D P G C) (before after : List (Action S D P G C)) : Type 0 where
    pub keeps : CoreKeeps g e k f s new (p ∷ h)
    pub acts : (deeds : List (Deed S D P G C)) → AreActions f before deeds → AreActions f after (deeds ++ deeds_of g f s h p)

module _ {S D P G C : Type 0} (g : Ghosts S D P G C) (f : Formats S D P G C) (s : Setup S D C) where
  -- what is read is what taking a point may leave: the record before it, or the one behind it
  abbrev pub IsLeftBy : History S D P G C → Point S D P G C → List (List ℕ) → Type 0
  IsLeftBy h p read = ReadsAsKept g f s read h ⊎ (Allowed g f s h p × ReadsAsKept g f s read (p ∷ h))
