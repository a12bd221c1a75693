-- The node while a point is taken that is recorded already.
use Rattle.std.specs.Prelude.{◌∷◌}
use Rattle.types_core.specs.declared.scheme.Scheme.{Ghosts}
use Rattle.types_terms.specs.declared.elector.Elector as elector
use Rattle.journal_single.specs.declared.disk.Disk as disk
use Rattle.node_record.specs.declared.ledger.Ledger.{Ledger}
use Rattle.node_record.specs.Ledger.{KeepsRecord}
use Rattle.simplex_member.specs.Packet.{Formats}
use Rattle.simplex_member.specs.Point.{Point, History}
use Rattle.simplex_member.specs.Recorded.{kept_of}
use Rattle.simplex_member.specs.Setup.{Setup, owner_of}
use Rattle.node_core.specs.declared.node_state.Core.{Core}
use Rattle.node_core.specs.Keeps.{CoreKeeps}

module _ {S L D P G C K : Type 0} (g : Ghosts S D P G C) (e : elector.Ghosts L S D P G C) (k : disk.Ghosts K) (f : Formats S D P G C) (s : Setup S D C) where
  -- the node stands where this history leads, but for its record, which is a point ahead
  pub record RecordIsAhead (node : Core S L D K P G C) (h : History S D P G C) (p : Point S D P G C) : Type 0 where
    pub ledger : Ledger S D K P G C
    pub keeps : CoreKeeps g e k f s (record node { ledger = ledger }) h
    pub ahead : KeepsRecord k f.artifact (owner_of s) node.ledger (kept_of s.voter.length (p ∷ h))
