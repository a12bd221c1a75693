-- What a rewrite of its record makes of a node.
use Rattle.std.specs.Prelude.{◌≡◌, ◌⊎◌, ◌∷◌, ℕ, List}
use Rattle.types_core.specs.declared.scheme.Scheme.{Ghosts}
use Rattle.messages_certificates.specs.ProposalCertificate.{Finalization}
use Rattle.types_terms.specs.declared.elector.Elector as elector
use Rattle.journal_single.specs.declared.disk.Disk as disk
use Rattle.simplex_member.specs.Member.{IsRewriting, IsRewritten, NoneDue, ReadsAsKept}
use Rattle.simplex_member.specs.Packet.{Formats}
use Rattle.simplex_member.specs.Point.{Rewrote, History}
use Rattle.simplex_member.specs.Setup.{Setup}
use Rattle.node_core.specs.declared.node_state.Core.{Core}
use Rattle.node_core.specs.Keeps.{CoreKeeps}

module _ {S D P G C : Type 0} (g : Ghosts S D P G C) (f : Formats S D P G C) (s : Setup S D C) where
  -- what is read is what a rewrite may leave: the record before it, or the one behind it
  abbrev pub IsLeftByRewrite : History S D P G C → List (List ℕ) → Type 0
  IsLeftByRewrite h read = ReadsAsKept g f s read h ⊎ ((c : Finalization S D P G C) × IsRewriting g f s h c read)

module _ {S L D P G C K : Type 0} (g : Ghosts S D P G C) (e : elector.Ghosts L S D P G C) (k : disk.Ghosts K) (f : Formats S D P G C) (s : Setup S D C) where
  -- the record was rewritten, so that it begins behind this view: the node stands behind that, and where nothing was due, nothing is
  pub record CoreIsRewritten (new : Core S L D K P G C) (h : History S D P G C) (view : ℕ) : Type 0 where
    pub floor : Finalization S D P G C
    pub at : floor.proposal.round.view ≡ view
    pub rewritten : NoneDue g f s h → IsRewritten g f s h floor
    pub keeps : CoreKeeps g e k f s new (Rewrote floor ∷ h)
