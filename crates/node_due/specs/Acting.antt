-- What the node does of its own, act by act.
--
-- Each act takes points that are due, and the node stands behind them all; or nothing of its kind is due where it stands. A crash at any
-- moment leaves the record at one of these points.
use Rattle.std.specs.Prelude.{◌≡◌, ◌≢◌, ◌++◌, ℕ, Bool, true, List, [], All, Result, IfOk, OnOk}
use Rattle.types_core.specs.declared.scheme.Scheme.{Ghosts}
use Rattle.types_terms.specs.declared.elector.Elector as elector
use Rattle.journal_single.specs.declared.disk.Disk as disk
use Rattle.journal_books.specs.Books.{LeaveBook}
use Rattle.simplex_member.specs.declared.action.Action.{Action}
use Rattle.simplex_member.specs.declared.fault.NodeFault.{NodeFault}
use Rattle.simplex_member.specs.Deeds.{Deed, all_deeds}
use Rattle.simplex_member.specs.Member.{EndsWith, Goes, NoneDue, ReadsAsKept}
use Rattle.simplex_member.specs.Packet.{Formats}
use Rattle.simplex_member.specs.Point.{Point, AreActs, History}
use Rattle.simplex_member.specs.Setup.{Setup}
use Rattle.node_outbox.specs.Handing.{AddsDeeds}
use Rattle.node_requests.specs.declared.acted.Acted.{Acted}
use Rattle.node_requests.specs.declared.acted.Acted.TheVariants as came
use Rattle.node_core.specs.declared.node_state.Core.{Core}
use Rattle.node_core.specs.Keeps.{CoreKeeps, book_of}

module _ {S D P G C : Type 0} (g : Ghosts S D P G C) (f : Formats S D P G C) (s : Setup S D C) where
  -- what is read is what acts of the node's own may leave: the record at a point of theirs
  abbrev pub IsLeftByActs : History S D P G C → List (List ℕ) → Type 0
  IsLeftByActs h read = (points : List (Point S D P G C)) × (end : History S D P G C) × AreActs points × Goes g f s h points end × ReadsAsKept g f s read end

module _ {S L D P G C K : Type 0} (g : Ghosts S D P G C) (e : elector.Ghosts L S D P G C) (k : disk.Ghosts K) (f : Formats S D P G C) (s : Setup S D C) where
  -- these points of the node's own were gone through, each allowed behind those before it: the node stands at their end, and what they
  -- hand out is behind the actions before
  pub record HasActed (new : Core S L D K P G C) (h : History S D P G C) (points : List (Point S D P G C)) (end : History S D P G C) (before after : List (Action S D P G C)) : Type 0 where
    pub own : AreActs points
    pub goes : Goes g f s h points end
    pub keeps : CoreKeeps g e k f s new end
    pub acts : AddsDeeds f before after (all_deeds g f s h points)

  -- something that was due was done
  pub record DidSomething (new : Core S L D K P G C) (h : History S D P G C) (before after : List (Action S D P G C)) : Type 0 where
    pub points : List (Point S D P G C)
    pub end : History S D P G C
    pub acted : HasActed new h points end before after
    pub some : points ≢ []

  -- nothing of a kind was left to be done, behind points of this kind alone, which hand out nothing: this holds where they led
  pub record DidNothing (is_kind : Point S D P G C → Bool) (Done : History S D P G C → Type 0) (new : Core S L D K P G C) (h : History S D P G C) (before after : List (Action S D P G C)) : Type 0 where
    pub points : List (Point S D P G C)
    pub end : History S D P G C
    pub are_kind : All (λ p. is_kind p ≡ true) points
    pub acted : HasActed new h points end before after
    pub none : Done end

  -- what comes of an act
  abbrev pub ComesTo : (Point S D P G C → Bool) → (History S D P G C → Type 0) → Core S L D K P G C → History S D P G C → List (Action S D P G C) → List (Action S D P G C) → Acted → Type 0
  ComesTo is_kind Done new h before after came.Did = DidSomething new h before after
  ComesTo is_kind Done new h before after came.Nothing = DidNothing is_kind Done new h before after

  -- an act was tried: what came of it, and what a crash at any moment leaves
  pub record WasTried (is_kind : Point S D P G C → Bool) (Done : History S D P G C → Type 0) (old new : Core S L D K P G C) (h : History S D P G C) (before after : List (Action S D P G C)) (answer : Result Acted NodeFault) : Type 0 where
    pub ok : IfOk answer (ComesTo is_kind Done new h before after)
    pub any_moment : k.keeps → LeaveBook k (book_of old) (book_of new) (IsLeftByActs g f s h)

  -- all that was due was done, and when the node wants to be told the time is the last that is handed out
  pub record HasSettled (new : Core S L D K P G C) (h : History S D P G C) (before after : List (Action S D P G C)) : Type 0 where
    pub points : List (Point S D P G C)
    pub end : History S D P G C
    pub own : AreActs points
    pub goes : Goes g f s h points end
    pub none_due : NoneDue g f s end
    pub keeps : CoreKeeps g e k f s new end
    pub last : List (Deed S D P G C)
    pub wakes : EndsWith g f s end last
    pub acts : AddsDeeds f before after (all_deeds g f s h points ++ last)

  -- the node was to settle
  pub record WasSettled {A : Type 0} (old new : Core S L D K P G C) (h : History S D P G C) (before after : List (Action S D P G C)) (answer : Result A NodeFault) : Type 0 where
    pub ok : OnOk answer (HasSettled new h before after)
    pub any_moment : k.keeps → LeaveBook k (book_of old) (book_of new) (IsLeftByActs g f s h)
