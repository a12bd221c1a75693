-- What is kept of a record while it is checked.
use Rattle.std.specs.Prelude.{◌≡◌, ◌↔◌, ◌≤◌, ℕ, Bool, List, length, Option, is_some, MatchOption}
use Rattle.std.specs.BTreeMap.{BTreeMap}
use Rattle.std.specs.BTreeSet.{BTreeSet}
use Rattle.std.specs.declared.cmp.Reverse.{Reverse}
use Rattle.types_core.specs.declared.position.Round.{Round}
use Rattle.types_core.specs.declared.proposal.Proposal.{Proposal}
use Rattle.types_core.specs.LatestFirst.{holds, stored}
use Rattle.types_core.specs.Positions.{HasRoom}
use Rattle.types_core.specs.Subject.{Statement, notarize, nullify, statement_round}
use Rattle.simplex_record.specs.declared.certificates.Certificates.{Certificates}
use Rattle.simplex_record.specs.declared.numbering.Numbering.{Numbering}
use Rattle.simplex_record.specs.declared.standing.Standing.{Standing}
use Rattle.simplex_record.specs.declared.votes.Votes.{Votes}
use Rattle.simplex_record.specs.Coverage as coverage
use Rattle.simplex_record.specs.Record.{Entry, HasVoted, HasTaken, HasJudged, IsLastNullify, IsCovered, last_finalized, current_view, floor}
use Rattle.simplex_record.specs.Told.{told, notarized_at, nullified_at, finalized_at, vote_in, certificate_in, verdict_at}

module _ {D Y : Type 0} where
  -- the set has just the views of which f gives something in the entries
  abbrev pub KeepsSet : (ℕ → Entry D → Option Y) → BTreeSet (Reverse ℕ) → List (Entry D) → Type 0
  KeepsSet f set before = (view : ℕ) → holds set view ≡ is_some (told (f view) before)

  -- the map has of each view what f first gives in the entries
  abbrev pub KeepsMap : (ℕ → Entry D → Option Y) → BTreeMap (Reverse ℕ) Y → List (Entry D) → Type 0
  KeepsMap f map before = (view : ℕ) → stored map view ≡ told (f view) before

module _ {D : Type 0} where
  -- the views of the member's votes are kept
  pub record KeepsVotes (votes : Votes) (before : List (Entry D)) : Type 0 where
    pub notarizes : KeepsSet (λ view. vote_in (notarized_at view)) votes.notarizes before
    pub nullifies : KeepsSet (λ view. vote_in (nullified_at view)) votes.nullifies before
    pub finalizes : KeepsSet (λ view. vote_in (finalized_at view)) votes.finalizes before

  -- what it has certificates for is kept: of each kind and view one, and each with room
  pub record KeepsCertificates (views : ℕ) (certificates : Certificates D) (before : List (Entry D)) : Type 0 where
    pub notarizations : KeepsMap (λ view. certificate_in (notarized_at view)) certificates.notarizations before
    pub nullifications : KeepsSet (λ view. certificate_in (nullified_at view)) certificates.nullifications before
    pub finalizations : KeepsSet (λ view. certificate_in (finalized_at view)) certificates.finalizations before
    pub covered : (view : ℕ) → 1 ≤ view → coverage.IsCovered certificates.covered view ↔ IsCovered views before view
    pub one_notarized : (p q : Proposal D) → p.round.view ≡ q.round.view → HasTaken before (notarize p) → HasTaken before (notarize q) → p ≡ q
    pub room : (s : Statement D) → HasTaken before s → HasRoom views (statement_round s).view

  -- the verdicts are kept, one of each view
  pub record KeepsVerdicts (map : BTreeMap (Reverse ℕ) Bool) (before : List (Entry D)) : Type 0 where
    pub verdicts : KeepsMap verdict_at map before
    pub one_verdict : (r t : Round) (this that : Bool) → r.view ≡ t.view → HasJudged before r this → HasJudged before t that → this ≡ that

  -- the place of the last own nullify, or that there is none
  abbrev pub TellsLastNullify : List (Entry D) → Option ℕ → Type 0
  TellsLastNullify before place = MatchOption place ((r : Round) → HasVoted before (nullify r) → ⊥) (IsLastNullify before)

  -- how many entries there are is kept, where the last own nullify stands, and the floor
  pub record KeepsNumbering (numbering : Numbering) (before : List (Entry D)) : Type 0 where
    pub count : numbering.count ≡ length before
    pub last_nullify : TellsLastNullify before numbering.last_nullify
    pub floor_is : numbering.floor ≡ floor before

  -- what is kept of each view is what the entries tell
  pub record KeepsViews (views : ℕ) (standing : Standing D) (before : List (Entry D)) : Type 0 where
    pub votes : KeepsVotes standing.votes before
    pub certificates : KeepsCertificates views standing.certificates before
    pub verdicts : KeepsVerdicts standing.verdicts before
    pub last_finalized : standing.last_finalized ≡ last_finalized before
    pub current_view : standing.current_view ≡ current_view views before

  -- what is kept of a record is what its entries tell
  pub record Keeps (views : ℕ) (standing : Standing D) (before : List (Entry D)) : Type 0 where
    pub by_view : KeepsViews views standing before
    pub numbering : KeepsNumbering standing.numbering before
