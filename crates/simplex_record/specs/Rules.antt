-- What may stand behind a record: one rule a line.
use Rattle.std.specs.Prelude.{◌≡◌, ◌⊎◌, ℕ, ◌≤◌, ◌<◌, Bool, true, List, ⊤}
use Rattle.types_core.specs.declared.position.Round.{Round}
use Rattle.types_core.specs.declared.proposal.Proposal.{Proposal}
use Rattle.types_core.specs.Positions.{term_start, term_end, HasRoom}
use Rattle.types_core.specs.Subject.{Statement, notarize, nullify, finalize, statement_round}
use Rattle.simplex_record.specs.Record.{Entry, voted, taken, judged, HasVoted, HasTaken, HasJudged, last_finalized, current_view, IsCovered, floor}

module _ {D : Type 0} where
  -- two statements are of one kind and view
  abbrev pub AreAlike : Statement D → Statement D → Type 0
  AreAlike (notarize p) (notarize q) = p.round.view ≡ q.round.view
  AreAlike (notarize p) (nullify r) = ⊥
  AreAlike (notarize p) (finalize q) = ⊥
  AreAlike (nullify r) (notarize q) = ⊥
  AreAlike (nullify r) (nullify t) = r.view ≡ t.view
  AreAlike (nullify r) (finalize q) = ⊥
  AreAlike (finalize p) (notarize q) = ⊥
  AreAlike (finalize p) (nullify r) = ⊥
  AreAlike (finalize p) (finalize q) = p.round.view ≡ q.round.view

  -- a vote for the one stands in the way of a vote for the other: they are of one kind and view, or of one view one gives
  -- it up and the other finalizes it
  abbrev pub StandsInTheWay : Statement D → Statement D → Type 0
  StandsInTheWay (nullify r) (finalize q) = r.view ≡ q.round.view
  StandsInTheWay (finalize p) (nullify r) = p.round.view ≡ r.view
  StandsInTheWay s t = AreAlike s t

  -- what a statement names as a parent lies below its view
  abbrev pub HasParentBelow : Statement D → Type 0
  HasParentBelow (notarize p) = p.parent < p.round.view
  HasParentBelow (nullify r) = ⊤
  HasParentBelow (finalize p) = p.parent < p.round.view

  -- no vote of the statement's kind and view is recorded
  abbrev pub HasNoVoteLike : List (Entry D) → Statement D → Type 0
  HasNoVoteLike before s = (t : Statement D) → AreAlike s t → HasVoted before t → ⊥

  -- each recorded nullify of an earlier view of the term lies at or below the last finalized view
  abbrev pub HasNoOpenNullify : ℕ → List (Entry D) → ℕ → Type 0
  HasNoOpenNullify views before view = (r : Round) → term_start views view ≤ r.view → r.view < view → HasVoted before (nullify r)
      → r.view ≤ last_finalized before

  -- the member may vote to notarize the proposal
  pub record MayNotarize (views : ℕ) (before : List (Entry D)) (p : Proposal D) : Type 0 where
    pub room : HasRoom views p.round.view
    pub behind : floor before < p.round.view
    pub first : HasNoVoteLike before (notarize p)
    pub not_given_up : HasNoVoteLike before (nullify p.round)
    pub parent_below : p.parent < p.round.view
    pub covered : (view : ℕ) → p.parent < view → view < p.round.view → floor before < view → IsCovered views before view

  -- it may vote to nullify the round
  pub record MayNullify (views : ℕ) (before : List (Entry D)) (r : Round) : Type 0 where
    pub room : HasRoom views r.view
    pub current : r.view ≡ current_view views before
    pub first : HasNoVoteLike before (nullify r)
    pub not_finalized : (p : Proposal D) → p.round.view ≡ r.view → HasVoted before (finalize p) → ⊥

  -- it may vote to finalize the proposal
  pub record MayFinalize (views : ℕ) (before : List (Entry D)) (p : Proposal D) : Type 0 where
    pub above : last_finalized before < p.round.view
    pub not_given_up : HasNoVoteLike before (nullify p.round)
    pub first : HasNoVoteLike before (finalize p)
    pub notarized : HasTaken before (notarize p)
    pub certified : (r : Round) × (r.view ≡ p.round.view) × HasJudged before r true
    pub no_other : (q : Proposal D) → q.round.view ≡ p.round.view → HasTaken before (notarize q) ⊎ HasTaken before (finalize q) → q ≡ p
    pub healed : HasNoOpenNullify views before p.round.view

  -- it may take a certificate for the statement
  pub record MayTake (views : ℕ) (before : List (Entry D)) (s : Statement D) : Type 0 where
    pub from_one : 1 ≤ (statement_round s).view
    pub room : HasRoom views (statement_round s).view
    pub parent_below : HasParentBelow s
    pub first : (t : Statement D) → AreAlike s t → HasTaken before t → ⊥

  -- it may record a verdict on the round
  pub record MayJudge (before : List (Entry D)) (r : Round) : Type 0 where
    pub notarized : (p : Proposal D) × (p.round ≡ r) × HasTaken before (notarize p)
    pub first : (t : Round) (verdict : Bool) → t.view ≡ r.view → HasJudged before t verdict → ⊥

  -- an entry may stand behind these
  abbrev pub MayFollow : ℕ → List (Entry D) → Entry D → Type 0
  MayFollow views before (voted (notarize p)) = MayNotarize views before p
  MayFollow views before (voted (nullify r)) = MayNullify views before r
  MayFollow views before (voted (finalize p)) = MayFinalize views before p
  MayFollow views before (taken s) = MayTake views before s
  MayFollow views before (judged r verdict) = MayJudge before r

  -- the view that an entry speaks of has room
  abbrev pub LeavesRoom : ℕ → Entry D → Type 0
  LeavesRoom views (voted s) = HasRoom views (statement_round s).view
  LeavesRoom views (taken s) = HasRoom views (statement_round s).view
  LeavesRoom views (judged r verdict) = HasRoom views r.view

  -- an entry stands in its place by all that was ever recorded before it, as far as agreement asks: a vote by the rules on
  -- votes, a certificate where its parent lies below, a verdict anywhere
  abbrev pub StandsByVotes : ℕ → List (Entry D) → Entry D → Type 0
  StandsByVotes views ever (voted (notarize p)) = MayNotarize views ever p
  StandsByVotes views ever (voted (nullify r)) = MayNullify views ever r
  StandsByVotes views ever (voted (finalize p)) = MayFinalize views ever p
  StandsByVotes views ever (taken s) = HasParentBelow s
  StandsByVotes views ever (judged r verdict) = ⊤

  -- up to which view an entry reaches: a nullification up to the end of its term, all else up to its own
  abbrev pub reach : ℕ → Entry D → ℕ
  reach views (voted s) = (statement_round s).view
  reach views (taken (notarize p)) = p.round.view
  reach views (taken (nullify r)) = term_end views r.view
  reach views (taken (finalize p)) = p.round.view
  reach views (judged r verdict) = r.view

  -- a member that keeps so much of all that it ever recorded may vote to notarize the proposal: by all of that, from its
  -- floor on, and of a view behind the floor of what is kept
  pub record MayEverNotarize (views : ℕ) (ever kept : List (Entry D)) (p : Proposal D) : Type 0 where
    pub may : MayNotarize views ever p
    pub from_floor : floor ever ≤ p.parent
    pub behind_kept : floor kept < p.round.view

  -- an entry may stand behind all these that were ever recorded, where so much is kept: the rules on votes ask all that was
  -- ever recorded, those on certificates and verdicts what is kept
  abbrev pub MayEverFollow : ℕ → List (Entry D) → List (Entry D) → Entry D → Type 0
  MayEverFollow views ever kept (voted (notarize p)) = MayEverNotarize views ever kept p
  MayEverFollow views ever kept (voted (nullify r)) = MayNullify views ever r
  MayEverFollow views ever kept (voted (finalize p)) = MayFinalize views ever p
  MayEverFollow views ever kept (taken s) = MayTake views kept s
  MayEverFollow views ever kept (judged r verdict) = MayJudge kept r
