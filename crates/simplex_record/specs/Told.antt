-- What a record tells of one view, kind by kind.
use Rattle.std.specs.Prelude.{◌==◌, ℕ, Bool, List, [], ◌∷◌, Option, Some, None, if◌then◌else◌}
use Rattle.std.specs.Option.{option_or}
use Rattle.types_core.specs.declared.position.Round.{Round}
use Rattle.types_core.specs.declared.proposal.Proposal.{Proposal}
use Rattle.types_core.specs.Subject.{Statement, notarize, nullify, finalize}
use Rattle.simplex_record.specs.Record.{Entry, voted, taken, judged}

-- the first that f gives of a list
abbrev pub told : {X Y : Type 0} → (X → Option Y) → List X → Option Y
told f [] = None
told f (x ∷ xs) = option_or (f x) (told f xs)

module _ {D : Type 0} where
  -- the proposal of a view that a statement notarizes
  abbrev pub notarized_at : ℕ → Statement D → Option (Proposal D)
  notarized_at view (notarize p) = (if p.round.view == view then Some p else None)
  notarized_at view (nullify r) = None
  notarized_at view (finalize p) = None

  -- the round of a view that a statement nullifies
  abbrev pub nullified_at : ℕ → Statement D → Option Round
  nullified_at view (notarize p) = None
  nullified_at view (nullify r) = (if r.view == view then Some r else None)
  nullified_at view (finalize p) = None

  -- the proposal of a view that a statement finalizes
  abbrev pub finalized_at : ℕ → Statement D → Option (Proposal D)
  finalized_at view (notarize p) = None
  finalized_at view (nullify r) = None
  finalized_at view (finalize p) = (if p.round.view == view then Some p else None)

  -- what f gives of the statement that an entry votes for
  abbrev pub vote_in : {Y : Type 0} → (Statement D → Option Y) → Entry D → Option Y
  vote_in f (voted s) = f s
  vote_in f (taken s) = None
  vote_in f (judged r verdict) = None

  -- what f gives of the statement that an entry has a certificate for
  abbrev pub certificate_in : {Y : Type 0} → (Statement D → Option Y) → Entry D → Option Y
  certificate_in f (voted s) = None
  certificate_in f (taken s) = f s
  certificate_in f (judged r verdict) = None

  -- the verdict on a round of a view
  abbrev pub verdict_at : ℕ → Entry D → Option Bool
  verdict_at view (voted s) = None
  verdict_at view (taken s) = None
  verdict_at view (judged r verdict) = (if r.view == view then Some verdict else None)
