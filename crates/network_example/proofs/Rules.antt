-- What may stand behind a record, entry by entry: what the rules on records ask of each.
use Rattle.std.proofs.Common.{◌≡◌, ◌≢◌, ◌⊎◌, ⊎_elim, ℕ, Bool, List, [], ◌∷◌}
use Rattle.std.specs.Prelude.{All, ⊤}
use Rattle.std.proofs.lemmas.List.Elements.{All-cons, All-contains, All-nil}
use Rattle.types_core.specs.declared.position.Round.{Round}
use Rattle.types_core.specs.declared.proposal.Proposal.{Proposal}
use Rattle.types_core.specs.Subject.{Statement, notarize, finalize}
use Rattle.simplex_record.specs.Record.{Entry, HasJudged, HasTaken, judged, taken, voted}
use Rattle.simplex_record.specs.Rules.{AreAlike, HasNoVoteLike}

module _ {X : Type 0} (P : X → Type 0) where
  -- it holds of each of these
  abbrev pub Each : List X → Type 0
  Each [] = ⊤
  Each (x ∷ xs) = P x × Each xs

  pub each : (xs : List X) → Each xs → All P xs
  each [] all = All-nil P
  each (x ∷ xs) all = All-cons P x xs all.0 (each xs all.1)

module _ {D : Type 0} where
  -- an entry is no vote like this
  abbrev pub IsNoVote : Statement D → Entry D → Type 0
  IsNoVote s (voted t) = AreAlike s t → ⊥
  IsNoVote s e = ⊤

  pub no-vote : (before : List (Entry D)) (s : Statement D) → Each (IsNoVote s) before → HasNoVoteLike before s
  no-vote before s all t alike here = All-contains (IsNoVote s) before (voted t) (each (IsNoVote s) before all) here alike

  -- nor a certificate
  abbrev pub IsNotTaken : Statement D → Entry D → Type 0
  IsNotTaken s (taken t) = AreAlike s t → ⊥
  IsNotTaken s e = ⊤

  pub not-taken : (before : List (Entry D)) (s : Statement D) → Each (IsNotTaken s) before → (t : Statement D) → AreAlike s t → HasTaken before t → ⊥
  not-taken before s all t alike here = All-contains (IsNotTaken s) before (taken t) (each (IsNotTaken s) before all) here alike

  -- nor a verdict on the view
  abbrev pub IsNoVerdict : ℕ → Entry D → Type 0
  IsNoVerdict view (judged r ok) = r.view ≢ view
  IsNoVerdict view e = ⊤

  pub no-verdict : (before : List (Entry D)) (view : ℕ) → Each (IsNoVerdict view) before → (r : Round) (ok : Bool) → r.view ≡ view → HasJudged before r ok → ⊥
  no-verdict before view all r ok is here = All-contains (IsNoVerdict view) before (judged r ok) (each (IsNoVerdict view) before all) here is

  -- a certificate of the proposal's view is for it
  abbrev pub IsForOne : Proposal D → Entry D → Type 0
  IsForOne p (taken (notarize q)) = q.round.view ≡ p.round.view → q ≡ p
  IsForOne p (taken (finalize q)) = q.round.view ≡ p.round.view → q ≡ p
  IsForOne p e = ⊤

  pub for-one : (before : List (Entry D)) (p : Proposal D) → Each (IsForOne p) before → (q : Proposal D) → q.round.view ≡ p.round.view
      → HasTaken before (notarize q) ⊎ HasTaken before (finalize q) → q ≡ p
  for-one before p all q is here = ⊎_elim
      (λ first. All-contains (IsForOne p) before (taken (notarize q)) (each (IsForOne p) before all) first is)
      (λ second. All-contains (IsForOne p) before (taken (finalize q)) (each (IsForOne p) before all) second is)
      here
