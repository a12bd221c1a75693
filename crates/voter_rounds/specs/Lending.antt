-- What becomes of the rounds where one of them is lent.
use Rattle.std.specs.Prelude.{◌≡◌, ◌==◌, ℕ, false, List, Option, Result, OnSome, ⊤}
use Rattle.std.specs.Borrow.{Fml, LendsSo, LendsSoOk, MutBor, RattleType}
use Rattle.simplex_round.specs.contracts.round.Round as lent
use Rattle.simplex_round.specs.declared.round.Round.{Round}
use Rattle.voter_history.specs.Past.{Item}
use Rattle.simplex_round.specs.Round as one
use Rattle.voter_rounds.specs.contracts.rounds.Rounds.{the_row}
use Rattle.voter_rounds.specs.declared.rounds.Rounds.{Rounds}
use Rattle.voter_rounds.specs.Rounds.{AtEach, Common, IsTracked, Keep, setup_of}

module _ {S D P G C : Type 0} where
  -- of each view but this one the same is known as before
  pub record AreElsewhere (view : ℕ) (led led' : ℕ → Option ℕ) (past past' : ℕ → List (Item S D P G C)) : Type 0 where
    pub at : (u : ℕ) → (view == u) ≡ false → (led' u ≡ led u) × (past' u ≡ past u)

  -- whatever the rounds kept before, once the round of this view is given back they keep what says the same elsewhere, and of this view
  -- something, which leads to where its round was left
  pub record Follows (key_of : S → ℕ → P) (before : Rounds S D P G C) (view : ℕ) (after : Rounds S D P G C) (left : Round S D P G C) : Type 0 where
    pub keeps : (s : Common S) (led led' : ℕ → Option ℕ) (past past' : ℕ → List (Item S D P G C)) → Keep key_of s before led past
        → AreElsewhere view led led' past past' → one.Keeps key_of (setup_of s view) left (led' view) (past' view) → IsTracked (past' view) (led' view) → Keep key_of s after led' past'

module _ (S D P G C : RattleType) (key_of : S.Denot → ℕ → P.Denot) (rounds : MutBor (Rounds S.Denot D.Denot P.Denot G.Denot C.Denot)) (view : ℕ) where
  -- the round of a view is lent, which may be a fresh one
  abbrev pub LendsOpen : {E : Type 0} → Result (MutBor (Round S.Denot D.Denot P.Denot G.Denot C.Denot)) E → Fml
  LendsOpen round = LendsSoOk (the_row S D P G C) (lent.the_row S D P G C) rounds round (Follows key_of rounds.now view) (λ after. ⊤)

  -- the round of a view is lent, where it has one; else the rounds keep what they kept
  abbrev pub LendsKnown : Option (MutBor (Round S.Denot D.Denot P.Denot G.Denot C.Denot)) → Fml
  LendsKnown round = LendsSo (the_row S D P G C) (lent.the_row S D P G C) rounds round (λ after left. OnSome round (Follows key_of rounds.now view after left))
      (λ after. AtEach key_of rounds.now (λ s led past. Keep key_of s after led past))
