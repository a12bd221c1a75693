-- What a status and a line say of how a program ended.
use Rattle.std.proofs.Common.{◌≡◌, ◌⊎◌, inl, inr, ℕ, sym, ◌∙◌, Ok, Err, arith}
use Rattle.std.specs.Prelude.{Result, IfErr, IfOk}
use Rattle.simplex_cli.specs.declared.ending.Ending.{Ending}
use Rattle.simplex_cli.specs.declared.ending.Ending.TheVariants as ending
use Rattle.simplex_cli.specs.Ending.{ending_status}
use Rattle.simplex_cli.specs.Serving.{status_of}

-- no ending has the status of a whole input
never_zero : (why : Ending) → ending_status why ≡ 0 → ⊥
never_zero ending.Memory is = omega arith
never_zero (ending.Open fault) is = omega arith
never_zero ending.Read is = omega arith
never_zero ending.Write is = omega arith
never_zero (ending.BadEvent place) is = omega arith
never_zero (ending.Step fault) is = omega arith

module _ {A : Type 0} where
  -- there are three
  pub statuses : (ended : Result A Ending) (status : ℕ) → IfOk ended (λ _. status ≡ 0) → IfErr ended (λ why. status ≡ ending_status why) → (status ≡ 0) ⊎ ((status ≡ 1) ⊎ (status ≡ 3))
  statuses (Ok x) status whole faulty = inl whole
  statuses (Err ending.Memory) status whole faulty = inr (inl faulty)
  statuses (Err (ending.Open fault)) status whole faulty = inr (inl faulty)
  statuses (Err ending.Read) status whole faulty = inr (inl faulty)
  statuses (Err ending.Write) status whole faulty = inr (inl faulty)
  statuses (Err (ending.BadEvent place)) status whole faulty = inr (inr faulty)
  statuses (Err (ending.Step fault)) status whole faulty = inr (inl faulty)

  -- behind a whole input nothing is told
  pub silent : (ended : Result A Ending) (status : ℕ) (X : Type 0) → IfOk ended (λ _. X) → IfErr ended (λ why. status ≡ ending_status why) → status ≡ 0 → X
  silent (Ok x) status X same faulty zero = same
  silent (Err why) status X same faulty zero = absurd (never_zero why (sym faulty ∙ zero))

  -- the status is that of the ending
  pub status_is : (ended : Result A Ending) (status : ℕ) → IfOk ended (λ _. status ≡ 0) → IfErr ended (λ why. status ≡ ending_status why) → status ≡ status_of ended
  status_is (Ok x) status whole faulty = whole
  status_is (Err why) status whole faulty = faulty
