-- The status of a program that a member's node ended.
use Rattle.std.proofs.Common.{◌≡◌, ◌⊎◌, inl, inr, ℕ, List, Option, Ok, Err, ap, sym, ◌∙◌, arith}
use Rattle.std.specs.Prelude.{Result, IfErr, IfOk, OnOk}
use Rattle.simplex_cli.specs.declared.ending.Ending.{Ending}
use Rattle.simplex_cli.specs.declared.ending.Ending.TheVariants as ending
use Rattle.simplex_cli.specs.Ending.{ending_status}
use Rattle.simplex_cli.specs.Serving.{status_of}

-- no ending has the status of a whole input
never_zero : (why : Ending) → ending_status why ≡ 0 → ⊥
never_zero ending.Memory is = omega arith
never_zero (ending.Open fault) is = omega arith
never_zero ending.Read is = omega arith
never_zero ending.Write is = omega arith
never_zero (ending.BadEvent place) is = omega arith
never_zero (ending.Step fault) is = omega arith

module _ {A : Type 0} where
  -- it is that of the ending
  pub ended_status : (ended : Result A Ending) (status : ℕ) → IfOk ended (λ _. status ≡ 0) → IfErr ended (λ why. status ≡ ending_status why) → status ≡ status_of ended
  ended_status (Ok x) status whole faulty = whole
  ended_status (Err why) status whole faulty = faulty

  -- one of three
  pub one_of_three : (ended : Result A Ending) (status : ℕ) → status ≡ status_of ended → (status ≡ 0) ⊎ ((status ≡ 1) ⊎ (status ≡ 3))
  one_of_three (Ok x) status is = inl is
  one_of_three (Err ending.Memory) status is = inr (inl is)
  one_of_three (Err (ending.Open fault)) status is = inr (inl is)
  one_of_three (Err ending.Read) status is = inr (inl is)
  one_of_three (Err ending.Write) status is = inr (inl is)
  one_of_three (Err (ending.BadEvent place)) status is = inr (inr is)
  one_of_three (Err (ending.Step fault)) status is = inr (inl is)

  -- where the writer was left, so was what it has
  pub silent_of : {F : Type 0} (contents : F → Option (List ℕ)) (ended : Result A Ending) (old new : F) → IfOk ended (λ _. new ≡ old) → OnOk ended (contents new ≡ contents old)
  silent_of contents (Ok x) old new same = ap contents same
  silent_of contents (Err why) old new same = tt

  -- behind a whole input nothing is told
  pub silent_if_whole : (ended : Result A Ending) (status : ℕ) (X : Type 0) → IfOk ended (λ _. X) → IfErr ended (λ why. status ≡ ending_status why) → status ≡ 0 → X
  silent_if_whole (Ok x) status X same faulty zero = same
  silent_if_whole (Err why) status X same faulty zero = absurd (never_zero why (sym faulty ∙ zero))
