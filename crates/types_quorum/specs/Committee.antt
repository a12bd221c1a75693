-- How many members of a committee may lie, how many are a quorum, and what quorums of one committee have in common.
use Rattle.std.specs.Prelude.{ℕ, ◌+◌, ◌-◌, ◌*◌, ◌/◌, ◌≤◌, ◌<◌, List, length}
use Rattle.std.specs.List.{Contains}
use Rattle.std.proofs.Common.{arith}
use Rattle.std.proofs.lemmas.List.Elements.{All-contains}
use Rattle.types_quorum.specs.Counting.{NoneTwice, AllBelow, common, common-members, common-NoneTwice, common-length, escapes}

-- the most members of a committee of n that may be faulty
abbrev pub faults : ℕ → ℕ
faults n = (n - 1) / 3

-- the members of a committee of n that are a quorum: all but as many as may be faulty
abbrev pub quorum : ℕ → ℕ
quorum n = n - faults n

-- numbers of a quorum of a committee of n: none twice, each below n, and enough of them
pub record AreQuorum (n : ℕ) (xs : List ℕ) : Type 0 where
  pub once : NoneTwice xs
  pub below : AllBelow n xs
  pub enough : quorum n ≤ length xs

-- a committee is more than three times as many as may be faulty
pub faults-few : (n : ℕ) → 1 ≤ n → 3 * faults n + 1 ≤ n
faults-few n some = omega arith

-- two quorums share at least one member more than may be faulty
pub two_quorums_share : (n : ℕ) (xs ys : List ℕ) → 1 ≤ n → AreQuorum n xs → AreQuorum n ys → faults n + 1 ≤ length (common xs ys)
two_quorums_share n xs ys some p q =
    omega (arith, faults-few n some, common-length n xs ys p.once q.once p.below q.below, p.enough, q.enough)

-- and so one that isn't faulty, whichever members are
pub two_quorums_meet : (n : ℕ) (xs ys faulty : List ℕ) → 1 ≤ n → AreQuorum n xs → AreQuorum n ys → length faulty ≤ faults n
    → (x : ℕ) × (x < n) × Contains xs x × Contains ys x × (Contains faulty x → ⊥)
two_quorums_meet n xs ys faulty some p q few =
    let found = escapes (common xs ys) faulty (common-NoneTwice xs ys p.once) (omega (arith, few, two_quorums_share n xs ys some p q)) in
    let both = (common-members xs ys found.0).0 found.1 in
    (found.0, All-contains (λ (x : ℕ). x < n) xs found.0 p.below both.0, both.0, both.1, found.2)
