use Rattle.std.proofs.Common.{◌<◌, ◌≤◌, ◌+◌, ◌-◌, ◌^◌, ℕ, inl, inr, refl, sym, subst, arith}
use Rattle.simplex_member.specs.Layers.{finalized_of}
use Rattle.node_input.proofs.refusing.moment_refusal.Goals as goal

late : (now longest : ℕ) → (2 ^ 64 - 1) - now < longest → now + longest < 2 ^ 64 → ⊥
late now longest over within = omega arith

early : (now longest : ℕ) → now < 2 ^ 64 → longest ≤ (2 ^ 64 - 1) - now → now + longest < 2 ^ 64
early now longest fits within = omega arith

later : (m n : ℕ) → m ≤ n → n < m → ⊥
later m n le lt = omega arith

pub returns-then-now-moment-clause-first : goal.returns-then-now-moment-clause-first
returns-then-now-moment-clause-first g c = λ f s h k. inl (subst (λ (n : ℕ). c.args.now < n) (c.moment.ensures (finalized_of s h) h k.tables) c.if-now-moment.true, refl)

pub returns-then-core-now-clause-first : goal.returns-then-core-now-clause-first
returns-then-core-now-clause-first g c = λ f s h k.
    inr (
      later _ _ (subst (λ (n : ℕ). n ≤ c.args.now) (c.moment.ensures (finalized_of s h) h k.tables) c.if-now-moment.false),
      inl (λ within. late c.args.now c.args.core.now.settings.longest c.if-core-now.true (subst (λ (n : ℕ). c.args.now + n < 2 ^ 64) (sym k.set_up.longest_is) within), refl),
    )

pub returns-clause-first : goal.returns-clause-first
returns-clause-first g c =
    let fits : c.args.now < 2 ^ 64 = omega arith in λ f s h k.
    inr (
      later _ _ (subst (λ (n : ℕ). n ≤ c.args.now) (c.moment.ensures (finalized_of s h) h k.tables) c.if-now-moment.false),
      inr (λ out. out (subst (λ (n : ℕ). c.args.now + n < 2 ^ 64) k.set_up.longest_is (early c.args.now c.args.core.now.settings.longest fits c.if-core-now.false)), refl),
    )

pub returns-clause-may : goal.returns-clause-may
returns-clause-may g c =
    let fits : c.args.now < 2 ^ 64 = omega arith in λ f s h k. (
      subst (λ (n : ℕ). n ≤ c.args.now) (c.moment.ensures (finalized_of s h) h k.tables) c.if-now-moment.false,
      subst (λ (n : ℕ). c.args.now + n < 2 ^ 64) k.set_up.longest_is (early c.args.now c.args.core.now.settings.longest fits c.if-core-now.false),
    )
