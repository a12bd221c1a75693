use Rattle.std.proofs.Common.{◌≡◌, ◌∙◌, ℕ, false, sym}
use Rattle.std.specs.Prelude.{Option, Some, None, is_some, option_map}
use Rattle.simplex_round.specs.Round.{Keeps}
use Rattle.simplex_round.proofs.round.Round.learn_leader.Goals as goal

-- what is kept of nobody names nobody
nobody : {A : Type 0} (f : A → ℕ) (o : Option A) {l : Option ℕ} → option_map f o ≡ l → is_some o ≡ false → l ≡ None
nobody f None same none = sym same
nobody f (Some x) same none = absurd (cc none)

pub returns-clause-member : goal.returns-clause-member
unfolding Keeps
returns-clause-member g c = λ s l h k small.
    rw (nobody _ c.args.self.now.leader k.leader (sym c.is_some.ensures ∙ c.if-is_some.false)) (c.set_leader.ensures.member s l h k small)
