use Rattle.std.proofs.Common.{◌≡◌, ℕ, sym, subst}
use Rattle.std.proofs.lemmas.Bool.{iff_false}
use Rattle.voter_rules.specs.Ancestry.{explicit}
use Rattle.voter_rules.proofs.ancestry.explicit_payload.Goals as goal

pub returns-then-is_zero : goal.returns-then-is_zero
returns-then-is_zero g c = λ m k shown. subst (λ (u : ℕ). c.genesis.result ≡ explicit m k u) (sym (c.is_zero.ensures.0 c.if-is_zero.true)) (c.genesis.ensures m k shown)

pub returns : goal.returns
returns g c = λ m k shown. c.certified_payload.ensures m k shown (iff_false c.is_zero.ensures c.if-is_zero.false)
