use Rattle.std.proofs.Common.{◌≡◌, ◌+◌, ◌<◌, ◌≤◌, ◌^◌, ℕ, inl, inr, ⊎_elim, refl, sym, subst, None, Some, arith}
use Rattle.std.proofs.lemmas.Bool.{cases_lt}
use Rattle.voter_rules.specs.declared.config.ConfigFault.{ConfigFault}
use Rattle.voter_rules.specs.declared.config.ConfigFault.TheVariants as config_fault
use Rattle.voter_rules.specs.Configuring as config
use Rattle.voter_rules.specs.declared.floor.FloorFault.{FloorFault}
use Rattle.voter_rules.specs.Floor.{AppliesToFloor, IsFirstOf}
use Rattle.simplex_member.specs.declared.fault.OpenFault.TheVariants as open_fault
use Rattle.simplex_member.specs.Setup.{longest_timeout, setup_of}
use Rattle.node_steps.proofs.Testing.{behind-floor, config-first, floor-first, long-enough, too-long}
use Rattle.node_steps.proofs.opening.member_of.Goals as goal

pub returns-in-Err-clause-fault : goal.returns-in-Err-clause-fault
returns-in-Err-clause-fault g c =
    let s = setup_of g.S.Scheme g.L.Elector c.args.config.now c.args.scheme.now c.args.elector.now 0 in
    config-first g.S.Scheme s c.args.config.now c.args.now (λ none. let own = c.in-Some.ensures.own in cc) c.in-Err.fault
    (subst (λ (m : ℕ). config.IsFirst c.args.config.now m c.in-Err.fault) c.participants.ensures.value c.in-Err.ensures.first)

-- what it starts from is asked with the length of terms
pub returns-in-Err-check_floor-clause-fault : goal.returns-in-Err-check_floor-clause-fault
returns-in-Err-check_floor-clause-fault g c =
    let s = setup_of g.S.Scheme g.L.Elector c.args.config.now c.args.scheme.now c.args.elector.now 0 in
    floor-first g.S.Scheme s c.args.config.now c.args.now (λ none. let own = c.in-Some.ensures.own in cc)
    (subst (λ (m : ℕ). (x : ConfigFault) → config.Applies c.args.config.now m x → ⊥) c.participants.ensures.value c.in-Ok.ensures.good)
    c.in-Err-check_floor.fault
    (subst (λ (m : ℕ). IsFirstOf (AppliesToFloor (g.S.Scheme.certifies c.args.scheme.now) m s.voter.epoch c.args.config.now.floor) c.in-Err-check_floor.fault) (rw c.terms-terms.ensures at c.length-length.ensures) c.in-Err-check_floor.ensures.first)

pub returns-then-longest_timeout-now-clause-fault : goal.returns-then-longest_timeout-now-clause-fault
returns-then-longest_timeout-now-clause-fault g c =
    let s = setup_of g.S.Scheme g.L.Elector c.args.config.now c.args.scheme.now c.args.elector.now 0 in
    let long : c.longest_timeout.result ≡ longest_timeout s = rw c.terms-terms.ensures at c.longest_timeout.ensures in
    behind-floor g.S.Scheme s c.args.config.now c.args.now (λ none. let own = c.in-Some.ensures.own in cc)
    (subst (λ (m : ℕ). (x : ConfigFault) → config.Applies c.args.config.now m x → ⊥) c.participants.ensures.value c.in-Ok.ensures.good)
    (subst (λ (m : ℕ). (x : FloorFault) → AppliesToFloor (g.S.Scheme.certifies c.args.scheme.now) m s.voter.epoch c.args.config.now.floor x → ⊥) (rw c.terms-terms.ensures at c.length-length.ensures) c.in-Ok-check_floor.ensures.good)
    (Some open_fault.MomentTooLate)
    (inl (λ fits. too-long c.args.now c.longest_timeout.result c.if-longest_timeout-now.true (subst (λ (m : ℕ). c.args.now + m < 2 ^ 64) (sym long) fits), refl))

pub returns-then-has_many_optimistic-clause-fault : goal.returns-then-has_many_optimistic-clause-fault
returns-then-has_many_optimistic-clause-fault g c =
    let s = setup_of g.S.Scheme g.L.Elector c.args.config.now c.args.scheme.now c.args.elector.now 0 in
    let long : c.longest_timeout.result ≡ longest_timeout s = rw c.terms-terms.ensures at c.longest_timeout.ensures in
    let many : 1000 < s.voter.optimistic_views = rw c.terms-terms.ensures at (c.has_many_optimistic.ensures.0 c.if-has_many_optimistic.true) in
    let some : c.args.now < 2 ^ 64 = omega arith in
    behind-floor g.S.Scheme s c.args.config.now c.args.now (λ none. let own = c.in-Some.ensures.own in cc)
    (subst (λ (m : ℕ). (x : ConfigFault) → config.Applies c.args.config.now m x → ⊥) c.participants.ensures.value c.in-Ok.ensures.good)
    (subst (λ (m : ℕ). (x : FloorFault) → AppliesToFloor (g.S.Scheme.certifies c.args.scheme.now) m s.voter.epoch c.args.config.now.floor x → ⊥) (rw c.terms-terms.ensures at c.length-length.ensures) c.in-Ok-check_floor.ensures.good)
    (Some open_fault.TooManyOptimistic)
    (inr (λ late. late (subst (λ (m : ℕ). c.args.now + m < 2 ^ 64) long (long-enough c.args.now c.longest_timeout.result some c.if-longest_timeout-now.false)), inl (many, refl)))

pub returns-clause-good : goal.returns-clause-good
returns-clause-good g c =
    let s = setup_of g.S.Scheme g.L.Elector c.args.config.now c.args.scheme.now c.args.elector.now 0 in
    let long : c.longest_timeout.result ≡ longest_timeout s = rw c.terms-terms.ensures at c.longest_timeout.ensures in
    let few = rw c.terms-terms.ensures at c.has_many_optimistic.ensures in
    let some : c.args.now < 2 ^ 64 = omega arith in
    behind-floor g.S.Scheme s c.args.config.now c.args.now (λ none. let own = c.in-Some.ensures.own in cc)
    (subst (λ (m : ℕ). (x : ConfigFault) → config.Applies c.args.config.now m x → ⊥) c.participants.ensures.value c.in-Ok.ensures.good)
    (subst (λ (m : ℕ). (x : FloorFault) → AppliesToFloor (g.S.Scheme.certifies c.args.scheme.now) m s.voter.epoch c.args.config.now.floor x → ⊥) (rw c.terms-terms.ensures at c.length-length.ensures) c.in-Ok-check_floor.ensures.good)
    None
    (inr (
      λ late. late (subst (λ (m : ℕ). c.args.now + m < 2 ^ 64) long (long-enough c.args.now c.longest_timeout.result some c.if-longest_timeout-now.false)),
      inr (λ many. absurd (cc (few.1 many, c.if-has_many_optimistic.false)), refl),
    ))

-- acts end: by the scheme its index is a member's, by the elector members lead, terms have views, and the configuration's retry isn't 0
pub returns-clause-ends : goal.returns-clause-ends
returns-clause-ends g c = λ built. record {
  members = g.S.Scheme.size c.args.scheme.now;
  few = subst (λ (m : ℕ). m < 2 ^ 32) c.participants.ensures.value (omega (arith, c.participants.type_inv));
  acts_end = record {
    member = c.in-Some.ensures.member;
    by_members = record {
      own = sym c.in-Some.ensures.own;
      named = λ view certificate. g.met.L.Elector.participants_lead c.args.elector.now (g.S.Scheme.size c.args.scheme.now) (record { epoch = c.args.config.now.epoch; view = view }) certificate built;
    };
    terms = let same : c.length-length.result ≡ (g.L.Elector.terms_of c.args.elector.now).length = rw c.terms-terms.ensures at c.length-length.ensures in let some = c.length-length.type_inv in omega (arith, same, some);
    retries = ⊎_elim (λ some. some) (λ none. absurd (c.in-Ok.ensures.good config_fault.RetryZero (omega (arith, none)))) (cases_lt 0 c.args.config.now.timeout_retry);
  };
}

-- what it starts from has no fault, and the members are few
pub returns-clause-sound : goal.returns-clause-sound
returns-clause-sound g c =
    let s = setup_of g.S.Scheme g.L.Elector c.args.config.now c.args.scheme.now c.args.elector.now 0 in
    subst (λ (m : ℕ). (x : FloorFault) → AppliesToFloor (g.S.Scheme.certifies c.args.scheme.now) m s.voter.epoch c.args.config.now.floor x → ⊥) (rw c.terms-terms.ensures at c.length-length.ensures) c.in-Ok-check_floor.ensures.good

pub returns-clause-few : goal.returns-clause-few
returns-clause-few g c =
    subst (λ (m : ℕ). m ≤ 65535) c.participants.ensures.value
    (⊎_elim (λ many. absurd (c.in-Ok.ensures.good config_fault.TooManyParticipants many)) (λ few. few) (cases_lt 65535 c.participants.result))
