-- The tests of an opening by its arguments.
use Rattle.std.proofs.Common.{◌≡◌, ◌⊎◌, ⊎_elim, ◌∷◌, [], ℕ, ◌<◌, ◌≤◌, ◌+◌, ◌-◌, ◌^◌, inl, inr, List, Option, Some, None, refl, arith}
use Rattle.types_core.specs.declared.scheme.Scheme.{Ghosts}
use Rattle.voter_rules.specs.declared.config.Config.{Config}
use Rattle.voter_rules.specs.declared.config.ConfigFault.{ConfigFault}
use Rattle.voter_rules.specs.declared.config.ConfigFault.TheVariants as fault
use Rattle.voter_rules.specs.Configuring as config
use Rattle.voter_rules.specs.declared.floor.Floor.{Floor}
use Rattle.voter_rules.specs.declared.floor.FloorFault.{FloorFault}
use Rattle.voter_rules.specs.declared.floor.FloorFault.TheVariants as floor_fault
use Rattle.voter_rules.specs.Floor.{AppliesToFloor, IsFirstOf}
use Rattle.simplex_member.specs.declared.fault.OpenFault.{OpenFault}
use Rattle.simplex_member.specs.declared.fault.OpenFault.TheVariants as open_fault
use Rattle.simplex_member.specs.declared.fault.SetupFault.TheVariants as setup_fault
use Rattle.simplex_member.specs.First.{IsFirst}
use Rattle.simplex_member.specs.Setup.{Setup, IsInTime}
use Rattle.node_steps.specs.Opening.{early, open_tests}

module _ {S D P G C : Type 0} (g : Ghosts S D P G C) (s : Setup S D C) (c : Config (Floor S D P G C)) (now : ℕ) (key : (g.own s.voter.scheme ≡ None) → ⊥) where
  -- the tests behind those of the configuration
  abbrev floor_tests : List (OpenFault × Type 0)
  floor_tests =
      (open_fault.Config (setup_fault.Floor floor_fault.WrongEpoch), AppliesToFloor (g.certifies s.voter.scheme) s.voter.length s.voter.epoch c.floor floor_fault.WrongEpoch)
      ∷ (open_fault.Config (setup_fault.Floor floor_fault.ViewZero), AppliesToFloor (g.certifies s.voter.scheme) s.voter.length s.voter.epoch c.floor floor_fault.ViewZero)
      ∷ (open_fault.Config (setup_fault.Floor floor_fault.NoRoom), AppliesToFloor (g.certifies s.voter.scheme) s.voter.length s.voter.epoch c.floor floor_fault.NoRoom)
      ∷ (open_fault.Config (setup_fault.Floor floor_fault.ParentNotBelow), AppliesToFloor (g.certifies s.voter.scheme) s.voter.length s.voter.epoch c.floor floor_fault.ParentNotBelow)
      ∷ (open_fault.Config (setup_fault.Floor floor_fault.NotVerifying), AppliesToFloor (g.certifies s.voter.scheme) s.voter.length s.voter.epoch c.floor floor_fault.NotVerifying)
      ∷ (open_fault.MomentTooLate, (IsInTime s now → ⊥)) ∷ (open_fault.TooManyOptimistic, 1000 < s.voter.optimistic_views) ∷ []

  -- the first fault of the configuration is the first of all
  pub config-first : (x : ConfigFault) → config.IsFirst c (g.size s.voter.scheme) x → IsFirst (open_tests g s c now) (Some (open_fault.Config (setup_fault.Config x)))
  config-first fault.NoParticipants first = inr (key, inl (first.applies, refl))
  config-first fault.LeaderTimeoutZero first =
      inr (key, inr (first.none_before fault.NoParticipants (omega arith), inl (first.applies, refl)))
  config-first fault.CertificationNotAboveLeader first =
      inr (key, inr (first.none_before fault.NoParticipants (omega arith), inr (first.none_before fault.LeaderTimeoutZero (omega arith), inl (first.applies, refl))))
  config-first fault.SkipNotAboveCertification first =
      inr (
        key,
        inr (
          first.none_before fault.NoParticipants (omega arith),
          inr (
            first.none_before fault.LeaderTimeoutZero (omega arith),
            inr (first.none_before fault.CertificationNotAboveLeader (omega arith), inl (first.applies, refl)),
          ),
        ),
      )
  config-first fault.SkipNotAboveRetry first =
      inr (
        key,
        inr (
          first.none_before fault.NoParticipants (omega arith),
          inr (
            first.none_before fault.LeaderTimeoutZero (omega arith),
            inr (first.none_before fault.CertificationNotAboveLeader (omega arith), inr (first.none_before fault.SkipNotAboveCertification (omega arith), inl (first.applies, refl))),
          ),
        ),
      )
  config-first fault.RetryZero first =
      inr (
        key,
        inr (
          first.none_before fault.NoParticipants (omega arith),
          inr (
            first.none_before fault.LeaderTimeoutZero (omega arith),
            inr (
              first.none_before fault.CertificationNotAboveLeader (omega arith),
              inr (
                first.none_before fault.SkipNotAboveCertification (omega arith),
                inr (first.none_before fault.SkipNotAboveRetry (omega arith), inl (first.applies, refl)),
              ),
            ),
          ),
        ),
      )
  config-first fault.RetentionZero first =
      inr (
        key,
        inr (
          first.none_before fault.NoParticipants (omega arith),
          inr (
            first.none_before fault.LeaderTimeoutZero (omega arith),
            inr (
              first.none_before fault.CertificationNotAboveLeader (omega arith),
              inr (
                first.none_before fault.SkipNotAboveCertification (omega arith),
                inr (first.none_before fault.SkipNotAboveRetry (omega arith), inr (first.none_before fault.RetryZero (omega arith), inl (first.applies, refl))),
              ),
            ),
          ),
        ),
      )
  config-first fault.TooManyParticipants first =
      inr (
        key,
        inr (
          first.none_before fault.NoParticipants (omega arith),
          inr (
            first.none_before fault.LeaderTimeoutZero (omega arith),
            inr (
              first.none_before fault.CertificationNotAboveLeader (omega arith),
              inr (
                first.none_before fault.SkipNotAboveCertification (omega arith),
                inr (first.none_before fault.SkipNotAboveRetry (omega arith), inr (first.none_before fault.RetryZero (omega arith), inr (first.none_before fault.RetentionZero (omega arith), inl (first.applies, refl)))),
              ),
            ),
          ),
        ),
      )

  -- where the configuration is good, the tests behind it decide: of what is started from, and then the last
  pub behind-config : ((x : ConfigFault) → config.Applies c (g.size s.voter.scheme) x → ⊥) → (answer : Option OpenFault) → IsFirst floor_tests answer → IsFirst (open_tests g s c now) answer
  behind-config good answer last =
      inr (
        key,
        inr (
          good fault.NoParticipants,
          inr (
            good fault.LeaderTimeoutZero,
            inr (
              good fault.CertificationNotAboveLeader,
              inr (
                good fault.SkipNotAboveCertification,
                inr (good fault.SkipNotAboveRetry, inr (good fault.RetryZero, inr (good fault.RetentionZero, inr (good fault.TooManyParticipants, last)))),
              ),
            ),
          ),
        ),
      )

  module _ (good : (x : ConfigFault) → config.Applies c (g.size s.voter.scheme) x → ⊥) where
    -- then the first fault of what is started from is the first of all
    pub floor-first : (x : FloorFault) → IsFirstOf (AppliesToFloor (g.certifies s.voter.scheme) s.voter.length s.voter.epoch c.floor) x → IsFirst (open_tests g s c now) (Some (open_fault.Config (setup_fault.Floor x)))
    floor-first x first = behind-config good (Some (open_fault.Config (setup_fault.Floor x))) (of x first)
      where
        of : (x : FloorFault) → IsFirstOf (AppliesToFloor (g.certifies s.voter.scheme) s.voter.length s.voter.epoch c.floor) x → IsFirst floor_tests (Some (open_fault.Config (setup_fault.Floor x)))
        of floor_fault.WrongEpoch first = inl (first.applies, refl)
        of floor_fault.ViewZero first = inr (first.none_before floor_fault.WrongEpoch (omega arith), inl (first.applies, refl))
        of floor_fault.NoRoom first =
            inr (first.none_before floor_fault.WrongEpoch (omega arith), inr (first.none_before floor_fault.ViewZero (omega arith), inl (first.applies, refl)))
        of floor_fault.ParentNotBelow first =
            inr (
              first.none_before floor_fault.WrongEpoch (omega arith),
              inr (first.none_before floor_fault.ViewZero (omega arith), inr (first.none_before floor_fault.NoRoom (omega arith), inl (first.applies, refl))),
            )
        of floor_fault.NotVerifying first =
            inr (
              first.none_before floor_fault.WrongEpoch (omega arith),
              inr (
                first.none_before floor_fault.ViewZero (omega arith),
                inr (first.none_before floor_fault.NoRoom (omega arith), inr (first.none_before floor_fault.ParentNotBelow (omega arith), inl (first.applies, refl))),
              ),
            )

    -- and where that is good too, the last tests decide
    pub behind-floor : ((x : FloorFault) → AppliesToFloor (g.certifies s.voter.scheme) s.voter.length s.voter.epoch c.floor x → ⊥) → (answer : Option OpenFault)
        → IsFirst ((open_fault.MomentTooLate, (IsInTime s now → ⊥)) ∷ (open_fault.TooManyOptimistic, 1000 < s.voter.optimistic_views) ∷ []) answer
        → IsFirst (open_tests g s c now) answer
    behind-floor sound answer last =
        behind-config good answer
        (inr (
          sound floor_fault.WrongEpoch,
          inr (sound floor_fault.ViewZero, inr (sound floor_fault.NoRoom, inr (sound floor_fault.ParentNotBelow, inr (sound floor_fault.NotVerifying, last)))),
        ))

-- what is wrong with a disk, or want of memory, is told by no argument
pub late : (why : OpenFault) → (why ≡ open_fault.Device) ⊎ ((why ≡ open_fault.Memory) ⊎ (((place : ℕ) × (why ≡ open_fault.Foreign place)) ⊎ ((position : ℕ) × (why ≡ open_fault.Contradiction position)))) → early why ≡ None
late open_fault.NoKey is = absurd (⊎_elim (λ e. cc e) (⊎_elim (λ e. cc e) (⊎_elim (λ e. cc e.1) (λ e. cc e.1))) is)
late (open_fault.Config x) is = absurd (⊎_elim (λ e. cc e) (⊎_elim (λ e. cc e) (⊎_elim (λ e. cc e.1) (λ e. cc e.1))) is)
late open_fault.MomentTooLate is = absurd (⊎_elim (λ e. cc e) (⊎_elim (λ e. cc e) (⊎_elim (λ e. cc e.1) (λ e. cc e.1))) is)
late open_fault.TooManyOptimistic is = absurd (⊎_elim (λ e. cc e) (⊎_elim (λ e. cc e) (⊎_elim (λ e. cc e.1) (λ e. cc e.1))) is)
late (open_fault.Foreign place) is = refl
late (open_fault.Contradiction position) is = refl
late open_fault.Device is = refl
late open_fault.Memory is = refl

-- a time that is longer than what is left of 64 bits is too long
pub too-long : (now long : ℕ) → 18446744073709551615 - now < long → now + long < 2 ^ 64 → ⊥
too-long now long more fits = absurd (omega arith)

pub long-enough : (now long : ℕ) → now < 2 ^ 64 → long ≤ 18446744073709551615 - now → now + long < 2 ^ 64
long-enough now long some less = omega arith
