-- What can be wrong with how a member is set up.
use Rattle.std.specs.Prelude.{◌≡◌, ◌<◌, ◌≤◌, ℕ}
use Rattle.voter_rules.specs.declared.config.SkipBudget.{SkipBudget}
use Rattle.voter_rules.specs.declared.config.SkipBudget.TheVariants as budget
use Rattle.voter_rules.specs.declared.config.SkipPolicy.{SkipPolicy}
use Rattle.voter_rules.specs.declared.config.SkipPolicy.TheVariants as skip
use Rattle.voter_rules.specs.declared.config.Config.{Config}
use Rattle.voter_rules.specs.declared.config.ConfigFault.{ConfigFault}
use Rattle.voter_rules.specs.declared.config.ConfigFault.TheVariants as fault

-- how many terms may be skipped in a committee of so many: as many as there are participants, or so many
abbrev pub budget_of : SkipBudget → ℕ → ℕ
budget_of budget.Participants participants = participants
budget_of (budget.Fixed terms) participants = terms

-- the same by the policy: none where skips are disabled
abbrev pub skip_budget : SkipPolicy → ℕ → ℕ
skip_budget skip.Disabled participants = 0
skip_budget (skip.Enabled timeout terms) participants = budget_of terms participants

-- skips are enabled, and a leader counts as inactive after this time or sooner
abbrev pub SkipsWithin : SkipPolicy → ℕ → Type 0
SkipsWithin skip.Disabled duration = ⊥
SkipsWithin (skip.Enabled timeout terms) duration = timeout ≤ duration

-- the number of a fault
abbrev pub fault_number : ConfigFault → ℕ
fault_number fault.NoParticipants = 1
fault_number fault.LeaderTimeoutZero = 2
fault_number fault.CertificationNotAboveLeader = 3
fault_number fault.SkipNotAboveCertification = 4
fault_number fault.SkipNotAboveRetry = 5
fault_number fault.RetryZero = 6
fault_number fault.RetentionZero = 7
fault_number fault.TooManyParticipants = 8

module _ {F : Type 0} (c : Config F) (participants : ℕ) where
  -- the fault applies in a committee of so many
  abbrev pub Applies : ConfigFault → Type 0
  Applies fault.NoParticipants = participants ≡ 0
  Applies fault.LeaderTimeoutZero = c.leader_timeout ≡ 0
  Applies fault.CertificationNotAboveLeader = c.certification_timeout ≤ c.leader_timeout
  Applies fault.SkipNotAboveCertification = SkipsWithin c.skip c.certification_timeout
  Applies fault.SkipNotAboveRetry = SkipsWithin c.skip c.timeout_retry
  Applies fault.RetryZero = c.timeout_retry ≡ 0
  Applies fault.RetentionZero = c.view_retention ≡ 0
  Applies fault.TooManyParticipants = 65535 < participants

  -- it is the first that applies: none with a lower number does
  pub record IsFirst (f : ConfigFault) : Type 0 where
    pub applies : Applies f
    pub none_before : (earlier : ConfigFault) → fault_number earlier < fault_number f → Applies earlier → ⊥
