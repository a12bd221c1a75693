-- The numbers and names of what can be wrong with settings.
use Rattle.std.specs.Prelude.{ℕ, List, codes}
use Rattle.voter_rules.specs.declared.config.ConfigFault.TheVariants as config
use Rattle.voter_rules.specs.Configuring as configuring
use Rattle.cli_settings.specs.declared.fault.SettingsFault.{SettingsFault}
use Rattle.cli_settings.specs.declared.fault.SettingsFault.TheVariants as fault

-- the number of a fault: those of a configuration keep theirs
abbrev pub fault_number : SettingsFault → ℕ
fault_number (fault.Config x) = configuring.fault_number x
fault_number fault.TermLengthZero = 9
fault_number fault.StallTimeoutZero = 10
fault_number fault.BaseTooLong = 11
fault_number fault.SeedTooLong = 12
fault_number fault.NoSuchMember = 13
fault_number fault.TooManyOptimistic = 14

-- its name
abbrev pub fault_name : SettingsFault → List ℕ
fault_name (fault.Config config.NoParticipants) = codes "NoParticipants"
fault_name (fault.Config config.LeaderTimeoutZero) = codes "LeaderTimeoutZero"
fault_name (fault.Config config.CertificationNotAboveLeader) = codes "CertificationNotAboveLeader"
fault_name (fault.Config config.SkipNotAboveCertification) = codes "SkipNotAboveCertification"
fault_name (fault.Config config.SkipNotAboveRetry) = codes "SkipNotAboveRetry"
fault_name (fault.Config config.RetryZero) = codes "RetryZero"
fault_name (fault.Config config.RetentionZero) = codes "RetentionZero"
fault_name (fault.Config config.TooManyParticipants) = codes "TooManyParticipants"
fault_name fault.TermLengthZero = codes "TermLengthZero"
fault_name fault.StallTimeoutZero = codes "StallTimeoutZero"
fault_name fault.BaseTooLong = codes "BaseTooLong"
fault_name fault.SeedTooLong = codes "SeedTooLong"
fault_name fault.NoSuchMember = codes "NoSuchMember"
fault_name fault.TooManyOptimistic = codes "TooManyOptimistic"
