-- A node can be opened with settings of which no fault applies.
use Rattle.std.proofs.Common.{◌≡◌, ◌<◌, ◌≤◌, ℕ, List, Some, length, arith, inl, inr}
use Rattle.std.proofs.lemmas.Bool.{cases_lt}
use Rattle.voter_rules.specs.declared.config.ConfigFault.{ConfigFault}
use Rattle.voter_rules.specs.declared.config.ConfigFault.TheVariants as config
use Rattle.voter_rules.specs.Configuring as configuring
use Rattle.cli_settings.specs.declared.fault.SettingsFault.{SettingsFault}
use Rattle.cli_settings.specs.declared.fault.SettingsFault.TheVariants as fault
use Rattle.cli_settings.specs.declared.setting.Committee.{Committee}
use Rattle.cli_settings.specs.declared.setting.Settings.{Settings}
use Rattle.cli_settings.specs.Building.{config_of, seed_of}
use Rattle.cli_settings.specs.Checking.{Applies, HasLongSeed, IsGood, IsGoodBeside}

-- what isn't above a bound is at most that
at_most : (m n : ℕ) → ¬ (m < n) → n ≤ m
at_most m n h = elim (cases_lt m n) [ inl lt ↦ absurd (h lt) | inr le ↦ le ]

-- what isn't at most a bound is above it
above : (m n : ℕ) → ¬ (m ≤ n) → n < m
above m n h = elim (cases_lt n m) [ inl lt ↦ lt | inr le ↦ absurd (h le) ]

-- what isn't 0 is above it
some : (n : ℕ) → ¬ (n ≡ 0) → 0 < n
some n h = elim (cases_lt 0 n) [ inl lt ↦ lt | inr le ↦ absurd (h (omega arith)) ]

-- a seed that isn't too long
short : (c : Committee) → ¬ HasLongSeed c → (seed : List ℕ) → seed_of c ≡ Some seed → length seed ≤ 255
short c h seed e = at_most 255 (length seed) (λ long. h (seed, e, long))

-- with no fault of the configuration, and none beside it, there is none
none_of : (s : Settings) → ((x : ConfigFault) → ¬ configuring.Applies (config_of s) s.committee.members x) → IsGoodBeside s → (f : SettingsFault) → ¬ Applies s f
none_of s good beside (fault.Config x) = good x
none_of s good beside fault.TermLengthZero = beside fault.TermLengthZero (omega arith)
none_of s good beside fault.StallTimeoutZero = beside fault.StallTimeoutZero (omega arith)
none_of s good beside fault.BaseTooLong = beside fault.BaseTooLong (omega arith)
none_of s good beside fault.SeedTooLong = beside fault.SeedTooLong (omega arith)
none_of s good beside fault.NoSuchMember = beside fault.NoSuchMember (omega arith)
none_of s good beside fault.TooManyOptimistic = beside fault.TooManyOptimistic (omega arith)

pub good_of : (s : Settings) → ((x : ConfigFault) → ¬ configuring.Applies (config_of s) s.committee.members x) → IsGoodBeside s → IsGood s
good_of s good beside = record {
  committee = record {
    some = some s.committee.members (good config.NoParticipants);
    at_most = at_most 65535 s.committee.members (good config.TooManyParticipants);
    turns = some s.committee.turns.length (beside fault.TermLengthZero (omega arith));
    short_base = at_most 255 (length s.committee.base.items) (beside fault.BaseTooLong (omega arith));
    short_seed = short s.committee (beside fault.SeedTooLong (omega arith));
  };
  member = above s.committee.members s.member (beside fault.NoSuchMember (omega arith));
  none = none_of s good beside;
}
