-- What can be wrong with settings.
use Rattle.std.specs.Prelude.{◌≡◌, ◌<◌, ◌≤◌, ℕ, List, Some, length}
use Rattle.voter_rules.specs.Configuring as configuring
use Rattle.cli_settings.specs.declared.fault.SettingsFault.{SettingsFault}
use Rattle.cli_settings.specs.declared.fault.SettingsFault.TheVariants as fault
use Rattle.cli_settings.specs.declared.setting.Committee.{Committee}
use Rattle.cli_settings.specs.declared.setting.Settings.{Settings}
use Rattle.cli_settings.specs.declared.setting.Turns.{Turns}
use Rattle.cli_settings.specs.Building.{config_of, seed_of}
use Rattle.cli_settings.specs.Faults.{fault_number}
use Rattle.std.specs.Option.{ForSome}

-- terms are of one view each, without optimism
abbrev pub IsRotating : Turns → Type 0
IsRotating t = (t.length ≡ 1) × (t.optimistic_views ≡ 0)

-- the seed, if there is one, has more than 255 bytes
abbrev pub HasLongSeed : Committee → Type 0
HasLongSeed c = (seed : List ℕ) × (seed_of c ≡ Some seed) × (255 < length seed)

module _ (s : Settings) where
  -- the fault applies
  abbrev pub Applies : SettingsFault → Type 0
  Applies (fault.Config x) = configuring.Applies (config_of s) s.committee.members x
  Applies fault.TermLengthZero = s.committee.turns.length ≡ 0
  Applies fault.StallTimeoutZero = (s.committee.turns.stall_timeout ≡ 0) × ¬ IsRotating s.committee.turns
  Applies fault.BaseTooLong = 255 < length s.committee.base.items
  Applies fault.SeedTooLong = HasLongSeed s.committee
  Applies fault.NoSuchMember = s.committee.members ≤ s.member
  Applies fault.TooManyOptimistic = 1000 < s.committee.turns.optimistic_views

  -- it is the first that applies: none with a lower number does
  pub record IsFirst (f : SettingsFault) : Type 0 where
    pub applies : Applies f
    pub none_before : (earlier : SettingsFault) → fault_number earlier < fault_number f → ¬ Applies earlier

  -- the same of what a configuration has not: it is the first of those that applies
  pub record IsFirstBeside (f : SettingsFault) : Type 0 where
    pub applies : Applies f
    pub beside : 8 < fault_number f
    pub none_before : (earlier : SettingsFault) → 8 < fault_number earlier → fault_number earlier < fault_number f → ¬ Applies earlier

  -- none of those applies
  abbrev pub IsGoodBeside : Type 0
  IsGoodBeside = (f : SettingsFault) → 8 < fault_number f → ¬ Applies f

-- the terms can be set
abbrev pub HasTurns : Turns → Type 0
HasTurns t = 0 < t.length

-- the committee can be set up
pub record HasMembers (c : Committee) : Type 0 where
  pub some : 0 < c.members
  pub at_most : c.members ≤ 65535
  pub turns : HasTurns c.turns
  pub short_base : length c.base.items ≤ 255
  pub short_seed : ForSome (seed_of c) (λ seed. length seed ≤ 255)

-- a node can be opened with these settings: no fault applies
pub record IsGood (s : Settings) : Type 0 where
  pub committee : HasMembers s.committee
  pub member : s.member < s.committee.members
  pub none : (f : SettingsFault) → ¬ Applies s f
