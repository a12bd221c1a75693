-- What stays the same through an opening of a node.
use Rattle.std.specs.Prelude.{◌≡◌, ◌<◌, ◌^◌, ℕ, Some}
use Rattle.simplex_member.specs.Doing.{LetsActsEnd}
use Rattle.simplex_member.specs.Setup.{Setup, longest_timeout, owner_of}
use Rattle.node_core.specs.declared.settings.Settings.{Settings}

module _ {S D C : Type 0} where
  -- acts end by it, in a committee of a number of 32 bits
  pub record EndsActs (s : Setup S D C) : Type 0 where
    pub members : ℕ
    pub few : members < 2 ^ 32
    pub acts_end : LetsActsEnd s members

  -- a node is set up so: by the scheme's own member
  pub record IsSetUp (s : Setup S D C) (settings : Settings S) : Type 0 where
    pub scheme_is : settings.scheme.value ≡ s.voter.scheme
    pub me_is : s.voter.me ≡ Some s.me
    pub owner_is : settings.owner ≡ owner_of s
    pub forward_is : settings.forward ≡ s.forward
    pub silence_is : settings.silence ≡ s.silence
    pub repair_is : settings.repair ≡ s.repair
    pub longest_is : settings.longest ≡ longest_timeout s
    pub ends : EndsActs s
