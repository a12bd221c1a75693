-- A member by its settings: whose record it has, in which committee it is, and who leads there.
use Rattle.std.specs.Prelude.{◌≡◌, ℕ, List, Bool, Some}
use Rattle.types_terms.specs.Rotation.{Rotation}
use Rattle.types_terms.specs.Shuffle.{IsOrderOf}
use Rattle.simplex_types.specs.Plain as plain
use Rattle.simplex_record.specs.declared.owner.Owner.{Owner}
use Rattle.cli_settings.specs.declared.setting.Committee.{Committee}
use Rattle.cli_settings.specs.declared.setting.Settings.{Settings}
use Rattle.cli_settings.specs.Building.{seed_of, timing_of}
use Rattle.cli_opening.specs.declared.looking.Barred.{Barred}
use Rattle.cli_opening.specs.declared.looking.Found.{Found}
use Rattle.cli_opening.specs.Halves.{IsBarredOnHalf, IsFoundOnHalf}
use Rattle.cli_opening.specs.Looking.{IsBarredBy, IsFoundBy}

-- whose record a member's is
abbrev pub owner_of : Settings → Owner
owner_of s = record { epoch = s.committee.epoch; term_length = s.committee.turns.length; signer = s.member }

-- the bytes are a lawful record of this member, and this is said of it
abbrev pub IsFoundFor : Settings → Bool → List ℕ → Found → Type 0
IsFoundFor s = IsFoundBy s.committee.base.items s.committee.members (owner_of s)

-- why these bytes are left as they are
abbrev pub IsBarredFor : Settings → List ℕ → Barred → Type 0
IsBarredFor s = IsBarredBy s.committee.base.items s.committee.members (owner_of s)

-- the same of one of two disks
abbrev pub IsHalfFoundFor : Settings → Bool → List ℕ → Found → Type 0
IsHalfFoundFor s = IsFoundOnHalf s.committee.base.items s.committee.members (owner_of s)

abbrev pub IsHalfBarredFor : Settings → List ℕ → Barred → Type 0
IsHalfBarredFor s = IsBarredOnHalf s.committee.base.items s.committee.members (owner_of s)

-- the committee as this member has it: all sign under one base
abbrev pub committee_of : Settings → plain.Committee
committee_of s = record { base = s.committee.base.items; participants = s.committee.members; me = Some s.member }

-- the members of a committee lead so: in ascending order or in that of the seed, by its terms
pub record AreLeaders (c : Committee) (leaders : Rotation) : Type 0 where
  pub order : IsOrderOf (seed_of c) c.members leaders.order
  pub terms : leaders.terms ≡ timing_of c.turns
