-- How the program sets up a committee and a member's node.
use Rattle.std.specs.Prelude.{ℕ, List, Some, codes, replicate, true}
use Rattle.simplex_types.specs.Plain.{Committee}
use Rattle.types_core.specs.declared.attestation.Attestation.{Attestation}
use Rattle.types_terms.specs.Rotation.{Rotation, indices}
use Rattle.types_terms.specs.Terms.{stable}
use Rattle.voter_rules.specs.declared.config.Config.{Config}
use Rattle.voter_rules.specs.declared.config.ForwardPolicy.TheVariants as forward
use Rattle.voter_rules.specs.declared.config.SkipBudget.TheVariants as budget
use Rattle.voter_rules.specs.declared.config.SkipPolicy.TheVariants as skip
use Rattle.voter_rules.specs.declared.floor.Floor.{Floor}
use Rattle.voter_rules.specs.declared.floor.Floor.TheVariants as floor
use Rattle.voter_rules.specs.Repairing.{asks_once}

-- the settings, with all times in milliseconds: epoch 0 from a payload of zeros; a second for a leader, two for a verdict, five until a
-- nullify is repeated; ten views are kept below the last finalized one; a leader that was silent for eight seconds is skipped, in as many
-- terms as there are members; nothing is forwarded, each ask goes once, and each vote is kept until its view is dropped
abbrev pub program_config : Config (Floor Committee (List ℕ) ℕ (List ℕ) (List (Attestation (List ℕ))))
program_config = record {
  epoch = 0;
  floor = floor.Genesis (replicate 32 0);
  leader_timeout = 1000;
  certification_timeout = 2000;
  timeout_retry = 5000;
  view_retention = 10;
  skip = skip.Enabled 8000 budget.Participants;
  forward = forward.Disabled;
  repair = asks_once;
  track_historical_votes = true;
}

-- a committee of so many, as the member of this index has it: all sign under one base
abbrev pub program_committee : ℕ → ℕ → Committee
program_committee index count = record { base = codes "simplex"; participants = count; me = Some index }

-- all of so many lead in turn, by ascending index: a term of four views each, which is given up after ten seconds without progress, and of
-- which two views may go ahead
abbrev pub program_rotation : ℕ → Rotation
program_rotation count = record { order = indices count; terms = stable 4 10000 2 }
