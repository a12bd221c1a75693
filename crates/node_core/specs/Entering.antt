-- Who gets the payload of the view before the one that is entered.
use Rattle.std.specs.Prelude.{◌==◌, ◌&&◌, nat_eq, not, ℕ, Bool, true, false, Option, Some}
use Rattle.std.specs.Option.{option_eq}
use Rattle.types_core.specs.declared.proposal.Proposal.{Proposal}
use Rattle.voter_rules.specs.declared.config.ForwardPolicy.{ForwardPolicy}
use Rattle.voter_rules.specs.declared.config.ForwardPolicy.TheVariants as policy
use Rattle.simplex_batcher.specs.Queries.{is_missing_voter}
use Rattle.batcher_verifier.specs.History as votes

-- the policy lets this member have it, where it is silent and that one leads
abbrev pub serves : ForwardPolicy → Option ℕ → ℕ → Bool
serves policy.Disabled leader member = false
serves policy.SilentVoters leader member = true
serves policy.SilentLeader leader member = option_eq nat_eq leader (Some member)

-- this member gets it: another one, of which no vote for the proposal is known, and whom the policy lets have it
abbrev pub gets : {S D P G C : Type 0} → (D → D → Bool) → ℕ → ForwardPolicy → Option ℕ → votes.History S D P G C → Proposal D → ℕ → Bool
gets same me forward leader happened p member = is_missing_voter same happened p member && (not (member == me) && serves forward leader member)
