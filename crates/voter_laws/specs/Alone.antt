-- How a record stands on ground, also in a committee of one: statements.
use Rattle.std.specs.Prelude.{◌≡◌, ◌⊎◌, ◌+◌, ◌++◌, ℕ, List, Option, Some}
use Rattle.types_core.specs.declared.proposal.Proposal.{Proposal}
use Rattle.types_core.specs.Positions.{IsTermStart}
use Rattle.types_core.specs.Subject.{notarize}
use Rattle.simplex_record.specs.Record.{Entry, HasVoted}
use Rattle.simplex_record.specs.Chain.{IsGround, JudgesOnGround}
use Rattle.voter_history.specs.Known.{Known}
use Rattle.voter_rules.specs.Ancestry.{Member}
use Rattle.voter_rules.specs.VotesDue.{NotarizeIsDue}
use Rattle.voter_rules.specs.Requests.{CertifyIsDue}
use Rattle.voter_laws.specs.Matching.{Matches, IsBound}

-- a vote to notarize stands on ground, or was handed over: where the proposal's view starts a term, its parent is ground, or it is
-- the view before, and the member leads the view by the schedule
abbrev pub VotesOnGroundOrNext : {D : Type 0} → (views : ℕ) → (ℕ → Option ℕ) → ℕ → List (Entry D) → Proposal D → Type 0
VotesOnGroundOrNext views leader member record_ p =
    IsTermStart views p.round.view → IsGround record_ p.parent ⊎ ((leader p.round.view ≡ Some member) × (p.round.view ≡ p.parent + 1))

-- a notarize that is due does, of a proposal that was bound
abbrev pub DueNotarizeIsOnGroundOrNext : Type 0 → Type 0
DueNotarizeIsOnGroundOrNext D = (m : Member) (k : Known D) (r : List (Entry D)) (view i : ℕ) (p : Proposal D)
    → m.me ≡ Some i → Matches m k r → IsBound m k view p → NotarizeIsDue m k view → VotesOnGroundOrNext m.length m.scheduled i r p

-- and where the only member voted for it so, a true verdict stands on ground, on a proposal on which one is to be asked for
abbrev pub DueVerdictOfOneIsOnGround : Type 0 → Type 0
DueVerdictOfOneIsOnGround D = (m : Member) (k : Known D) (r : List (Entry D)) (view i : ℕ) (p : Proposal D)
    → m.me ≡ Some i → Matches m k r → HasVoted r (notarize p) → VotesOnGroundOrNext m.length m.scheduled i r p → CertifyIsDue m k view p → JudgesOnGround 1 m.length r p.round

-- ground stays ground, whatever is recorded behind it
abbrev pub GroundStays : Type 0 → Type 0
GroundStays D = (before after : List (Entry D)) (view : ℕ) → IsGround before view → IsGround (before ++ after) view
