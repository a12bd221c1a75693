-- What a voter knows: of each view and of all of them. All that is due, timeouts aside, is a matter of this alone.
use Rattle.std.specs.Prelude.{◌&&◌, ◌==◌, ℕ, Bool, false, List, Option, option_map}
use Rattle.types_core.specs.declared.proposal.Proposal.{Proposal}
use Rattle.messages_certificates.specs.ProposalCertificate.{Notarization, Finalization}
use Rattle.voter_history.specs.Held.{Offer}
use Rattle.voter_history.specs.Past as past
use Rattle.voter_history.specs.History.{Setup, Point, voted_notarize, recalled_notarize, certify_waited, current, last_finalized, floor, genesis, is_marked, was_nullified, seen}
use Rattle.voter_history.specs.Leaders.{leader}

-- what a voter knows
pub record Known (D : Type 0) : Type 0 where
  -- the current view, the last finalized one, the one that the record begins behind, and the payload at the start
  pub current : ℕ
  pub last_finalized : ℕ
  pub floor : ℕ
  pub genesis : Option D
  -- of each view: its leader, what was taken of what was offered to it, whether a nullification of it was ever learnt, what it is
  -- notarized and finalized for, its verdict
  pub leader : ℕ → Option ℕ
  pub offers : ℕ → List (Offer D)
  pub nullified : ℕ → Bool
  pub notarized : ℕ → Option (Proposal D)
  pub finalized : ℕ → Option (Proposal D)
  pub verdict : ℕ → Option Bool
  -- the own votes of the view, and whether the own notarize was made here or recalled with its proposal
  pub has_notarized : ℕ → Bool
  pub has_nullified : ℕ → Bool
  pub has_finalized : ℕ → Bool
  pub is_backed : ℕ → Bool
  -- which view was asked for last for the view's proposal, what that is bound to, whether a verdict was asked for, and whether it
  -- was put off until the parent has one
  pub last_asked : ℕ → Option ℕ
  pub binding : ℕ → Option (Proposal D × D)
  pub certify_asked : ℕ → Bool
  pub certify_waited : ℕ → Bool

module _ {S D P G C : Type 0} where
  -- an own notarize was made here, or recalled and its proposal taken
  abbrev pub backs : Point S D P G C → ℕ → Bool
  backs (voted_notarize at p) view = at == view
  backs (recalled_notarize p taken) view = taken && (p.round.view == view)
  backs x view = false

  -- a verdict was put off
  abbrev pub waits : Point S D P G C → ℕ → Bool
  waits (certify_waited at) view = at == view
  waits x view = false

  -- what is known by a history
  abbrev pub known : Setup S C → List (Point S D P G C) → Known D
  known s h = record {
    current = current s h;
    last_finalized = last_finalized h;
    floor = floor s h;
    genesis = genesis h;
    leader = leader s h;
    offers = λ view. past.offers (seen s h view);
    nullified = was_nullified h;
    notarized = λ view. option_map (λ (c : Notarization S D P G C). c.proposal) (past.notarization (seen s h view));
    finalized = λ view. option_map (λ (c : Finalization S D P G C). c.proposal) (past.finalization (seen s h view));
    verdict = λ view. past.verdict (seen s h view);
    has_notarized = λ view. past.has_notarized (seen s h view);
    has_nullified = λ view. past.has_nullified (seen s h view);
    has_finalized = λ view. past.has_finalized (seen s h view);
    is_backed = is_marked s backs h;
    last_asked = λ view. past.last_asked (seen s h view);
    binding = λ view. past.binding (seen s h view);
    certify_asked = λ view. past.is_certify_asked (seen s h view);
    certify_waited = is_marked s waits h;
  }
