-- What can be asked about the accepted votes, own ones among them.
use Rattle.std.specs.Prelude.{◌==◌, ◌&&◌, ℕ, Bool, false, List, Option, None, Some, find, filter, is_none, is_some}
use Rattle.std.specs.List.{range_with_len}
use Rattle.types_core.specs.declared.proposal.Proposal.{Proposal}
use Rattle.simplex_messages.specs.declared.vote.Vote.{Vote}
use Rattle.simplex_messages.specs.declared.vote.Vote.TheVariants as vote
use Rattle.simplex_messages.specs.VoteParts.{vote_signer}
use Rattle.types_terms.specs.declared.kind.Kind.TheVariants.{Nullification}
use Rattle.batcher_verifier.specs.Votes.{is_kind, is_proposal, vote_kind}
use Rattle.batcher_verifier.specs.History.{History, Setup, accepted}

-- there is one, and it passes
abbrev pub passes : {X : Type 0} → (X → Bool) → Option X → Bool
passes p None = false
passes p (Some x) = p x

module _ {S D P G C : Type 0} where
  -- the vote is a nullify
  abbrev pub is_nullify : Vote S D P G C → Bool
  is_nullify v = is_kind Nullification (vote_kind v)

  -- a nullify of this signer was accepted
  abbrev pub has_nullify : History S D P G C → ℕ → Bool
  has_nullify h signer = is_some (find (λ v. (vote_signer v == signer) && is_nullify v) (accepted h))

  module _ (same : D → D → Bool) where
    -- the vote is a notarize or a finalize for the proposal
    abbrev pub is_backing : Proposal D → Vote S D P G C → Bool
    is_backing p (vote.Notarize v) = is_proposal same v.proposal p
    is_backing p (vote.Nullify v) = false
    is_backing p (vote.Finalize v) = is_proposal same v.proposal p

    -- no notarize and no finalize of this signer for the proposal was accepted
    abbrev pub is_missing_voter : History S D P G C → Proposal D → ℕ → Bool
    is_missing_voter h p signer = is_none (find (λ v. (vote_signer v == signer) && is_backing p v) (accepted h))

    -- the members of which no vote for the proposal was accepted, ascending
    abbrev pub missing_voters : Setup S → History S D P G C → Proposal D → List ℕ
    missing_voters s h p = filter (is_missing_voter h p) (range_with_len 0 s.members)
