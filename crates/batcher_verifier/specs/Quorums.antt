-- Quorums of votes, and that none is lost.
use Rattle.std.specs.Prelude.{◌≡◌, ◌≤◌, ℕ, true, List, [], ◌∷◌, length, All, Contains, Some, MatchOption, ⊤}
use Rattle.types_quorum.specs.Counting.{NoneTwice}
use Rattle.types_core.specs.Subject.{Statement}
use Rattle.types_core.specs.declared.proposal.Proposal.{Proposal}
use Rattle.simplex_messages.specs.declared.vote.Vote.{Vote}
use Rattle.simplex_messages.specs.VoteParts.{vote_signer}
use Rattle.types_terms.specs.declared.kind.Kind.{Kind}
use Rattle.types_terms.specs.declared.kind.Kind.TheVariants.{Notarization, Nullification, Finalization}
use Rattle.batcher_verifier.specs.Votes.{is_kind, vote_kind, vote_statement}
use Rattle.batcher_verifier.specs.History.{History, Setup, accepted, selected, is_complete, context}
use Rattle.batcher_verifier.specs.Lawful.{VoteAttests}

module _ {S D P G C : Type 0} where
  -- at each point no other proposal than this was selected
  abbrev pub NeverOther : Proposal D → History S D P G C → Type 0
  NeverOther p [] = ⊤
  NeverOther p (e ∷ h) = MatchOption (selected (e ∷ h)) ⊤ (λ q. q ≡ p) × NeverOther p h

  -- the selected proposal replaced no other
  abbrev pub ReplacedNone : History S D P G C → Type 0
  ReplacedNone h = MatchOption (selected h) ⊤ (λ p. NeverOther p h)

  -- where the votes of this kind are for a proposal, the selected one replaced no other
  abbrev pub IsUnreplaced : Kind → History S D P G C → Type 0
  IsUnreplaced Notarization h = ReplacedNone h
  IsUnreplaced Nullification h = ⊤
  IsUnreplaced Finalization h = ReplacedNone h

  module _ (attests : S → ℕ → Statement D → G → Type 0) (s : Setup S) where
    -- a vote of this kind by this member was accepted, or given by itself, which states this and attests it
    pub record Backs (kind : Kind) (h : History S D P G C) (x : Statement D) (signer : ℕ) : Type 0 where
      pub vote : Vote S D P G C
      pub accepted_is : Contains (accepted h) vote
      pub kind_is : is_kind kind (vote_kind vote) ≡ true
      pub signer_is : vote_signer vote ≡ signer
      pub states : vote_statement vote ≡ x
      pub attests_it : VoteAttests attests s vote

    -- a kind has a valid quorum: as many members as needed back the round, or the selected proposal
    pub record HasQuorum (kind : Kind) (h : History S D P G C) : Type 0 where
      pub stated : Statement D
      pub context_is : context s kind h ≡ Some stated
      pub signers : List ℕ
      pub distinct : NoneTwice signers
      pub enough : s.needed ≤ length signers
      pub each : All (Backs kind h stated) signers

    -- each kind with a valid quorum has its certificate, but where the selected proposal replaced another
    abbrev pub AllCertified : History S D P G C → Type 0
    AllCertified h = (kind : Kind) → HasQuorum kind h → IsUnreplaced kind h → is_complete kind h ≡ true
