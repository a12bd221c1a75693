-- What comes of a construction.
use Rattle.std.specs.Prelude.{◌≡◌, ℕ, Bool, true, false, List, [], ◌∷◌, length, map, All, Contains, Option, None, Some, IfSome, MatchOption, MatchBool}
use Rattle.std.specs.Option.{option_map}
use Rattle.types_core.specs.declared.attestation.Attestation.{Attestation}
use Rattle.types_core.specs.Subject.{Statement}
use Rattle.types_core.specs.declared.scheme.Scheme.{Ghosts}
use Rattle.simplex_messages.specs.declared.vote.Vote.{Vote}
use Rattle.simplex_messages.specs.VoteParts.{vote_signer}
use Rattle.messages_certificates.specs.declared.certificate.Certificate.{Certificate}
use Rattle.messages_certificates.specs.Certificate.{certificate_round, certificate_statement, certified_by}
use Rattle.types_terms.specs.declared.kind.Kind.{Kind}
use Rattle.types_terms.specs.declared.kind.Kind.TheVariants.{Notarization, Nullification, Finalization}
use Rattle.batcher_verifier.specs.declared.batch.Batch.{Batch}
use Rattle.batcher_assembly.specs.declared.judging.Judged.{Judged}
use Rattle.batcher_assembly.specs.Judging.{IsJudged, IsWhole}
use Rattle.batcher_verifier.specs.Votes.{is_kind, vote_kind, vote_statement, vote_attestation, certificate_kind}
use Rattle.batcher_verifier.specs.History.{History, Certified, Setup, accepted, context, waiting, verified, is_ready, next_kind}
use Rattle.batcher_verifier.specs.Lawful.{VoteAttests}
use Rattle.batcher_verifier.specs.History as history

-- how many kinds there are from the first of which a construction is due on
abbrev pub kinds_left : Option Kind → ℕ
kinds_left (Some Notarization) = 3
kinds_left (Some Nullification) = 2
kinds_left (Some Finalization) = 1
kinds_left None = 0

module _ {S D P G C : Type 0} where
  -- the history after a construction of a kind, of which something came or nothing
  abbrev pub after : Kind → Option (Batch (Certificate S D P G C)) → History S D P G C → History S D P G C
  after kind None h = h
  after kind (Some batch) h = after_ batch.certificate
    where
      after_ : Option (Certificate S D P G C) → History S D P G C
      after_ (Some c) = Certified c ∷ h
      after_ None = history.Judged kind batch.invalid.items ∷ h

  -- the history after a construction of the kind that is due, if one is
  abbrev pub after_construction : Option Kind → Option (Batch (Certificate S D P G C)) → History S D P G C → History S D P G C
  after_construction None made h = h
  after_construction (Some kind) made h = after kind made h

  -- what a batch says of the attestations that it is about
  abbrev pub judged_of : Batch (Certificate S D P G C) → Judged C
  judged_of batch = record { certificate = option_map certified_by batch.certificate; invalid = batch.invalid; fallback = batch.fallback }

  -- a certificate of this kind and of the round, that states this
  pub record IsCertificateOn (s : Setup S) (kind : Kind) (x : Statement D) (c : Certificate S D P G C) : Type 0 where
    pub kind_is : certificate_kind c ≡ kind
    pub round_is : certificate_round c ≡ s.round
    pub states : certificate_statement c ≡ x

  -- the certificate is within the bound of a committee of so many, and within 65,535: it can be sent, kept and read again
  abbrev pub IsReadable : (ℕ → C → Type 0) → ℕ → Certificate S D P G C → Type 0
  IsReadable within members c = within members (certified_by c) × within 65535 (certified_by c)

  -- the attestation is that of an accepted vote of this kind, which states this
  pub record IsVoted (kind : Kind) (h : History S D P G C) (x : Statement D) (a : Attestation G) : Type 0 where
    pub vote : Vote S D P G C
    pub accepted_is : Contains (accepted h) vote
    pub kind_is : is_kind kind (vote_kind vote) ≡ true
    pub states : vote_statement vote ≡ x
    pub attestation_is : vote_attestation vote ≡ a

  -- a vote of this kind and this member was accepted that does not attest what it states
  pub record HasFailed (attests : S → ℕ → Statement D → G → Type 0) (s : Setup S) (kind : Kind) (h : History S D P G C) (signer : ℕ) : Type 0 where
    pub vote : Vote S D P G C
    pub accepted_is : Contains (accepted h) vote
    pub kind_is : is_kind kind (vote_kind vote) ≡ true
    pub signer_is : vote_signer vote ≡ signer
    pub fails : VoteAttests attests s vote → ⊥

  module _ (g : Ghosts S D P G C) where
    -- a certificate of this kind and of the round that certifies what it states, and lists attestations of accepted votes
    -- alone that state the same
    pub record IsFounded (s : Setup S) (kind : Kind) (h : History S D P G C) (c : Certificate S D P G C) : Type 0 where
      pub kind_is : certificate_kind c ≡ kind
      pub round_is : certificate_round c ≡ s.round
      pub does_certify : g.certifies s.scheme (certificate_statement c) (certified_by c)
      pub listed : (a : Attestation G) → Contains (g.lists (certified_by c)) a → IsVoted kind h (certificate_statement c) a

    -- a certificate of this kind and of the round, of all these votes, each of which states what it states
    pub record IsCertificateOf (s : Setup S) (kind : Kind) (votes : List (Vote S D P G C)) (c : Certificate S D P G C) : Type 0 where
      pub kind_is : certificate_kind c ≡ kind
      pub round_is : certificate_round c ≡ s.round
      pub states : All (λ v. vote_statement v ≡ certificate_statement c) votes
      pub whole : IsWhole (g.certifies s.scheme (certificate_statement c)) g.lists g.enumerates (map vote_attestation votes) (certified_by c)

    module _ (same : D → D → Bool) where
      -- votes that are known to attest were enough: the certificate is of all of them, and nothing was judged
      pub record IsOfVerified (s : Setup S) (kind : Kind) (h : History S D P G C) (batch : Batch (Certificate S D P G C)) : Type 0 where
        pub none_processed : batch.processed ≡ 0
        pub none_invalid : batch.invalid.items ≡ []
        pub no_fallback : batch.fallback ≡ false
        pub certificate : Certificate S D P G C
        pub made : batch.certificate ≡ Some certificate
        pub certificate_is : IsCertificateOf s kind (verified same s kind h) certificate

      -- the votes of the kind that waited were all judged, beside those that are known to attest
      pub record IsOfWaiting (s : Setup S) (kind : Kind) (h : History S D P G C) (batch : Batch (Certificate S D P G C)) : Type 0 where
        pub processed_are : batch.processed ≡ length (waiting same s kind h)
        pub states : Statement D
        pub context_is : context s kind h ≡ Some states
        pub certificate_is : IfSome batch.certificate (λ c. IsCertificateOn s kind states c)
        pub judged : IsJudged (g.certifies s.scheme states) g.lists s.batchable (g.may_decline s.scheme states)
            (λ i a. g.attests s.scheme i states a) g.enumerates s.needed
            (map vote_attestation (verified same s kind h)) (map vote_attestation (waiting same s kind h)) (judged_of batch)

      -- what comes of a construction that is due
      abbrev pub IsBatch : Setup S → Kind → History S D P G C → Batch (Certificate S D P G C) → Type 0
      IsBatch s kind h batch = MatchBool (is_ready same s kind h) (IsOfVerified s kind h batch) (IsOfWaiting s kind h batch)

      -- what comes of a construction: nothing where none is due, else a batch of the first kind of which one is
      abbrev pub IsConstruction : Setup S → History S D P G C → Option (Batch (Certificate S D P G C)) → Type 0
      IsConstruction s h made = MatchOption (next_kind same s h) (made ≡ None) (λ kind. MatchOption made ⊥ (λ batch. IsBatch s kind h batch))
