-- Which histories a round can have.
use Rattle.std.specs.Prelude.{◌≡◌, ℕ, Bool, true, false, List, [], ◌∷◌, Contains, None, find, is_some, ⊤}
use Rattle.types_core.specs.Subject.{Statement}
use Rattle.simplex_messages.specs.declared.vote.Vote.{Vote}
use Rattle.messages_certificates.specs.declared.certificate.Certificate.{Certificate}
use Rattle.simplex_messages.specs.VoteParts.{vote_round, vote_signer}
use Rattle.messages_certificates.specs.Certificate.{certificate_round}
use Rattle.types_terms.specs.declared.kind.Kind.{Kind}
use Rattle.batcher_assembly.specs.Judging.{is_among}
use Rattle.batcher_verifier.specs.Votes.{vote_statement, vote_attestation, is_in_way}
use Rattle.batcher_verifier.specs.History.{Event, Taken, Cast, Certified, Led, Judged, Forwarded, History, Setup, recorded, leader_of, has_forwarded, context, waiting, verified}

module _ {S D P G C : Type 0} where
  -- the vote is of this round, and no accepted vote stands in its way
  pub record IsNew (s : Setup S) (h : History S D P G C) (v : Vote S D P G C) : Type 0 where
    pub ours : vote_round v ≡ s.round
    pub free : recorded h v ≡ None

  -- the vote's attestation attests what the vote states
  abbrev pub VoteAttests : (S → ℕ → Statement D → G → Type 0) → Setup S → Vote S D P G C → Type 0
  VoteAttests attests s v = attests s.scheme (vote_signer v) (vote_statement v) (vote_attestation v).signature

  module _ (same : D → D → Bool) where
    -- the vote is of this round, and no vote that waits or is known to attest stands in its way: none of its signer of its
    -- kind or, of nullify and finalize, of either
    pub record MayBeAdded (s : Setup S) (h : History S D P G C) (v : Vote S D P G C) : Type 0 where
      pub ours : vote_round v ≡ s.round
      pub none_waits : (kind : Kind) → find (is_in_way v) (waiting same s kind h) ≡ None
      pub none_verified : (kind : Kind) → find (is_in_way v) (verified same s kind h) ≡ None

  module _ (same : D → D → Bool) (attests : S → ℕ → Statement D → G → Type 0) where
    -- the votes of a kind that wait were judged rightly: it was known what they have to state, and just those that fail are
    -- of these signers
    pub record IsRight (s : Setup S) (h : History S D P G C) (kind : Kind) (failing : List ℕ) : Type 0 where
      pub known : is_some (context s kind h) ≡ true
      pub others_attest : (v : Vote S D P G C) → Contains (waiting same s kind h) v → is_among failing (vote_signer v) ≡ false → VoteAttests attests s v
      pub each_fails : (v : Vote S D P G C) → Contains (waiting same s kind h) v → VoteAttests attests s v → is_among failing (vote_signer v) ≡ false

    -- what may happen after a history
    abbrev pub Allowed : Setup S → History S D P G C → Event (Vote S D P G C) (Certificate S D P G C) → Type 0
    Allowed s h (Taken v) = IsNew s h v
    Allowed s h (Cast v) = IsNew s h v × VoteAttests attests s v
    Allowed s h (Certified c) = certificate_round c ≡ s.round
    Allowed s h (Led i) = leader_of h ≡ None
    Allowed s h (Judged kind failing) = IsRight s h kind failing
    Allowed s h Forwarded = has_forwarded h ≡ false

    -- each event was allowed after those before it
    abbrev pub IsLawful : Setup S → History S D P G C → Type 0
    IsLawful s [] = ⊤
    IsLawful s (e ∷ h) = Allowed s h e × IsLawful s h

    -- What may happen where votes are told by those alone that wait or are known to attest: as what is allowed, but that a
    -- vote which came before and counts no more stands in no vote's way.
    abbrev pub MayHappen : Setup S → History S D P G C → Event (Vote S D P G C) (Certificate S D P G C) → Type 0
    MayHappen s h (Taken v) = MayBeAdded same s h v
    MayHappen s h (Cast v) = MayBeAdded same s h v × VoteAttests attests s v
    MayHappen s h (Certified c) = certificate_round c ≡ s.round
    MayHappen s h (Led i) = leader_of h ≡ None
    MayHappen s h (Judged kind failing) = IsRight s h kind failing
    MayHappen s h Forwarded = has_forwarded h ≡ false

    -- each event could happen so after those before it
    abbrev pub IsConsistent : Setup S → History S D P G C → Type 0
    IsConsistent s [] = ⊤
    IsConsistent s (e ∷ h) = MayHappen s h e × IsConsistent s h
