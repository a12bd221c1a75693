-- Proposals as bytes.
use Rattle.std.specs.Prelude.{ℕ, ◌≤◌, List, ◌++◌, Result, refl}
use Rattle.std.specs.Ordering.{nat_cmp, ordering_then}
use Rattle.std.specs.declared.cmp.Ordering.{Ordering}
use Rattle.types_codec.specs.declared.codec.CodecError.{CodecError}
use Rattle.types_core.specs.declared.position.Round.{Round}
use Rattle.types_core.specs.declared.proposal.Proposal.{Proposal}
use Rattle.types_codec.specs.Codec.{IsCodec, both_at, as_at, both-IsCodec, as-IsCodec}
use Rattle.types_codec.specs.Varint.{varint, varint_at, varint-IsCodec, max_u64}
use Rattle.types_core.specs.Round.{round_spelling, round_fits, round_at, round-IsCodec}

-- the proposal of a round, a parent and a payload
abbrev pub proposal_of : {D : Type 0} → (Round × ℕ) × D → Proposal D
proposal_of p = record { round = p.0.0; parent = p.0.1; payload = p.1 }

-- a proposal's round, parent and payload
abbrev pub proposal_parts : {D : Type 0} → Proposal D → (Round × ℕ) × D
proposal_parts p = ((p.round, p.parent), p.payload)

-- a proposal as bytes: round, parent, payload
abbrev pub proposal_spelling : {D : Type 0} → (D → List ℕ) → Proposal D → List ℕ
proposal_spelling payload p = (round_spelling p.round ++ varint p.parent) ++ payload p.payload

-- the numbers have 64 bits, and the payload is one that can be spelled
abbrev pub proposal_fits : {D : Type 0} → (D → Type 0) → Proposal D → Type 0
proposal_fits F p = (round_fits p.round × (p.parent ≤ max_u64)) × F p.payload

-- reading a proposal: the round, the parent, then the payload
abbrev pub proposal_at : {D : Type 0} → (List ℕ → Result (D × List ℕ) CodecError) → List ℕ → Result (Proposal D × List ℕ) CodecError
proposal_at payload = as_at proposal_of (both_at (both_at round_at (varint_at max_u64)) payload)

-- each proposal has one spelling
pub proposal-IsCodec : {D : Type 0} {F : D → Type 0} {f : D → List ℕ} {r : List ℕ → Result (D × List ℕ) CodecError} → IsCodec F f r → IsCodec (proposal_fits F) (proposal_spelling f) (proposal_at r)
proposal-IsCodec p = as-IsCodec proposal_of proposal_parts (λ x. refl) (λ y. refl) (both-IsCodec (both-IsCodec round-IsCodec (varint-IsCodec max_u64)) p)

-- the order of proposals: by epoch, view, parent, then payload
abbrev pub proposal_cmp : {D : Type 0} → (D → D → Ordering) → Proposal D → Proposal D → Ordering
proposal_cmp cmp p q = ordering_then (ordering_then (nat_cmp p.round.epoch q.round.epoch) (nat_cmp p.round.view q.round.view)) (ordering_then (nat_cmp p.parent q.parent) (cmp p.payload q.payload))
