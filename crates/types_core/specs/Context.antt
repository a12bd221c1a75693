-- Contexts as bytes.
use Rattle.std.specs.Prelude.{ℕ, ◌≤◌, List, ◌++◌, Result, refl}
use Rattle.types_codec.specs.declared.codec.CodecError.{CodecError}
use Rattle.types_core.specs.declared.context.Context.{Context}
use Rattle.types_core.specs.declared.position.Round.{Round}
use Rattle.types_codec.specs.Codec.{IsCodec, both_at, as_at, both-IsCodec, as-IsCodec}
use Rattle.types_codec.specs.Varint.{varint, varint_at, varint-IsCodec, max_u64}
use Rattle.types_core.specs.Round.{round_spelling, round_fits, round_at, round-IsCodec}

module _ {D P : Type 0} where
  -- the context of a round, its leader's key, and the parent's view and payload
  abbrev pub context_of : ((Round × P) × ℕ) × D → Context D P
  context_of c = record { round = c.0.0.0; leader = c.0.0.1; parent = (c.0.1, c.1) }

  -- a context's round, leader's key, and parent's view and payload
  abbrev pub context_parts : Context D P → ((Round × P) × ℕ) × D
  context_parts c = (((c.round, c.leader), c.parent.0), c.parent.1)

  -- a context as bytes: round, leader's key, parent's view, parent's payload
  abbrev pub context_spelling : (P → List ℕ) → (D → List ℕ) → Context D P → List ℕ
  context_spelling key payload c = ((round_spelling c.round ++ key c.leader) ++ varint c.parent.0) ++ payload c.parent.1

  -- the numbers have 64 bits, and the key and the payload can be spelled
  abbrev pub context_fits : (P → Type 0) → (D → Type 0) → Context D P → Type 0
  context_fits K F c = ((round_fits c.round × K c.leader) × (c.parent.0 ≤ max_u64)) × F c.parent.1

  -- reading a context: the round, the leader's key, the parent's view, then its payload
  abbrev pub context_at : (List ℕ → Result (P × List ℕ) CodecError) → (List ℕ → Result (D × List ℕ) CodecError) → List ℕ → Result (Context D P × List ℕ) CodecError
  context_at key payload = as_at context_of (both_at (both_at (both_at round_at key) (varint_at max_u64)) payload)

  -- each context has one spelling
  pub context-IsCodec : {K : P → Type 0} {g : P → List ℕ} {k : List ℕ → Result (P × List ℕ) CodecError} {F : D → Type 0} {f : D → List ℕ} {r : List ℕ → Result (D × List ℕ) CodecError}
      → IsCodec K g k → IsCodec F f r → IsCodec (context_fits K F) (context_spelling g f) (context_at k r)
  context-IsCodec p q = as-IsCodec context_of context_parts (λ x. refl) (λ y. refl) (both-IsCodec (both-IsCodec (both-IsCodec round-IsCodec p) (varint-IsCodec max_u64)) q)
