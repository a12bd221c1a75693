-- Rounds as bytes.
use Rattle.std.specs.Prelude.{ℕ, ◌≤◌, List, ◌++◌, Result, refl}
use Rattle.types_codec.specs.declared.codec.CodecError.{CodecError}
use Rattle.types_core.specs.declared.position.Round.{Round}
use Rattle.types_codec.specs.Codec.{IsCodec, both_at, as_at, both-IsCodec, as-IsCodec}
use Rattle.types_codec.specs.Varint.{varint, varint_at, varint-IsCodec, max_u64}

-- the round of an epoch and a view
abbrev pub round_of : ℕ × ℕ → Round
round_of p = record { epoch = p.0; view = p.1 }

-- a round's epoch and view
abbrev pub round_parts : Round → ℕ × ℕ
round_parts r = (r.epoch, r.view)

-- a round as bytes: epoch, view
abbrev pub round_spelling : Round → List ℕ
round_spelling r = varint r.epoch ++ varint r.view

-- both numbers have 64 bits
abbrev pub round_fits : Round → Type 0
round_fits r = (r.epoch ≤ max_u64) × (r.view ≤ max_u64)

-- reading a round: the epoch, then the view
abbrev pub round_at : List ℕ → Result (Round × List ℕ) CodecError
round_at = as_at round_of (both_at (varint_at max_u64) (varint_at max_u64))

-- each round has one spelling
pub round-IsCodec : IsCodec round_fits round_spelling round_at
round-IsCodec = as-IsCodec round_of round_parts (λ x. refl) (λ y. refl) (both-IsCodec (varint-IsCodec max_u64) (varint-IsCodec max_u64))
