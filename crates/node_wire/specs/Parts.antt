-- The parts that events and replies are spelled from.
use Rattle.std.specs.Prelude.{ℕ, zero, suc, Bool, true, false, List, [], ◌∷◌, ◌++◌, length, nat_lt, Option, Some, None, Result, Ok, Err, if◌then◌else◌, ⊤}
use Rattle.std.specs.List.{flat_map}
use Rattle.types_codec.specs.declared.codec.CodecError.{CodecError}
use Rattle.types_codec.specs.declared.codec.CodecError.TheVariants.{TooLong}
use Rattle.types_codec.specs.Codec.{◌>>=◌, bytes_at, nothing_at, or_at, tagged_at}
use Rattle.types_codec.specs.Varint.{varint, varint_at, max_u64}
use Rattle.simplex_member.specs.declared.event.Channel.{Channel}
use Rattle.simplex_member.specs.declared.event.Channel.TheVariants as channel

-- nothing is read: a tag alone says the value
abbrev pub alone_at : List ℕ → Result (⊤ × List ℕ) CodecError
alone_at bytes = Ok (tt, bytes)

-- a channel's byte
abbrev pub channel_byte : Channel → ℕ
channel_byte channel.Votes = 0
channel_byte channel.Certificates = 1
channel_byte channel.Fetches = 2

-- the channel at the front
unfoldable pub channel_at : List ℕ → Result (Channel × List ℕ) CodecError
channel_at = tagged_at (or_at 0 (λ _. channel.Votes) alone_at (or_at 1 (λ _. channel.Certificates) alone_at (or_at 2 (λ _. channel.Fetches) alone_at (λ _. nothing_at))))

-- the byte of an answer: no, yes, or none
abbrev pub answer_byte : Option Bool → ℕ
answer_byte (Some false) = 0
answer_byte (Some true) = 1
answer_byte None = 2

-- the answer at the front
unfoldable pub answer_at : List ℕ → Result (Option Bool × List ℕ) CodecError
answer_at = tagged_at (or_at 0 (λ _. Some false) alone_at (or_at 1 (λ _. Some true) alone_at (or_at 2 (λ _. None) alone_at (λ _. nothing_at))))

-- bytes behind their count
abbrev pub counted_spelling : List ℕ → List ℕ
counted_spelling bytes = varint (length bytes) ++ bytes

-- bytes behind their count, which is judged when it is read
unfoldable pub counted_at : ℕ → List ℕ → Result (List ℕ × List ℕ) CodecError
counted_at most bytes = do
  count ← varint_at max_u64 bytes
  if nat_lt most count.0 then Err TooLong else bytes_at count.0 count.1

module _ {A : Type 0} where
  -- whether there is a value, as a byte
  abbrev pub optional_tag : Option A → ℕ
  optional_tag None = 0
  optional_tag (Some x) = 1

  -- the value's bytes, if there is one
  abbrev pub optional_body : (A → List ℕ) → Option A → List ℕ
  optional_body f None = []
  optional_body f (Some x) = f x

  -- how many those are
  abbrev pub optional_length : (A → List ℕ) → Option A → ℕ
  optional_length f x = length (optional_body f x)

  -- a value or none: a byte that says which, then the value
  abbrev pub optional_spelling : (A → List ℕ) → Option A → List ℕ
  optional_spelling f x = optional_tag x ∷ optional_body f x

  -- the value, if there is one, can be spelled
  abbrev pub optional_fits : (A → Type 0) → Option A → Type 0
  optional_fits F None = ⊤
  optional_fits F (Some x) = F x

  -- the value or none at the front
  unfoldable pub optional_at : (List ℕ → Result (A × List ℕ) CodecError) → List ℕ → Result (Option A × List ℕ) CodecError
  optional_at r = tagged_at (or_at 0 (λ _. None) alone_at (or_at 1 (λ x. Some x) r (λ _. nothing_at)))

  -- values behind their count
  abbrev pub listed_spelling : (A → List ℕ) → List A → List ℕ
  listed_spelling f xs = varint (length xs) ++ flat_map f xs

  -- so many values, one after the other
  unfoldable pub several_at : (List ℕ → Result (A × List ℕ) CodecError) → ℕ → List ℕ → Result (List A × List ℕ) CodecError
  several_at r zero bytes = Ok ([], bytes)
  several_at r (suc k) bytes = do
    first ← r bytes
    others ← several_at r k first.1
    Ok (first.0 ∷ others.0, others.1)

  -- the values behind a count at the front
  unfoldable pub listed_at : (List ℕ → Result (A × List ℕ) CodecError) → List ℕ → Result (List A × List ℕ) CodecError
  listed_at r bytes = do
    count ← varint_at max_u64 bytes
    several_at r count.0 count.1
