-- Events as bytes.
use Rattle.std.specs.Prelude.{ℕ, ◌≤◌, Bool, List, [], ◌∷◌, ◌++◌, length, Option, Result, ⊤}
use Rattle.types_codec.specs.declared.codec.CodecError.{CodecError}
use Rattle.types_codec.specs.Codec.{Readable, both_at, nothing_at, or_at, tagged_at}
use Rattle.types_codec.specs.Truth.{truth_spelling, truth_at}
use Rattle.types_codec.specs.Varint.{varint, varint_at, max_u32, max_u64}
use Rattle.simplex_member.specs.declared.event.Channel.{Channel}
use Rattle.simplex_member.specs.declared.event.Event.{Event}
use Rattle.simplex_member.specs.declared.event.Event.TheVariants as event
use Rattle.node_wire.specs.Parts.{channel_byte, channel_at, answer_byte, answer_at, counted_spelling, counted_at, optional_length, optional_spelling, optional_fits, optional_at}

-- an event as a value, which says of a packet's bytes which they are, and not where they are kept
pub data EventValue (D : Type 0) : Type 0 where
  Packet : ℕ → Channel → List ℕ → EventValue D
  Built : ℕ → Option D → EventValue D
  Checked : ℕ → Option Bool → EventValue D
  Verdict : ℕ → Bool → EventValue D
  Moment : ℕ → EventValue D

-- the most bytes of a packet in an event
abbrev pub most_bytes : ℕ
most_bytes = 16777216

-- more bytes than any event has
abbrev pub longest_event : ℕ
longest_event = 33554432

-- events on payloads D
module _ {D : Type 0} where
  -- the value that an event is
  abbrev pub event_value : Event D → EventValue D
  event_value (event.Packet sender by bytes) = Packet sender by bytes.items
  event_value (event.Built number payload) = Built number payload
  event_value (event.Checked number answer) = Checked number answer
  event_value (event.Verdict view ok) = Verdict view ok
  event_value (event.Moment now) = Moment now

  -- the byte that an event begins with
  abbrev pub event_tag : EventValue D → ℕ
  event_tag (Packet sender by bytes) = 0
  event_tag (Built number payload) = 1
  event_tag (Checked number answer) = 2
  event_tag (Verdict view ok) = 3
  event_tag (Moment now) = 4

  -- the bytes behind the tag, by the spelling of payloads
  abbrev pub event_body : (D → List ℕ) → EventValue D → List ℕ
  event_body p (Packet sender by bytes) = (varint sender ++ (channel_byte by ∷ [])) ++ counted_spelling bytes
  event_body p (Built number payload) = varint number ++ optional_spelling p payload
  event_body p (Checked number answer) = varint number ++ (answer_byte answer ∷ [])
  event_body p (Verdict view ok) = varint view ++ truth_spelling ok
  event_body p (Moment now) = varint now

  -- an event as bytes: the tag, then what it holds
  unfoldable pub event_spelling : (D → List ℕ) → EventValue D → List ℕ
  event_spelling p e = event_tag e ∷ event_body p e

  -- the numbers fit their types, and the payload is one that can be spelled
  unfoldable pub event_fits : (D → Type 0) → EventValue D → Type 0
  event_fits F (Packet sender by bytes) = sender ≤ max_u32
  event_fits F (Built number payload) = (number ≤ max_u64) × optional_fits F payload
  event_fits F (Checked number answer) = number ≤ max_u64
  event_fits F (Verdict view ok) = view ≤ max_u64
  event_fits F (Moment now) = now ≤ max_u64

  -- a packet has at most so many bytes as one in an event may have
  unfoldable pub event_within : EventValue D → Type 0
  event_within (Packet sender by bytes) = length bytes ≤ most_bytes
  event_within (Built number payload) = ⊤
  event_within (Checked number answer) = ⊤
  event_within (Verdict view ok) = ⊤
  event_within (Moment now) = ⊤

  -- how many bytes of an event are a payload's
  abbrev pub payload_length : (D → List ℕ) → EventValue D → ℕ
  payload_length p (Packet sender by bytes) = 0
  payload_length p (Built number payload) = optional_length p payload
  payload_length p (Checked number answer) = 0
  payload_length p (Verdict view ok) = 0
  payload_length p (Moment now) = 0

  -- an event that can be read, where these payloads can
  abbrev pub IsEvent : (D → Type 0) → EventValue D → Type 0
  IsEvent F = Readable (event_fits F) event_within

  -- an event of each kind, of what stands behind its tag
  abbrev pub packet_of : (ℕ × Channel) × List ℕ → EventValue D
  packet_of x = Packet x.0.0 x.0.1 x.1

  abbrev pub built_of : ℕ × Option D → EventValue D
  built_of x = Built x.0 x.1

  abbrev pub checked_of : ℕ × Option Bool → EventValue D
  checked_of x = Checked x.0 x.1

  abbrev pub verdict_of : ℕ × Bool → EventValue D
  verdict_of x = Verdict x.0 x.1

  abbrev pub moment_of : ℕ → EventValue D
  moment_of now = Moment now

  -- what stands behind a tag
  unfoldable pub event_behind : (List ℕ → Result (D × List ℕ) CodecError) → ℕ → List ℕ → Result (EventValue D × List ℕ) CodecError
  event_behind q =
      or_at 0 packet_of (both_at (both_at (varint_at max_u32) channel_at) (counted_at most_bytes)) (
      or_at 1 built_of (both_at (varint_at max_u64) (optional_at q)) (
      or_at 2 checked_of (both_at (varint_at max_u64) answer_at) (
      or_at 3 verdict_of (both_at (varint_at max_u64) truth_at) (
      or_at 4 moment_of (varint_at max_u64) (λ _. nothing_at)))))

  -- the event at the front: a tag, then what stands behind it
  unfoldable pub event_at : (List ℕ → Result (D × List ℕ) CodecError) → List ℕ → Result (EventValue D × List ℕ) CodecError
  event_at q = tagged_at (event_behind q)
