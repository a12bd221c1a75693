-- How long an event's bytes are.
use Rattle.std.proofs.Common.{◌≡◌, ℕ, suc, ◌+◌, ◌≤◌, List, [], ◌∷◌, ◌++◌, length, arith, refl, length-append}
use Rattle.std.specs.Prelude.{Bool, true, false}
use Rattle.types_codec.specs.Truth.{truth_spelling}
use Rattle.types_codec.specs.Varint.{varint, length-varint}
use Rattle.node_wire.specs.Event.{EventValue, Packet, Built, Checked, Verdict, Moment, IsEvent, event_body, event_fits, event_spelling, event_within, longest_event, payload_length}
use Rattle.node_wire.specs.Parts.{answer_byte, channel_byte, counted_spelling, optional_body, optional_spelling}

-- a truth value has one byte
one_byte : (ok : Bool) → length (truth_spelling ok) ≡ 1
one_byte false = refl
one_byte true = refl

-- of two parts, behind one byte
two_parts : (first rest : List ℕ) (a b : ℕ) → length first ≤ a → length rest ≤ b → length (first ++ rest) ≤ a + b
two_parts first rest a b short small = omega (arith, length-append first rest, short, small)

module _ {D : Type 0} (F : D → Type 0) (p : D → List ℕ) where
  -- what stands behind the tag
  body_short : (e : EventValue D) → IsEvent F e → payload_length p e ≤ 1024 → length (event_body p e) ≤ 16777216 + 2048
  unfolding event_fits event_within
  body_short (Packet sender by bytes) fits short =
      let name : length (varint sender) ≤ 5 = length-varint 4 sender (omega (arith, fits.0)) in
      let head : length (varint sender ++ (channel_byte by ∷ [])) ≤ 5 + 1 = two_parts (varint sender) (channel_byte by ∷ []) 5 1 name (omega arith) in
      let count : length (varint (length bytes)) ≤ 4 = length-varint 3 (length bytes) (omega (arith, fits.1)) in
      let packet : length (counted_spelling bytes) ≤ 4 + 16777216 = two_parts (varint (length bytes)) bytes 4 16777216 count fits.1 in
      let all : length (event_body p (Packet sender by bytes)) ≤ (5 + 1) + (4 + 16777216) = two_parts (varint sender ++ (channel_byte by ∷ [])) (counted_spelling bytes) (5 + 1) (4 + 16777216) head packet in
      omega (arith, all)
  body_short (Built number payload) fits short =
      let count : length (varint number) ≤ 10 = length-varint 9 number (omega (arith, fits.0.0)) in
      let body : length (optional_body p payload) ≤ 1024 = short in
      let tagged : length (optional_spelling p payload) ≤ 1025 = omega (arith, body) in
      let all : length (event_body p (Built number payload)) ≤ 10 + 1025 = two_parts (varint number) (optional_spelling p payload) 10 1025 count tagged in
      omega (arith, all)
  body_short (Checked number answer) fits short =
      let count : length (varint number) ≤ 10 = length-varint 9 number (omega (arith, fits.0)) in
      let all : length (event_body p (Checked number answer)) ≤ 10 + 1 = two_parts (varint number) (answer_byte answer ∷ []) 10 1 count (omega arith) in
      omega (arith, all)
  body_short (Verdict view ok) fits short =
      let count : length (varint view) ≤ 10 = length-varint 9 view (omega (arith, fits.0)) in
      let all : length (event_body p (Verdict view ok)) ≤ 10 + 1 = two_parts (varint view) (truth_spelling ok) 10 1 count (omega (arith, one_byte ok)) in
      omega (arith, all)
  body_short (Moment now) fits short =
      let all : length (event_body p (Moment now)) ≤ 10 = length-varint 9 now (omega (arith, fits.0)) in
      omega (arith, all)

  -- none is longer
  pub never_longer : (e : EventValue D) → IsEvent F e → payload_length p e ≤ 1024 → length (event_spelling p e) ≤ longest_event
  unfolding event_spelling
  never_longer e fits short =
      let all : length (event_spelling p e) ≡ suc (length (event_body p e)) = refl in
      omega (arith, all, body_short e fits short)
