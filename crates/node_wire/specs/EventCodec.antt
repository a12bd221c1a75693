-- One spelling for each event.
use Rattle.std.specs.Prelude.{◌≡◌, ℕ, ◌≤◌, List, [], ◌∷◌, ◌++◌, length, Result, Ok, refl, ⊤}
use Rattle.std.proofs.Common.{arith}
use Rattle.types_codec.specs.declared.codec.CodecError.{CodecError}
use Rattle.types_codec.specs.Codec.{IsCodec, TakesBehind, both_at, both-IsCodec, nothing-taken, or-taken, tagged-IsCodec}
use Rattle.types_codec.specs.Truth.{truth_spelling, truth_at, truth-IsCodec}
use Rattle.types_codec.specs.Varint.{varint, varint_at, varint-IsCodec, max_u32, max_u64}
use Rattle.node_wire.specs.Event.{EventValue, Packet, Built, Checked, Verdict, Moment, most_bytes, event_tag, event_body, event_spelling, event_fits, event_within, IsEvent, packet_of, built_of, checked_of, verdict_of, moment_of, event_behind, event_at}
use Rattle.node_wire.specs.Parts.{channel_byte, channel_at, answer_byte, answer_at, counted_spelling, counted_at, optional_spelling, optional_fits, optional_at}
use Rattle.node_wire.specs.PartsCodec.{channel-IsCodec, answer-IsCodec, counted-IsCodec, optional-IsCodec}

-- an event is read exactly where its bytes stand
pub event-IsCodec : {D : Type 0} {Q : D → Type 0} {p : D → List ℕ} {q : List ℕ → Result (D × List ℕ) CodecError} → IsCodec Q p q → IsCodec (IsEvent Q) (event_spelling p) (event_at q)
unfolding event_fits event_within event_spelling event_behind event_at
event-IsCodec {D} {Q} {p} {q} c = tagged-IsCodec (record { takes = forms.taken; again = again })
  where
    packet : IsCodec (λ x. ((x.0.0 ≤ max_u32) × ⊤) × (length x.1 ≤ most_bytes)) (λ x. (varint x.0.0 ++ (channel_byte x.0.1 ∷ [])) ++ counted_spelling x.1) (both_at (both_at (varint_at max_u32) channel_at) (counted_at most_bytes))
    packet = both-IsCodec (both-IsCodec (varint-IsCodec max_u32) channel-IsCodec) (counted-IsCodec most_bytes (omega arith))

    built : IsCodec (λ x. (x.0 ≤ max_u64) × optional_fits Q x.1) (λ x. varint x.0 ++ optional_spelling p x.1) (both_at (varint_at max_u64) (optional_at q))
    built = both-IsCodec (varint-IsCodec max_u64) (optional-IsCodec c)

    checked : IsCodec (λ x. (x.0 ≤ max_u64) × ⊤) (λ x. varint x.0 ++ (answer_byte x.1 ∷ [])) (both_at (varint_at max_u64) answer_at)
    checked = both-IsCodec (varint-IsCodec max_u64) answer-IsCodec

    verdict : IsCodec (λ x. (x.0 ≤ max_u64) × ⊤) (λ x. varint x.0 ++ truth_spelling x.1) (both_at (varint_at max_u64) truth_at)
    verdict = both-IsCodec (varint-IsCodec max_u64) truth-IsCodec

    forms : TakesBehind (IsEvent Q) event_tag (event_body p) (event_behind q)
    forms = or-taken 0 packet_of packet (λ x h. (refl, refl, (h.0.0, h.1)))
        (or-taken 1 built_of built (λ x h. (refl, refl, (h, tt)))
        (or-taken 2 checked_of checked (λ x h. (refl, refl, (h.0, tt)))
        (or-taken 3 verdict_of verdict (λ x h. (refl, refl, (h.0, tt)))
        (or-taken 4 moment_of (varint-IsCodec max_u64) (λ x h. (refl, refl, (h, tt))) nothing-taken))))

    again : (x : EventValue D) (rest : List ℕ) → IsEvent Q x → event_behind q (event_tag x) (event_body p x ++ rest) ≡ Ok (x, rest)
    again (Packet sender by bytes) rest fits = rw (packet.again ((sender, by), bytes) rest ((fits.0, tt), fits.1)) refl
    again (Built number payload) rest fits = rw (built.again (number, payload) rest fits.0) refl
    again (Checked number answer) rest fits = rw (checked.again (number, answer) rest (fits.0, tt)) refl
    again (Verdict view ok) rest fits = rw (verdict.again (view, ok) rest (fits.0, tt)) refl
    again (Moment now) rest fits = rw ((varint-IsCodec max_u64).again now rest fits.0) refl
