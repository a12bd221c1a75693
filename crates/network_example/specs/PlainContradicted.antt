-- The example of contradictory certificates under the plain scheme.
use Rattle.std.specs.Prelude.{ℕ, List, [], ◌∷◌}
use Rattle.std.specs.declared.cmp.Ordering.{Ordering}
use Rattle.types_core.specs.declared.attestation.Attestation.{Attestation}
use Rattle.types_core.specs.declared.scheme.Scheme.{Ghosts}
use Rattle.types_core.specs.Subject.{Statement, finalize, nullify}
use Rattle.messages_certificates.specs.declared.certificate.Certificate.TheVariants as certificate
use Rattle.simplex_types.specs.Plain.{Committee, signature}
use Rattle.simplex_member.specs.declared.event.Channel.TheVariants as channel
use Rattle.simplex_member.specs.declared.event.Event.{Event}
use Rattle.simplex_member.specs.Packet.{Formats, of_certificate}
use Rattle.network_example.specs.Contradicted.{Forged, IsNamedFor, finalization, nullification, second}
use Rattle.network_example.specs.Example.{IsOfBytes}
use Rattle.network_example.specs.Plain.{member_of_four}

module _ {D : Type 0} (payload : D → List ℕ) (base : List ℕ) where
  -- a member's attestation of a statement; the certificate of the three that are excused
  abbrev pub stated_by : Statement D → ℕ → Attestation (List ℕ)
  stated_by t i = record { signer = i; signature = signature payload base i t }

  abbrev pub by_three : Statement D → List (Attestation (List ℕ))
  by_three t = stated_by t 1 ∷ stated_by t 2 ∷ stated_by t 3 ∷ []

  -- the example, of this payload at the start and this one of the round, and these packets
  abbrev pub plain_forged : D → D → Event D → Event D → Forged Committee D (List (Attestation (List ℕ)))
  plain_forged genesis agreed final null = record {
    own = member_of_four base 0;
    given_up = by_three (nullify second);
    agreed = by_three (finalize (record { round = second; parent = 0; payload = agreed }));
    genesis = genesis;
    payload = agreed;
    final_packet = final;
    null_packet = null;
  }

-- so the audit names two, where the payload can be spelled and the packets are the certificates' own bytes
abbrev pub PlainContradictionsAreNamed : {D P : Type 0} → Ghosts Committee D P (List ℕ) (List (Attestation (List ℕ)))
    → Formats Committee D P (List ℕ) (List (Attestation (List ℕ)))
    → (D → D → Ordering) → (D → List ℕ) → (D → Type 0) → Type 0
PlainContradictionsAreNamed {D} {P} g f cmp payload Fits = (base : List ℕ) (genesis agreed : D) (final null : Event D) → Fits agreed
    → IsOfBytes final 3 channel.Certificates (f.packet (of_certificate (certificate.Finalization (finalization (plain_forged payload base genesis agreed final null)))))
    → IsOfBytes null 3 channel.Certificates (f.packet (of_certificate (certificate.Nullification (nullification (plain_forged payload base genesis agreed final null)))))
    → IsNamedFor g f cmp (member_of_four base 0) (plain_forged payload base genesis agreed final null)
