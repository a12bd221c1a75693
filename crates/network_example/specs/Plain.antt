-- The example under the plain scheme.
use Rattle.std.specs.Prelude.{ℕ, List, [], ◌∷◌, Some}
use Rattle.types_core.specs.declared.attestation.Attestation.{Attestation}
use Rattle.types_core.specs.declared.scheme.Scheme.{Ghosts}
use Rattle.simplex_types.specs.Plain.{Committee, signature}
use Rattle.types_core.specs.Subject.{nullify}
use Rattle.simplex_member.specs.declared.event.Channel.TheVariants as channel
use Rattle.simplex_member.specs.declared.event.Event.{Event}
use Rattle.simplex_member.specs.Packet.{Formats, of_certificate}
use Rattle.network_example.specs.Example.{IsExample, IsOfBytes, Parts, first, given_up, sender_to}

-- a member's view of a committee of four
abbrev pub member_of_four : List ℕ → ℕ → Committee
member_of_four base i = record { base = base; participants = 4; me = Some i }

module _ {D : Type 0} (payload : D → List ℕ) (base : List ℕ) where
  -- its attestation that the first view is given up
  abbrev pub attested_by : ℕ → Attestation (List ℕ)
  attested_by i = record { signer = i; signature = signature payload base i (nullify first) }

  -- the example: the certificate lists the attestations of the three
  abbrev pub plain_parts : D → Event D → (ℕ → Event D) → Parts Committee D (List ℕ) (List (Attestation (List ℕ)))
  plain_parts genesis junk handed = record {
    own = member_of_four base;
    signed = λ i. (attested_by i).signature;
    packed = attested_by 0 ∷ attested_by 1 ∷ attested_by 2 ∷ [];
    genesis = genesis;
    junk = junk;
    handed = handed;
  }

-- a network is there, where the liar sends no bytes for a vote, and the certificate is handed over in its own bytes
abbrev pub PlainNetworksAreThere : {D P : Type 0} → Ghosts Committee D P (List ℕ) (List (Attestation (List ℕ)))
    → Formats Committee D P (List ℕ) (List (Attestation (List ℕ))) → (D → List ℕ) → Type 0
PlainNetworksAreThere {D} {P} g f payload = (base : List ℕ) (genesis : D) (junk : Event D) (handed : ℕ → Event D)
    → IsOfBytes junk 3 channel.Votes []
    → ((i : ℕ) → IsOfBytes (handed i) (sender_to i) channel.Certificates (f.packet (of_certificate (given_up (plain_parts payload base genesis junk handed)))))
    → IsExample g f (member_of_four base 0) (plain_parts payload base genesis junk handed)
