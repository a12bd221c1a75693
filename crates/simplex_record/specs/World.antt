-- A world: a committee of which some may lie, and what each of the others recorded.
use Rattle.std.specs.Prelude.{◌≡◌, ℕ, ◌≤◌, ◌<◌, List, length, Contains}
use Rattle.types_core.specs.declared.attestation.Attestation.{Attestation}
use Rattle.types_core.specs.Quorum.{IsQuorum}
use Rattle.types_quorum.specs.Committee.{faults}
use Rattle.types_core.specs.Subject.{Statement}
use Rattle.messages_certificates.specs.declared.artifact.Artifact.{Artifact}
use Rattle.messages_certificates.specs.declared.certificate.Certificate.{Certificate}
use Rattle.messages_certificates.specs.Artifact.{certificate_artifact}
use Rattle.messages_certificates.specs.Certificate.{certificate_statement, certified_by}
use Rattle.simplex_record.specs.Record.{entries, HasVoted}
use Rattle.simplex_record.specs.Lawful.{VotesLawfully}

-- how many members the committee has, its epoch and how many views a term has, which members are excused from all
-- rules, and for each other member the list of all artifacts that it ever recorded
pub record World (S D P G C : Type 0) : Type 0 where
  pub size : ℕ
  pub epoch : ℕ
  pub term_length : ℕ
  pub excused : List ℕ
  pub recorded : ℕ → List (Artifact S D P G C)

-- a member of the committee that isn't excused
abbrev pub IsCorrect : {S D P G C : Type 0} → World S D P G C → ℕ → Type 0
IsCorrect world i = (i < world.size) × (Contains world.excused i → ⊥)

module _ {S D P G C : Type 0} (attests : ℕ → Statement D → G → Type 0) (lists : C → List (Attestation G)) (world : World S D P G C) where
  -- the attestations that the certificate lists
  abbrev pub listed : Certificate S D P G C → List (Attestation G)
  listed c = lists (certified_by c)

  -- each verifying vote that the certificate lists in a correct member's name is on a statement for which that member
  -- recorded a vote
  abbrev pub IsHonest : Certificate S D P G C → Type 0
  IsHonest c = (a : Attestation G) → Contains (listed c) a → IsCorrect world a.signer
      → attests a.signer (certificate_statement c) a.signature → HasVoted (entries (world.recorded a.signer)) (certificate_statement c)

  -- the certificate certifies: it lists attestations of a quorum, and each attests; and it is honest
  pub record IsSound (c : Certificate S D P G C) : Type 0 where
    pub backed : IsQuorum world.size (λ i a. attests i (certificate_statement c) a) (listed c)
    pub honest : IsHonest c

-- a member's own scheme has the committee's size, and what attests by it attests by the committee's
pub record IsAlike {D G : Type 0} (size : ℕ) (attests : ℕ → Statement D → G → Type 0) (own_size : ℕ)
    (own_attests : ℕ → Statement D → G → Type 0) : Type 0 where
  pub size_is : own_size ≡ size
  pub attests_too : (i : ℕ) (s : Statement D) (a : G) → own_attests i s a → attests i s a

module _ {S D P G C : Type 0} (attests : ℕ → Statement D → G → Type 0) (size_by : ℕ → ℕ) (attests_by : ℕ → ℕ → Statement D → G → Type 0) (certifies_by : ℕ → Statement D → C → Type 0) (lists : C → List (Attestation G)) (world : World S D P G C) where
  -- at most as many are excused as may be faulty. Of each correct member, the scheme is like the committee's, it votes
  -- lawfully by its own scheme, and the certificates that it ever recorded are honest
  pub record IsWorld : Type 0 where
    pub some : 0 < world.size
    pub few : length world.excused ≤ faults world.size
    pub alike : (i : ℕ) → IsCorrect world i → IsAlike world.size attests (size_by i) (attests_by i)
    pub lawful : (i : ℕ) → IsCorrect world i → VotesLawfully (attests_by i) (certifies_by i) (record { epoch = world.epoch; term_length = world.term_length; signer = i }) (world.recorded i)
    pub honest : (i : ℕ) → IsCorrect world i → (c : Certificate S D P G C) → Contains (world.recorded i) (certificate_artifact c) → IsHonest attests lists world c
