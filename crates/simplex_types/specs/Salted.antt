-- The salted scheme: a signature is a counter, and a hash of it and of what is signed. There is no secret.
use Rattle.std.specs.Prelude.{◌≡◌, ◌<◌, ℕ, List, ◌++◌, length, take, drop}
use Rattle.std.specs.Int.{w64, to_be_bytes}
use Rattle.sha2.specs.Sha256.{sha256}
use Rattle.simplex_types.specs.Plain.{hashed}
use Rattle.types_core.specs.Subject.{Statement}

-- the hash of eight bytes and of all that the plain scheme hashes
abbrev pub salted_hash : {D : Type 0} → (D → List ℕ) → List ℕ → List ℕ → ℕ → Statement D → List ℕ
salted_hash payload base salt index s = sha256 (salt ++ hashed payload base index s)

-- the signature of an index on a statement that carries this counter
abbrev pub salted_signature : {D : Type 0} → (D → List ℕ) → List ℕ → ℕ → ℕ → Statement D → List ℕ
salted_signature payload base counter index s = to_be_bytes w64 counter ++ salted_hash payload base (to_be_bytes w64 counter) index s

-- forty bytes are a signature of an index on a statement, whatever counter they carry
abbrev pub IsSalted : {D : Type 0} → (D → List ℕ) → List ℕ → ℕ → Statement D → List ℕ → Type 0
IsSalted payload base index s bytes = (length bytes ≡ 40) × (drop 8 bytes ≡ salted_hash payload base (take 8 bytes) index s)

-- a signature of a member on a statement: there is a member of this index, and it is salted
abbrev pub Attests : {D : Type 0} → (D → List ℕ) → List ℕ → ℕ → ℕ → Statement D → List ℕ → Type 0
Attests payload base participants index s bytes = (index < participants) × IsSalted payload base index s bytes
