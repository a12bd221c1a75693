-- What a signature of the salted scheme is made of.
use Rattle.std.proofs.Common.{ℕ, ◌≡◌, List, ◌++◌, refl}
use Rattle.std.specs.Int.{w64, to_be_bytes}
use Rattle.types_core.specs.Subject.{Statement}
use Rattle.simplex_types.specs.Salted.{salted_hash, salted_signature}

-- a counter's bytes and the hash behind them are the signature that carries it
pub salt-signature : {D : Type 0} (payload : D → List ℕ) (base : List ℕ) (counter index : ℕ) (s : Statement D) (salt hash bytes : List ℕ)
    → bytes ≡ salt ++ hash → hash ≡ salted_hash payload base salt index s → salt ≡ to_be_bytes w64 counter → bytes ≡ salted_signature payload base counter index s
salt-signature payload base counter index s salt hash bytes parts is_hash is_salt = rw (parts, is_hash, is_salt) refl
