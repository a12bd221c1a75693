-- The plain scheme: a signature is a hash, and there is no secret.
use Rattle.std.specs.Prelude.{◌≡◌, ℕ, zero, suc, ◌<◌, ◌^◌, Bool, List, [], ◌∷◌, ◌++◌, length, nat_lt, Option, Result, Ok, refl}
use Rattle.std.specs.Int.{w32, to_be_bytes, from_be_bytes, byte_at, bytes_high_first}
use Rattle.std.specs.List.{list_all}
use Rattle.std.proofs.Common.{arith, ap, sym, ◌∙◌, subst, inl, inr, true, get_or}
use Rattle.std.proofs.lemmas.Bool.{cases_lt, lt-ltb, le-ltb}
use Rattle.std.proofs.lemmas.Nat.{be_bytes_4, from_be_bytes-to_be_bytes_4}
use Rattle.sha2.specs.Sha256.{sha256}
use Rattle.types_codec.specs.declared.codec.CodecError.{CodecError}
use Rattle.types_codec.specs.Codec.{IsCodec, done, bytes_at, checked_at, as_at, bind_ok, ok_is, bytes-IsCodec, checked-IsCodec}
use Rattle.types_core.specs.Subject.{Statement, message, namespace}

-- a committee under the plain scheme: the base of its namespaces, its size, and the index whose key is here
pub record Committee : Type 0 where
  pub base : List ℕ
  pub participants : ℕ
  pub me : Option ℕ

-- what is hashed for an index and a statement
abbrev pub hashed : {D : Type 0} → (D → List ℕ) → List ℕ → ℕ → Statement D → List ℕ
hashed payload base index s = ((to_be_bytes w32 index ++ to_be_bytes w32 (length (namespace base s))) ++ namespace base s) ++ message payload s

-- the signature of an index on a statement
abbrev pub signature : {D : Type 0} → (D → List ℕ) → List ℕ → ℕ → Statement D → List ℕ
signature payload base index s = sha256 (hashed payload base index s)

-- a signature of a member on a statement: there is a member of this index, and it is the hash
abbrev pub Attests : {D : Type 0} → (D → List ℕ) → List ℕ → ℕ → ℕ → Statement D → List ℕ → Type 0
Attests payload base participants index s bytes = (index < participants) × (bytes ≡ signature payload base index s)

-- whether each is a byte
abbrev pub are_bytes : List ℕ → Bool
are_bytes bytes = list_all (λ b. nat_lt b 256) bytes

-- reading a key: four bytes are an index, most significant first
abbrev pub key_at : List ℕ → Result (ℕ × List ℕ) CodecError
key_at = as_at (from_be_bytes w32) (checked_at are_bytes (bytes_at 4))

-- bytes are below 256
bytes_small : (bytes : List ℕ) (i : ℕ) → are_bytes bytes ≡ true → get_or bytes i 0 < 256
bytes_small [] i e = omega arith
bytes_small (b ∷ bytes) zero e = elim (cases_lt b 256) [
  | inl lt ↦ lt
  | inr le ↦ absurd (let f = rw (le-ltb b 256 le) at e in cc)
]
bytes_small (b ∷ bytes) (suc i) e = elim (cases_lt b 256) [
  | inl lt ↦ bytes_small bytes i (rw (lt-ltb b 256 lt) at e)
  | inr le ↦ absurd (let f = rw (le-ltb b 256 le) at e in cc)
]

-- numbers below 256 are bytes
pub small_bytes : (bytes : List ℕ) → ((i : ℕ) → get_or bytes i 0 < 256) → are_bytes bytes ≡ true
small_bytes [] small = refl
small_bytes (b ∷ bytes) small = rw (lt-ltb b 256 (small 0)) (small_bytes bytes (λ i. small (suc i)))

-- a byte of a number is below 256
byte_small : (i n : ℕ) → byte_at i n < 256
byte_small zero n = omega arith
byte_small (suc i) n = omega arith

-- the bytes of a number are bytes
high_bytes : (k n : ℕ) → are_bytes (bytes_high_first k n) ≡ true
high_bytes zero n = refl
high_bytes (suc k) n = rw (lt-ltb (byte_at k n) 256 (byte_small k n)) (high_bytes k n)

-- each key has one spelling: its index in four bytes
pub key-IsCodec : IsCodec (λ index. index < 2 ^ 32) (to_be_bytes w32) key_at
key-IsCodec = record {
  takes = λ bytes x rest e.
      let a = bind_ok (checked_at are_bytes (bytes_at 4) bytes) (λ (a : List ℕ × List ℕ). Ok (from_be_bytes w32 a.0, a.1)) (x, rest) e in
      let c = ok_is (from_be_bytes w32 a.0.0, a.0.1) (x, rest) a.2 in
      let p = (checked-IsCodec are_bytes (bytes-IsCodec 4)).takes bytes a.0.0 a.0.1 a.1 in
      let small : (i : ℕ) → get_or a.0.0 i 0 < 256 = λ i. bytes_small a.0.0 i p.1.1 in
      let spelled : to_be_bytes w32 (from_be_bytes w32 a.0.0) ≡ a.0.0 = be_bytes_4 a.0.0 (from_be_bytes w32 a.0.0) p.1.0 small refl in
      let whole : bytes ≡ to_be_bytes w32 (from_be_bytes w32 a.0.0) ++ a.0.1 = p.0 ∙ ap (λ (xs : List ℕ). xs ++ a.0.1) (sym spelled) in
      let fits : from_be_bytes w32 a.0.0 < 2 ^ 32 = omega (arith, small 0, small 1, small 2, small 3) in
      subst (λ (z : ℕ × List ℕ). (bytes ≡ to_be_bytes w32 z.0 ++ z.1) × (z.0 < 2 ^ 32)) c (whole, fits);
  again = λ x rest fits.
      let all : are_bytes (to_be_bytes w32 x) ≡ true = high_bytes 4 x in
      rw ((checked-IsCodec are_bytes (bytes-IsCodec 4)).again (to_be_bytes w32 x) rest (refl, all)) (ap (λ (n : ℕ). done (n, rest)) (from_be_bytes-to_be_bytes_4 x fits));
}
