use Rattle.std.proofs.Common.{◌≡◌, ℕ, List, [], ◌∷◌, true, false, Result, Ok, Err, refl, inl, inr}
use Rattle.std.proofs.lemmas.Bool.{cases_lt, lt-ltb, le-ltb}
use Rattle.std.specs.Prelude.{nat_lt}
use Rattle.std.specs.List.{list_all}
use Rattle.std.specs.Result.{IsOk, MatchResult}
use Rattle.std.specs.Str.{IsAscii, IsUtf8}
use Rattle.std.proofs.lemmas.Str.{IsUtf8-from_ascii}
use Rattle.std.proofs.lemmas.Str.Ascii.{IsAscii-nil, IsAscii-cons}
use Rattle.hex.specs.Hex.{lower_digits, encode_lower}
use Rattle.hex.proofs.HexLemmas.{IsAscii-encode_with}
use Rattle.types_core.proofs.digest.Sha256DigestDisplay.fmt.Goals as goal

IsAscii-from_test : (bytes : List ℕ) → list_all (λ b. nat_lt b 128) bytes ≡ true → IsAscii bytes
IsAscii-from_test [] e = IsAscii-nil
IsAscii-from_test (b ∷ bytes) e = elim (cases_lt b 128) [
  | inl small ↦ IsAscii-cons b bytes small (IsAscii-from_test bytes (rw (lt-ltb b 128 small) at e))
  | inr large ↦ absurd (let never = rw (le-ltb b 128 large) at e in let f : false ≡ true = never in cc)
]

ok_unless : {T E : Type 0} (P : T → Type 0) (Q : E → Type 0) (U : Type 0) (r : Result T E) → MatchResult r P (λ e. ¬ U × Q e) → U → IsOk r
ok_unless P Q U (Ok x) h u = refl
ok_unless P Q U (Err e) h u = absurd (h.0 u)

pub unwrap-requires-2 : goal.unwrap-requires-2
unwrap-requires-2 g c =
    let written : c.encode_to_slice.new.output ≡ encode_lower c.self.inside.0 = rw c.unwrap.ensures at c.encode_to_slice.ensures.written in
    let ascii : IsAscii (encode_lower c.self.inside.0) = IsAscii-encode_with lower_digits c.self.inside.0 (IsAscii-from_test lower_digits refl) in
    let text : IsUtf8 c.encode_to_slice.new.output = rw written (IsUtf8-from_ascii (encode_lower c.self.inside.0) ascii) in
    ok_unless _ _ _ c.from_utf8.result c.from_utf8.ensures.cases text
