-- When a word is the decimal digits of a number, as `parse` and `{}` have it.
use Rattle.std.proofs.Common.{ℕ, zero, suc, ◌≡◌, ◌≢◌, ◌^◌, ◌<◌, List, length, get_or, arith, ap, sym, ◌∙◌, IfSome, IsNone, Result, Ok, Err}
use Rattle.std.specs.Fmt.{decimal}
use Rattle.std.specs.Int.{IsInRange}
use Rattle.std.specs.Result.{result_ok}
use Rattle.std.specs.Str.Parse.{AllDigits, digits_value, ParsesUnsigned}
use Rattle.std.proofs.lemmas.Str.Parse.{IsNumeralModel, numerals_by_value, tells_digits, parse_plain, digit_at}
use Rattle.std.proofs.lemmas.Fmt.{digits_decimal, decimal_nonempty, first_decimal, decimal_digit, decimal-digits_value, parse-decimal}
use Rattle.cli_audit.specs.Command.{SpellsNumber}

own : IsNumeralModel (AllDigits 10) (digits_value 10)
own = numerals_by_value _ tells_digits

-- the word begins with a digit, which is a 0 only if it stands alone
pub record StartsPlainly (word : List ℕ) : Type 0 where
  pub some : 0 < length word
  pub digit : IsInRange 48 57 (get_or word 0 0)
  pub alone : get_or word 0 0 ≡ 48 → length word ≡ 1

-- the digits of 0, and of any other number, have no 0 in front of another digit
alone : (n : ℕ) → n < 2 ^ 64 → get_or (decimal n) 0 0 ≡ 48 → length (decimal n) ≡ 1
alone zero small e = ap length (decimal_digit 0 (omega arith))
alone (suc n) small e = absurd (omega (arith, first_decimal (suc n) (omega arith) small))

-- a word that spells a number starts so
pub StartsPlainly-spelled : (word : List ℕ) (n : ℕ) → SpellsNumber word n → StartsPlainly word
StartsPlainly-spelled word n (small, e) =
    let fits : n < 2 ^ 64 = omega arith in
    rw e (record {
      some = decimal_nonempty n fits;
      digit = digit_at (decimal n) 0 (digits_decimal own n fits) (decimal_nonempty n fits);
      alone = alone n fits;
    })

-- what `parse` gives for a word that starts so is spelled by the word
pub parsed_is_spelled : {E : Type 0} (word : List ℕ) (r : Result ℕ E) → ParsesUnsigned 16 10 word r → get_or word 0 0 ≢ 43 → (get_or word 0 0 ≡ 48 → length word ≡ 1) → IfSome (result_ok r) (SpellsNumber word)
parsed_is_spelled {E} word (Ok n) h p q =
    let k = parse_plain own {E = E} 16 word (Ok n) h p in
    let small : digits_value 10 word < 2 ^ 16 = k.0.2 in
    let e : n ≡ digits_value 10 word = k.1 in
    (omega arith, sym (decimal-digits_value own word k.0.0 k.0.1 q (omega arith)) ∙ ap decimal (sym e))
parsed_is_spelled word (Err e) h p q = tt

-- where `parse` gives nothing, the word spells nothing
pub unparsed_is_unspelled : {E : Type 0} (word : List ℕ) (r : Result ℕ E) → ParsesUnsigned 16 10 word r → IsNone (result_ok r) → (n : ℕ) → ¬ SpellsNumber word n
unparsed_is_unspelled word (Ok m) h none n spells = cc
unparsed_is_unspelled word (Err e) h none n (small, spells) =
    let same = parse-decimal 16 n word (Err e) small (omega arith) spells h in cc
