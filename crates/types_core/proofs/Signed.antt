-- Namespaces of two kinds differ, and what is signed belongs to one statement.
use Rattle.std.proofs.Common.{◌≡◌, ℕ, List, ◌++◌, codes, Result, reverse, refl, ap, sym, ◌∙◌, arith, get_or}
use Rattle.std.proofs.lemmas.List.{reverse-append}
use Rattle.types_codec.specs.declared.codec.CodecError.{CodecError}
use Rattle.types_codec.specs.Codec.{IsCodec, spelling-one}
use Rattle.types_core.specs.Round.{round-IsCodec}
use Rattle.types_core.specs.Proposal.{proposal-IsCodec}
use Rattle.types_core.specs.Subject.{Statement, notarize, nullify, finalize, namespace, kind_name, OneSubjectEach}

-- texts that are equal behind some bases have the same letters from the end
from_the_end : (k : ℕ) (b c x y : List ℕ) → b ++ x ≡ c ++ y → get_or (reverse x ++ reverse b) k 0 ≡ get_or (reverse y ++ reverse c) k 0
from_the_end k b c x y same = ap (λ (t : List ℕ). get_or t k 0) (sym (reverse-append b x) ∙ ap reverse same ∙ reverse-append c y)

-- the last letter of a nullify's namespace is its own, and the fourth from the end tells the others apart
pub kinds-differ : {D : Type 0} (b c : List ℕ) (x y : Statement D) → namespace b x ≡ namespace c y → kind_name x ≡ kind_name y
kinds-differ b c (notarize p) (notarize q) same = refl
kinds-differ b c (notarize p) (nullify q) same = absurd (let last : 69 ≡ 89 = from_the_end 0 b c (codes "_NOTARIZE") (codes "_NULLIFY") same in omega arith)
kinds-differ b c (notarize p) (finalize q) same = absurd (let fourth : 82 ≡ 76 = from_the_end 3 b c (codes "_NOTARIZE") (codes "_FINALIZE") same in omega arith)
kinds-differ b c (nullify p) (notarize q) same = absurd (let last : 89 ≡ 69 = from_the_end 0 b c (codes "_NULLIFY") (codes "_NOTARIZE") same in omega arith)
kinds-differ b c (nullify p) (nullify q) same = refl
kinds-differ b c (nullify p) (finalize q) same = absurd (let last : 89 ≡ 69 = from_the_end 0 b c (codes "_NULLIFY") (codes "_FINALIZE") same in omega arith)
kinds-differ b c (finalize p) (notarize q) same = absurd (let fourth : 76 ≡ 82 = from_the_end 3 b c (codes "_FINALIZE") (codes "_NOTARIZE") same in omega arith)
kinds-differ b c (finalize p) (nullify q) same = absurd (let last : 69 ≡ 89 = from_the_end 0 b c (codes "_FINALIZE") (codes "_NULLIFY") same in omega arith)
kinds-differ b c (finalize p) (finalize q) same = refl

-- the third letter of its name tells a kind
third_letter : {D : Type 0} (b : List ℕ) (x y : Statement D) → namespace b x ≡ namespace b y → get_or (kind_name x) 2 0 ≡ get_or (kind_name y) 2 0
third_letter b x y same = ap (λ (t : List ℕ). get_or t 2 0) (kinds-differ b b x y same)

pub one_subject : {D : Type 0} {F : D → Type 0} {f : D → List ℕ} {r : List ℕ → Result (D × List ℕ) CodecError} → IsCodec F f r → OneSubjectEach F f
one_subject {D} {F} {f} {r} codec = each
  where
    each : OneSubjectEach F f
    each base (notarize p) (notarize q) fits_x fits_y same equal = ap notarize (spelling-one (proposal-IsCodec codec) p q fits_x fits_y equal)
    each base (notarize p) (nullify q) fits_x fits_y same equal = absurd (let third : 79 ≡ 85 = third_letter base (notarize p) (nullify q) same in omega arith)
    each base (notarize p) (finalize q) fits_x fits_y same equal = absurd (let third : 79 ≡ 73 = third_letter base (notarize p) (finalize q) same in omega arith)
    each base (nullify p) (notarize q) fits_x fits_y same equal = absurd (let third : 85 ≡ 79 = third_letter base (nullify p) (notarize q) same in omega arith)
    each base (nullify p) (nullify q) fits_x fits_y same equal = ap nullify (spelling-one round-IsCodec p q fits_x fits_y equal)
    each base (nullify p) (finalize q) fits_x fits_y same equal = absurd (let third : 85 ≡ 73 = third_letter base (nullify p) (finalize q) same in omega arith)
    each base (finalize p) (notarize q) fits_x fits_y same equal = absurd (let third : 73 ≡ 79 = third_letter base (finalize p) (notarize q) same in omega arith)
    each base (finalize p) (nullify q) fits_x fits_y same equal = absurd (let third : 73 ≡ 85 = third_letter base (finalize p) (nullify q) same in omega arith)
    each base (finalize p) (finalize q) fits_x fits_y same equal = ap finalize (spelling-one (proposal-IsCodec codec) p q fits_x fits_y equal)
