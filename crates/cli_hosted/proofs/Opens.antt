-- What the opening of a member is by the index, the committee and the leaders of its settings.
use Rattle.std.proofs.Common.{◌≡◌, ap, subst, refl, ℕ, List, Option, Some}
use Rattle.std.specs.Prelude.{Result, Ok, Err, IfOk, unwrap_or}
use Rattle.simplex_types.specs.Plain as plain

pub some-is : {X : Type 0} (x y : X) → Some x ≡ Some y → x ≡ y
some-is x y e = ap (λ o. unwrap_or o x) e

-- a committee is what its base, its size and the own index are
pub committee_is : (v : plain.Committee) (base : List ℕ) (count : ℕ) (me : Option ℕ) → v.base ≡ base → v.participants ≡ count → v.me ≡ me
    → v ≡ record { base = base; participants = count; me = me }
committee_is v base count me b n m =
    subst (λ (x : List ℕ). v ≡ record { base = x; participants = count; me = me }) b
    (subst (λ (x : ℕ). v ≡ record { base = v.base; participants = x; me = me }) n
    (subst (λ (x : Option ℕ). v ≡ record { base = v.base; participants = v.participants; me = x }) m refl))

-- what follows of what was opened
pub if_opened : {A E : Type 0} (answer : Result A E) (P Q : A → Type 0) → IfOk answer P → ((x : A) → P x → Q x) → IfOk answer Q
if_opened (Ok x) P Q holds turn = turn x holds
if_opened (Err why) P Q holds turn = holds
