-- The first test that applies.
use Rattle.std.proofs.Common.{◌≡◌, ⊎_elim, inl, inr, Bool, true, List, [], ◌∷◌, ◌++◌, Option, Some, None, sym, ◌∙◌, subst}
use Rattle.std.specs.Prelude.{◌&&◌}
use Rattle.std.proofs.lemmas.Bool.{and_parts}
use Rattle.std.proofs.lemmas.Option.{none-some, same_Some}
use Rattle.simplex_member.specs.First.{IsFirst}

module _ {A : Type 0} where
  -- none of the tests in front applies: then the first of the others is the first
  pub first-behind : (front rest : List (A × Type 0)) (answer : Option A) → IsFirst front None → IsFirst rest answer → IsFirst (front ++ rest) answer
  first-behind [] rest answer none first = first
  first-behind ((a, Applies) ∷ front) rest answer none first = ⊎_elim
      (λ hit. absurd (none-some a hit.1))
      (λ miss. inr (miss.0, first-behind front rest answer miss.1 first))
      none

  -- one in front applies
  pub first-in-front : (front rest : List (A × Type 0)) (a : A) → IsFirst front (Some a) → IsFirst (front ++ rest) (Some a)
  first-in-front [] rest a first = absurd (none-some a (sym first))
  first-in-front ((b, Applies) ∷ front) rest a first = ⊎_elim (λ hit. inl hit) (λ miss. inr (miss.0, first-in-front front rest a miss.1)) first

  -- none in front applies, so the first is one of the others
  pub first-of-rest : (front rest : List (A × Type 0)) (answer : Option A) → IsFirst front None → IsFirst (front ++ rest) answer → IsFirst rest answer
  first-of-rest [] rest answer none first = first
  first-of-rest ((a, Applies) ∷ front) rest answer none first = ⊎_elim
      (λ is. absurd (none-some a is.1))
      (λ isnt. ⊎_elim (λ hit. absurd (isnt.0 hit.0)) (λ miss. first-of-rest front rest answer isnt.1 miss.1) first)
      none

  -- there is one answer alone
  pub first-is-one : (tests : List (A × Type 0)) (x y : Option A) → IsFirst tests x → IsFirst tests y → x ≡ y
  first-is-one [] x y p q = p ∙ sym q
  first-is-one ((a, Applies) ∷ tests) x y p q = ⊎_elim
      (λ hit. ⊎_elim (λ also. hit.1 ∙ sym also.1) (λ miss. absurd (miss.0 hit.0)) q)
      (λ miss. ⊎_elim (λ hit. absurd (miss.0 hit.0)) (λ also. first-is-one tests x y miss.1 also.1) q)
      p

  -- of each answer of these tests this is true
  abbrev pub all-have : (A → Bool) → List (A × Type 0) → Bool
  all-have test [] = true
  all-have test ((a, Applies) ∷ tests) = test a && all-have test tests

  pub first-has : (test : A → Bool) (tests : List (A × Type 0)) (a : A) → all-have test tests ≡ true → IsFirst tests (Some a) → test a ≡ true
  first-has test [] a all first = absurd (none-some a (sym first))
  first-has test ((b, Applies) ∷ tests) a all first =
      let both = and_parts (test b) (all-have test tests) all in
      ⊎_elim (λ hit. subst (λ (x : A). test x ≡ true) (sym (same_Some a b hit.1)) both.0) (λ miss. first-has test tests a both.1 miss.1) first
