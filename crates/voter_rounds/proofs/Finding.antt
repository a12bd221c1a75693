-- Of which views something is known, by what is kept.
use Rattle.std.proofs.Common.{◌≡◌, ◌<◌, ◌≤◌, ◌++◌, ◌^◌, ℕ, false, List, [], ◌∷◌, Some, None, refl, arith}
use Rattle.std.specs.Prelude.{Option, IsSome}
use Rattle.std.specs.Ordering.{nat_cmp, is_gt}
use Rattle.std.specs.declared.cmp.Reverse.{Reverse}
use Rattle.std.specs.declared.ops.Bound.TheVariants.{Included, Unbounded}
use Rattle.std.specs.BTreeMap.{BTreeMap, IsLowerBound}
use Rattle.std.specs.BTreeMap.Range.{IsRangeOf}
use Rattle.std.proofs.lemmas.Bool.Decides.{nat_tests}
use Rattle.std.proofs.lemmas.Map.Keys.{ge_from_not_lt, le_from_not_gt}
use Rattle.types_core.specs.LatestFirst.{as_key, latest_first, stored}
use Rattle.simplex_round.specs.declared.round.Round.{Round}
use Rattle.voter_history.specs.Past.{Item}
use Rattle.voter_rounds.specs.Rounds.{Common, AreKept, AreUntracked, IsFirstTracked, IsRight, IsTracked}

not_above : (a b : ℕ) → a ≤ b → is_gt (nat_cmp a b) ≡ false
not_above a b le = grind (arith, nat_tests)

-- an option is there or not
pub cases_there : {X : Type 0} (Q : Type 0) (o : Option X) → (o ≡ None → Q) → (IsSome o → Q) → Q
cases_there Q None none some = none refl
cases_there Q (Some x) none some = some refl

module _ {S D P G C : Type 0} (key_of : S → ℕ → P) (s : Common S) where
  -- nothing is known of a view that has no round
  pub bare_at : (view : ℕ) (found : Option (Round S D P G C)) (led : Option ℕ) (past : List (Item S D P G C)) → IsRight key_of s view found led past → found ≡ None → (past ≡ []) × (led ≡ None)
  bare_at view found led past right none = rw none at right

  -- something is of a view that has one
  there_at : (view : ℕ) (found : Option (Round S D P G C)) (round : Round S D P G C) (led : Option ℕ) (past : List (Item S D P G C)) → IsRight key_of s view found led past → found ≡ Some round → IsTracked past led
  there_at view found round led past right some = (rw some at right).0

module _ {X : Type 0} (m : BTreeMap (Reverse ℕ) X) where
  -- the first of the views from one on doesn't lie before it
  pub begins_behind : (from : ℕ) (range : List (Reverse ℕ × X)) → IsRangeOf latest_first Unbounded (Included (as_key from)) m range → (rest : List (Reverse ℕ × X)) (e : Reverse ℕ × X) → range ≡ rest ++ e ∷ [] → from ≤ e.0.0
  begins_behind from range is_range rest e is = le_from_not_gt from e.0.0 (is_range.3 e rest is).0.1

module _ {S D P G C : Type 0} {key_of : S → ℕ → P} {s : Common S} {m : BTreeMap (Reverse ℕ) (Round S D P G C)} {led : ℕ → Option ℕ} {past : ℕ → List (Item S D P G C)} (k : AreKept key_of s m led past) where
  module _ (from : ℕ) (range : List (Reverse ℕ × Round S D P G C)) (is_range : IsRangeOf latest_first Unbounded (Included (as_key from)) m range) where
    pub none_from : range ≡ [] → AreUntracked led past from (2 ^ 64)
    none_from none view above fits = bare_at key_of s view (stored m view) (led view) (past view) (k.at view fits) (is_range.5 none (as_key view) (tt, not_above from view above))

    pub first_from : (rest : List (Reverse ℕ × Round S D P G C)) (e : Reverse ℕ × Round S D P G C) → range ≡ rest ++ e ∷ [] → e.0.0 < 2 ^ 64 → IsFirstTracked led past from e.0.0
    first_from rest e is fits =
        let inside = is_range.3 e rest is in
        record {
          behind = begins_behind m from range is_range rest e is;
          tracked = there_at key_of s e.0.0 (stored m e.0.0) e.1 (led e.0.0) (past e.0.0) (k.at e.0.0 fits) inside.1;
          bare = λ view above below. bare_at key_of s view (stored m view) (led view) (past view) (k.at view (omega (arith, below, fits)))
              (cases_there (stored m view ≡ None) (stored m view) (λ none. none)
              (λ there. let le : e.0.0 ≤ view = ge_from_not_lt view e.0.0 (is_range.4 e rest is (as_key view) (tt, not_above from view above) there) in absurd (omega (arith, le, below))));
        }

  -- where no view has a round, nothing is known of any
  pub none_of_all : ((u : ℕ) → stored m u ≡ None) → (from : ℕ) → AreUntracked led past from (2 ^ 64)
  none_of_all none from view above fits = bare_at key_of s view (stored m view) (led view) (past view) (k.at view fits) (none view)

  module _ (last : ℕ) {round : Round S D P G C} (there : stored m last ≡ Some round) (least : IsLowerBound latest_first m (as_key last)) where
    -- behind the last view that has a round, nothing is known of any
    pub none_behind : (from : ℕ) → last < from → AreUntracked led past from (2 ^ 64)
    none_behind from before view above fits = bare_at key_of s view (stored m view) (led view) (past view) (k.at view fits)
        (cases_there (stored m view ≡ None) (stored m view) (λ none. none)
        (λ some. let le : view ≤ last = le_from_not_gt view last (least (as_key view) some) in absurd (omega (arith, before, above, le))))

    -- that view is the first from itself on
    pub first_is : last < 2 ^ 64 → IsFirstTracked led past last last
    first_is fits = record {
      behind = omega arith;
      tracked = there_at key_of s last (stored m last) round (led last) (past last) (k.at last fits) there;
      bare = λ view above below. absurd (omega (arith, above, below));
    }
