-- What is left where views are dropped.
use Rattle.std.proofs.Common.{◌≡◌, ◌<◌, ◌≤◌, ◌+◌, ◌^◌, ℕ, true, false, ⊎_elim, List, [], ◌∷◌, refl, sym, arith, if◌then◌else◌}
use Rattle.std.specs.Prelude.{Bool, Option, Some, None, length, nat_lt}
use Rattle.std.specs.Ordering.{nat_cmp, is_le, is_lt}
use Rattle.std.specs.declared.cmp.Reverse.{Reverse}
use Rattle.std.specs.BTreeMap.{BTreeMap, IsUpperBound, btree_map_len}
use Rattle.std.proofs.lemmas.Bool.{cases_Bool, cases_eq, cases_lt}
use Rattle.std.proofs.lemmas.Bool.Decides.{nat_tests}
use Rattle.std.proofs.lemmas.Map.Keys.{le_from_is_le}
use Rattle.types_core.specs.LatestFirst.{as_key, latest_first, stored, Stores}
use Rattle.simplex_round.specs.declared.round.Round.{Round}
use Rattle.voter_history.specs.Past.{Item}
use Rattle.voter_history.specs.Pasts.{forget}
use Rattle.voter_rounds.specs.Rounds.{Common, AreKept, AreUntracked, IsFirstBelow, unled}
use Rattle.voter_rounds.specs.Tracked.{AreMembers}
use Rattle.voter_rounds.proofs.Finding.{bare_at, cases_there}
use Rattle.voter_rounds.proofs.Tables.{AreKept-at, AreKept-tracked}

not_below : (a b : ℕ) → is_lt (nat_cmp a b) ≡ false → b ≤ a
not_below a b ge = grind (arith, nat_tests)

-- what a test and a count say
pub is_above : (a b : ℕ) → false ≡ is_le (nat_cmp a b) → b < a
is_above a b test = grind (arith, nat_tests)

pub one_fewer : (a b : ℕ) → a + 1 ≡ b → a < b
one_fewer a b e = omega arith

-- the view after one below a floor has a number
pub next_fits : (view floor : ℕ) → view < floor → floor < 2 ^ 64 → view + 1 < 2 ^ 64
next_fits view floor below fits = omega arith

no_entries : {A : Type 0} (xs : List A) → ¬ (0 < length xs) → xs ≡ []
no_entries [] never = refl
no_entries (x ∷ xs) never = absurd (never (omega arith))

module _ {X : Type 0} (m : BTreeMap (Reverse ℕ) X) where
  -- nothing stands in an empty map, nor before the first view
  pub none_in_empty : (¬ (0 < btree_map_len m)) → (view : ℕ) → stored m view ≡ None
  none_in_empty empty view = let gone : m.entries ≡ [] = no_entries m.entries empty in rw gone refl

  none_before_first : (first : ℕ) → IsUpperBound latest_first m (as_key first) → (view : ℕ) → view < first → stored m view ≡ None
  none_before_first first least view before = cases_there (stored m view ≡ None) (stored m view) (λ none. none)
      (λ there. let from : first ≤ view = not_below view first (least (as_key view) there) in absurd (omega (arith, from, before)))

  pub none_before_floor : (first floor : ℕ) → IsUpperBound latest_first m (as_key first) → true ≡ is_le (nat_cmp floor first) → (view : ℕ) → view < floor → stored m view ≡ None
  none_before_floor first floor least test view before = let ge : floor ≤ first = le_from_is_le floor first (sym test) in none_before_first first least view (omega (arith, before, ge))

  -- the first view lies below a floor where one that has something does
  pub first_is_below : (first view floor : ℕ) {x : X} → IsUpperBound latest_first m (as_key first) → stored m view ≡ Some x → view < floor → first < floor
  first_is_below first view floor least there below = let from : first ≤ view = not_below view first (least (as_key view) (rw there refl)) in omega (arith, from, below)

module _ {S D P G C : Type 0} {key_of : S → ℕ → P} {s : Common S} {m : BTreeMap (Reverse ℕ) (Round S D P G C)} {led : ℕ → Option ℕ} {past : ℕ → List (Item S D P G C)} (k : AreKept key_of s m led past) where
  -- the views before an end are dropped
  pub AreKept-from : (end : ℕ) (rest : BTreeMap (Reverse ℕ) (Round S D P G C)) → ((u : ℕ) → u < end → stored rest u ≡ None) → ((u : ℕ) → end ≤ u → stored rest u ≡ stored m u)
      → AreKept key_of s rest (unled end led) (forget end past)
  AreKept-from end rest gone same = record {
    at = λ u fits.
        ⊎_elim
        (λ lt. let below : nat_lt u end ≡ true = grind (arith, nat_tests, lt) in rw (below, gone u lt) (refl, refl))
        (λ ge. let above : nat_lt u end ≡ false = grind (arith, nat_tests, ge) in rw (above, same u ge) (k.at u fits))
        (cases_lt u end);
  }

  -- where no view before an end has a round, nothing is known of these
  pub AreKept-bare : (end : ℕ) → end < 2 ^ 64 → ((u : ℕ) → u < end → stored m u ≡ None) → AreUntracked led past 0 end
  AreKept-bare end fits none view from before = bare_at key_of s view (stored m view) (led view) (past view) (k.at view (omega (arith, before, fits))) (none view before)

  module _ (first : ℕ) {round : Round S D P G C} (there : stored m first ≡ Some round) (least : IsUpperBound latest_first m (as_key first)) where
    pub AreKept-first : (floor : ℕ) → floor < 2 ^ 64 → first < floor → IsFirstBelow key_of s floor first round led past
    AreKept-first floor fits below =
        let small : first < 2 ^ 64 = omega (arith, below, fits) in
        record {
          below = below;
          first = record { behind = omega arith; tracked = AreKept-tracked first k small (sym there); bare = AreKept-bare first small (none_before_first m first least) };
          stands = AreKept-at k small (sym there);
        }

    pub AreKept-popped : (rest : BTreeMap (Reverse ℕ) (Round S D P G C)) → Stores m rest first None → AreKept key_of s rest (unled (first + 1) led) (forget (first + 1) past)
    AreKept-popped rest up = AreKept-from (first + 1) rest
        (λ u lt. ⊎_elim
        (λ same. rw (← same) up.1)
        (λ other. let before : u < first = omega (arith, lt, other) in rw (up.2 (as_key u) (grind (arith, nat_tests, before))) (none_before_first m first least u before))
        (cases_eq first u))
        (λ u ge. up.2 (as_key u) (grind (arith, nat_tests, ge)))

module _ {S D P G C : Type 0} where
  -- a view of which nothing is known bears no sign
  pub forget-fact : (q : List (Item S D P G C) → Bool) → q [] ≡ false → (floor : ℕ) (t : ℕ → List (Item S D P G C)) (u : ℕ) → (if nat_lt u floor then false else q (t u)) ≡ q (forget floor t u)
  forget-fact q bare floor t u = ⊎_elim (λ e. rw e (sym bare)) (λ e. rw e refl) (cases_Bool (nat_lt u floor))

pub forget-members : (size floor : ℕ) (led : ℕ → Option ℕ) → AreMembers size led → AreMembers size (unled floor led)
forget-members size floor led members view i fits is = ⊎_elim
    (λ e. absurd (cc (rw e at is)))
    (λ e. members view i fits (rw e at is))
    (cases_Bool (nat_lt view floor))
