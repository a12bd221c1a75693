-- Looking for the first view whose leader is not named.
use Rattle.std.proofs.Common.{◌≡◌, ◌≢◌, ◌≤◌, ◌<◌, ℕ, Bool, true, false, List, [], ◌∷◌, ⊎_elim, refl, subst, arith}
use Rattle.std.specs.Prelude.{Option, Some, None, IfSome, IsTrue, MatchOption, length}
use Rattle.std.specs.Ordering.{nat_cmp}
use Rattle.std.specs.declared.ops.Bound.TheVariants.{Excluded, Included, Unbounded}
use Rattle.std.specs.BTreeSet.{BTreeSet, IsKeyRangeOf, btree_set_len, contains}
use Rattle.std.proofs.lemmas.Bool.{cases_lt}
use Rattle.std.proofs.lemmas.Bool.Decides.{nat_tests}
use Rattle.types_core.specs.declared.scheme.Scheme.{Ghosts}
use Rattle.batcher_verifier.specs.History.{History, leader_of}
use Rattle.node_votes.specs.declared.rounds.Rounds.{Rounds}
use Rattle.node_votes.specs.Standing.{AreLedFrom, Common, Stand}
use Rattle.simplex_member.specs.Layers.{Stage, IsUp}

isnt : (b : Bool) → (IsTrue b → ⊥) → b ≡ false
isnt true never = absurd (never refl)
isnt false never = refl

-- a set without keys has no view
pub none_in : (set : BTreeSet ℕ) → btree_set_len set ≡ 0 → (u : ℕ) → contains nat_cmp set u ≡ false
none_in set none u = rw (empty set.keys none) refl
  where
    empty : (keys : List ℕ) → length keys ≡ 0 → keys ≡ []
    empty [] is = refl
    empty (x ∷ xs) is = absurd (omega (arith, is))

module _ (set : BTreeSet ℕ) (from : ℕ) (range : List ℕ) (is_range : IsKeyRangeOf nat_cmp (Included from) Unbounded set range) where
  -- none lies before the first from a view on
  pub none_before : (view : ℕ) (rest : List ℕ) → range ≡ view ∷ rest → (u : ℕ) → from ≤ u → u < view → contains nat_cmp set u ≡ false
  none_before view rest is u at below = isnt (contains nat_cmp set u) (λ there. let le = rw is at (is_range.2 u (grind (arith, nat_tests, at), tt) there) in absurd (grind (arith, nat_tests, le, below)))

  pub there_from : (view : ℕ) (rest : List ℕ) → range ≡ view ∷ rest → contains nat_cmp set view ≡ true
  there_from view rest is = (rw is at is_range.1).1

  pub none_from : range ≡ [] → (u : ℕ) → from ≤ u → contains nat_cmp set u ≡ false
  none_from none u at = is_range.5 none u (grind (arith, nat_tests, at), tt)

module _ (set : BTreeSet ℕ) (last : ℕ) (range : List ℕ) (is_range : IsKeyRangeOf nat_cmp (Excluded last) Unbounded set range) where
  -- nor between a view and the first behind it
  pub none_between : (view : ℕ) (rest : List ℕ) → range ≡ view ∷ rest → (u : ℕ) → last < u → u < view → contains nat_cmp set u ≡ false
  none_between view rest is u behind below = isnt (contains nat_cmp set u) (λ there. let le = rw is at (is_range.2 u (grind (arith, nat_tests, behind), tt) there) in absurd (grind (arith, nat_tests, le, below)))

  pub there_behind : (view : ℕ) (rest : List ℕ) → range ≡ view ∷ rest → contains nat_cmp set view ≡ true
  there_behind view rest is = (rw is at is_range.1).1

  pub none_behind : range ≡ [] → (u : ℕ) → last < u → contains nat_cmp set u ≡ false
  none_behind none u behind = is_range.5 none u (grind (arith, nat_tests, behind), tt)

module _ {S D P G C : Type 0} where
  -- of the views from one on up to this one, on whose votes came up, they know who leads
  abbrev pub AreLedTo : (ℕ → Stage) → (ℕ → History S D P G C) → ℕ → ℕ → Type 0
  AreLedTo up happened from to = (u : ℕ) → from ≤ u → u < to → IsUp (up u) → leader_of (happened u) ≢ None

module _ {S D P G C : Type 0} (g : Ghosts S D P G C) (same : D → D → Bool) (s : Common S) (r : Rounds S D P G C) (up : ℕ → Stage) (happened : ℕ → History S D P G C) (k : Stand g same s r up happened) (from last : ℕ)
    (led : AreLedTo up happened from last) (none : IsUp (up last) → ⊥) where
  here : (u : ℕ) → last ≤ u → (last < u → contains nat_cmp r.unled u ≡ false) → IsUp (up u) → leader_of (happened u) ≢ None
  here u at named some = ⊎_elim
      (λ lt. k.named u (named lt) some)
      (λ ge. let same_view : u ≡ last = omega (arith, at, ge) in absurd (none (subst (λ (w : ℕ). IsUp (up w)) same_view some)))
      (cases_lt last u)

  -- the votes of a view came not up, and the leaders of those behind are named, up to the next one
  led_on : (view : ℕ) → ((u : ℕ) → last < u → u < view → contains nat_cmp r.unled u ≡ false) → AreLedTo up happened from view
  led_on view named u at below some = ⊎_elim (λ lt. led u at lt some) (λ ge. here u ge (λ behind. named u behind below) some) (cases_lt u last)

  -- or of all
  led_all : ((u : ℕ) → last < u → contains nat_cmp r.unled u ≡ false) → AreLedFrom up happened from
  led_all named u at some = ⊎_elim (λ lt. led u at lt some) (λ ge. here u ge (named u) some) (cases_lt u last)

  -- one way or the other
  pub looks_on : (next : Option ℕ) → MatchOption next ((u : ℕ) → last < u → contains nat_cmp r.unled u ≡ false) (λ view. (u : ℕ) → last < u → u < view → contains nat_cmp r.unled u ≡ false)
      → MatchOption next (AreLedFrom up happened from) (λ view. AreLedTo up happened from view)
  looks_on None named = led_all named
  looks_on (Some view) named = led_on view named

pub next_behind : (next : Option ℕ) (from last : ℕ) → from ≤ last → IfSome next (λ view. last < view) → IfSome next (λ view. from ≤ view)
next_behind None from last at behind = tt
next_behind (Some view) from last at behind = omega (arith, at, behind)
