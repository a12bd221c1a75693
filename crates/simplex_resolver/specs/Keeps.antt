-- How the state stands to the list of all that came.
use Rattle.std.specs.Prelude.{◌≡◌, ◌↔◌, ◌≤◌, ◌<◌, ◌+◌, ◌^◌, ◌&&◌, ℕ, true, nat_lt, List, Option, None, if◌then◌else◌}
use Rattle.std.specs.Ordering.{nat_cmp}
use Rattle.std.specs.Option.{option_map}
use Rattle.std.specs.BTreeMap.{get}
use Rattle.std.specs.BTreeSet.{contains}
use Rattle.types_core.specs.Positions.{term_end}
use Rattle.simplex_record.specs.Coverage.{IsCovered}
use Rattle.simplex_resolver.specs.declared.held.Held.{Held}
use Rattle.simplex_resolver.specs.declared.scanner.Scanner.{Scanner}
use Rattle.simplex_resolver.specs.declared.state.State.{State}
use Rattle.simplex_resolver.specs.RepairHistory.{Item, finalized, floor, current, live, nullification, finalization, covered, has_failed, is_known}
use Rattle.simplex_resolver.specs.Answers.{servable}

-- how many views a term has
abbrev pub scan_length : Scanner → ℕ
scan_length scanner = scanner.held.length

-- the same of the state
abbrev pub length_of : State → ℕ
length_of state = state.scanner.held.length

-- what is kept of a view's nullification: the first, until its term is finalized
abbrev pub kept_nullification : ℕ → List Item → ℕ → Option (List ℕ)
kept_nullification views h u = if nat_lt (finalized h) (term_end views u) then nullification h u else None

-- What is held is what these items lead to. Up to the last finalized view what is covered is one span: each view there
-- counts as covered, so no more is kept of it as the history grows.
pub record Holds (views : ℕ) (held : Held) (h : List Item) : Type 0 where
  pub some : 0 < views
  pub length_is : held.length ≡ views
  pub finalized_is : held.last_finalized ≡ finalized h
  pub finalization_is : option_map (λ bytes. bytes.items) held.finalization ≡ finalization h
  pub nullifications : (u : ℕ) → option_map (λ bytes. bytes.items) (get nat_cmp held.nullifications u) ≡ kept_nullification views h u
  pub cut : (v : ℕ) → 0 < v → v ≤ finalized h → IsCovered held.covered v
  pub covered_is : (v : ℕ) → finalized h < v → IsCovered held.covered v ↔ (covered views h v ≡ true)
  pub known : (v : ℕ) → contains nat_cmp held.known v ≡ (nat_lt (finalized h) v && is_known h v)
  pub certified_is : (v : ℕ) → option_map (λ bytes. bytes.items) (get nat_cmp held.certified v) ≡ servable h v
  pub failed : (v : ℕ) → contains nat_cmp held.failed v ≡ (nat_lt (finalized h) v && has_failed h v)

-- what came stands where these items lead
pub record Stands (views : ℕ) (scanner : Scanner) (h : List Item) : Type 0 where
  pub holds : Holds views scanner.held h
  pub current_is : scanner.current ≡ current h
  pub floor_is : scanner.floor ≡ floor h
  pub live_is : scanner.live ≡ live h

-- the state stands where these items lead, and behind each view with a false verdict comes another
pub record Keeps (views : ℕ) (state : State) (h : List Item) : Type 0 where
  pub stands : Stands views state.scanner h
  pub fits : (v : ℕ) → has_failed h v ≡ true → v + 1 < 2 ^ 64

-- what holds of each length of terms and each list of items that the state stands at
abbrev pub AtEach : State → (ℕ → List Item → Type 0) → Type 0
AtEach state P = (views : ℕ) (h : List Item) → Keeps views state h → P views h

-- the same of what came
abbrev pub AtEachScan : Scanner → (ℕ → List Item → Type 0) → Type 0
AtEachScan scanner P = (views : ℕ) (h : List Item) → Stands views scanner h → P views h

-- the same of what is held
abbrev pub AtEachHeld : Held → (ℕ → List Item → Type 0) → Type 0
AtEachHeld held P = (views : ℕ) (h : List Item) → Holds views held h → P views h
