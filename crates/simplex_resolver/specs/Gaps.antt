-- Which views a member has to repair, by what is held.
use Rattle.std.specs.Prelude.{◌≡◌, ◌⊎◌, ◌==◌, ◌&&◌, ◌||◌, ◌+◌, ◌-◌, ◌^◌, ◌<◌, ℕ, zero, suc, Bool, true, false, not, nat_lt, nat_le, max, List, [], ◌∷◌, Option, None, Some, if◌then◌else◌}
use Rattle.std.specs.Ordering.{nat_cmp}
use Rattle.std.specs.BTreeSet.{contains}
use Rattle.types_core.specs.Positions.{term_start, IsTermStart}
use Rattle.simplex_record.specs.Coverage.{IsCovered}
use Rattle.simplex_resolver.specs.declared.scanner.Scanner.{Scanner}

-- it is the first above a view of which this holds, if one is
abbrev pub IsFirstAbove : (ℕ → Type 0) → ℕ → Option ℕ → Type 0
IsFirstAbove P last None = (v : ℕ) → last < v → ¬ P v
IsFirstAbove P last (Some first) = (last < first) × P first × ((v : ℕ) → last < v → v < first → ¬ P v)

module _ (s : Scanner) where
  -- none covers the view, a later one has a certificate, and it is the first above the floor, or a term's start
  pub record IsAnchorGap (v : ℕ) : Type 0 where
    pub above : s.floor < v
    pub below : v < s.current
    pub bare : ¬ IsCovered s.held.covered v
    pub anchor : (v ≡ s.floor + 1) ⊎ IsTermStart s.held.length v

  -- none covers the view, and it has a false verdict
  pub record IsFailedGap (v : ℕ) : Type 0 where
    pub above : s.floor < v
    pub fits : v + 1 < 2 ^ 64
    pub bare : ¬ IsCovered s.held.covered v
    pub failed : contains nat_cmp s.held.failed v ≡ true

  -- one of the two, once the replay has ended
  abbrev pub IsGap : ℕ → Type 0
  IsGap v = (s.live ≡ true) × (IsAnchorGap v ⊎ IsFailedGap v)

-- ---- the same as truth values, and those for which they are true as a list

-- a span of a list holds the view
abbrev pub is_in : List (ℕ × ℕ) → ℕ → Bool
is_in [] v = false
is_in (span ∷ spans) v = (nat_le span.0 v && nat_le v span.1) || is_in spans v

module _ (s : Scanner) where
  abbrev pub is_anchor : ℕ → Bool
  is_anchor v = nat_lt v s.current && ((v == s.floor + 1) || (v == term_start s.held.length v))

  abbrev pub is_failed : ℕ → Bool
  is_failed v = nat_lt (v + 1) (2 ^ 64) && contains nat_cmp s.held.failed v

  abbrev pub is_gap : ℕ → Bool
  is_gap v = s.live && (nat_lt s.floor v && (not (is_in s.held.covered v) && (is_anchor v || is_failed v)))

-- of so many views behind one those for which a test is true
abbrev pub those_behind : (ℕ → Bool) → ℕ → ℕ → List ℕ
those_behind test zero last = []
those_behind test (suc more) last =
    if test (last + 1) then (last + 1) ∷ those_behind test more (last + 1) else those_behind test more (last + 1)

-- the greatest of some numbers, or 0
abbrev pub greatest : List ℕ → ℕ
greatest [] = 0
greatest (n ∷ ns) = max n (greatest ns)

-- no view above this one is to be repaired
abbrev pub last_gap : Scanner → ℕ
last_gap s = max s.current (greatest s.held.failed.keys)

-- the views above this one that are to be repaired, ascending
abbrev pub gaps_behind : Scanner → ℕ → List ℕ
gaps_behind s last = those_behind (is_gap s) (last_gap s - last) last
