-- The highest nullification that covers a view.
use Rattle.std.proofs.Common.{◌≡◌, ◌≤◌, ℕ, false, refl, List, Bor, sym}
use Rattle.std.specs.Prelude.{Option, Some, None, MatchOption, is_some, option_copied}
use Rattle.types_core.specs.Positions.{InCoveringRange, term_start}
use Rattle.messages_certificates.specs.declared.nullification.Nullification.{Nullification}
use Rattle.voter_rounds.specs.Marks.{IsLastMarked}
use Rattle.voter_history.specs.History.{Setup, Point, nullification}
use Rattle.voter_views.specs.Views.{IsHighestCovering}

-- an option that isn't there is none
pub is_none_of : {A : Type 0} (o : Option A) → is_some o ≡ false → o ≡ None
is_none_of None none = refl
is_none_of (Some x) none = absurd (cc (none))

module _ {S D P G C : Type 0} (s : Setup S C) (h : List (Point S D P G C)) (view start : ℕ) (starts : start ≡ term_start s.length view) where
  -- where none is marked, there is none
  pub none_covering : ((u : ℕ) → start ≤ u → u ≤ view → is_some (nullification s h u) ≡ false) → (u : ℕ) → InCoveringRange s.length view u → nullification s h u ≡ None
  none_covering none u (from, below) = is_none_of (nullification s h u) (none u (rw starts from) below)

  -- the nullification of the last marked view is the one
  pub highest_covering : (last : ℕ) (found : Option (Bor (Nullification S D P G C))) → IsLastMarked (λ u. is_some (nullification s h u)) start view last → option_copied found ≡ nullification s h last
      → MatchOption found ((u : ℕ) → InCoveringRange s.length view u → nullification s h u ≡ None) (λ c. IsHighestCovering s h view c.now)
  highest_covering last None marked copied = absurd (let here = marked.marked in let none = copied in cc (rw (← none) at here))
  highest_covering last (Some c) marked copied = record {
    at = last;
    covers = (rw (← starts) marked.behind, marked.up_to);
    there = sym copied;
    highest = λ u above below. is_none_of (nullification s h u) (marked.none_above u above below);
  }
