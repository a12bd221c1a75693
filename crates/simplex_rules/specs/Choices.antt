-- The choice of each round: what its first vote is for.
use Rattle.std.specs.Prelude.{◌≡◌, ◌<◌, ℕ, List, length, Option, Some, slice_index_or}
use Rattle.std.specs.Ordering.{is_eq, ordering_then, nat_cmp}
use Rattle.std.specs.Map.{lookup}
use Rattle.std.specs.declared.cmp.Ordering.{Ordering}
use Rattle.std.specs.declared.cmp.Ordering.TheVariants.{Less}
use Rattle.types_core.specs.declared.position.Round.{Round}
use Rattle.simplex_rules.specs.declared.cast.Choice.{Choice}

-- rounds by epoch, then view
abbrev pub round_cmp : Round → Round → Ordering
round_cmp x y = ordering_then (nat_cmp x.epoch y.epoch) (nat_cmp x.view y.view)

module _ {D : Type 0} where
  -- each round is above all before it
  abbrev pub Ascend : List (Round × Choice D) → Type 0
  Ascend chosen = (i j : ℕ) (x : Round × Choice D) → i < j → j < length chosen → round_cmp (slice_index_or chosen i x).0 (slice_index_or chosen j x).0 ≡ Less

  -- a round's choice, if it has one
  abbrev pub choice_in : List (Round × Choice D) → Round → Option (Choice D)
  choice_in chosen round = lookup (λ r. is_eq (round_cmp round r)) chosen

  -- what a round's choice is stays so
  abbrev pub Extends : List (Round × Choice D) → List (Round × Choice D) → Type 0
  Extends old new = (r : Round) (c : Choice D) → choice_in old r ≡ Some c → choice_in new r ≡ Some c
