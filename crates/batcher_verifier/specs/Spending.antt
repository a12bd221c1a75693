-- How many votes are judged, against how many came.
use Rattle.std.specs.Prelude.{◌≤◌, ◌+◌, ℕ, Bool, length}
use Rattle.types_terms.specs.declared.kind.Kind.TheVariants.{Notarization, Nullification, Finalization}
use Rattle.batcher_verifier.specs.History.{History, Setup, taken, waiting}

module _ {S D P G C : Type 0} (same : D → D → Bool) (s : Setup S) where
  -- how many votes wait
  abbrev pub waits : History S D P G C → ℕ
  waits h = length (waiting same s Notarization h) + (length (waiting same s Nullification h) + length (waiting same s Finalization h))

  -- on the way from one history to another no more votes were judged than waited before or were accepted on it, less those
  -- that wait behind it
  abbrev pub Spends : ℕ → History S D P G C → History S D P G C → Type 0
  Spends judged h later = judged + (waits later + length (taken h)) ≤ waits h + length (taken later)
