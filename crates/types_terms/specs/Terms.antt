-- How long terms are, and what they allow.
use Rattle.std.specs.Prelude.{ℕ, Option, Some, None}

-- the views of a term, after how many milliseconds without progress a term is given up, if it is, and how many
-- views may be taken up before the views before them are certified
pub record Timing : Type 0 where
  pub length : ℕ
  pub stall_timeout : Option ℕ
  pub optimistic_views : ℕ

-- terms of one view each, which are never given up as a whole, without optimism
abbrev pub rotating : Timing
rotating = record { length = 1; stall_timeout = None; optimistic_views = 0 }

-- terms of so many views, given up after so many milliseconds, with so many optimistic views
abbrev pub stable : ℕ → ℕ → ℕ → Timing
stable length timeout views = record { length = length; stall_timeout = Some timeout; optimistic_views = views }
