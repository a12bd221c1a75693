-- Which views a member listens to and speaks of, by its current view. Terms have `views` views each, and `optimistic`
-- views may be taken up before the views before them are certified.
use Rattle.std.specs.Prelude.{ℕ, ◌≡◌, ◌≢◌, ◌≤◌, ◌<◌, ◌+◌, ◌-◌, ◌*◌, ◌⊎◌, ◌↔◌, min, max, List, length, AllPairs, Contains}
use Rattle.types_core.specs.Positions.{term_end, next_term_start}

-- the start of the term after the next one
abbrev pub later_term_start : ℕ → ℕ → ℕ
later_term_start views current = next_term_start views current + views

-- a view after the current one, in its term and at most twice the optimistic views and one more ahead
abbrev pub InAdmissionWindow : ℕ → ℕ → ℕ → ℕ → Type 0
InAdmissionWindow views optimistic current view = (current < view) × (view ≤ min (current + 2 * optimistic + 1) (term_end views current))

-- how many views at the next term's start are listened to: as many as are optimistic, at least one, at most the term
abbrev pub early_views : ℕ → ℕ → ℕ
early_views views optimistic = min (max optimistic 1) views

-- one of these views
abbrev pub StartsNextTerm : ℕ → ℕ → ℕ → ℕ → Type 0
StartsNextTerm views optimistic current view =
    (next_term_start views current ≤ view) × (view < next_term_start views current + early_views views optimistic)

-- one of the first two views from the start of the term after the next one
abbrev pub StartsLaterTerm : ℕ → ℕ → ℕ → Type 0
StartsLaterTerm views current view = (view ≡ later_term_start views current) ⊎ (view ≡ later_term_start views current + 1)

-- a view is listened to
abbrev pub Admits : ℕ → ℕ → ℕ → ℕ → Type 0
Admits views optimistic current view =
    (view ≤ current)
    ⊎ (InAdmissionWindow views optimistic current view ⊎ (StartsNextTerm views optimistic current view ⊎ StartsLaterTerm views current view))

-- a view is the first of the next term, and the current term's end is at most the optimistic views ahead
abbrev pub IsHandoffView : ℕ → ℕ → ℕ → ℕ → Type 0
IsHandoffView views optimistic current view = (view ≡ next_term_start views current) × (term_end views current ≤ current + optimistic)

-- a view may be spoken of
abbrev pub AdmitsOutbound : ℕ → ℕ → ℕ → ℕ → Type 0
AdmitsOutbound views optimistic current view =
    (view ≤ current) ⊎ ((view ≤ min (current + optimistic) (term_end views current)) ⊎ IsHandoffView views optimistic current view)

-- the last view that is listened to
abbrev pub admission_limit : ℕ → ℕ → ℕ
admission_limit views current = later_term_start views current + 1

-- the least view that leaves no more than the optimistic views between itself and a view, stopped at 0
abbrev pub issuance_floor : ℕ → ℕ → ℕ
issuance_floor optimistic view = view - (optimistic + 1)

-- the least view that is kept: so many before the last finalized one, stopped at 0
abbrev pub retention_floor : ℕ → ℕ → ℕ
retention_floor finalized retention = finalized - retention

-- a view is kept: it is from 1 on, and not below the floor
abbrev pub Retains : ℕ → ℕ → ℕ → Type 0
Retains finalized retention view = (1 ≤ view) × (retention_floor finalized retention ≤ view)

-- exactly so many numbers are of a kind: they can be listed, none twice
pub record HasExactly (IsKind : ℕ → Type 0) (count : ℕ) : Type 0 where
  pub numbers : List ℕ
  pub distinct : AllPairs (λ a b. a ≢ b) numbers
  pub exact : (n : ℕ) → Contains numbers n ↔ IsKind n
  pub count_is : length numbers ≡ count
