-- Where a view stands among terms of `views` views each. View 0 is before the first term.
use Rattle.std.specs.Prelude.{ℕ, ◌≡◌, ◌==◌, ◌≤◌, ◌<◌, ◌+◌, ◌-◌, ◌*◌, ◌/◌, ◌^◌, if◌then◌else◌}

-- the number of the term that holds a view, from 1 on: view 0 has 0
abbrev pub term_index : ℕ → ℕ → ℕ
term_index views view = (if view == 0 then 0 else (view - 1) / views + 1)

-- the first view of a view's term: of view 0, itself
abbrev pub term_start : ℕ → ℕ → ℕ
term_start views view = (if view == 0 then 0 else (term_index views view - 1) * views + 1)

-- the last view of a view's term: of view 0, itself
abbrev pub term_end : ℕ → ℕ → ℕ
term_end views view = term_index views view * views

-- the first view of the term after a view's own
abbrev pub next_term_start : ℕ → ℕ → ℕ
next_term_start views view = term_end views view + 1

-- a view is the first of its term
abbrev pub IsTermStart : ℕ → ℕ → Type 0
IsTermStart views view = view ≡ term_start views view

-- `other` lies in the covering range of `view`: in the same term, and not after it
abbrev pub InCoveringRange : ℕ → ℕ → ℕ → Type 0
InCoveringRange views view other = (term_start views view ≤ other) × (other ≤ view)

-- a nullification of `nullified` covers `view`: it covers its own view and what follows in the same term
abbrev pub Covers : ℕ → ℕ → ℕ → Type 0
Covers views nullified view = (nullified ≤ view) × (view ≤ term_end views nullified)

-- the view that lies two terms and one view after the start of the next term has a number of 64 bits
abbrev pub HasRoom : ℕ → ℕ → Type 0
HasRoom views view = next_term_start views view + 2 * views + 1 < 2 ^ 64
