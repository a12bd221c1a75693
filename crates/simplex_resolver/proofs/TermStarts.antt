-- Terms, by their starts and ends.
use Rattle.std.specs.Prelude.{max, not, nat_le, Bool, true, false, ◌||◌, ◌&&◌}
use Rattle.std.proofs.Common.{◌≡◌, inl, inr, ◌↔◌, ◌≤◌, ◌<◌, ◌==◌, ◌+◌, ◌-◌, ◌*◌, ◌/◌, ◌^◌, ℕ, zero, suc, refl, sym, ◌∙◌, ap, arith}
use Rattle.std.proofs.Math.Nat.{div-lt_iff_lt-mul, le-div_iff_mul-le, mul-le-mul_right, mul-div_left}
use Rattle.std.proofs.lemmas.Grind.{common_steps}
use Rattle.std.proofs.lemmas.Bool.{cases_eq, cases_lt}
use Rattle.std.proofs.lemmas.Bool.Decides.{nat_tests}
use Rattle.types_core.specs.Positions.{term_index, term_start, term_end, next_term_start, IsTermStart, HasRoom}
use Rattle.simplex_resolver.specs.Outstanding.{term_start_from, scan_start}
use Rattle.simplex_resolver.proofs.Choices.{nat_le-yes, if_other}

-- the term of a view, by the view before it
term_index-suc : (views before : ℕ) → term_index views (suc before) ≡ before / views + 1
term_index-suc views before = grind (arith, common_steps)

-- the first view of a view's term, by the view before that view
term_start-suc : (views before : ℕ) → term_start views (suc before) ≡ before / views * views + 1
term_start-suc views before = grind (arith, common_steps, term_index-suc views before)

module _ (views : ℕ) (some : 0 < views) where
  -- what is not after the end of a term is in that term or an earlier one
  pub term_end-le : (u v : ℕ) → (v ≤ term_end views u) ↔ (term_index views v ≤ term_index views u)
  term_end-le u zero = (λ _. omega arith, λ _. omega arith)
  term_end-le u (suc before) =
      let within : (before / views < term_index views u) ↔ (before < term_index views u * views) = div-lt_iff_lt-mul some in
      let place = term_index-suc views before in (
        λ h. let low : before < term_index views u * views = omega arith in omega (arith, within.1 low),
        λ h. let low : before / views < term_index views u = omega arith in omega (arith, within.0 low),
      )

  -- what is not before the start of a term is in that term or a later one
  pub term_start-le : (v u : ℕ) → (term_start views v ≤ u) ↔ (term_index views v ≤ term_index views u)
  term_start-le zero u = (λ _. omega arith, λ _. omega arith)
  term_start-le (suc before) zero =
      let place = term_index-suc views before in
      let first = term_start-suc views before in
      (λ h. omega arith, λ h. omega arith)
  term_start-le (suc before) (suc other) =
      let within : (before / views ≤ other / views) ↔ (before / views * views ≤ other) = le-div_iff_mul-le some in
      let first = term_start-suc views before in
      let place = term_index-suc views before in
      let other_place = term_index-suc views other in (
        λ h. let low : before / views * views ≤ other = omega arith in omega (arith, within.1 low),
        λ h. let low : before / views ≤ other / views = omega arith in omega (arith, within.0 low),
      )

  -- a term's start is at or below a view where the view's end is at or above the term's view
  pub start-end : (v u : ℕ) → (term_start views v ≤ u) ↔ (v ≤ term_end views u)
  start-end v u = (λ h. (term_end-le u v).1 ((term_start-le v u).0 h), λ h. (term_start-le v u).1 ((term_end-le u v).0 h))

  -- a view lies up to the end of its term
  pub term_end-ge : (v : ℕ) → v ≤ term_end views v
  term_end-ge v = (term_end-le v v).1 (omega arith)

  -- and from its start on
  pub term_start-ge : (v : ℕ) → term_start views v ≤ v
  term_start-ge v = (term_start-le v v).1 (omega arith)

  -- terms follow one another
  pub term_index-mono : (u v : ℕ) → u ≤ v → term_index views u ≤ term_index views v
  term_index-mono u v le = (term_end-le v u).0 (let last = term_end-ge v in omega (arith, le, last))

  -- the next term starts behind the view
  pub next_term_start-gt : (v : ℕ) → v < next_term_start views v
  next_term_start-gt v = let le = term_end-ge v in omega (arith, le)

  -- and no earlier than that of an earlier view
  pub next_term_start-mono : (u v : ℕ) → u ≤ v → next_term_start views u ≤ next_term_start views v
  next_term_start-mono u v le =
      let index = term_index-mono u v le in
      let times : term_index views u * views ≤ term_index views v * views = mul-le-mul_right views index in
      omega (arith, times)

  -- views of one term are in the same term
  same_index : (u v : ℕ) → u ≤ v → v ≤ term_end views u → term_index views v ≡ term_index views u
  same_index u v le end =
      let up = (term_end-le u v).0 end in
      let down = term_index-mono u v le in
      omega (arith, up, down)

  -- so it ends where it ends
  pub same_end : (u v : ℕ) → u ≤ v → v ≤ term_end views u → term_end views v ≡ term_end views u
  same_end u v le end = ap (λ (t : ℕ). t * views) (same_index u v le end)

  index_behind : (u : ℕ) → term_index views (next_term_start views u) ≡ term_index views u + 1
  index_behind u =
      let whole : term_index views u * views / views ≡ term_index views u = mul-div_left (term_index views u) some in
      grind (arith, common_steps, whole)

  -- the next term starts at a term's start
  pub next-IsTermStart : (u : ℕ) → IsTermStart views (next_term_start views u)
  next-IsTermStart u =
      let index = index_behind u in
      let start : term_start views (next_term_start views u) ≡ (term_index views (next_term_start views u) - 1) * views + 1 = grind (arith, common_steps) in
      let less : term_index views (next_term_start views u) - 1 ≡ term_index views u = omega (arith, index) in
      sym (start ∙ ap (λ (t : ℕ). t * views + 1) less)

  -- a term's start behind a view is at the next term's start or behind it
  pub start_behind-ge : (u t : ℕ) → u < t → IsTermStart views t → next_term_start views u ≤ t
  start_behind-ge u t above start = elim (cases_lt (term_end views u) t) [
    | inl past ↦ omega (arith, past)
    | inr within ↦
        let before = (start-end t u).1 within in
        absurd (omega (arith, before, above, start))
  ]

  -- a view with room has a next one, and so has a view before it
  pub room-next : (v : ℕ) → HasRoom views v → v + 1 < 2 ^ 64
  room-next v room = let gt = next_term_start-gt v in omega (arith, gt, room)

  pub room-term : (u v : ℕ) → HasRoom views v → u ≤ v → next_term_start views u < 2 ^ 64
  room-term u v room le = let mono = next_term_start-mono u v le in omega (arith, mono, room)

  -- the first term start from a view on is no later than any term start from there on
  pub term_start_from-least : (v t : ℕ) → v ≤ t → IsTermStart views t → term_start_from views v ≤ t
  term_start_from-least v t le start = elim (cases_lt (term_end views v) t) [
    | inl past ↦ grind (arith, nat_tests, past, le)
    | inr within ↦
        let before = (start-end t v).1 within in
        let is : t ≡ v = omega (arith, before, le, start) in
        let first : v ≡ term_start views v = rw is at start in
        grind (arith, nat_tests, first, is)
  ]

  -- and lies there
  pub term_start_from-ge : (v : ℕ) → v ≤ term_start_from views v
  term_start_from-ge v =
      let behind = next_term_start-gt v in
      grind (arith, nat_tests, behind)

  -- and is a term's start
  pub term_start_from-IsTermStart : (v : ℕ) → IsTermStart views (term_start_from views v)
  term_start_from-IsTermStart v = elim (cases_eq v (term_start views v)) [
    | inl is ↦
        let first : term_start_from views v ≡ v = grind (arith, nat_tests, is) in
        rw first is
    | inr later ↦
        let first : term_start_from views v ≡ next_term_start views v = if_other v (term_start views v) v (next_term_start views v) later in
        rw first (next-IsTermStart v)
  ]

  -- a scan begins above the floor
  pub scan_start-gt : (went level : ℕ) (raised : Bool) → level < scan_start views went level raised
  scan_start-gt went level raised = by (nat_le went (level + 1) || (raised && not (level + 1 == term_start views (level + 1)))) refl
    where
      by : (b : Bool) → (nat_le went (level + 1) || (raised && not (level + 1 == term_start views (level + 1)))) ≡ b → level < scan_start views went level raised
      by true e = rw e (omega arith)
      by false e = rw e (elim (cases_lt (level + 1) went) [
        | inl past ↦ let ge = term_start_from-ge went in omega (arith, past, ge)
        | inr low ↦ absurd (let never = rw (nat_le-yes went (level + 1) low) at e in grind (arith, never))
      ])

-- room where the length is the same, before a view with room, and of the higher of two views
pub room_kept : (views length v : ℕ) → length ≡ views → HasRoom views v → HasRoom length v
room_kept views length v is room = rw is room

pub room_before : (views u v : ℕ) → 0 < views → HasRoom views v → u ≤ v → HasRoom views u
room_before views u v some room le = let mono = next_term_start-mono views some u v le in omega (arith, mono, room)

pub room_of_max : (views length u v w : ℕ) → length ≡ views → w ≡ max u v → HasRoom views u → HasRoom views v → HasRoom length w
room_of_max views length u v w is high first second = elim (cases_lt u v) [
  | inl lt ↦ let e : w ≡ v = grind (arith, nat_tests, lt, high) in rw (is, e) second
  | inr le ↦ let e : w ≡ u = grind (arith, nat_tests, le, high) in rw (is, e) first
]
