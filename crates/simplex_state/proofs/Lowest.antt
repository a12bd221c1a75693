-- The lowest view where a build is due.
use Rattle.std.proofs.Common.{◌≡◌, ◌⊎◌, ◌≤◌, ◌<◌, ◌+◌, ◌^◌, ℕ, min, sym, ◌∙◌, ⊎_elim, inl, inr, arith}
use Rattle.std.specs.Prelude.{List, None}
use Rattle.std.proofs.lemmas.Bool.{cases_lt}
use Rattle.types_core.specs.Positions.{term_end}
use Rattle.types_terms.specs.Spans.{term_end-above}
use Rattle.types_terms.specs.Windows.{AdmitsOutbound}
use Rattle.voter_rounds.specs.Rounds.{AreUntracked}
use Rattle.voter_history.specs.History.{Setup, Point, current, seen}
use Rattle.voter_history.specs.Known.{known}
use Rattle.voter_history.specs.Leaders.{leader}
use Rattle.voter_rules.specs.Ancestry.{member}
use Rattle.voter_rules.specs.Requests.{BuildIsDue, NoBuildIsDue}

-- between the current view and one that may be spoken of each may
pub outbound_below : (n c o view u : ℕ) → c ≤ view → view ≤ u → (u ≤ c) ⊎ ((u ≤ min (c + o) n) ⊎ ((u ≡ n + 1) × (n ≤ c + o)))
    → (view ≤ c) ⊎ ((view ≤ min (c + o) n) ⊎ ((view ≡ n + 1) × (n ≤ c + o)))
outbound_below n c o view u from to (inl at) = inl (omega (arith, to, at))
outbound_below n c o view u from to (inr (inl near)) = inr (inl (omega (arith, to, near)))
outbound_below n c o view u from to (inr (inr start)) = ⊎_elim
    (λ before. inr (inl (omega (arith, before, to, start.0, start.1))))
    (λ behind. let e : view ≡ n + 1 = omega (arith, behind, to, start.0) in inr (inr (e, start.1)))
    (cases_lt view u)

module _ {S D P G C : Type 0} (s : Setup S C) (h : List (Point S D P G C)) where
  -- no build is due in the views below this one
  abbrev pub NoneBelow : ℕ → Type 0
  NoneBelow end = (u : ℕ) → u < end → (p : ℕ) (x : D) → ¬ BuildIsDue (member s) (known s h) u p x

  -- none is where no leader is known
  unled : (u p : ℕ) (x : D) → leader s h u ≡ None → ¬ BuildIsDue (member s) (known s h) u p x
  unled u p x none due = absurd (let e : s.me ≡ None = sym due.leads.known ∙ none in cc (rw e at due.leads.some))

  -- nor in the views behind the current one
  pub none_behind : NoneBelow (current s h)
  none_behind u below p x due = let from = due.opens.from in absurd (omega (arith, from, below))

  pub none_up_to : (next first : ℕ) → NoneBelow next → AreUntracked (leader s h) (seen s h) next first → NoneBelow first
  none_up_to next first none untracked u below = ⊎_elim
      (λ before. none u before)
      (λ behind p x. unled u p x (untracked u behind below).1)
      (cases_lt u next)

  pub none_through : (next first : ℕ) → NoneBelow next → AreUntracked (leader s h) (seen s h) next first → ((p : ℕ) (x : D) → ¬ BuildIsDue (member s) (known s h) first p x) → NoneBelow (first + 1)
  none_through next first none untracked here u below = ⊎_elim
      (λ before. none_up_to next first none untracked u before)
      (λ behind. let e : u ≡ first = omega (arith, behind, below) in rw e here)
      (cases_lt u first)

  -- none is at all, where none is up to a view that may not be spoken of
  pub none_past : (view : ℕ) → current s h ≤ view → NoneBelow view → ¬ AdmitsOutbound s.length s.optimistic_views (current s h) view → NoBuildIsDue (member s) (known s h)
  none_past view from none silent u p x = ⊎_elim
      (λ before. none u before p x)
      (λ behind due. silent (outbound_below (term_end s.length (current s h)) (current s h) s.optimistic_views view u from behind due.opens.outbound))
      (cases_lt u view)

  -- or where none is up to the last view with room
  pub none_at_all : 0 < s.length → NoneBelow (2 ^ 64) → NoBuildIsDue (member s) (known s h)
  none_at_all some none u p x due =
      let room = due.opens.room in
      let end = term_end-above s.length u some in
      none u (omega (arith, room, end)) p x due
