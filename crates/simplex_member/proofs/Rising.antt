-- The current view and the last finalized one never fall.
use Rattle.std.proofs.Common.{ℕ, ◌≤◌, ◌+◌, true, false, List, [], ◌∷◌, ◌++◌, sym, subst, arith}
use Rattle.std.specs.Prelude.{max}
use Rattle.types_core.specs.declared.scheme.Scheme.{Ghosts}
use Rattle.types_core.specs.Positions.{next_term_start}
use Rattle.voter_history.specs.History as views
use Rattle.voter_history.specs.History.{started, nullified, finalized, judged, current, last_finalized}
use Rattle.simplex_member.specs.Layers.{current_of, finalized_of, latest, voter_of, voter_points}
use Rattle.simplex_member.specs.Member.{Goes}
use Rattle.simplex_member.specs.Packet.{Formats}
use Rattle.simplex_member.specs.Point.{Point, History}
use Rattle.simplex_member.specs.Setup.{Setup}

max-right : (m n : ℕ) → n ≤ max m n
max-right m n = omega arith

le-refl : (n : ℕ) → n ≤ n
le-refl n = omega arith

module _ {S D P G C : Type 0} (s : views.Setup S C) where
  current-rises : (x : views.Point S D P G C) (h : List (views.Point S D P G C)) → current s h ≤ current s (x ∷ h)
  current-rises (started now payload) h = max-right 1 (current s h)
  current-rises (nullified now c) h = max-right (next_term_start s.length c.round.view) (current s h)
  current-rises (finalized now c) h = max-right (c.proposal.round.view + 1) (current s h)
  current-rises (judged now view true) h = max-right (view + 1) (current s h)
  current-rises (judged now view false) h = le-refl (current s h)
  current-rises x h = le-refl (current s h)

  finalized-rises : (x : views.Point S D P G C) (h : List (views.Point S D P G C)) → last_finalized h ≤ last_finalized (x ∷ h)
  finalized-rises (finalized now c) h = max-right c.proposal.round.view (last_finalized h)
  finalized-rises x h = le-refl (last_finalized h)

  pub all-rise : (xs h : List (views.Point S D P G C)) → (current s h ≤ current s (xs ++ h)) × (last_finalized h ≤ last_finalized (xs ++ h))
  all-rise [] h = (le-refl _, le-refl _)
  all-rise (x ∷ xs) h =
      let later = all-rise xs h in
      (omega (arith, later.0, current-rises x (xs ++ h)), omega (arith, later.1, finalized-rises x (xs ++ h)))

module _ {S D P G C : Type 0} (g : Ghosts S D P G C) (f : Formats S D P G C) (s : Setup S D C) where
  pub goes-rise : (h end : History S D P G C) (points : List (Point S D P G C)) → Goes g f s h points end → (current_of s h ≤ current_of s end) × (finalized_of s h ≤ finalized_of s end)
  goes-rise h end [] goes = subst (λ (e : History S D P G C). (current_of s h ≤ current_of s e) × (finalized_of s h ≤ finalized_of s e)) (sym goes) (le-refl (current_of s h), le-refl (finalized_of s h))
  goes-rise h end (p ∷ points) goes =
      let step = all-rise s.voter (voter_points s (latest (p ∷ h)) (last_finalized (voter_of s h)) p) (voter_of s h) in
      let later = goes-rise (p ∷ h) end points goes.1 in
      (omega (arith, step.0, later.0), omega (arith, step.1, later.1))
