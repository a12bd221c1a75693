-- What comes of entering a view.
use Rattle.std.proofs.Common.{◌≡◌, ℕ, ◌≤◌, ◌<◌, Bool, true, false, List, ◌∷◌, ⊎_elim, refl, sym, ◌∙◌, subst, arith}
use Rattle.std.specs.Prelude.{◌↔◌, Option, IsTrue}
use Rattle.std.proofs.lemmas.Bool.{cases_Bool, cases_lt, ltb-true}
use Rattle.types_core.specs.Positions.{HasRoom, next_term_start}
use Rattle.types_core.specs.declared.scheme.Scheme.{Ghosts}
use Rattle.batcher_verifier.specs.History as votes
use Rattle.simplex_member.specs.Layers.{current_of, floor_of, has_room, may_enter, passes_over, stage, votes_of}
use Rattle.simplex_member.specs.Point.{History, Point}
use Rattle.simplex_member.specs.Setup.{Setup}
use Rattle.node_votes.specs.declared.acceptance.Acceptance.{Acceptance}
use Rattle.node_votes.specs.Standing.{come_up, happened_from, is_passed, up_from}
use Rattle.node_votes.specs.KeepsVotes.{IsAt, Keeps, KeepsAhead, common_part, stage_ahead, votes_ahead}
use Rattle.node_votes.proofs.Pointing.{below-floor, entered, roomless}

module _ {S D P G C : Type 0} (g : Ghosts S D P G C) (same : D → D → Bool) (s : Setup S D C) (h : History S D P G C) (p : Point S D P G C) (enters : may_enter p ≡ true) (new : Acceptance S D P G C) where
  -- the view has room and is kept: it came up
  pub entered-up : (current floor : ℕ) → current ≡ current_of s (p ∷ h) → floor ≡ floor_of s (p ∷ h) → HasRoom s.voter.length current
      → IsAt g same s new current floor (up_from floor (come_up current (is_passed (common_part s) current (current_of s h)) (stage_ahead s h p))) (happened_from floor (votes_ahead s h p))
      → Keeps g same s new (p ∷ h)
  unfolding Keeps
  entered-up current floor at low room k =
      let fits : HasRoom s.voter.length (current_of s (p ∷ h)) = subst (λ (n : ℕ). HasRoom s.voter.length n) at room in
      let moved : IsAt g same s new (current_of s (p ∷ h)) (floor_of s (p ∷ h)) (up_from (floor_of s (p ∷ h)) (come_up (current_of s (p ∷ h)) (is_passed (common_part s) (current_of s (p ∷ h)) (current_of s h)) (stage_ahead s h p))) (happened_from (floor_of s (p ∷ h)) (votes_ahead s h p)) =
      subst (λ (n : ℕ). IsAt g same s new n (floor_of s (p ∷ h)) (up_from (floor_of s (p ∷ h)) (come_up n (is_passed (common_part s) n (current_of s h)) (stage_ahead s h p))) (happened_from (floor_of s (p ∷ h)) (votes_ahead s h p))) at
      (subst (λ (n : ℕ). IsAt g same s new current n (up_from n (come_up current (is_passed (common_part s) current (current_of s h)) (stage_ahead s h p))) (happened_from n (votes_ahead s h p))) low k) in
      record { length_is = moved.length_is; current_is = moved.current_is; floor_is = moved.floor_is; rounds = entered g same s h p new.rounds enters fits moved.rounds }

  -- it hasn't, or isn't: then it doesn't come up
  pub entered-still : (current floor : ℕ) → current ≡ current_of s (p ∷ h) → floor ≡ floor_of s (p ∷ h) → ¬ ((floor ≤ current) × HasRoom s.voter.length current)
      → IsAt g same s new current floor (up_from floor (stage_ahead s h p)) (happened_from floor (votes_ahead s h p)) → Keeps g same s new (p ∷ h)
  unfolding Keeps
  entered-still current floor at low shut k =
      let moved : IsAt g same s new (current_of s (p ∷ h)) (floor_of s (p ∷ h)) (up_from (floor_of s (p ∷ h)) (stage_ahead s h p)) (happened_from (floor_of s (p ∷ h)) (votes_ahead s h p)) =
      subst (λ (n : ℕ). IsAt g same s new n (floor_of s (p ∷ h)) (up_from (floor_of s (p ∷ h)) (stage_ahead s h p)) (happened_from (floor_of s (p ∷ h)) (votes_ahead s h p))) at
      (subst (λ (n : ℕ). IsAt g same s new current n (up_from n (stage_ahead s h p)) (happened_from n (votes_ahead s h p))) low k) in
      let barred : ¬ ((floor_of s (p ∷ h) ≤ current_of s (p ∷ h)) × HasRoom s.voter.length (current_of s (p ∷ h))) =
      subst (λ (n : ℕ). ¬ ((floor_of s (p ∷ h) ≤ n) × HasRoom s.voter.length n)) at (subst (λ (n : ℕ). ¬ ((n ≤ current) × HasRoom s.voter.length current)) low shut) in
      record {
        length_is = moved.length_is;
        current_is = moved.current_is;
        floor_is = moved.floor_is;
        rounds = ⊎_elim
            (λ lt. below-floor g same s h p new.rounds enters lt moved.rounds)
            (λ ge. ⊎_elim
            (λ is. absurd (barred (ge, ltb-true _ _ is)))
            (λ isnt. roomless g same s h p new.rounds enters isnt moved.rounds)
            (cases_Bool (has_room s.voter.length (current_of s (p ∷ h)))))
            (cases_lt (current_of s (p ∷ h)) (floor_of s (p ∷ h)));
      }

-- what isn't so
pub iff-shut : {P : Type 0} {b : Bool} → IsTrue b ↔ P → b ≡ false → ¬ P
iff-shut either shut p = absurd (cc (either.1 p, shut))
