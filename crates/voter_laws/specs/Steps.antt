-- What holds of what happened to a view, through what a point does to it.
use Rattle.std.proofs.Common.{◌≡◌, true, false, ℕ, List, ◌∷◌, refl, if◌then◌else◌}
use Rattle.std.proofs.lemmas.Bool.Decides.{Decides-eqb}
use Rattle.std.specs.Prelude.{◌==◌, nat_lt, Bool, Option, Some, None}
use Rattle.types_core.specs.declared.proposal.Proposal.{Proposal}
use Rattle.voter_history.specs.Past as past
use Rattle.voter_history.specs.Past.{Item}
use Rattle.voter_history.specs.Pasts.{put, bind}
use Rattle.voter_history.specs.History.{Setup, enter, later}

module _ {X : Type 0} (Q : List X → Type 0) (view : ℕ) where
  pub choose_holds : (b : Bool) (t u : ℕ → List X) → Q (t view) → Q (u view) → Q ((if b then t else u) view)
  choose_holds true t u one other = one
  choose_holds false t u one other = other

  pub put_holds : (at : ℕ) (x : X) (t : ℕ → List X) → (at ≡ view → Q (t view) → Q (x ∷ t view)) → Q (t view) → Q (put at x t view)
  put_holds at x t step q = by (at == view) (λ here. (Decides-eqb at view).0 here)
    where
      by : (b : Bool) → (b ≡ true → at ≡ view) → Q (if b then x ∷ t view else t view)
      by true here = step (here refl) q
      by false here = q

  pub put_both : (at : ℕ) (x y : X) (t : ℕ → List X) → (at ≡ view → Q (t view) → Q (y ∷ x ∷ t view)) → Q (t view) → Q (put at y (put at x t) view)
  put_both at x y t step q = by (at == view) (λ here. (Decides-eqb at view).0 here)
    where
      by : (b : Bool) → (b ≡ true → at ≡ view) → Q (if b then y ∷ (if b then x ∷ t view else t view) else (if b then x ∷ t view else t view))
      by true here = step (here refl) q
      by false here = q

module _ {S D P G C : Type 0} (Q : List (Item S D P G C) → Type 0) (view : ℕ) where
  pub enter_holds : (s : Setup S C) (current now at : ℕ) (t : ℕ → List (Item S D P G C))
      → ((moment leader certification : ℕ) (stall : Option ℕ) (l : List (Item S D P G C)) → Q l → Q (past.armed leader certification stall ∷ past.entered moment ∷ l))
      → Q (t view) → Q (enter s current now at t view)
  enter_holds s current now at t step q =
      choose_holds Q view (nat_lt current at) _ t
      (put_both Q view at (past.entered now) (past.armed (past.deadline now s.leader_timeout) (past.deadline now s.certification_timeout) (later now s.stall_timeout)) t (λ here before. step now _ _ _ (t view) before) q) q

  pub bind_holds : (o : Option D) (p : Proposal D) (t : ℕ → List (Item S D P G C)) → ((payload : D) → Q (t view) → Q (past.bound p payload ∷ t view)) → Q (t view) → Q (bind o p t view)
  bind_holds None p t step q = q
  bind_holds (Some payload) p t step q = put_holds Q view p.round.view (past.bound p payload) t (λ here. step payload) q
