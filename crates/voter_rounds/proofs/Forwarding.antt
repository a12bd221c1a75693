-- What a proposal that is forwarded leaves as it was.
use Rattle.std.proofs.Common.{◌≡◌, ℕ, suc, true, false, ◌==◌, ◌-◌, List, ◌∷◌, refl, sym, subst, ◌∙◌, arith, if◌then◌else◌}
use Rattle.std.specs.Prelude.{Bool, ◌||◌}
use Rattle.types_core.specs.declared.proposal.Proposal.{Proposal}
use Rattle.voter_history.specs.Held as offer
use Rattle.voter_history.specs.Past as past
use Rattle.voter_history.specs.Past.{Item, has_notarized, has_nullified}
use Rattle.voter_history.specs.Pasts.{is_direct, put}
use Rattle.voter_rounds.specs.Tracked.{Frame, Tables, IsClosedAt, inherits_by, is_spoken}
use Rattle.voter_rounds.specs.Laws.{put-fact}
use Rattle.voter_rounds.specs.Laws.{inherits-less}

module _ {S D P G C : Type 0} where
  -- a fact that an item doesn't change is as it was of each view, whether the item comes or not
  pub unless-fact : {X : Type 0} (q : List (Item S D P G C) → X) (x : Item S D P G C) → ((l : List (Item S D P G C)) → q (x ∷ l) ≡ q l)
      → (b : Bool) (view : ℕ) (t : ℕ → List (Item S D P G C)) (u : ℕ) → q ((if b then t else put view x t) u) ≡ q (t u)
  unless-fact q x same true view t u = refl
  unless-fact q x same false view t u = put-fact q x same view t u

module _ {S D P G C : Type 0} (f : Frame S) (t : Tables S D P G C) (view : ℕ) (p : Proposal D) where
  -- what is known of each view then, but for leaders that are handed on
  abbrev pub offered-tables : Tables S D P G C
  offered-tables = record {
    led = t.led;
    past = if has_nullified (t.past view) then t.past else put view (past.offered (offer.forwarded p)) t.past;
    noted = λ u. (view == u) || t.noted u;
  }

  -- of another view no more is spoken of than before
  spoken-apart : (u : ℕ) → (view == u) ≡ false → is_spoken offered-tables u ≡ true → is_spoken t u ≡ true
  spoken-apart u apart so =
      let votes = unless-fact has_notarized (past.offered (offer.forwarded p)) (λ l. refl) (has_nullified (t.past view)) view t.past u in
      rw (apart, votes) at so

  -- behind another view nothing is left to be handed on, if nothing was
  pub offered-closed : ((u : ℕ) → IsClosedAt (inherits_by f t) t.led u) → (u : ℕ) → (view == u) ≡ false → IsClosedAt (inherits_by f offered-tables) t.led u
  offered-closed closed u apart so =
      let back : suc u - 1 ≡ u = omega arith in
      closed u (inherits-less f t offered-tables (suc u)
      (λ w _ _ d. sym (unless-fact is_direct (past.offered (offer.forwarded p)) (λ l. refl) (has_nullified (t.past view)) view t.past w) ∙ d)
      (λ spoken. subst (λ n. is_spoken t n ≡ true) (sym back) (spoken-apart u apart (subst (λ n. is_spoken offered-tables n ≡ true) back spoken)))
      so)
