-- What the time leaves where it stands.
use Rattle.std.proofs.Common.{◌≡◌, ℕ, Bool, refl, sym, subst, ◌∷◌}
use Rattle.types_core.specs.declared.scheme.Scheme.{Ghosts}
use Rattle.node_votes.specs.declared.acceptance.Acceptance.{Acceptance}
use Rattle.node_votes.specs.KeepsVotes.{Keeps, QuietStays}
use Rattle.simplex_member.specs.Point.{History, Told}
use Rattle.simplex_member.specs.Setup.{Setup}

module _ {S D P G C : Type 0} (g : Ghosts S D P G C) where
  -- the votes of all views stand where they did behind a moment
  pub votes_told : (same exact : D → D → Bool) (s : Setup S D C) (a : Acceptance S D P G C) (h : History S D P G C) (now : ℕ)
      → QuietStays g exact → same ≡ exact → Keeps g same s a h → Keeps g same s a (Told now ∷ h)
  votes_told same exact s a h now quiet is k =
      subst (λ (x : D → D → Bool). Keeps g x s a (Told now ∷ h)) (sym is)
      (quiet s a h (Told now) (λ view. (refl, λ r. refl)) refl (subst (λ (x : D → D → Bool). Keeps g x s a h) is k))
