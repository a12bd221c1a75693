use Rattle.std.proofs.Common.{◌≡◌, ◌≢◌, ◌∷◌, ◌∙◌, ℕ, Bool, ap, refl, inl, inr}
use Rattle.std.specs.Prelude.{Option, None, Some, IfSome, is_none, if◌then◌else◌}
use Rattle.std.specs.Option.{option_and_then}
use Rattle.std.proofs.lemmas.Bool.{cases_eq}
use Rattle.types_core.specs.declared.scheme.Scheme.{Ghosts}
use Rattle.batcher_verifier.specs.Votes.{notarized_proposal}
use Rattle.batcher_verifier.specs.History.{History, Setup, Led, leader_of, notarized_by}
use Rattle.batcher_verifier.specs.Keeping.{VerifierKeeps}
use Rattle.simplex_batcher.specs.declared.round.Round.{Round}
use Rattle.simplex_batcher.specs.Rounds.{IsRoundKept, RoundKeeps}
use Rattle.simplex_batcher.proofs.round.Round.set_leader.Goals as goal

module _ {S D P G C : Type 0} (same : D → D → Bool) (g : Ghosts S D P G C) (batchable : S → Bool) where
  -- the round after a leader was named, the first or the same again
  led-keeps : {A : Type 0} (s : Setup S) (h : History S D P G C) (leader : ℕ) (r bad : A) (old new : Round S D P G C) → IsRoundKept same g batchable s old h
      → (leader_of h ≡ None → VerifierKeeps same g batchable s new.verifier (Led leader ∷ h)) → (leader_of h ≡ Some leader → VerifierKeeps same g batchable s new.verifier h)
      → IfSome (leader_of h) (λ known. known ≢ leader → r ≡ bad) → (r ≡ bad → ⊥) → new.tracks ≡ old.tracks → new.forwarded ≡ old.forwarded
      → IsRoundKept same g batchable s new (if is_none (leader_of h) then Led leader ∷ h else h)
  led-keeps s h leader r bad old new k first again other never t f = go (leader_of h) refl other
    where
      go : (o : Option ℕ) → leader_of h ≡ o → IfSome o (λ known. known ≢ leader → r ≡ bad) → IsRoundKept same g batchable s new (if is_none o then Led leader ∷ h else h)
      go None is other = record { verifier = first is; of_members = k.of_members; are_new = k.are_new; tracks_is = t ∙ k.tracks_is; forwarded_is = f ∙ k.forwarded_is }
      go (Some known) is other = elim (cases_eq known leader) [
        | inl one ↦ record { verifier = again (is ∙ ap Some one); of_members = k.of_members; are_new = k.are_new; tracks_is = t ∙ k.tracks_is; forwarded_is = f ∙ k.forwarded_is }
        | inr two ↦ absurd (never (other two))
      ]

pub returns-in-Ok-clause-ok : goal.returns-in-Ok-clause-ok
unfolding RoundKeeps
returns-in-Ok-clause-ok g c = λ s h k.
    let led : c.notarized_in-led.result ≡ notarized_by h c.args.leader = c.notarized_in-led.ensures ∙ ap (option_and_then notarized_proposal) (c.vote_of.ensures s h k.verifier k.of_members) in
    led-keeps g.D.PartialEq.eq g.S.Scheme g.S.Scheme.batchable s h c.args.leader _ _ c.args.self.now _ k (λ none. c.in-Ok.ensures.first s h k.verifier none (λ unselected. led)) (c.in-Ok.ensures.same s h k.verifier) (c.in-Ok.ensures.other s h k.verifier) (λ e. absurd (cc e)) refl refl
