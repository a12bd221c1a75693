-- What an artifact of a record leaves of the rounds.
use Rattle.std.proofs.Common.{◌↔◌, ◌⊎◌, ℕ, true, false, ⊎_elim, List, ◌∷◌, refl, if◌then◌else◌}
use Rattle.std.specs.Prelude.{Option, Some, None, Bool, IsTrue}
use Rattle.types_core.specs.declared.proposal.Proposal.{Proposal}
use Rattle.messages_certificates.specs.declared.artifact.Artifact.{Artifact}
use Rattle.messages_certificates.specs.declared.artifact.Artifact.TheVariants as artifact
use Rattle.messages_certificates.specs.Artifact.{artifact_round}
use Rattle.simplex_round.specs.declared.round.Round.{Round}
use Rattle.voter_history.specs.Held.{held, recorded, Agrees, Differs}
use Rattle.voter_history.specs.Past.{Item, offered, sent_notarization, sent_nullification, sent_finalization, voted_notarize, voted_nullify, voted_finalize, judged, offers}
use Rattle.simplex_round.specs.Round as one
use Rattle.voter_rounds.specs.declared.rounds.Rounds.{Rounds}
use Rattle.voter_rounds.specs.Lending.{Follows}
use Rattle.voter_history.specs.Pasts.{put}
use Rattle.voter_rounds.specs.Rounds.{Common, Keep, Takes, recalled, setup_of}
use Rattle.voter_rounds.proofs.Lent.{lent-put, lent-put_two}

-- another one isn't the same
not_both : {D : Type 0} (o : Option (Proposal D)) (p : Proposal D) → Differs o p → Agrees o p → ⊥
not_both None p differs agrees = differs
not_both (Some q) p differs agrees = differs agrees

module _ {S D P G C : Type 0} {key_of : S → ℕ → P} {before after : Rounds S D P G C} {left : Round S D P G C} (s : Common S) (led : ℕ → Option ℕ) (past : ℕ → List (Item S D P G C)) where
  -- an own notarize
  notarize-kept : (p : Proposal D) (view : ℕ) → Follows key_of before view after left → Keep key_of s before led past
      → ((Agrees (held (offers (past view))) p × one.Keeps key_of (setup_of s view) left (led view) (voted_notarize ∷ offered (recorded p) ∷ past view))
      ⊎ (Differs (held (offers (past view))) p × one.Keeps key_of (setup_of s view) left (led view) (voted_notarize ∷ past view)))
      → (taken : Bool) × (IsTrue taken ↔ Agrees (held (offers (past view))) p) × Keep key_of s after led (put view voted_notarize (if taken then put view (offered (recorded p)) past else past))
  notarize-kept p view f k here = ⊎_elim
      (λ agrees. (true, (λ _. agrees.0, λ _. refl), lent-put_two s led past voted_notarize (offered (recorded p)) f k agrees.1))
      (λ differs. (false, (λ no. absurd (cc no), λ agrees. absurd (not_both (held (offers (past view))) p differs.0 agrees)), lent-put s led past voted_notarize f k differs.1))
      here

  pub recalled-kept : (a : Artifact S D P G C) → Follows key_of before (artifact_round a).view after left → Keep key_of s before led past
      → one.Recalls key_of (setup_of s (artifact_round a).view) left (led (artifact_round a).view) a (past (artifact_round a).view)
      → (taken : Bool) × Takes past a taken × Keep key_of s after led (recalled taken a past)
  recalled-kept (artifact.Notarize v) f k here = notarize-kept v.proposal v.proposal.round.view f k here
  recalled-kept (artifact.Notarization c) f k here = (false, tt, lent-put s led past sent_notarization f k here)
  recalled-kept (artifact.Certification round ok) f k here = (false, tt, lent-put s led past (judged ok) f k here)
  recalled-kept (artifact.Nullify v) f k here = (false, tt, lent-put s led past voted_nullify f k here)
  recalled-kept (artifact.Nullification c) f k here = (false, tt, lent-put s led past sent_nullification f k here)
  recalled-kept (artifact.Finalize v) f k here = (false, tt, lent-put s led past voted_finalize f k here)
  recalled-kept (artifact.Finalization c) f k here = (false, tt, lent-put s led past sent_finalization f k here)
