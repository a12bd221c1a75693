-- What an artifact of the record leaves of the voter.
use Rattle.std.proofs.Common.{◌≡◌, ◌==◌, ◌++◌, ◌∷◌, ℕ, Bool, true, false, List, None, sym, subst}
use Rattle.std.specs.Prelude.{if◌then◌else◌}
use Rattle.types_core.specs.declared.position.Round.{Round}
use Rattle.messages_certificates.specs.declared.artifact.Artifact.{Artifact}
use Rattle.messages_certificates.specs.declared.artifact.Artifact.TheVariants as artifact
use Rattle.messages_certificates.specs.declared.certificate.Certificate.{Certificate}
use Rattle.messages_certificates.specs.declared.certificate.Certificate.TheVariants as certificate
use Rattle.messages_certificates.specs.Artifact.{certificate_artifact}
use Rattle.simplex_messages.specs.declared.vote.Vote.{Vote}
use Rattle.simplex_messages.specs.declared.vote.Vote.TheVariants as vote
use Rattle.simplex_messages.specs.VoteParts.{vote_artifact}
use Rattle.voter_history.specs.Past as past
use Rattle.voter_history.specs.Past.{Item}
use Rattle.voter_history.specs.History as views
use Rattle.voter_history.specs.History.{Setup, judged, seen}
use Rattle.voter_views.specs.Views.{recalls}
use Rattle.simplex_member.specs.Layers.{finds, given}
use Rattle.node_core.specs.Learning.{IsNew, IsUnknown}

module _ {S D P G C : Type 0} (Q : List (views.Point S D P G C) → Type 0) (now : ℕ) (x : Artifact S D P G C) (taken : Bool) (h : List (views.Point S D P G C)) where
  alone : (v : Vote S D P G C) → Q (recalls taken (vote_artifact v) ∷ h) → Q (finds now (vote_artifact v) taken ++ h)
  alone (vote.Notarize v) q = q
  alone (vote.Nullify v) q = q
  alone (vote.Finalize v) q = q

  given-with : (c : Certificate S D P G C) → Q (given now c ∷ recalls taken (certificate_artifact c) ∷ h) → Q (finds now (certificate_artifact c) taken ++ h)
  given-with (certificate.Notarization c) q = q
  given-with (certificate.Nullification c) q = q
  given-with (certificate.Finalization c) q = q

  -- of a vote no more than that it was recalled
  pub found-vote : (v : Vote S D P G C) → x ≡ vote_artifact v → Q (recalls taken x ∷ h) → Q (finds now x taken ++ h)
  found-vote v is = subst (λ (y : Artifact S D P G C). Q (recalls taken y ∷ h) → Q (finds now y taken ++ h)) (sym is) (alone v)

  -- of a certificate also itself
  pub found-certificate : (c : Certificate S D P G C) → x ≡ certificate_artifact c → Q (given now c ∷ recalls taken x ∷ h) → Q (finds now x taken ++ h)
  found-certificate c is = subst (λ (y : Artifact S D P G C). Q (given now c ∷ recalls taken y ∷ h) → Q (finds now y taken ++ h)) (sym is) (given-with c)

  -- and of a verdict
  pub found-verdict : (r : Round) (ok : Bool) → x ≡ artifact.Certification r ok → Q (judged now r.view ok ∷ recalls taken x ∷ h) → Q (finds now x taken ++ h)
  found-verdict r ok is = subst (λ (y : Artifact S D P G C). Q (judged now r.view ok ∷ recalls taken y ∷ h) → Q (finds now y taken ++ h)) (sym is) (λ q. q)

-- that a certificate was handed out tells of none
none_by_notarization : {S D P G C : Type 0} (b : Bool) (xs : List (Item S D P G C)) → past.notarization xs ≡ None → past.notarization (if b then past.sent_notarization ∷ xs else xs) ≡ None
none_by_notarization true xs is = is
none_by_notarization false xs is = is

none_by_finalization : {S D P G C : Type 0} (b : Bool) (xs : List (Item S D P G C)) → past.finalization xs ≡ None → past.finalization (if b then past.sent_finalization ∷ xs else xs) ≡ None
none_by_finalization true xs is = is
none_by_finalization false xs is = is

module _ {S D P G C : Type 0} (s : Setup S C) (h : List (views.Point S D P G C)) (taken : Bool) where
  recalled-alone : (c : Certificate S D P G C) → IsUnknown s h c → IsUnknown s (recalls taken (certificate_artifact c) ∷ h) c
  recalled-alone (certificate.Notarization c) none = none_by_notarization (c.proposal.round.view == c.proposal.round.view) (seen s h c.proposal.round.view) none
  recalled-alone (certificate.Nullification c) none = none
  recalled-alone (certificate.Finalization c) none = none_by_finalization (c.proposal.round.view == c.proposal.round.view) (seen s h c.proposal.round.view) none

  -- so what is new of a kind and view stays unknown until it is told itself
  pub still-unknown : (x : Artifact S D P G C) → IsNew s h x → (c : Certificate S D P G C) → x ≡ certificate_artifact c → IsUnknown s (recalls taken x ∷ h) c
  still-unknown x new c is = subst (λ (y : Artifact S D P G C). IsUnknown s (recalls taken y ∷ h) c) (sym is) (recalled-alone c (new c is))
