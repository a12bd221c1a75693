-- What comes with a certificate of each kind.
use Rattle.std.proofs.Common.{◌≡◌, sym, ◌∙◌, ap, ℕ, List, ◌∷◌, true}
use Rattle.messages_certificates.specs.declared.certificate.Certificate.{Certificate}
use Rattle.messages_certificates.specs.declared.certificate.Certificate.TheVariants as certificate
use Rattle.messages_certificates.specs.declared.nullification.Nullification.{Nullification}
use Rattle.messages_certificates.specs.ProposalCertificate.{Notarization, Finalization}
use Rattle.messages_certificates.specs.Certificate.{certificate_round}
use Rattle.simplex_resolver.specs.RepairHistory.{Item, Nullified, Notarized, Finalized, has_failed, item_of}

module _ {S D P G C : Type 0} (spelling : Certificate S D P G C → List ℕ) (x : Certificate S D P G C) (v : ℕ) (view : v ≡ (certificate_round x).view) where
  pub notarized_item : (n : Notarization S D P G C) → x ≡ certificate.Notarization n → Notarized v ≡ item_of spelling x
  notarized_item n is = ap Notarized (view ∙ ap (λ (y : Certificate S D P G C). (certificate_round y).view) is) ∙ sym (ap (item_of spelling) is)

  pub nullified_item : (n : Nullification S D P G C) → x ≡ certificate.Nullification n → Nullified v (spelling x) ≡ item_of spelling x
  nullified_item n is = ap (λ (w : ℕ). Nullified w (spelling x)) (view ∙ ap (λ (y : Certificate S D P G C). (certificate_round y).view) is) ∙ (ap (λ (y : Certificate S D P G C). Nullified n.round.view (spelling y)) is ∙ sym (ap (item_of spelling) is))

  pub finalized_item : (n : Finalization S D P G C) → x ≡ certificate.Finalization n → Finalized v (spelling x) ≡ item_of spelling x
  finalized_item n is = ap (λ (w : ℕ). Finalized w (spelling x)) (view ∙ ap (λ (y : Certificate S D P G C). (certificate_round y).view) is) ∙ (ap (λ (y : Certificate S D P G C). Finalized n.proposal.round.view (spelling y)) is ∙ sym (ap (item_of spelling) is))

-- a certificate is no false verdict
pub failed_before : {S D P G C : Type 0} (spelling : Certificate S D P G C → List ℕ) (x : Certificate S D P G C) (h : List Item) (v : ℕ) → has_failed (item_of spelling x ∷ h) v ≡ true → has_failed h v ≡ true
failed_before spelling (certificate.Notarization n) h v failed = failed
failed_before spelling (certificate.Nullification n) h v failed = failed
failed_before spelling (certificate.Finalization n) h v failed = failed
