-- What a certificate brings that is taken.
use Rattle.std.proofs.Common.{◌≡◌, ℕ, Bool, false, List, [], ◌∷◌, ◌++◌, None, refl, sym, ◌∙◌, ap, subst, map}
use Rattle.types_core.specs.declared.scheme.Scheme.{Ghosts}
use Rattle.messages_certificates.specs.declared.artifact.Artifact.{Artifact}
use Rattle.messages_certificates.specs.declared.certificate.Certificate.{Certificate}
use Rattle.messages_certificates.specs.declared.certificate.Certificate.TheVariants as certificate
use Rattle.messages_certificates.specs.Artifact.{certificate_artifact}
use Rattle.simplex_messages.specs.Activity.{certificate_activity}
use Rattle.voter_views.specs.Views.{recalls}
use Rattle.simplex_member.specs.declared.action.Action.{Action}
use Rattle.simplex_member.specs.Deeds.{Deed, Reports, Sends, certificate_deeds, entered_deeds, final_deeds}
use Rattle.simplex_member.specs.Layers.{finalized_of}
use Rattle.simplex_member.specs.Packet.{Formats, of_certificate}
use Rattle.simplex_member.specs.Point.{History, Point}
use Rattle.simplex_member.specs.Recorded.{record_of, reported}
use Rattle.simplex_member.specs.Setup.{Setup}
use Rattle.node_outbox.specs.Handing.{AddsDeeds, both_more}

module _ {S D P G C : Type 0} where
  -- of a certificate an artifact says no more than that it was handed out
  pub recalls_sent : (taken : Bool) (c : Certificate S D P G C) → recalls taken (certificate_artifact c) ≡ recalls false (certificate_artifact c)
  recalls_sent taken (certificate.Notarization c) = refl
  recalls_sent taken (certificate.Nullification c) = refl
  recalls_sent taken (certificate.Finalization c) = refl

  -- a certificate is reported as it is
  pub reports_itself : (before : List (Artifact S D P G C)) (c : Certificate S D P G C) → map Reports (reported before (certificate_artifact c)) ≡ Reports (certificate_activity c) ∷ []
  reports_itself before (certificate.Notarization c) = refl
  reports_itself before (certificate.Nullification c) = refl
  reports_itself before (certificate.Finalization c) = refl

  -- what a certificate brings is handed out, one thing behind the other
  pub certificate_handed : (g : Ghosts S D P G C) (f : Formats S D P G C) (s : Setup S D C) (h : History S D P G C) (p : Point S D P G C) (c : Certificate S D P G C) (low : ℕ) (made : List (Deed S D P G C)) (first second third fourth fifth : List (Action S D P G C))
      → low ≡ finalized_of s h → final_deeds low c ≡ made → AddsDeeds f first second (Reports (certificate_activity c) ∷ []) → AddsDeeds f second third (Sends None (of_certificate c) ∷ []) → AddsDeeds f third fourth made
      → AddsDeeds f fourth fifth (entered_deeds g f s h p) → AddsDeeds f first fifth (certificate_deeds g f s h p c)
  certificate_handed g f s h p c low made first second third fourth fifth at is reports sends finalizes enters =
      let entered = entered_deeds g f s h p in
      let final = both_more f third fourth fifth made entered finalizes enters in
      let told = both_more f second third fifth (Sends None (of_certificate c) ∷ []) (made ++ entered) sends final in
      let all = both_more f first second fifth (Reports (certificate_activity c) ∷ []) (Sends None (of_certificate c) ∷ (made ++ entered)) reports told in
      let made_is : made ≡ final_deeds (finalized_of s h) c = sym is ∙ ap (λ (n : ℕ). final_deeds n c) at in
      let reports_is : Reports (certificate_activity c) ∷ [] ≡ map Reports (reported (record_of h) (certificate_artifact c)) = sym (reports_itself (record_of h) c) in
      subst (λ (l : List (Deed S D P G C)). AddsDeeds f first fifth (l ++ (Sends None (of_certificate c) ∷ (final_deeds (finalized_of s h) c ++ entered)))) reports_is
      (subst (λ (l : List (Deed S D P G C)). AddsDeeds f first fifth (Reports (certificate_activity c) ∷ Sends None (of_certificate c) ∷ (l ++ entered))) made_is all)
