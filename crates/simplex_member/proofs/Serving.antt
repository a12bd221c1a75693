-- What is served is the spelling of a certificate that is recorded.
use Rattle.std.proofs.Common.{◌≡◌, ⊎_elim, ℕ, ◌==◌, Bool, true, false, List, [], ◌∷◌, Option, Some, None, refl, sym, ◌∙◌, ap, subst}
use Rattle.std.specs.Prelude.{Contains, option_map, option_to_list, unwrap_or}
use Rattle.std.proofs.lemmas.Option.{none-some}
use Rattle.std.proofs.lemmas.List.Elements.{Contains-append_cases}
use Rattle.types_quorum.specs.Counting.{Contains-cases, Contains-nil}
use Rattle.types_core.specs.declared.position.Round.{Round}
use Rattle.types_core.specs.declared.proposal.Proposal.{Proposal}
use Rattle.types_core.specs.declared.scheme.Scheme.{Ghosts}
use Rattle.types_core.specs.Subject.{notarize}
use Rattle.messages_certificates.specs.declared.artifact.Artifact.{Artifact}
use Rattle.messages_certificates.specs.declared.artifact.Artifact.TheVariants as artifact
use Rattle.messages_certificates.specs.declared.certificate.Certificate.{Certificate}
use Rattle.messages_certificates.specs.declared.certificate.Certificate.TheVariants as certificate
use Rattle.messages_certificates.specs.Artifact.{certificate_artifact}
use Rattle.messages_certificates.specs.ProposalCertificate.{Notarization}
use Rattle.simplex_record.specs.Record.{Entry, entry, entries, taken, HasTaken}
use Rattle.simplex_resolver.specs.Answers.{WhatIsProducedCame, brings, produced}
use Rattle.simplex_resolver.specs.RepairHistory as repair
use Rattle.simplex_resolver.specs.RepairHistory.{Item, item_of}
use Rattle.simplex_member.specs.Allowed.{Allowed, AreAllowed, MayRecord}
use Rattle.simplex_member.specs.Layers.{notarization_bytes, repair_found, repair_items, repair_of}
use Rattle.simplex_member.specs.Packet.{Formats}
use Rattle.simplex_member.specs.Point.{Point, Found, Began, Came, Judged, Constructs, History}
use Rattle.simplex_member.specs.Recorded.{notarization_in, record_of, recorded_by}
use Rattle.simplex_member.specs.Setup.{Setup}
use Rattle.simplex_member.proofs.Lists.{put-before, put-here, same-number, some-is}
use Rattle.simplex_member.proofs.Reporting.{notarized-there, one}

-- the proposal of which an entry says that a notarization was taken
abbrev notarized_in : {D : Type 0} → Entry D → Option (Proposal D)
notarized_in (taken (notarize p)) = Some p
notarized_in x = None

module _ {S D P G C : Type 0} where
  -- where a record says that a notarization of a view was taken, it has one
  record HasOne (r : List (Artifact S D P G C)) (view : ℕ) : Type 0 where
    pub c : Notarization S D P G C
    pub is : notarization_in r view ≡ Some c

  one-behind : (x : Artifact S D P G C) (r : List (Artifact S D P G C)) (view : ℕ) → HasOne r view → HasOne (x ∷ r) view
  one-behind (artifact.Notarization d) r view has = go (d.proposal.round.view == view) refl
    where
      go : (b : Bool) → (d.proposal.round.view == view) ≡ b → HasOne (artifact.Notarization d ∷ r) view
      go true e = record { c = d; is = rw e refl }
      go false e = record { c = has.c; is = rw e has.is }
  one-behind x r view has = record { c = has.c; is = has.is }

  one-first : (x : Artifact S D P G C) (r : List (Artifact S D P G C)) (p : Proposal D) → entry x ≡ taken (notarize p) → HasOne (x ∷ r) p.round.view
  one-first (artifact.Notarization d) r p is = record { c = d; is = rw (same-number d.proposal.round.view p.round.view (ap (λ (q : Proposal D). q.round.view) (some-is d.proposal p (ap notarized_in is)))) refl }
  one-first (artifact.Notarize v) r p is = absurd (none-some p (ap notarized_in is))
  one-first (artifact.Certification t ok) r p is = absurd (none-some p (ap notarized_in is))
  one-first (artifact.Nullify v) r p is = absurd (none-some p (ap notarized_in is))
  one-first (artifact.Finalize v) r p is = absurd (none-some p (ap notarized_in is))
  one-first (artifact.Nullification d) r p is = absurd (none-some p (ap notarized_in is))
  one-first (artifact.Finalization d) r p is = absurd (none-some p (ap notarized_in is))

  one-of : (r : List (Artifact S D P G C)) (p : Proposal D) → HasTaken (entries r) (notarize p) → HasOne r p.round.view
  one-of [] p here = absurd (Contains-nil (taken (notarize p)) here)
  one-of (x ∷ r) p here = ⊎_elim
      (λ is. one-first x r p is)
      (λ later. one-behind x r p.round.view (one-of r p later))
      (Contains-cases (entry x) (entries r) (taken (notarize p)) here)

module _ {S D P G C : Type 0} (g : Ghosts S D P G C) (f : Formats S D P G C) (s : Setup S D C) where
  -- bytes are the spelling of a certificate that is recorded
  pub record IsSpelled (r : List (Artifact S D P G C)) (bytes : List ℕ) : Type 0 where
    pub c : Certificate S D P G C
    pub recorded : Contains r (certificate_artifact c)
    pub are : bytes ≡ f.certificate c

  abbrev Spelled : Point S D P G C → History S D P G C → List Item → Type 0
  Spelled p h items = (x : Item) → Contains items x → (bytes : List ℕ) → brings x ≡ Some bytes → IsSpelled (record_of (p ∷ h)) bytes

  spelled-nil : (p : Point S D P G C) (h : History S D P G C) → Spelled p h []
  spelled-nil p h x here bytes is = absurd (Contains-nil x here)

  spelled-certificate : (p : Point S D P G C) (h : History S D P G C) (c : Certificate S D P G C) → recorded_by p ≡ Some (certificate_artifact c) → Spelled p h (item_of f.certificate c ∷ [])
  spelled-certificate p h (certificate.Notarization c) records x here bytes is = absurd (none-some bytes (ap brings (one (repair.Notarized c.proposal.round.view) x here) ∙ is))
  spelled-certificate p h (certificate.Nullification c) records x here bytes is = record {
    c = certificate.Nullification c;
    recorded = put-here (record_of h) (recorded_by p) (artifact.Nullification c) records;
    are = sym (some-is (f.certificate (certificate.Nullification c)) bytes (ap brings (one (repair.Nullified c.round.view (f.certificate (certificate.Nullification c))) x here) ∙ is));
  }
  spelled-certificate p h (certificate.Finalization c) records x here bytes is = record {
    c = certificate.Finalization c;
    recorded = put-here (record_of h) (recorded_by p) (artifact.Finalization c) records;
    are = sym (some-is (f.certificate (certificate.Finalization c)) bytes (ap brings (one (repair.Finalized c.proposal.round.view (f.certificate (certificate.Finalization c))) x here) ∙ is));
  }

  spelled-verdict : (p : Point S D P G C) (h : History S D P G C) (r : Round) (ok : Bool) → MayRecord g f s h (artifact.Certification r ok) → Spelled p h (repair.Judged r.view (notarization_bytes f h r.view) ok ∷ [])
  spelled-verdict p h r false may x here bytes is = absurd (none-some bytes (ap brings (one (repair.Judged r.view (notarization_bytes f h r.view) false) x here) ∙ is))
  spelled-verdict p h r true may x here bytes is =
      let of = may.follows.notarized in
      let has = subst (λ (n : ℕ). HasOne (record_of h) n) (ap (λ (t : Round). t.view) of.1) (one-of (record_of h) of.0 of.2) in
      let these : notarization_bytes f h r.view ≡ bytes = some-is (notarization_bytes f h r.view) bytes (ap brings (one (repair.Judged r.view (notarization_bytes f h r.view) true) x here) ∙ is) in
      let spelled : notarization_bytes f h r.view ≡ f.certificate (certificate.Notarization has.c) = ap (λ (o : Option (Notarization S D P G C)). unwrap_or (option_map (λ (c : Notarization S D P G C). f.certificate (certificate.Notarization c)) o) []) has.is in
      record {
        c = certificate.Notarization has.c;
        recorded = put-before (record_of h) (recorded_by p) (artifact.Notarization has.c) (notarized-there (record_of h) r.view has.c has.is);
        are = sym these ∙ spelled;
      }

  spelled-made : (p : Point S D P G C) (h : History S D P G C) (o : Option (Certificate S D P G C)) → recorded_by p ≡ option_map certificate_artifact o → Spelled p h (option_to_list (option_map (item_of f.certificate) o))
  spelled-made p h None records = spelled-nil p h
  spelled-made p h (Some c) records = spelled-certificate p h c records

  spelled-found : (h : History S D P G C) (x : Artifact S D P G C) (found : Bool) → MayRecord g f s h x → Spelled (Found x found) h (repair_found f h x)
  spelled-found h (artifact.Notarization c) found may = spelled-certificate (Found (artifact.Notarization c) found) h (certificate.Notarization c) refl
  spelled-found h (artifact.Nullification c) found may = spelled-certificate (Found (artifact.Nullification c) found) h (certificate.Nullification c) refl
  spelled-found h (artifact.Finalization c) found may = spelled-certificate (Found (artifact.Finalization c) found) h (certificate.Finalization c) refl
  spelled-found h (artifact.Certification r ok) found may = spelled-verdict (Found (artifact.Certification r ok) found) h r ok may
  spelled-found h (artifact.Notarize v) found may = spelled-nil (Found (artifact.Notarize v) found) h
  spelled-found h (artifact.Nullify v) found may = spelled-nil (Found (artifact.Nullify v) found) h
  spelled-found h (artifact.Finalize v) found may = spelled-nil (Found (artifact.Finalize v) found) h

  point-spelled : (p : Point S D P G C) (h : History S D P G C) → Allowed g f s h p → Spelled p h (repair_items f h p)
  point-spelled (Found x found) h a = spelled-found h x found a.fits
  point-spelled Began h a = λ x here bytes is. absurd (none-some bytes (ap brings (one repair.Replayed x here) ∙ is))
  point-spelled (Came c) h a = spelled-certificate (Came c) h c refl
  point-spelled (Judged r ok) h a = spelled-verdict (Judged r ok) h r ok a.fits
  point-spelled (Constructs view kind batch) h a = spelled-made (Constructs view kind batch) h batch.certificate refl
  point-spelled p h a = spelled-nil p h

  item-spelled : (h : History S D P G C) → AreAllowed g f s h → (x : Item) → Contains (repair_of f h) x → (bytes : List ℕ) → brings x ≡ Some bytes → IsSpelled (record_of h) bytes
  item-spelled [] all x here bytes is = absurd (Contains-nil x here)
  item-spelled (p ∷ h) all x here bytes is = ⊎_elim
      (λ now. point-spelled p h all.0 x now bytes is)
      (λ before. let of = item-spelled h all.1 x before bytes is in record { c = of.c; recorded = put-before (record_of h) (recorded_by p) (certificate_artifact of.c) of.recorded; are = of.are })
      (Contains-append_cases (repair_items f h p) (repair_of f h) x here)

  -- what is served is spelled so
  pub served-spelled : WhatIsProducedCame → (h : History S D P G C) → AreAllowed g f s h → (views view : ℕ) (bytes : List ℕ) → produced views (repair_of f h) view ≡ Some bytes → IsSpelled (record_of h) bytes
  served-spelled law h all views view bytes is = let came = law views (repair_of f h) view bytes is in item-spelled h all came.0 came.1 bytes came.2
