-- While a record is gone through, the voter knows each notarization that it has so far.
use Rattle.std.proofs.Common.{◌≡◌, ◌++◌, ◌∷◌, ⊎_elim, ℕ, Bool, true, false, List, [], refl, sym, subst}
use Rattle.std.specs.Prelude.{◌==◌, Contains, Option, Some, None, IsSome, if◌then◌else◌, option_map}
use Rattle.std.specs.Option.{option_or}
use Rattle.std.proofs.lemmas.Bool.{eq-eqb}
use Rattle.std.proofs.lemmas.List.{map-append}
use Rattle.std.proofs.lemmas.List.Elements.{Contains-append_cases}
use Rattle.types_quorum.specs.Counting.{Contains-cases, Contains-nil}
use Rattle.types_core.specs.declared.proposal.Proposal.{Proposal}
use Rattle.types_core.specs.declared.position.Round.{Round}
use Rattle.types_core.specs.Subject.{notarize}
use Rattle.messages_certificates.specs.declared.artifact.Artifact.{Artifact}
use Rattle.messages_certificates.specs.declared.artifact.Artifact.TheVariants as artifact
use Rattle.messages_certificates.specs.declared.certificate.Certificate.TheVariants as certificate
use Rattle.messages_certificates.specs.ProposalCertificate.{Notarization}
use Rattle.simplex_record.specs.Record.{Entry, HasTaken, entries, entry, taken}
use Rattle.voter_history.specs.Past as past
use Rattle.voter_history.specs.Past.{Item}
use Rattle.voter_history.specs.History as views
use Rattle.voter_history.specs.History.{notarized, seen}
use Rattle.voter_history.specs.Known.{known}
use Rattle.voter_views.specs.Views.{recalls}
use Rattle.voter_laws.specs.StaysKnown.{IsLeft, WhatIsKnownStays}
use Rattle.simplex_member.specs.Layers.{finds, given, latest, voter_of}
use Rattle.simplex_member.specs.Point.{Found, History, Opened}
use Rattle.simplex_member.specs.Recorded.{record_of}
use Rattle.simplex_member.specs.Setup.{Setup}
use Rattle.node_core.specs.GoingThrough.{IsReading}

module _ {A B : Type 0} where
  some-mapped : (o : Option A) (f : A → B) → IsSome o → IsSome (option_map f o)
  some-mapped (Some x) f some = refl
  some-mapped None f some = absurd (cc some)

  pub some-of-mapped : (o : Option A) (f : A → B) → IsSome (option_map f o) → IsSome o
  some-of-mapped (Some x) f some = refl
  some-of-mapped None f some = absurd (cc some)

module _ {A : Type 0} where
  some-stays : (o p : Option A) → ((x : A) → o ≡ Some x → p ≡ Some x) → IsSome o → IsSome p
  some-stays (Some x) p stays some = subst (λ (o : Option A). IsSome o) (sym (stays x refl)) refl
  some-stays None p stays some = absurd (cc some)

  -- what is there isn't nothing
  pub none-some : (o : Option A) → None ≡ o → IsSome o → ⊥
  none-some (Some x) none some = cc none
  none-some None none some = cc some

  pub some-or : (o : Option A) (x : A) → IsSome (option_or o (Some x))
  some-or (Some y) x = refl
  some-or None x = refl

module _ {S D P G C : Type 0} where
  -- a verdict that is recalled tells of no notarization
  same-by_verdict : (b ok : Bool) (xs : List (Item S D P G C)) → past.notarization (if b then past.judged ok ∷ xs else xs) ≡ past.notarization xs
  same-by_verdict true ok xs = refl
  same-by_verdict false ok xs = refl

  some-put : (b : Bool) (c : Notarization S D P G C) (xs : List (Item S D P G C)) → b ≡ true → IsSome (past.notarization (if b then past.notarized c ∷ xs else xs))
  some-put true c xs is = some-or (past.notarization xs) c
  some-put false c xs is = absurd (cc is)

  pub known-recalled : (s : views.Setup S C) (h : List (views.Point S D P G C)) (x : Artifact S D P G C) (r : Round) (ok again : Bool) → x ≡ artifact.Certification r ok
      → past.notarization (seen s (recalls again x ∷ h) r.view) ≡ past.notarization (seen s h r.view)
  known-recalled s h x r ok again is = subst (λ (y : Artifact S D P G C). past.notarization (seen s (recalls again y ∷ h) r.view) ≡ past.notarization (seen s h r.view)) (sym is)
      (same-by_verdict (r.view == r.view) ok (seen s h r.view))

module _ {S D P G C : Type 0} (stays : WhatIsKnownStays S D P G C) (s : views.Setup S C) where
  on : (h : List (views.Point S D P G C)) (p : views.Point S D P G C) (view : ℕ) → IsLeft s h view p → IsSome (past.notarization (seen s h view)) → IsSome (past.notarization (seen s (p ∷ h) view))
  on h p view left some =
      some-of-mapped (past.notarization (seen s (p ∷ h) view)) (λ (c : Notarization S D P G C). c.proposal)
      (some-stays ((known s h).notarized view) ((known s (p ∷ h)).notarized view) (stays s h view p left).notarized
      (some-mapped (past.notarization (seen s h view)) (λ (c : Notarization S D P G C). c.proposal) some))

  -- what is known of a view's notarization stays known behind each artifact that is found
  found-on : (now : ℕ) (h : List (views.Point S D P G C)) (x : Artifact S D P G C) (again : Bool) (view : ℕ) → IsSome (past.notarization (seen s h view)) → IsSome (past.notarization (seen s (finds now x again ++ h) view))
  found-on now h (artifact.Notarize v) again view some = on h (recalls again (artifact.Notarize v)) view tt some
  found-on now h (artifact.Nullify v) again view some = on h (recalls again (artifact.Nullify v)) view tt some
  found-on now h (artifact.Finalize v) again view some = on h (recalls again (artifact.Finalize v)) view tt some
  found-on now h (artifact.Certification r ok) again view some =
      on (recalls again (artifact.Certification r ok) ∷ h) (views.judged now r.view ok) view tt (on h (recalls again (artifact.Certification r ok)) view tt some)
  found-on now h (artifact.Notarization c) again view some =
      on (recalls again (artifact.Notarization c) ∷ h) (given now (certificate.Notarization c)) view tt (on h (recalls again (artifact.Notarization c)) view tt some)
  found-on now h (artifact.Nullification c) again view some =
      on (recalls again (artifact.Nullification c) ∷ h) (given now (certificate.Nullification c)) view tt (on h (recalls again (artifact.Nullification c)) view tt some)
  found-on now h (artifact.Finalization c) again view some =
      on (recalls again (artifact.Finalization c) ∷ h) (given now (certificate.Finalization c)) view tt (on h (recalls again (artifact.Finalization c)) view tt some)

  -- a notarization that is found is known
  found-here : (now : ℕ) (h : List (views.Point S D P G C)) (c : Notarization S D P G C) (again : Bool) → IsSome (past.notarization (seen s (finds now (artifact.Notarization c) again ++ h) c.proposal.round.view))
  found-here now h c again = some-put (c.proposal.round.view == c.proposal.round.view) c (seen s (recalls again (artifact.Notarization c) ∷ h) c.proposal.round.view) (eq-eqb c.proposal.round.view c.proposal.round.view refl)

  found-last : (now : ℕ) (h : List (views.Point S D P G C)) (x : Artifact S D P G C) (again : Bool) (p : Proposal D) → entry x ≡ taken (notarize p) → IsSome (past.notarization (seen s (finds now x again ++ h) p.round.view))
  found-last now h (artifact.Notarization c) again p is =
      let same : c.proposal ≡ p = cc is in
      subst (λ (q : Proposal D). IsSome (past.notarization (seen s (finds now (artifact.Notarization c) again ++ h) q.round.view))) same (found-here now h c again)
  found-last now h (artifact.Notarize v) again p is = absurd (cc is)
  found-last now h (artifact.Nullify v) again p is = absurd (cc is)
  found-last now h (artifact.Finalize v) again p is = absurd (cc is)
  found-last now h (artifact.Certification r ok) again p is = absurd (cc is)
  found-last now h (artifact.Nullification c) again p is = absurd (cc is)
  found-last now h (artifact.Finalization c) again p is = absurd (cc is)

module _ {S D P G C : Type 0} (stays : WhatIsKnownStays S D P G C) (s : Setup S D C) where
  pub notarizations-known : (now : ℕ) (h : History S D P G C) → IsReading now h → (p : Proposal D) → HasTaken (entries (record_of h)) (notarize p) → IsSome (past.notarization (seen s.voter (voter_of s h) p.round.view))
  notarizations-known now [] is p has = absurd is
  notarizations-known now (Opened t ∷ []) is p has = absurd (Contains-nil (taken (notarize p)) has)
  notarizations-known now (Opened t ∷ q ∷ h) is p has = absurd is
  notarizations-known now (Found x again ∷ h) is p has =
      ⊎_elim
      (λ before. found-on stays s.voter (latest h) (voter_of s h) x again p.round.view (notarizations-known now h is p before))
      (λ last. ⊎_elim
      (λ same. found-last stays s.voter (latest h) (voter_of s h) x again p same)
      (λ none. absurd (Contains-nil (taken (notarize p)) none))
      (Contains-cases (entry x) [] (taken (notarize p)) last))
      (Contains-append_cases (entries (record_of h)) (entry x ∷ []) (taken (notarize p))
      (subst (λ (es : List (Entry D)). Contains es (taken (notarize p))) (map-append entry (record_of h) (x ∷ [])) has))
  notarizations-known now (q ∷ h) is p has = absurd is
