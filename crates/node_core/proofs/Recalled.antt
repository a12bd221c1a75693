-- The notarization of a view, in a record that goes on.
use Rattle.std.proofs.Common.{◌≡◌, ◌++◌, ◌∷◌, ◌∙◌, inl, inr, ℕ, Bool, true, false, List, [], refl, sym, ap, subst}
use Rattle.std.specs.Prelude.{◌==◌, Contains, Option, Some, None, IsSome, if◌then◌else◌, option_map, option_to_list, unwrap_or}
use Rattle.std.proofs.lemmas.Bool.{eqb-true, eq-eqb}
use Rattle.types_quorum.specs.Counting.{Contains-cases, Contains-nil}
use Rattle.types_core.specs.declared.proposal.Proposal.{Proposal}
use Rattle.types_core.specs.declared.position.Round.{Round}
use Rattle.types_core.specs.declared.scheme.Scheme.{Ghosts}
use Rattle.types_core.specs.Subject.{finalize, notarize, nullify}
use Rattle.messages_certificates.specs.declared.artifact.Artifact.{Artifact}
use Rattle.messages_certificates.specs.declared.artifact.Artifact.TheVariants as artifact
use Rattle.messages_certificates.specs.ProposalCertificate.{Notarization}
use Rattle.messages_certificates.specs.declared.certificate.Certificate.{Certificate}
use Rattle.messages_certificates.specs.declared.certificate.Certificate.TheVariants as certificate
use Rattle.messages_certificates.specs.Artifact.{artifact_round, certificate_artifact}
use Rattle.messages_certificates.specs.Certificate.{as_notarization}
use Rattle.simplex_messages.specs.declared.activity.Activity.{Activity}
use Rattle.simplex_messages.specs.declared.activity.Activity.TheVariants as activity
use Rattle.simplex_messages.specs.declared.vote.Vote.{Vote}
use Rattle.simplex_messages.specs.declared.vote.Vote.TheVariants as vote
use Rattle.simplex_messages.specs.Activity.{certificate_activity, vote_activity}
use Rattle.simplex_messages.specs.VoteParts.{vote_artifact}
use Rattle.simplex_resolver.specs.RepairHistory.{Item, Judged, item_of}
use Rattle.simplex_record.specs.Record.{entries, judged, taken, voted}
use Rattle.node_record.specs.declared.recorded.Recorded.{Recorded}
use Rattle.node_record.specs.Recorded.{HoldsRecord}
use Rattle.simplex_member.specs.Layers.{repair_found, repair_of}
use Rattle.simplex_member.specs.Packet.{Formats}
use Rattle.simplex_member.specs.Point.{History}
use Rattle.simplex_member.specs.Recorded.{notarization_in, record_of, reported}
use Rattle.simplex_member.specs.Setup.{Setup, owner_of}
use Rattle.node_core.specs.GoingThrough.{IsRecordOf}

module _ {S D P G C : Type 0} where
  -- what is found of a view is of it
  at-first : (b : Bool) (view : ℕ) (first c : Notarization S D P G C) (later : Option (Notarization S D P G C)) → (first.proposal.round.view == view) ≡ b → (later ≡ Some c → c.proposal.round.view ≡ view)
      → (if b then Some first else later) ≡ Some c → c.proposal.round.view ≡ view
  at-first true view first c later is other found =
      let same : first ≡ c = ap (λ o. unwrap_or o first) found in
      subst (λ (x : Notarization S D P G C). x.proposal.round.view ≡ view) same (eqb-true first.proposal.round.view view is)
  at-first false view first c later is other found = other found

  pub notarization-at : (xs : List (Artifact S D P G C)) (view : ℕ) (c : Notarization S D P G C) → notarization_in xs view ≡ Some c → c.proposal.round.view ≡ view
  notarization-at [] view c found = absurd (cc found)
  notarization-at (artifact.Notarization x ∷ xs) view c found = at-first (x.proposal.round.view == view) view x c (notarization_in xs view) refl (notarization-at xs view c) found
  notarization-at (artifact.Notarize x ∷ xs) view c found = notarization-at xs view c found
  notarization-at (artifact.Certification x ok ∷ xs) view c found = notarization-at xs view c found
  notarization-at (artifact.Nullify x ∷ xs) view c found = notarization-at xs view c found
  notarization-at (artifact.Nullification x ∷ xs) view c found = notarization-at xs view c found
  notarization-at (artifact.Finalize x ∷ xs) view c found = notarization-at xs view c found
  notarization-at (artifact.Finalization x ∷ xs) view c found = notarization-at xs view c found

  -- it stays, whatever is recorded behind it
  stays-first : (b : Bool) (first : Notarization S D P G C) (here later : Option (Notarization S D P G C)) → (IsSome here → later ≡ here) → IsSome (if b then Some first else here) → (if b then Some first else later) ≡ (if b then Some first else here)
  stays-first true first here later other some = refl
  stays-first false first here later other some = other some

  pub notarization-stays : (xs ys : List (Artifact S D P G C)) (view : ℕ) → IsSome (notarization_in xs view) → notarization_in (xs ++ ys) view ≡ notarization_in xs view
  notarization-stays [] ys view some = absurd (cc some)
  notarization-stays (artifact.Notarization x ∷ xs) ys view some = stays-first (x.proposal.round.view == view) x (notarization_in xs view) (notarization_in (xs ++ ys) view) (notarization-stays xs ys view) some
  notarization-stays (artifact.Notarize x ∷ xs) ys view some = notarization-stays xs ys view some
  notarization-stays (artifact.Certification x ok ∷ xs) ys view some = notarization-stays xs ys view some
  notarization-stays (artifact.Nullify x ∷ xs) ys view some = notarization-stays xs ys view some
  notarization-stays (artifact.Nullification x ∷ xs) ys view some = notarization-stays xs ys view some
  notarization-stays (artifact.Finalize x ∷ xs) ys view some = notarization-stays xs ys view some
  notarization-stays (artifact.Finalization x ∷ xs) ys view some = notarization-stays xs ys view some

  -- where a certificate for a proposal was taken there is one
  there-first : (b : Bool) (first : Notarization S D P G C) (later : Option (Notarization S D P G C)) → (b ≡ false → IsSome later) → IsSome (if b then Some first else later)
  there-first true first later other = refl
  there-first false first later other = other refl

  pub notarization-there : (xs : List (Artifact S D P G C)) (p : Proposal D) → Contains (entries xs) (taken (notarize p)) → IsSome (notarization_in xs p.round.view)
  notarization-there [] p there = absurd (Contains-nil (taken (notarize p)) there)
  notarization-there (artifact.Notarization x ∷ xs) p there =
      there-first (x.proposal.round.view == p.round.view) x (notarization_in xs p.round.view)
      (λ apart. elim (Contains-cases (taken (notarize x.proposal)) (entries xs) (taken (notarize p)) there) [
        | inl is ↦ let same : x.proposal ≡ p = cc is in absurd (let here = eq-eqb x.proposal.round.view p.round.view (ap (λ (q : Proposal D). q.round.view) same) in cc)
        | inr later ↦ notarization-there xs p later
      ])
  notarization-there (artifact.Notarize x ∷ xs) p there = elim (Contains-cases (voted (notarize x.proposal)) (entries xs) (taken (notarize p)) there) [ inl is ↦ absurd (cc is) | inr later ↦ notarization-there xs p later ]
  notarization-there (artifact.Certification x ok ∷ xs) p there = elim (Contains-cases (judged x ok) (entries xs) (taken (notarize p)) there) [ inl is ↦ absurd (cc is) | inr later ↦ notarization-there xs p later ]
  notarization-there (artifact.Nullify x ∷ xs) p there = elim (Contains-cases (voted (nullify x.round)) (entries xs) (taken (notarize p)) there) [ inl is ↦ absurd (cc is) | inr later ↦ notarization-there xs p later ]
  notarization-there (artifact.Nullification x ∷ xs) p there = elim (Contains-cases (taken (nullify x.round)) (entries xs) (taken (notarize p)) there) [ inl is ↦ absurd (cc is) | inr later ↦ notarization-there xs p later ]
  notarization-there (artifact.Finalize x ∷ xs) p there = elim (Contains-cases (voted (finalize x.proposal)) (entries xs) (taken (notarize p)) there) [ inl is ↦ absurd (cc is) | inr later ↦ notarization-there xs p later ]
  notarization-there (artifact.Finalization x ∷ xs) p there = elim (Contains-cases (taken (finalize x.proposal)) (entries xs) (taken (notarize p)) there) [ inl is ↦ absurd (cc is) | inr later ↦ notarization-there xs p later ]

  -- in a lawful record that of a verdict stands before it: it is the one that is found in all of the record
  pub notarization-before : (g : Ghosts S D P G C) (s : Setup S D C) (recorded : Recorded S D P G C) (before rest : List (Artifact S D P G C)) (r : Round) (ok : Bool)
      → IsRecordOf g s recorded (before ++ artifact.Certification r ok ∷ rest) → notarization_in (before ++ artifact.Certification r ok ∷ rest) r.view ≡ notarization_in before r.view
  notarization-before g s recorded before rest r ok is =
      let known = (is.lawful before rest (artifact.Certification r ok) refl).follows.notarized in
      let there : IsSome (notarization_in before r.view) = subst (λ (x : Round). IsSome (notarization_in before x.view)) known.1 (notarization-there before known.0 known.2) in
      notarization-stays before (artifact.Certification r ok ∷ rest) r.view there

  -- a true verdict is reported with the notarization that is found
  pub verdict-report : (ok : Bool) (o : Option (Notarization S D P G C)) (c copy : Notarization S D P G C) → ok ≡ true → Some c ≡ o → copy ≡ c → Some (activity.Certification copy) ≡ (if ok then option_map activity.Certification o else None)
  verdict-report true o c copy good found same = ap (λ (x : Notarization S D P G C). Some (activity.Certification x)) same ∙ ap (option_map activity.Certification) found
  verdict-report false o c copy good found same = absurd (cc good)

  pub no-report : (ok : Bool) (o : Option (Notarization S D P G C)) → None ≡ o → None ≡ (if ok then option_map activity.Certification o else None)
  no-report true o found = ap (option_map activity.Certification) found
  no-report false o found = refl

  reported-so : (g : Ghosts S D P G C) (s : Setup S D C) (recorded : Recorded S D P G C) (before rest : List (Artifact S D P G C)) (r : Round) (ok : Bool) (report : Option (Activity S D P G C))
      → IsRecordOf g s recorded (before ++ artifact.Certification r ok ∷ rest) → report ≡ (if ok then option_map activity.Certification (notarization_in (before ++ artifact.Certification r ok ∷ rest) r.view) else None)
      → option_to_list report ≡ reported before (artifact.Certification r ok)
  reported-so g s recorded before rest r true report is told = ap option_to_list (told ∙ ap (option_map activity.Certification) (notarization-before g s recorded before rest r true is))
  reported-so g s recorded before rest r false report is told = ap option_to_list told

  -- a vote is reported as it is, and so is a certificate
  vote-as : (before : List (Artifact S D P G C)) (v : Vote S D P G C) → vote_activity v ∷ [] ≡ reported before (vote_artifact v)
  vote-as before (vote.Notarize v) = refl
  vote-as before (vote.Nullify v) = refl
  vote-as before (vote.Finalize v) = refl

  certificate-as : (before : List (Artifact S D P G C)) (c : Certificate S D P G C) → certificate_activity c ∷ [] ≡ reported before (certificate_artifact c)
  certificate-as before (certificate.Notarization c) = refl
  certificate-as before (certificate.Nullification c) = refl
  certificate-as before (certificate.Finalization c) = refl

  pub vote-reported : (before : List (Artifact S D P G C)) (x : Artifact S D P G C) (v : Vote S D P G C) (a : Activity S D P G C) → x ≡ vote_artifact v → a ≡ vote_activity v → a ∷ [] ≡ reported before x
  vote-reported before x v a is told = ap (λ (b : Activity S D P G C). b ∷ []) told ∙ (vote-as before v ∙ ap (reported before) (sym is))

  pub certificate-reported : (before : List (Artifact S D P G C)) (x : Artifact S D P G C) (c : Certificate S D P G C) (a : Activity S D P G C) → x ≡ certificate_artifact c → a ≡ certificate_activity c → a ∷ [] ≡ reported before x
  certificate-reported before x c a is told = ap (λ (b : Activity S D P G C). b ∷ []) told ∙ (certificate-as before c ∙ ap (reported before) (sym is))

  -- a verdict is reported as it is to be
  pub verdict-reported : (g : Ghosts S D P G C) (s : Setup S D C) (recorded : Recorded S D P G C) (before rest : List (Artifact S D P G C)) (x : Artifact S D P G C) (r : Round) (ok : Bool) (report : Option (Activity S D P G C)) → x ≡ artifact.Certification r ok
      → IsRecordOf g s recorded (before ++ x ∷ rest) → report ≡ (if ok then option_map activity.Certification (notarization_in (before ++ x ∷ rest) r.view) else None) → option_to_list report ≡ reported before x
  verdict-reported g s recorded before rest x r ok report e =
      subst (λ (y : Artifact S D P G C). IsRecordOf g s recorded (before ++ y ∷ rest) → report ≡ (if ok then option_map activity.Certification (notarization_in (before ++ y ∷ rest) r.view) else None) → option_to_list report ≡ reported before y)
      (sym e) (reported-so g s recorded before rest r ok report)

  -- the repair is told nothing of a vote
  nothing-told : (Q : List Item → Type 0) (f : Formats S D P G C) (h : History S D P G C) (v : Vote S D P G C) → Q (repair_of f h) → Q (repair_found f h (vote_artifact v) ++ repair_of f h)
  nothing-told Q f h (vote.Notarize v) q = q
  nothing-told Q f h (vote.Nullify v) q = q
  nothing-told Q f h (vote.Finalize v) q = q

  pub vote-found : (Q : List Item → Type 0) (f : Formats S D P G C) (h : History S D P G C) (x : Artifact S D P G C) (v : Vote S D P G C) → x ≡ vote_artifact v → Q (repair_of f h) → Q (repair_found f h x ++ repair_of f h)
  vote-found Q f h x v is q = subst (λ (y : Artifact S D P G C). Q (repair_found f h y ++ repair_of f h)) (sym is) (nothing-told Q f h v q)

  -- what it is told of a certificate
  certificate-told : (Q : List Item → Type 0) (f : Formats S D P G C) (h : History S D P G C) (c : Certificate S D P G C) → Q (item_of f.certificate c ∷ repair_of f h) → Q (repair_found f h (certificate_artifact c) ++ repair_of f h)
  certificate-told Q f h (certificate.Notarization c) q = q
  certificate-told Q f h (certificate.Nullification c) q = q
  certificate-told Q f h (certificate.Finalization c) q = q

  pub certificate-found : (Q : List Item → Type 0) (f : Formats S D P G C) (h : History S D P G C) (x : Artifact S D P G C) (c : Certificate S D P G C) → x ≡ certificate_artifact c → Q (item_of f.certificate c ∷ repair_of f h) → Q (repair_found f h x ++ repair_of f h)
  certificate-found Q f h x c is q = subst (λ (y : Artifact S D P G C). Q (repair_found f h y ++ repair_of f h)) (sym is) (certificate-told Q f h c q)

  -- what it is told of a verdict
  verdict-told : (Q : List Item → Type 0) (g : Ghosts S D P G C) (s : Setup S D C) (recorded : Recorded S D P G C) (f : Formats S D P G C) (h : History S D P G C) (rest : List (Artifact S D P G C)) (r : Round) (ok : Bool)
      → IsRecordOf g s recorded (record_of h ++ artifact.Certification r ok ∷ rest)
      → (c : Notarization S D P G C) × (notarization_in (record_of h ++ artifact.Certification r ok ∷ rest) r.view ≡ Some c) × Q (Judged r.view (f.certificate (as_notarization c)) ok ∷ repair_of f h)
      → Q (repair_found f h (artifact.Certification r ok) ++ repair_of f h)
  verdict-told Q g s recorded f h rest r ok is made =
      let found : notarization_in (record_of h) r.view ≡ Some made.0 = sym (notarization-before g s recorded (record_of h) rest r ok is) ∙ made.1 in
      subst (λ (o : Option (Notarization S D P G C)). Q (Judged r.view (unwrap_or (option_map (λ c. f.certificate (as_notarization c)) o) []) ok ∷ repair_of f h)) (sym found) made.2

  pub judged-found : (Q : List Item → Type 0) (R : ℕ → Type 0) (g : Ghosts S D P G C) (s : Setup S D C) (recorded : Recorded S D P G C) (f : Formats S D P G C) (h : History S D P G C) (rest : List (Artifact S D P G C)) (x : Artifact S D P G C) (r : Round) (ok : Bool)
      → x ≡ artifact.Certification r ok → R (artifact_round x).view → IsRecordOf g s recorded (record_of h ++ x ∷ rest)
      → ((xs : List (Artifact S D P G C)) → R r.view → HoldsRecord (owner_of s) recorded xs → (c : Notarization S D P G C) × (notarization_in xs r.view ≡ Some c) × Q (Judged r.view (f.certificate (as_notarization c)) ok ∷ repair_of f h))
      → Q (repair_found f h x ++ repair_of f h)
  judged-found Q R g s recorded f h rest x r ok e room is told =
      let at : IsRecordOf g s recorded (record_of h ++ artifact.Certification r ok ∷ rest) = subst (λ (y : Artifact S D P G C). IsRecordOf g s recorded (record_of h ++ y ∷ rest)) e is in
      let roomy : R r.view = subst (λ (y : Artifact S D P G C). R (artifact_round y).view) e room in
      subst (λ (y : Artifact S D P G C). Q (repair_found f h y ++ repair_of f h)) (sym e)
      (verdict-told Q g s recorded f h rest r ok at (told (record_of h ++ artifact.Certification r ok ∷ rest) roomy at.holds))
