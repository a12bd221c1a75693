-- A certificate that a correct member reports is recorded, so it certifies.
use Rattle.std.proofs.Common.{◌≡◌, ◌⊎◌, inl, inr, ⊎_elim, ℕ, ◌==◌, Bool, true, false, List, [], ◌∷◌, Option, Some, None, refl, sym, ◌∙◌, ap, subst}
use Rattle.std.specs.Prelude.{Contains, ◌&&◌, if◌then◌else◌, nat_lt, option_map, option_to_list}
use Rattle.std.specs.Option.{option_and_then}
use Rattle.std.proofs.lemmas.Option.{none-some}
use Rattle.std.proofs.lemmas.List.Elements.{Contains-append_cases}
use Rattle.types_quorum.specs.Counting.{Contains-nil}
use Rattle.types_core.specs.declared.scheme.Scheme.{Ghosts}
use Rattle.types_core.specs.Quorum.{IsQuorum}
use Rattle.types_core.specs.Subject.{Statement}
use Rattle.messages_certificates.specs.declared.artifact.Artifact.{Artifact}
use Rattle.messages_certificates.specs.declared.artifact.Artifact.TheVariants as artifact
use Rattle.messages_certificates.specs.declared.certificate.Certificate.{Certificate}
use Rattle.messages_certificates.specs.declared.certificate.Certificate.TheVariants as certificate
use Rattle.messages_certificates.specs.Artifact.{certificate_artifact}
use Rattle.messages_certificates.specs.Certificate.{certificate_statement, certified_by}
use Rattle.messages_certificates.specs.ProposalCertificate.{Notarization}
use Rattle.messages_certificates.specs.ProposalVote.{contradict}
use Rattle.messages_certificates.specs.StandsBeside.{stands_beside}
use Rattle.simplex_messages.specs.declared.activity.Activity.{Activity}
use Rattle.simplex_messages.specs.declared.activity.Activity.TheVariants as activity
use Rattle.simplex_messages.specs.declared.vote.Vote.{Vote}
use Rattle.simplex_messages.specs.declared.vote.Vote.TheVariants as vote
use Rattle.simplex_messages.specs.VoteParts.{vote_round, vote_signer}
use Rattle.batcher_admission.specs.Evidence.{as_report, evidence}
use Rattle.simplex_batcher.specs.Admission.{report_of}
use Rattle.batcher_verifier.specs.History.{is_kept_in_full, recorded, takes}
use Rattle.batcher_verifier.specs.Votes.{vote_kind}
use Rattle.simplex_record.specs.World.{World, IsCorrect}
use Rattle.simplex_member.specs.declared.event.Event.{Event}
use Rattle.simplex_member.specs.declared.event.Event.TheVariants as event
use Rattle.simplex_member.specs.declared.refusal.Refusal.{Refusal}
use Rattle.simplex_member.specs.declared.refusal.Refusal.TheVariants as refusal
use Rattle.simplex_member.specs.Deeds.{Deed, Blocks, Reports}
use Rattle.simplex_member.specs.Laws.{LifeLaws, reported_certificate}
use Rattle.simplex_member.specs.Layers.{votes_of, votes_setup}
use Rattle.simplex_member.specs.Lives.{HandedOut, LiveByNodes, Members}
use Rattle.simplex_member.specs.Packet.{Formats, Packet, of_vote}
use Rattle.simplex_member.specs.Point.{History}
use Rattle.simplex_member.specs.Recorded.{notarization_in, record_of, recorded_by, reported}
use Rattle.simplex_member.specs.Refusals.{blocks_sender, evidence_deeds, refusal_report, refused_deeds}
use Rattle.simplex_member.specs.Setup.{Setup}
use Rattle.simplex_member.proofs.Blameless.{own-certifies}
use Rattle.simplex_member.proofs.Doing.{deeds-are, option-there}
use Rattle.simplex_member.proofs.Lists.{Contains-mapped, lacks-absurd, lacks-if, lacks-one, put-here, some-is}
use Rattle.simplex_member.proofs.Reporting.{if-is, notarized-there, one, report_in}
use Rattle.simplex_member.proofs.Walking.{deed-done, reached-heard}

module _ {S D P G C : Type 0} where
  abbrev IsNone : Activity S D P G C → Type 0
  IsNone a = reported_certificate a ≡ None

  -- neither a vote nor evidence is a certificate
  vote-none : (v : Vote S D P G C) → IsNone (as_report v)
  vote-none (vote.Notarize v) = refl
  vote-none (vote.Nullify v) = refl
  vote-none (vote.Finalize v) = refl

  evidence-none : (same : D → D → Bool) (u v : Vote S D P G C) (a : Activity S D P G C) → evidence same u v ≡ Some a → IsNone a
  evidence-none same (vote.Notarize u) (vote.Notarize v) a is = subst IsNone (if-is (contradict same u v) (activity.ConflictingNotarize (u, v)) a is) refl
  evidence-none same (vote.Finalize u) (vote.Finalize v) a is = subst IsNone (if-is (contradict same u v) (activity.ConflictingFinalize (u, v)) a is) refl
  evidence-none same (vote.Nullify u) (vote.Finalize v) a is = subst IsNone (if-is (stands_beside u v) (activity.NullifyFinalize (u, v)) a is) refl
  evidence-none same (vote.Finalize u) (vote.Nullify v) a is = subst IsNone (if-is (stands_beside v u) (activity.NullifyFinalize (v, u)) a is) refl
  evidence-none same (vote.Notarize u) (vote.Nullify v) a is = absurd (none-some a is)
  evidence-none same (vote.Notarize u) (vote.Finalize v) a is = absurd (none-some a is)
  evidence-none same (vote.Nullify u) (vote.Notarize v) a is = absurd (none-some a is)
  evidence-none same (vote.Nullify u) (vote.Nullify v) a is = absurd (none-some a is)
  evidence-none same (vote.Finalize u) (vote.Notarize v) a is = absurd (none-some a is)

  full-none : (same : D → D → Bool) (full : Bool) (u v : Vote S D P G C) (a : Activity S D P G C) → (if full then evidence same u v else None) ≡ Some a → IsNone a
  full-none same true u v a is = evidence-none same u v a is
  full-none same false u v a is = absurd (none-some a is)

  refused-none : (same : D → D → Bool) (taken named : Bool) (o : Option (Vote S D P G C)) (full : Vote S D P G C → Bool) (v : Vote S D P G C) (a : Activity S D P G C)
      → (if taken then Some (as_report v) else (if named then option_and_then (λ u. if full u then evidence same u v else None) o else None)) ≡ Some a → IsNone a
  refused-none same true named o full v a is = subst IsNone (some-is (as_report v) a is) (vote-none v)
  refused-none same false true (Some u) full v a is = full-none same (full u) u v a is
  refused-none same false true None full v a is = absurd (none-some a is)
  refused-none same false false o full v a is = absurd (none-some a is)

  -- what is reported of an artifact is a certificate where the artifact is one, or where a verdict is on a recorded one
  held-certificate : (r : List (Artifact S D P G C)) (x : Artifact S D P G C) (a : Activity S D P G C) (c : Certificate S D P G C) → Contains (reported r x) a → reported_certificate a ≡ Some c
      → (x ≡ certificate_artifact c) ⊎ Contains r (certificate_artifact c)
  held-certificate r (artifact.Notarize v) a c there is = absurd (none-some c (ap reported_certificate (one (activity.Notarize v) a there) ∙ is))
  held-certificate r (artifact.Nullify v) a c there is = absurd (none-some c (ap reported_certificate (one (activity.Nullify v) a there) ∙ is))
  held-certificate r (artifact.Finalize v) a c there is = absurd (none-some c (ap reported_certificate (one (activity.Finalize v) a there) ∙ is))
  held-certificate r (artifact.Notarization d) a c there is = inl (ap certificate_artifact (some-is (certificate.Notarization d) c (ap reported_certificate (one (activity.Notarization d) a there) ∙ is)))
  held-certificate r (artifact.Nullification d) a c there is = inl (ap certificate_artifact (some-is (certificate.Nullification d) c (ap reported_certificate (one (activity.Nullification d) a there) ∙ is)))
  held-certificate r (artifact.Finalization d) a c there is = inl (ap certificate_artifact (some-is (certificate.Finalization d) c (ap reported_certificate (one (activity.Finalization d) a there) ∙ is)))
  held-certificate r (artifact.Certification round false) a c there is = absurd (Contains-nil a there)
  held-certificate r (artifact.Certification round true) a c there is = go (notarization_in r round.view) refl there
    where
      go : (o : Option (Notarization S D P G C)) → notarization_in r round.view ≡ o → Contains (option_to_list (option_map activity.Certification o)) a → (artifact.Certification round true ≡ certificate_artifact c) ⊎ Contains r (certificate_artifact c)
      go None e none = absurd (Contains-nil a none)
      go (Some d) e some = inr (subst (λ (z : Certificate S D P G C). Contains r (certificate_artifact z)) (some-is (certificate.Notarization d) c (ap reported_certificate (one (activity.Certification d) a some) ∙ is)) (notarized-there r round.view d e))

module _ {S D P G C : Type 0} (g : Ghosts S D P G C) (f : Formats S D P G C) (s : Setup S D C) where
  evidence-is : (h : History S D P G C) (sender : ℕ) (o : Option (Packet S D P G C)) (a : Activity S D P G C) → Contains (evidence_deeds g f s h sender o) (Reports a) → reported_certificate a ≡ None
  evidence-is h sender (Some (of_vote v)) a here =
      let at = votes_setup s g h (vote_round v).view in
      let r = votes_of s h (vote_round v).view in
      let of = Contains-mapped Reports (option_to_list (report_of f.same at r sender v)) (Reports a) here in
      subst (λ (b : Activity S D P G C). reported_certificate b ≡ None) (some-is of.0 a (ap report_in of.2))
      (refused-none f.same (takes at r sender v) ((sender == vote_signer v) && nat_lt sender at.members) (recorded r v) (λ u. is_kept_in_full at (vote_kind u) r) v of.0 (option-there (report_of f.same at r sender v) of.0 of.1))
  evidence-is h sender o a here = absurd (Contains-nil (Reports a) here)

  report-is : (r : Refusal) (deeds : List (Deed S D P G C)) (a : Activity S D P G C) → Contains (refusal_report g f s r deeds) (Reports a) → Contains deeds (Reports a)
  report-is refusal.Contradiction deeds a here = here
  report-is r deeds a here = absurd (Contains-nil (Reports a) here)

  -- a refusal reports no certificate
  refused-is : (h : History S D P G C) (e : Event D) (r : Refusal) (a : Activity S D P G C) → Contains (refused_deeds g f s h e r) (Reports a) → reported_certificate a ≡ None
  refused-is h (event.Packet sender by bytes) r a here = ⊎_elim
      (λ block. absurd (lacks-absurd report_in (if blocks_sender r then Blocks sender ∷ [] else []) (Reports a) a (lacks-if report_in (blocks_sender r) (Blocks sender ∷ []) (lacks-one report_in (Blocks sender) refl)) refl block))
      (λ report. evidence-is h sender (f.packet_in by bytes.items) a (report-is r (evidence_deeds g f s h sender (f.packet_in by bytes.items)) a report))
      (Contains-append_cases (if blocks_sender r then Blocks sender ∷ [] else []) (refusal_report g f s r (evidence_deeds g f s h sender (f.packet_in by bytes.items))) (Reports a) here)
  refused-is h e r a here = absurd (Contains-nil (Reports a) here)

module _ {S D P G C : Type 0} (g : Ghosts S D P G C) (f : Formats S D P G C) (scheme : S) (m : Members S D P G C) (world : World S D P G C) (basis : LifeLaws g) (w : LiveByNodes g f scheme m world) (size : g.size scheme ≡ world.size)
    (backed : (own : S) (x : Statement D) (c : C) → g.certifies own x c → IsQuorum (g.size own) (λ k a. g.attests own k x a) (g.lists c))
    (sufficient : (own : S) (x : Statement D) (c : C) → IsQuorum (g.size own) (λ k a. g.attests own k x a) (g.lists c) → g.certifies own x c) (i : ℕ) (correct : IsCorrect world i) where
  -- a certificate that a correct member reports it recorded
  reported-recorded : (a : Activity S D P G C) → HandedOut g f scheme m world i (Reports a) → (c : Certificate S D P G C) → reported_certificate a ≡ Some c → Contains (world.recorded i) (certificate_artifact c)
  reported-recorded a out c is = ⊎_elim
      (λ at. ⊎_elim
      (λ of. ⊎_elim
      (λ same. (reached-heard g f scheme m world i w correct at.life (at.p ∷ at.h) at.next).recorded (certificate_artifact c)
      (put-here (record_of at.h) (recorded_by at.p) (certificate_artifact c) (of.1 ∙ ap (λ (x : Artifact S D P G C). Some x) same)))
      (λ before. (reached-heard g f scheme m world i w correct at.life at.h at.reached).recorded (certificate_artifact c) before)
      (held-certificate (record_of at.h) of.0 a c of.2 is))
      (λ heard. absurd (none-some c (sym (vote-none heard.0) ∙ (ap reported_certificate (sym heard.2) ∙ is))))
      (deeds-are g f at.life.setup at.h at.p (Reports a) at.done))
      (λ at. absurd (none-some c (sym (refused-is g f at.life.setup at.h at.e at.r a at.done) ∙ is)))
      (deed-done g f scheme m world i w correct (Reports a) out)

  -- so it certifies by the committee's scheme too
  pub reported-certifies : (a : Activity S D P G C) → HandedOut g f scheme m world i (Reports a) → (c : Certificate S D P G C) → reported_certificate a ≡ Some c → g.certifies scheme (certificate_statement c) (certified_by c)
  reported-certifies a out c is =
      let own = (m.setup i).voter.scheme in
      let q = backed own (certificate_statement c) (certified_by c) (own-certifies g f scheme m world basis w i correct c (reported-recorded a out c is)) in
      let sizes : g.size own ≡ g.size scheme = (w.alike i correct).size_is ∙ sym size in
      let p = subst (λ (n : ℕ). IsQuorum n (λ k b. g.attests own k (certificate_statement c) b) (g.lists (certified_by c))) sizes q in
      sufficient scheme (certificate_statement c) (certified_by c) (record { distinct = p.distinct; members = p.members; enough = p.enough; attesting = λ k d l. (w.alike i correct).attests_too _ _ _ (p.attesting k d l) })
