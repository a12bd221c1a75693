-- What is recorded stands on ground.
use Rattle.std.proofs.Common.{◌≡◌, ◌≢◌, ⊎_elim, inl, inr, ℕ, true, false, [], ◌∷◌, Option, Some, None, sym, ◌∙◌, subst, arith}
use Rattle.std.specs.Prelude.{Contains, IfSome, option_map}
use Rattle.types_quorum.specs.Counting.{Contains-cases}
use Rattle.types_core.specs.declared.position.Round.{Round}
use Rattle.types_core.specs.declared.proposal.Proposal.{Proposal}
use Rattle.types_core.specs.declared.scheme.Scheme.{Ghosts}
use Rattle.types_core.specs.Subject.{notarize, finalize}
use Rattle.messages_certificates.specs.declared.artifact.Artifact.{Artifact}
use Rattle.messages_certificates.specs.declared.certificate.Certificate.{Certificate}
use Rattle.messages_certificates.specs.declared.certificate.Certificate.TheVariants as certificate
use Rattle.messages_certificates.specs.Artifact.{certificate_artifact}
use Rattle.simplex_messages.specs.declared.vote.Vote.TheVariants as vote
use Rattle.simplex_record.specs.Chain.{IsGround, JudgesOnGround, MayFollowOnGround}
use Rattle.simplex_record.specs.Record as recorded
use Rattle.simplex_record.specs.Record.{entry, entries}
use Rattle.voter_history.specs.History.{scheduled_leader}
use Rattle.voter_laws.specs.Matching.{DueNotarizeIsOnGround, DueVerdictIsOnGround, EachHistoryMatches}
use Rattle.simplex_member.specs.Allowed.{Allowed, AreAllowed}
use Rattle.simplex_member.specs.Layers.{is_begun, known_of}
use Rattle.simplex_member.specs.Laws.{RoundLaws}
use Rattle.simplex_member.specs.Packet.{Formats}
use Rattle.simplex_member.specs.Point.{Point, Found, Came, Judged, Constructs, AsksCertify, Votes, History}
use Rattle.simplex_member.specs.Recorded.{record_of, recorded_by}
use Rattle.simplex_member.specs.Setup.{Setup, member_of}
use Rattle.simplex_member.proofs.Binding.{due-bound}
use Rattle.simplex_member.proofs.Judgeable.{says-on}
use Rattle.simplex_member.proofs.Recordable.{matches}
use Rattle.simplex_member.proofs.Telling.{apart}

module _ {S D P G C : Type 0} (g : Ghosts S D P G C) (f : Formats S D P G C) (s : Setup S D C) where
  abbrev Judges : History S D P G C → Round → Type 0
  Judges h r = JudgesOnGround (g.size s.voter.scheme) s.voter.length (entries (record_of h)) r

  -- ground stays ground, and what stands on it stands
  pub ground-on : (p : Point S D P G C) (h : History S D P G C) (view : ℕ) → IsGround (entries (record_of h)) view → IsGround (entries (record_of (p ∷ h))) view
  ground-on p h view is = ⊎_elim
      (λ zero. inl zero)
      (λ explicit. inr (⊎_elim
      (λ final. inl (final.0, final.1, says-on g f s p h (recorded.taken (finalize final.0)) final.2))
      (λ good. inr (good.0, good.1, says-on g f s p h (recorded.judged good.0 true) good.2))
      explicit))
      is

  judges-on : (p : Point S D P G C) (h : History S D P G C) (r : Round) → Judges h r → Judges (p ∷ h) r
  judges-on p h r is = (is.0, is.1, says-on g f s p h (recorded.taken (notarize is.0)) is.2, λ needed. ground-on p h is.0.parent (is.3 needed))

  module _ (law : EachHistoryMatches S D P G C) (verdict : DueVerdictIsOnGround D) (more : g.size s.voter.scheme ≢ 1) where
    -- a verdict that is asked for stands on ground, and does ever after
    due-judges : (h : History S D P G C) → AreAllowed g f s h → (p : Proposal D) → Allowed g f s h (AsksCertify p) → Judges h p.round
    due-judges [] all p a = absurd (apart a.order)
    due-judges (q ∷ h) all p a = verdict (member_of s) (known_of s (q ∷ h)) (entries (record_of (q ∷ h))) p.round.view (g.size s.voter.scheme) p more (matches g f s law q h all) a.due

    asked-judges : (h : History S D P G C) → AreAllowed g f s h → (p : Proposal D) → Contains h (AsksCertify p) → Judges h p.round
    asked-judges [] all p here = absurd (omega (arith, here.1))
    asked-judges (q ∷ h) all p here = ⊎_elim
        (λ is. judges-on q h p.round (due-judges h all.1 p (subst (λ (x : Point S D P G C). Allowed g f s h x) is all.0)))
        (λ later. judges-on q h p.round (asked-judges h all.1 p later))
        (Contains-cases q h (AsksCertify p) here)

    module _ (notarize_law : DueNotarizeIsOnGround D) (laws : RoundLaws g f.same) (mine : s.voter.me ≡ Some s.me) where
      abbrev pub Stands : History S D P G C → Artifact S D P G C → Type 0
      Stands h x = MayFollowOnGround (g.size s.voter.scheme) s.voter.length (scheduled_leader s.voter) s.me (entries (record_of h)) (entry x)

      certificate-stands : (h : History S D P G C) (c : Certificate S D P G C) → Stands h (certificate_artifact c)
      certificate-stands h (certificate.Notarization c) = tt
      certificate-stands h (certificate.Nullification c) = tt
      certificate-stands h (certificate.Finalization c) = tt

      made-stands : (h : History S D P G C) (o : Option (Certificate S D P G C)) → IfSome (option_map certificate_artifact o) (Stands h)
      made-stands h None = tt
      made-stands h (Some c) = certificate-stands h c

      pub stands : (h : History S D P G C) → AreAllowed g f s h → (p : Point S D P G C) → Allowed g f s h p → is_begun h ≡ true → IfSome (recorded_by p) (Stands h)
      stands h all (Found x taken) a begun = absurd (apart (sym a.order.1 ∙ begun))
      stands h all (Came c) a begun = certificate-stands h c
      stands h all (Judged r true) a begun =
          let is = asked-judges h all a.due.proposal a.due.asked in
          (is.0, is.1 ∙ a.due.at, is.2, is.3)
      stands h all (Judged r false) a begun = tt
      stands h all (Constructs view kind batch) a begun = made-stands h batch.certificate
      stands [] all (Votes (vote.Notarize v)) a begun = absurd (apart begun)
      stands (q ∷ h) all (Votes (vote.Notarize v)) a begun =
          notarize_law (member_of s) (known_of s (q ∷ h)) (entries (record_of (q ∷ h))) v.proposal.round.view s.me v.proposal mine (matches g f s law q h all)
          (due-bound g f s laws (q ∷ h) all v.proposal.round.view v.proposal a.due.0 a.due.1) a.due.0
      stands h all (Votes (vote.Nullify v)) a begun = tt
      stands h all (Votes (vote.Finalize v)) a begun = tt
      stands h all p a begun = tt
