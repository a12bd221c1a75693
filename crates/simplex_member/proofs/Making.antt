-- A certificate that a correct member makes is sound, whether or not it comes to record it.
use Rattle.std.proofs.Common.{◌≡◌, ⊎_elim, ℕ, Option, Some, sym, ◌∙◌, ap, subst}
use Rattle.std.specs.Prelude.{Contains, IfSome, option_map}
use Rattle.types_core.specs.declared.attestation.Attestation.{Attestation}
use Rattle.types_core.specs.declared.scheme.Scheme.{Ghosts}
use Rattle.types_core.specs.Quorum.{IsQuorum}
use Rattle.types_core.specs.Subject.{Statement}
use Rattle.messages_certificates.specs.declared.certificate.Certificate.{Certificate}
use Rattle.messages_certificates.specs.declared.certificate.Certificate.TheVariants as certificate
use Rattle.messages_certificates.specs.Artifact.{certificate_artifact}
use Rattle.messages_certificates.specs.Certificate.{certificate_statement, certified_by}
use Rattle.simplex_messages.specs.declared.vote.Vote.{Vote}
use Rattle.simplex_messages.specs.VoteParts.{vote_artifact, vote_signer}
use Rattle.simplex_record.specs.Record.{Entry, entry, entries, HasVoted}
use Rattle.simplex_record.specs.World.{World, IsCorrect, IsHonest, IsSound}
use Rattle.batcher_verifier.specs.Votes.{vote_attestation, vote_statement}
use Rattle.types_terms.specs.declared.kind.Kind.{Kind}
use Rattle.batcher_verifier.specs.declared.batch.Batch.{Batch}
use Rattle.simplex_member.specs.Allowed.{Allowed, MayRecord}
use Rattle.simplex_member.specs.Laws.{HasHeard, HasReached, IsKnownVote, RoundLaws}
use Rattle.simplex_member.specs.Lives.{IsHonestVote, Life, LiveByNodes, Members}
use Rattle.simplex_member.specs.Packet.{Formats, of_vote}
use Rattle.simplex_member.specs.Point.{Constructs, History}
use Rattle.simplex_member.specs.Setup.{IsOfOneMember, Setup}
use Rattle.simplex_member.proofs.Listed.{signer-of, vote-entry}
use Rattle.simplex_member.proofs.Lists.{Contains-map}
use Rattle.simplex_member.proofs.Sameness.{like-of, mine-of}
use Rattle.simplex_member.proofs.Walking.{reached-goes, reached-heard, reached-own}
use Rattle.simplex_member.proofs.Allowing.{begun-allowed}
use Rattle.simplex_member.proofs.Ballots.{made-lists}

module _ {S D P G C : Type 0} (g : Ghosts S D P G C) (f : Formats S D P G C) (scheme : S) (m : Members S D P G C) (world : World S D P G C) (w : LiveByNodes g f scheme m world) where
  -- a vote that a member knows of is honest: it came in so, or is its own
  pub known-honest : (i : ℕ) → IsCorrect world i → (s : Setup S D C) → IsOfOneMember (m.setup i) s → (h : History S D P G C) → HasHeard g f scheme m world i h → (v : Vote S D P G C) → IsKnownVote g f s h v → IsHonestVote g f scheme m world v
  known-honest i correct s same h heard v known = ⊎_elim
      (λ there. w.honest i (vote_signer v) correct (of_vote v) (heard.came v there))
      (λ own. λ signs attests.
      subst (λ (j : ℕ). HasVoted (entries (world.recorded j)) (vote_statement v)) (sym (own.0 ∙ mine-of g f scheme m world w i correct s same))
      (subst (λ (e : Entry D). Contains (entries (world.recorded i)) e) (vote-entry v) (Contains-map entry (world.recorded i) (vote_artifact v) (heard.recorded (vote_artifact v) own.1))))
      known

  -- so is what its attestation says under another name
  listed-honest : (v : Vote S D P G C) (x : Statement D) (a : Attestation G) → vote_attestation v ≡ a → vote_statement v ≡ x → IsHonestVote g f scheme m world v
      → IsCorrect world a.signer → g.attests scheme a.signer x a.signature → HasVoted (entries (world.recorded a.signer)) x
  listed-honest v x a is states honest = subst
      (λ (b : Attestation G). IsCorrect world b.signer → g.attests scheme b.signer x b.signature → HasVoted (entries (world.recorded b.signer)) x) is
      (subst (λ (y : Statement D). IsCorrect world (vote_attestation v).signer → g.attests scheme (vote_attestation v).signer y (vote_attestation v).signature → HasVoted (entries (world.recorded (vote_attestation v).signer)) y) states
      (subst (λ (k : ℕ). IsCorrect world k → g.attests scheme k (vote_statement v) (vote_attestation v).signature → HasVoted (entries (world.recorded k)) (vote_statement v)) (sym (signer-of v)) honest))

  own-certifies : (s : Setup S D C) (h : History S D P G C) (c : Certificate S D P G C) → MayRecord g f s h (certificate_artifact c) → g.certifies s.voter.scheme (certificate_statement c) (certified_by c)
  own-certifies s h (certificate.Notarization c) may = may.verifies.verifies
  own-certifies s h (certificate.Nullification c) may = may.verifies.verifies
  own-certifies s h (certificate.Finalization c) may = may.verifies.verifies

  module _ (laws : RoundLaws g f.same) (i : ℕ) (correct : IsCorrect world i) (life : Life S D P G C) (h : History S D P G C) (reached : HasReached m i life h) (view : ℕ) (kind : Kind) (batch : Batch (Certificate S D P G C))
      (allowed : Allowed g f life.setup h (Constructs view kind batch)) (c : Certificate S D P G C) (made : batch.certificate ≡ Some c) where
    -- a certificate that is made is honest
    made-honest : IsHonest (g.attests scheme) g.lists world c
    made-honest a here signs attests =
        let all = begun-allowed g f life.setup reached.before h (reached-goes g f scheme m world i w correct life h reached) in
        let of = made-lists g f life.setup laws h all view kind batch allowed c made a here in
        listed-honest of.vote (certificate_statement c) a of.attestation_is of.states (known-honest i correct life.setup (reached-own g f scheme m world i w correct life h reached) h (reached-heard g f scheme m world i w correct life h reached) of.vote of.known) signs attests

    -- and sound
    pub made-sound : ((own : S) (x : Statement D) (y : C) → g.certifies own x y → IsQuorum (g.size own) (λ k a. g.attests own k x a) (g.lists y)) → IsSound (g.attests scheme) g.lists world c
    made-sound backed =
        let alike = like-of g f scheme m world w i correct life.setup (reached-own g f scheme m world i w correct life h reached) in
        let may : MayRecord g f life.setup h (certificate_artifact c) = subst (λ (o : Option (Certificate S D P G C)). IfSome (option_map certificate_artifact o) (MayRecord g f life.setup h)) made allowed.fits in
        let own = backed life.setup.voter.scheme (certificate_statement c) (certified_by c) (own-certifies life.setup h c may) in
        let q = subst (λ (n : ℕ). IsQuorum n (λ j a. g.attests life.setup.voter.scheme j (certificate_statement c) a) (g.lists (certified_by c))) alike.size_is own in
        record {
          backed = record { distinct = q.distinct; members = q.members; enough = q.enough; attesting = λ k d l. alike.attests_too _ _ _ (q.attesting k d l) };
          honest = made-honest;
        }
