-- Certificates that contradict each other have signers in common, and these are named.
use Rattle.std.proofs.Common.{◌≡◌, ℕ, ◌+◌, ◌≤◌, List, map, refl, sym, ap, ◌∙◌, subst, inl, inr, arith}
use Rattle.std.specs.Prelude.{◌≢◌, Contains}
use Rattle.std.specs.declared.cmp.Ordering.{Ordering}
use Rattle.std.proofs.lemmas.List.{length-map, get_or-map}
use Rattle.std.proofs.lemmas.List.Elements.{All-contains}
use Rattle.types_core.specs.declared.attestation.Attestation.{Attestation}
use Rattle.types_core.specs.declared.position.Round.{Round}
use Rattle.types_core.specs.declared.proposal.Proposal.{Proposal}
use Rattle.types_core.specs.Overlap.{AttestsIn, two_quorums_attest}
use Rattle.types_core.specs.Quorum.{IsQuorum}
use Rattle.types_quorum.specs.Committee.{faults}
use Rattle.types_core.specs.Subject.{Statement, notarize, nullify, finalize}
use Rattle.simplex_messages.specs.declared.activity.Activity.{Activity}
use Rattle.simplex_messages.specs.declared.activity.Activity.TheVariants as activity
use Rattle.messages_certificates.specs.declared.nullification.Nullification.{Nullification}
use Rattle.simplex_messages.specs.Guilt.{IsGuilty, notarizes_in, nullifies_in, finalizes_in, notarizes_of, nullifies_of, finalizes_of}
use Rattle.messages_certificates.specs.Nullify.{nullify_of_parts}
use Rattle.messages_certificates.specs.ProposalCertificate.{Notarization, Finalization}
use Rattle.messages_certificates.specs.ProposalVote.{vote_of_parts}
use Rattle.messages_certificates.specs.declared.proposal_certificate.ProposalCertificate.{ProposalCertificate}
use Rattle.messages_certificates.specs.declared.proposal_vote.ProposalVote.{ProposalVote}
use Rattle.simplex_rules.specs.Accountability.{HoldNotarization, AreTwoNotarized, AreTwoFinalized, IsNullifiedFinalized, IsContradicted, NamesAtLeast}
use Rattle.simplex_rules.specs.Audit.{IsAccused, IsVerdict, Offence, TwoNotarizes, TwoFinalizes, NullifyBeside}
use Rattle.simplex_rules.proofs.Lists.{in-flat_map}

-- what is in a list is, by f, in its image
Contains-map : {X Y : Type 0} (f : X → Y) (xs : List X) (x : X) → Contains xs x → Contains (map f xs) (f x)
Contains-map f xs x here = (here.0, omega (arith, here.1, length-map xs f), get_or-map f xs here.0 x (f x) here.1 ∙ ap f here.2)

module _ {S D P G C : Type 0} (lists : C → List (Attestation G)) (attests : ℕ → Statement D → G → Type 0) (certifies : Statement D → C → Type 0) (n : ℕ) (some : 1 ≤ n)
    (backed : (x : Statement D) (c : C) → certifies x c → IsQuorum n (λ i a. attests i x a) (lists c))
    (cmp : D → D → Ordering) (reports evidence : List (Activity S D P G C)) (verdict : IsVerdict lists attests cmp reports evidence) (round : Round) where
  -- the votes that a notarization lists are among the notarizes of the reports that hold it
  notarizes-held : (c : Notarization S D P G C) → HoldNotarization reports c → (a : Attestation G) → Contains (lists c.certificate) a → Contains (notarizes_of lists reports) (vote_of_parts (c.proposal, a))
  notarizes-held c (inl held) a there = in-flat_map (notarizes_in lists) reports (activity.Notarization c) (vote_of_parts (c.proposal, a)) held (Contains-map (λ b. vote_of_parts (c.proposal, b)) (lists c.certificate) a there)
  notarizes-held c (inr held) a there = in-flat_map (notarizes_in lists) reports (activity.Certification c) (vote_of_parts (c.proposal, a)) held (Contains-map (λ b. vote_of_parts (c.proposal, b)) (lists c.certificate) a there)

  finalizes-held : (c : Finalization S D P G C) → Contains reports (activity.Finalization c) → (a : Attestation G) → Contains (lists c.certificate) a → Contains (finalizes_of lists reports) (vote_of_parts (c.proposal, a))
  finalizes-held c held a there = in-flat_map (finalizes_in lists) reports (activity.Finalization c) (vote_of_parts (c.proposal, a)) held (Contains-map (λ b. vote_of_parts (c.proposal, b)) (lists c.certificate) a there)

  nullifies-held : (c : Nullification S D P G C) → Contains reports (activity.Nullification c) → (a : Attestation G) → Contains (lists c.certificate) a → Contains (nullifies_of lists reports) (nullify_of_parts (c.round, a))
  nullifies-held c held a there = in-flat_map (nullifies_in lists) reports (activity.Nullification c) (nullify_of_parts (c.round, a)) held (Contains-map (λ b. nullify_of_parts (c.round, b)) (lists c.certificate) a there)

  -- where whoever attests in both of two certificates is accused, at least one more than may be faulty is
  names-from_shared : (x y : Statement D) (c d : C) → certifies x c → certifies y d
      → ((a b : Attestation G) → Contains (lists c) a → Contains (lists d) b → a.signer ≡ b.signer → attests a.signer x a.signature → attests b.signer y b.signature
      → (o : Offence) × IsAccused evidence (record { round = round; signer = a.signer; offence = o }))
      → NamesAtLeast (faults n + 1) n evidence round
  names-from_shared x y c d first second accuse =
      let shared = two_quorums_attest n (λ i a. attests i x a) (λ i a. attests i y a) (lists c) (lists d) some (backed x c first) (backed y d second) in
      record {
        names = shared.0;
        distinct = shared.1;
        members = shared.2;
        enough = shared.3;
        accused = λ i there.
            let both = All-contains (λ (j : ℕ). AttestsIn (λ k a. attests k x a) (lists c) j × AttestsIn (λ k a. attests k y a) (lists d) j) shared.0 i shared.4 there in
            let a = both.0.0 in
            let b = both.1.0 in
            let told = accuse a b both.0.1 both.1.1 (both.0.2 ∙ sym both.1.2)
            (subst (λ (j : ℕ). attests j x a.signature) (sym both.0.2) both.0.3) (subst (λ (j : ℕ). attests j y b.signature) (sym both.1.2) both.1.3) in
            subst (λ (j : ℕ). (o : Offence) × IsAccused evidence (record { round = round; signer = j; offence = o })) both.0.2 told;
      }

  -- two certificates of one kind for two proposals of the round, whose votes are among these, name whoever signed both
  module _ {K : Type 0} (states : Proposal D → Statement D) (votes : List (ProposalVote K S D P G C)) (offence : Offence)
      (told : (signer : ℕ) → IsGuilty states attests votes round signer → IsAccused evidence (record { round = round; signer = signer; offence = offence })) where
    -- the votes that a certificate lists are among these
    abbrev AreHeld : ProposalCertificate K S D P G C → Type 0
    AreHeld c = (a : Attestation G) → Contains (lists c.certificate) a → Contains votes (vote_of_parts (c.proposal, a))

    names-of_two : (c d : ProposalCertificate K S D P G C) → AreHeld c → AreHeld d → certifies (states c.proposal) c.certificate → certifies (states d.proposal) d.certificate
        → c.proposal.round ≡ round → d.proposal.round ≡ round → c.proposal ≢ d.proposal → NamesAtLeast (faults n + 1) n evidence round
    names-of_two c d c_held d_held c_certifies d_certifies c_round d_round two_proposals = names-from_shared (states c.proposal) (states d.proposal) c.certificate d.certificate c_certifies d_certifies
        (λ a b first second same this that. (
          offence,
          told a.signer (record {
            first = vote_of_parts (c.proposal, a);
            second = vote_of_parts (d.proposal, b);
            first_is_there = c_held a first;
            second_is_there = d_held b second;
            first_verifies = this;
            second_verifies = that;
            first_is_theirs = record { round_is = c_round; signer_is = refl };
            contradict = record { one_round = c_round ∙ sym d_round; one_signer = same; two_proposals = two_proposals };
          }),
        ))

  names-notarized : AreTwoNotarized certifies reports round → NamesAtLeast (faults n + 1) n evidence round
  names-notarized two = names-of_two notarize (notarizes_of lists reports) TwoNotarizes (verdict.two_notarizes round) two.first two.second
      (notarizes-held two.first two.first_is_held) (notarizes-held two.second two.second_is_held) two.first_certifies two.second_certifies two.first_round two.second_round two.two_proposals

  names-finalized : AreTwoFinalized certifies reports round → NamesAtLeast (faults n + 1) n evidence round
  names-finalized two = names-of_two finalize (finalizes_of lists reports) TwoFinalizes (verdict.two_finalizes round) two.first two.second
      (finalizes-held two.first two.first_is_held) (finalizes-held two.second two.second_is_held) two.first_certifies two.second_certifies two.first_round two.second_round two.two_proposals

  names-nullified : IsNullifiedFinalized certifies reports round → NamesAtLeast (faults n + 1) n evidence round
  names-nullified two = names-from_shared (nullify two.first.round) (finalize two.second.proposal) two.first.certificate two.second.certificate two.first_certifies two.second_certifies
      (λ a b first second same this that. (
        NullifyBeside,
        verdict.nullify_beside round a.signer (record {
          first = nullify_of_parts (two.first.round, a);
          second = vote_of_parts (two.second.proposal, b);
          first_is_there = nullifies-held two.first two.first_is_held a first;
          second_is_there = finalizes-held two.second two.second_is_held b second;
          first_verifies = this;
          second_verifies = that;
          round_is = two.first_round;
          signer_is = refl;
          beside = record { one_round = two.first_round ∙ sym two.second_round; one_signer = same };
        }),
      ))

  -- certificates that contradict each other make the audit name at least one more than may be faulty
  pub names-from_contradiction : IsContradicted certifies reports round → NamesAtLeast (faults n + 1) n evidence round
  names-from_contradiction (inl notarized) = names-notarized notarized
  names-from_contradiction (inr (inl finalized)) = names-finalized finalized
  names-from_contradiction (inr (inr nullified)) = names-nullified nullified
