-- What is noted of the votes tells who may be guilty.
use Rattle.std.proofs.Common.{◌≡◌, ◌⊎◌, ℕ, List, [], ◌∷◌, ◌++◌, Some, refl, sym, ap, ◌∙◌, subst, inl, inr}
use Rattle.std.specs.Prelude.{Contains, IsSome, IsTrue, OnOk, Result, Ok, Err}
use Rattle.std.specs.declared.cmp.Ordering.{Ordering}
use Rattle.std.specs.List.{flat_map}
use Rattle.simplex_rules.proofs.Suspects.{suspects_exact, suspects_total}
use Rattle.std.specs.BTreeSet.{BTreeSet, IsSubset, btree_set_len, contains}
use Rattle.std.proofs.lemmas.List.{nil_from_length}
use Rattle.std.proofs.lemmas.Map.Views.{btree_set_contains_iff}
use Rattle.std.proofs.lemmas.List.Elements.{Contains-append_cases}
use Rattle.types_core.specs.declared.attestation.Attestation.{Attestation}
use Rattle.types_core.specs.declared.position.Round.{Round}
use Rattle.types_core.specs.declared.proposal.Proposal.{Proposal}
use Rattle.types_core.specs.Subject.{Statement, notarize, finalize}
use Rattle.types_quorum.specs.Counting.{Contains-nil, Contains-head, Contains-cases}
use Rattle.simplex_messages.specs.declared.activity.Activity.{Activity}
use Rattle.messages_certificates.specs.declared.nullify.Nullify.{Nullify}
use Rattle.messages_certificates.specs.declared.proposal_vote.ProposalVote.{ProposalVote}
use Rattle.messages_certificates.specs.declared.nullification.Nullification.{Nullification}
use Rattle.messages_certificates.specs.declared.proposal_certificate.ProposalCertificate.{ProposalCertificate}
use Rattle.messages_certificates.specs.Nullify.{nullify_of_parts}
use Rattle.messages_certificates.specs.ProposalVote.{vote_of_parts}
use Rattle.simplex_messages.specs.Guilt.{votes_listed, nullifies_listed, notarizes_in, nullifies_in, finalizes_in, notarizes_of, nullifies_of, finalizes_of, IsGuilty}
use Rattle.simplex_rules.specs.declared.cast.Choice.{Choice}
use Rattle.simplex_rules.specs.declared.cast.Suspect.{Suspect}
use Rattle.simplex_rules.specs.declared.survey.Survey.{Survey}
use Rattle.simplex_rules.specs.Audit.{AreInOrder, IsVerdict, accused}
use Rattle.simplex_rules.specs.Choices.{Extends, choice_in}
use Rattle.simplex_rules.specs.Kept.{suspect_cmp}
use Rattle.simplex_rules.specs.Survey.{IsNoted, AreNoted, Notes, AreGivenUp, AreSurveyed, SurveysOne, HasGuilty}
use Rattle.simplex_rules.specs.Tally.{suspect_of, cast_of, nullify_suspect}
use Rattle.simplex_rules.proofs.Lists.{AllPairs-nil, Contains-map, Contains-flat_map, in-flat_map, only_element}
use Rattle.simplex_rules.proofs.Places.{choice_of, proposal_of}
use Rattle.simplex_rules.proofs.Judging.{suspect_from, suspect_is}
use Rattle.simplex_rules.proofs.Besides.{first_is, second_is}

-- what a list of reports and one more hold is held by those or by that one
flat_map-cases : {X Y : Type 0} (f : X → List Y) (xs : List X) (x : X) (y : Y) → Contains (flat_map f (xs ++ x ∷ [])) y → Contains (flat_map f xs) y ⊎ Contains (f x) y
flat_map-cases f xs x y there =
    let found = Contains-flat_map f (xs ++ x ∷ []) y there in
    elim (Contains-append_cases xs (x ∷ []) found.0 found.1) [
      | inl among ↦ inl (in-flat_map f xs found.0 y among found.2)
      | inr last ↦ inr (subst (λ z. Contains (f z) y) (sym (only_element x found.0 last)) found.2)
    ]

module _ {K S D P G C : Type 0} where
  -- what was noted stays noted
  noted-stays : (m n : List (Round × Choice D)) (s t : BTreeSet Suspect) → Extends m n → IsSubset suspect_cmp s t → (v : ProposalVote K S D P G C) → IsNoted m s v → IsNoted n t v
  noted-stays m n s t extends stay v noted = elim noted [
    | inl contested ↦ inl (stay (suspect_of v) contested)
    | inr chosen ↦ inr (extends v.proposal.round (cast_of v).choice chosen)
  ]

  -- no vote at all
  pub Notes-none : (m : List (Round × Choice D)) (s : BTreeSet Suspect) → Notes {K = K} {S = S} {P = P} {G = G} {C = C} m m s s []
  Notes-none m s = record { extends = λ r c before. before; stay = λ q before. before; noted = λ v there. absurd (Contains-nil v there) }

  -- one vote, and then others
  pub Notes-two : (m n o : List (Round × Choice D)) (s t u : BTreeSet Suspect) (v w : ProposalVote K S D P G C) → Notes m n s t (v ∷ []) → Notes n o t u (w ∷ []) → Notes m o s u (v ∷ w ∷ [])
  Notes-two m n o s t u v w first second = record {
    extends = λ r c before. second.extends r c (first.extends r c before);
    stay = λ q before. second.stay q (first.stay q before);
    noted = λ x there. elim (Contains-cases v (w ∷ []) x there) [
      | inl is ↦ noted-stays n o t u second.extends second.stay x (first.noted x (subst (λ y. Contains (v ∷ []) y) is (Contains-head v [])))
      | inr later ↦ second.noted x later
    ];
  }

  -- a vote for its round's choice
  pub Notes-chosen : (m n : List (Round × Choice D)) (s : BTreeSet Suspect) (v : ProposalVote K S D P G C) → Extends m n → choice_in n v.proposal.round ≡ Some (choice_of v.proposal) → Notes m n s s (v ∷ [])
  Notes-chosen m n s v extends own = record {
    extends = extends;
    stay = λ q there. there;
    noted = λ w there. inr (subst (λ (x : ProposalVote K S D P G C). choice_in n x.proposal.round ≡ Some (choice_of x.proposal)) (only_element v w there) own);
  }

  -- a vote of a suspect that is contested
  pub Notes-contested : (m n : List (Round × Choice D)) (s t : BTreeSet Suspect) (v : ProposalVote K S D P G C) → Extends m n → IsSubset suspect_cmp s t → IsTrue (contains suspect_cmp t (suspect_of v)) → Notes m n s t (v ∷ [])
  Notes-contested m n s t v extends stay there = record {
    extends = extends;
    stay = stay;
    noted = λ w among. inl (subst (λ (x : ProposalVote K S D P G C). IsTrue (contains suspect_cmp t (suspect_of x))) (only_element v w among) there);
  }

  -- the votes that a certificate lists
  module _ (lists : C → List (Attestation G)) (c : ProposalCertificate K S D P G C) where
    pub Notes-all_chosen : (m n : List (Round × Choice D)) (s : BTreeSet Suspect) → Extends m n → choice_in n c.proposal.round ≡ Some (choice_of c.proposal) → Notes m n s s (votes_listed lists c)
    Notes-all_chosen m n s extends own = record {
      extends = extends;
      stay = λ q there. there;
      noted = λ w there.
          let found = Contains-map (λ (a : Attestation G). vote_of_parts {K = K} {S = S} {P = P} {C = C} (c.proposal, a)) (lists c.certificate) w there in
          inr (subst (λ (x : ProposalVote K S D P G C). choice_in n x.proposal.round ≡ Some (choice_of x.proposal)) found.2 own);
    }

    pub Notes-all_contested : (m n : List (Round × Choice D)) (s t : BTreeSet Suspect) → Extends m n → IsSubset suspect_cmp s t → ((a : Attestation G) → Contains (lists c.certificate) a → IsTrue (contains suspect_cmp t (suspect_from c.proposal.round a.signer))) → Notes m n s t (votes_listed lists c)
    Notes-all_contested m n s t extends stay all = record {
      extends = extends;
      stay = stay;
      noted = λ w there.
          let found = Contains-map (λ (a : Attestation G). vote_of_parts {K = K} {S = S} {P = P} {C = C} (c.proposal, a)) (lists c.certificate) w there in
          inl (subst (λ (x : ProposalVote K S D P G C). IsTrue (contains suspect_cmp t (suspect_of x))) found.2 (all found.0 found.1));
    }

  -- one vote, and then another, if that was noted
  pub OnOk-two : {T E : Type 0} (r : Result T E) (m n o : List (Round × Choice D)) (s t u : BTreeSet Suspect) (v w : ProposalVote K S D P G C) → Notes m n s t (v ∷ []) → OnOk r (Notes n o t u (w ∷ [])) → OnOk r (Notes m o s u (v ∷ w ∷ []))
  OnOk-two (Ok x) m n o s t u v w first second = Notes-two m n o s t u v w first second
  OnOk-two (Err e) m n o s t u v w first second = tt

  -- a suspect with votes for two proposals of a round is contested
  two-contested : (chosen : List (Round × Choice D)) (contested : BTreeSet Suspect) (votes : List (ProposalVote K S D P G C)) → AreNoted chosen contested votes
      → (states : Proposal D → Statement D) (attests : ℕ → Statement D → G → Type 0) (round : Round) (signer : ℕ) → IsGuilty states attests votes round signer → IsTrue (contains suspect_cmp contested (suspect_from round signer))
  two-contested chosen contested votes noted states attests round signer g =
      let q = suspect_from round signer in
      let first_is_q : suspect_of g.first ≡ q = suspect_is q g.first g.first_is_theirs.round_is g.first_is_theirs.signer_is in
      let second_is_q : suspect_of g.second ≡ q = suspect_is q g.second (sym g.contradict.one_round ∙ g.first_is_theirs.round_is) (sym g.contradict.one_signer ∙ g.first_is_theirs.signer_is) in
      elim (noted g.first g.first_is_there) [
        | inl contests ↦ subst (λ (x : Suspect). IsTrue (contains suspect_cmp contested x)) first_is_q contests
        | inr first ↦ elim (noted g.second g.second_is_there) [
          | inl contests ↦ subst (λ (x : Suspect). IsTrue (contains suspect_cmp contested x)) second_is_q contests
          | inr second ↦
              let there : choice_in chosen g.first.proposal.round ≡ Some (choice_of g.second.proposal) = ap (λ (r : Round). choice_in chosen r) g.contradict.one_round ∙ second in
              let choices : choice_of g.first.proposal ≡ choice_of g.second.proposal = some_is _ _ (sym first ∙ there) in
              let proposals : g.first.proposal ≡ g.second.proposal = ap (λ (r : Round). proposal_of r (choice_of g.first.proposal)) g.contradict.one_round ∙ ap (λ (c : Choice D). proposal_of g.second.proposal.round c) choices in
              absurd (g.contradict.two_proposals proposals)
        ]
      ]
    where
      some_is : (a b : Choice D) → Some a ≡ Some b → a ≡ b
      some_is a b e = cc

module _ {S D P G C : Type 0} (lists : C → List (Attestation G)) where
  -- a report of which the notarizes were noted, then the finalizes, and then who gave its round up
  pub OnOk-surveyed : {T E : Type 0} (r : Result T E) (report : Activity S D P G C) (old new : Survey D) (between : BTreeSet Suspect)
      → Notes old.notarized new.notarized old.contested between (notarizes_in lists report) → Notes old.finalized new.finalized between new.contested (finalizes_in lists report)
      → OnOk r (IsSubset suspect_cmp old.nullified new.nullified) → OnOk r (AreGivenUp new.nullified (nullifies_in lists report)) → OnOk r (SurveysOne lists report old new)
  OnOk-surveyed (Ok x) report old new between first second stay given_up = record {
    notarized = first.extends;
    finalized = second.extends;
    nullified = stay;
    contested = λ q before. second.stay q (first.stay q before);
    notarizes = λ v there. noted-stays new.notarized new.notarized between new.contested (λ r c before. before) second.stay v (first.noted v there);
    finalizes = second.noted;
    nullifies = given_up;
  }
  OnOk-surveyed (Err e) report old new between first second stay given_up = tt

  -- the nullifies that a nullification lists
  given_up-listed : (s : BTreeSet Suspect) (made : Nullification S D P G C) → ((a : Attestation G) → Contains (lists made.certificate) a → IsTrue (contains suspect_cmp s (suspect_from made.round a.signer))) → AreGivenUp s (nullifies_listed lists made)
  given_up-listed s made all = λ w there.
      let found = Contains-map (λ (a : Attestation G). nullify_of_parts {S = S} {D = D} {P = P} {C = C} (made.round, a)) (lists made.certificate) w there in
      subst (λ (x : Nullify S D P G C). IsTrue (contains suspect_cmp s (nullify_suspect x))) found.2 (all found.0 found.1)

  -- the same of an answer that may be a refusal
  pub OnOk-given_up : {T E : Type 0} (r : Result T E) (s : BTreeSet Suspect) (made : Nullification S D P G C) → OnOk r ((a : Attestation G) → Contains (lists made.certificate) a → IsTrue (contains suspect_cmp s (suspect_from made.round a.signer))) → OnOk r (AreGivenUp s (nullifies_listed lists made))
  OnOk-given_up (Ok x) s made all = given_up-listed s made all
  OnOk-given_up (Err e) s made all = tt

  -- one more report
  pub surveyed-more : (reports : List (Activity S D P G C)) (report : Activity S D P G C) (old new : Survey D) → SurveysOne lists report old new → AreSurveyed lists reports old → AreSurveyed lists (reports ++ report ∷ []) new
  surveyed-more reports report old new one all = record {
    notarizes = λ v there. elim (flat_map-cases (notarizes_in lists) reports report v there) [
      | inl among ↦ noted-stays old.notarized new.notarized old.contested new.contested one.notarized one.contested v (all.notarizes v among)
      | inr last ↦ one.notarizes v last
    ];
    finalizes = λ v there. elim (flat_map-cases (finalizes_in lists) reports report v there) [
      | inl among ↦ noted-stays old.finalized new.finalized old.contested new.contested one.finalized one.contested v (all.finalizes v among)
      | inr last ↦ one.finalizes v last
    ];
    nullifies = λ v there. elim (flat_map-cases (nullifies_in lists) reports report v there) [
      | inl among ↦ one.nullified (nullify_suspect v) (all.nullifies v among)
      | inr last ↦ one.nullifies v last
    ];
  }

  -- the contested, and those who voted to give up a round that was finalized, are all who may be guilty
  pub guilty-contested : (attests : ℕ → Statement D → G → Type 0) (reports : List (Activity S D P G C)) (old : Survey D) (contested : BTreeSet Suspect) → AreSurveyed lists reports old → IsSubset suspect_cmp old.contested contested
      → ((q : Suspect) → IsTrue (contains suspect_cmp old.nullified q) → IsSome (choice_in old.finalized q.round) → IsTrue (contains suspect_cmp contested q))
      → HasGuilty lists attests reports contested
  guilty-contested attests reports old contested all stay added = record {
    two_notarizes = λ round signer g. stay (suspect_from round signer) (two-contested old.notarized old.contested (notarizes_of lists reports) all.notarizes notarize attests round signer g);
    two_finalizes = λ round signer g. stay (suspect_from round signer) (two-contested old.finalized old.contested (finalizes_of lists reports) all.finalizes finalize attests round signer g);
    nullify_beside = λ round signer g.
        let q = suspect_from round signer in
        let gave_up : IsTrue (contains suspect_cmp old.nullified q) = subst (λ (x : Suspect). IsTrue (contains suspect_cmp old.nullified x)) (first_is attests (nullifies_of lists reports) (finalizes_of lists reports) q g) (all.nullifies g.first g.first_is_there) in
        let finalized_is = second_is attests (nullifies_of lists reports) (finalizes_of lists reports) q g in
        elim (all.finalizes g.second g.second_is_there) [
          | inl contests ↦ stay q (subst (λ (x : Suspect). IsTrue (contains suspect_cmp old.contested x)) finalized_is contests)
          | inr chosen ↦ added q gave_up (subst (λ (r : Round). IsSome (choice_in old.finalized r)) (ap (λ (x : Suspect). x.round) finalized_is) (rw chosen refl))
        ];
  }

  -- where nobody is contested, there is nothing to accuse anybody of
  pub nobody-verdict : (attests : ℕ → Statement D → G → Type 0) (cmp : D → D → Ordering) (reports : List (Activity S D P G C)) (contested : BTreeSet Suspect) → HasGuilty lists attests reports contested → btree_set_len contested ≡ 0 → IsVerdict lists attests cmp reports []
  nobody-verdict attests cmp reports contested guilty none = record {
    sound = λ a there. absurd (Contains-nil a there);
    two_notarizes = λ round signer g. absurd (nobody (suspect_from round signer) (guilty.two_notarizes round signer g));
    two_finalizes = λ round signer g. absurd (nobody (suspect_from round signer) (guilty.two_finalizes round signer g));
    nullify_beside = λ round signer g. absurd (nobody (suspect_from round signer) (guilty.nullify_beside round signer g));
    sorted = AllPairs-nil (λ a b. AreInOrder (accused a) (accused b));
  } where
    nobody : (q : Suspect) → IsTrue (contains suspect_cmp contested q) → ⊥
    nobody q there = Contains-nil q (subst (λ (qs : List Suspect). Contains qs q) (nil_from_length contested.keys none) ((btree_set_contains_iff suspects_total suspects_exact contested q).0 there))
