-- What certificates of a world have in common.
use Rattle.std.proofs.Common.{◌≡◌, ◌≢◌, ◌⊎◌, inl, inr, ⊎_elim, ℕ, zero, suc, ◌+◌, ◌<◌, ◌≤◌, true, List, [], ◌∷◌, Option, refl, sym, ◌∙◌, ap, subst, arith}
use Rattle.std.specs.Prelude.{⊤, unwrap_or, All, length}
use Rattle.std.specs.List.{Contains}
use Rattle.std.proofs.lemmas.Bool.{cases_eq, cases_lt}
use Rattle.std.proofs.lemmas.List.Elements.{All-contains}
use Rattle.types_core.specs.declared.attestation.Attestation.{Attestation}
use Rattle.types_core.specs.declared.position.Round.{Round}
use Rattle.types_core.specs.declared.proposal.Proposal.{Proposal}
use Rattle.types_core.specs.Positions.{term_start, IsTermStart, InCoveringRange}
use Rattle.types_core.specs.Quorum.{IsQuorum}
use Rattle.types_quorum.specs.Committee.{faults, quorum}
use Rattle.types_quorum.specs.Counting.{Contains-head, Contains-rest, escapes}
use Rattle.types_core.specs.Overlap.{signers, AttestsIn, signers-AreQuorum, signers-attest}
use Rattle.types_quorum.specs.Committee.{AreQuorum, two_quorums_meet}
use Rattle.types_core.specs.Subject.{Statement, notarize, nullify, finalize}
use Rattle.messages_certificates.specs.declared.certificate.Certificate.{Certificate}
use Rattle.messages_certificates.specs.declared.certificate.Certificate.TheVariants as certificate
use Rattle.messages_certificates.specs.Certificate.{certificate_statement, certified_by}
use Rattle.messages_certificates.specs.Artifact.{certificate_artifact}
use Rattle.simplex_record.specs.Record.{entries, HasVoted, HasTaken, HasJudged}
use Rattle.simplex_record.specs.declared.owner.Owner.{Owner}
use Rattle.simplex_record.specs.World.{World, IsCorrect, IsSound, IsAlike, IsWorld}
use Rattle.simplex_record.specs.Agreement.{IsFor, OneProposalAView, NoFinalizedViewNullified, NoFinalizedViewSkipped}
use Rattle.simplex_record.specs.Chain.{IsExplicit, IsGround, AllStandOnGround, IsNotarized, LeadDown, OneChain}
use Rattle.simplex_record.proofs.Figures.{term_start-up}
use Rattle.simplex_record.proofs.Member.{one_notarize, finalize_is_notarized, finalize_is_above, finalize_is_healed, skipped_is_covered, taken_certifies, finalize_is_judged, notarized_is_above}

-- in a committee of two or more a quorum has a member that isn't faulty and isn't l
beyond_one_more : (n : ℕ) (xs faulty : List ℕ) (l : ℕ) → 2 ≤ n → AreQuorum n xs → length faulty ≤ faults n
    → (x : ℕ) × (x < n) × Contains xs x × (x ≢ l) × (Contains faulty x → ⊥)
beyond_one_more n xs faulty l two p few =
    let found = escapes xs (l ∷ faulty) p.once (omega (arith, few, p.enough)) in (
      found.0,
      All-contains (λ (x : ℕ). x < n) xs found.0 p.below found.1,
      found.1,
      λ same. found.2 (subst (Contains (l ∷ faulty)) (sym same) (Contains-head l faulty)),
      λ liar. found.2 (Contains-rest l faulty found.0 liar),
    )

-- a quorum by a member's own scheme is one by the committee's
quorum_alike : {D G : Type 0} (size own_size : ℕ) (attests own_attests : ℕ → Statement D → G → Type 0) (s : Statement D) (listed : List (Attestation G))
    → IsAlike size attests own_size own_attests → IsQuorum own_size (λ i a. own_attests i s a) listed → IsQuorum size (λ i a. attests i s a) listed
quorum_alike {D} {G} size own_size attests own_attests s listed alike q = record {
  distinct = q.distinct;
  members = subst (λ (n : ℕ). All (λ (a : Attestation G). a.signer < n) listed) alike.size_is q.members;
  enough = subst (λ (n : ℕ). quorum n ≤ length listed) alike.size_is q.enough;
  attesting = λ k d l. alike.attests_too _ s _ (q.attesting k d l);
}

module _ {S D P G C : Type 0} (attests : ℕ → Statement D → G → Type 0) (size_by : ℕ → ℕ) (attests_by : ℕ → ℕ → Statement D → G → Type 0) (certifies_by : ℕ → Statement D → C → Type 0) (lists : C → List (Attestation G)) (world : World S D P G C)
    (backed : (i : ℕ) (s : Statement D) (c : C) → certifies_by i s c → IsQuorum (size_by i) (λ j a. attests_by i j s a) (lists c))
    (holds : IsWorld attests size_by attests_by certifies_by lists world) where
  -- whose a member's record is
  abbrev owner_of : ℕ → Owner
  owner_of i = record { epoch = world.epoch; term_length = world.term_length; signer = i }

  -- a certificate for the statement, which certifies and is honest
  record Sound (s : Statement D) : Type 0 where
    pub certificate : Certificate S D P G C
    pub states : certificate_statement certificate ≡ s
    pub sound : IsSound attests lists world certificate

  -- a correct member voted for both statements
  record BothVoted (s t : Statement D) : Type 0 where
    pub member : ℕ
    pub correct : IsCorrect world member
    pub first : HasVoted (entries (world.recorded member)) s
    pub second : HasVoted (entries (world.recorded member)) t

  -- a correct member that a certificate lists voted for what it states
  voted_for : (s : Statement D) (c : Sound s) (i : ℕ) → IsCorrect world i → AttestsIn (λ j a. attests j s a) (lists (certified_by c.certificate)) i → HasVoted (entries (world.recorded i)) s
  voted_for s c i correct a =
      let own : IsCorrect world a.0.signer = subst (IsCorrect world) (sym a.2) correct in
      let attested : attests a.0.signer s a.0.signature = subst (λ (j : ℕ). attests j s a.0.signature) (sym a.2) a.3 in
      let told : HasVoted (entries (world.recorded a.0.signer)) (certificate_statement c.certificate) =
      c.sound.honest a.0 a.1 own (subst (λ (t : Statement D). attests a.0.signer t a.0.signature) (sym c.states) attested) in
      subst (λ (j : ℕ). HasVoted (entries (world.recorded j)) s) a.2 (subst (λ (t : Statement D). HasVoted (entries (world.recorded a.0.signer)) t) c.states told)

  -- what a sound certificate lists is of a quorum
  quorum_of : (s : Statement D) (c : Sound s) → IsQuorum world.size (λ i a. attests i s a) (lists (certified_by c.certificate))
  quorum_of s c = subst (λ (x : Statement D). IsQuorum world.size (λ i a. attests i x a) (lists (certified_by c.certificate))) c.states
      c.sound.backed

  -- behind two sound certificates stands a correct member that voted for both
  common_voter : (s t : Statement D) → Sound s → Sound t → BothVoted s t
  common_voter s t c d =
      let of_c = quorum_of s c in
      let of_d = quorum_of t d in
      let these = lists (certified_by c.certificate) in
      let those = lists (certified_by d.certificate) in
      let both = two_quorums_meet world.size (signers these) (signers those) world.excused holds.some
      (signers-AreQuorum world.size (λ i a. attests i s a) these of_c) (signers-AreQuorum world.size (λ i a. attests i t a) those of_d) holds.few in
      let correct : IsCorrect world both.0 = (both.1, both.4) in
      record {
        member = both.0;
        correct = correct;
        first = voted_for s c both.0 correct (signers-attest world.size (λ i a. attests i s a) these of_c both.0 both.2);
        second = voted_for t d both.0 correct (signers-attest world.size (λ i a. attests i t a) those of_d both.0 both.3);
      }

  -- a certificate that a correct member recorded is sound
  recorded : (i : ℕ) → IsCorrect world i → (s : Statement D) → HasTaken (entries (world.recorded i)) s
      → (c : Certificate S D P G C) × (certificate_statement c ≡ s) × Contains (world.recorded i) (certificate_artifact c) × IsSound attests lists world c
  recorded i correct s here =
      let c = taken_certifies (owner_of i) (world.recorded i) (holds.lawful i correct) s here in
      let by_own = backed i (certificate_statement c.0) (certified_by c.0) c.3 in
      let q = quorum_alike world.size (size_by i) attests (attests_by i) (certificate_statement c.0) (lists (certified_by c.0)) (holds.alike i correct) by_own in
      (c.0, c.1, c.2, record { backed = q; honest = holds.honest i correct c.0 c.2 })

  recorded_is_sound : (i : ℕ) → IsCorrect world i → (s : Statement D) → HasTaken (entries (world.recorded i)) s → Sound s
  recorded_is_sound i correct s here =
      let c = recorded i correct s here in
      record { certificate = c.0; states = c.1; sound = c.3 }

  -- what is finalized is notarized
  finalized_is_notarized : (p : Proposal D) → Sound (finalize p) → Sound (notarize p)
  finalized_is_notarized p c =
      let v = common_voter (finalize p) (finalize p) c c in
      recorded_is_sound v.member v.correct (notarize p) (finalize_is_notarized (owner_of v.member) (world.recorded v.member) (holds.lawful v.member v.correct) p v.first)

  -- two notarizations of a view are for one proposal
  one_notarized : (p q : Proposal D) → p.round.view ≡ q.round.view → Sound (notarize p) → Sound (notarize q) → p ≡ q
  one_notarized p q same c d =
      let v = common_voter (notarize p) (notarize q) c d in
      one_notarize (owner_of v.member) (world.recorded v.member) (holds.lawful v.member v.correct) p q same v.first v.second

  -- nothing that is finalized is nullified: by induction on its view
  not_nullified : (k : ℕ) (p : Proposal D) (r : Round) → p.round.view < k → InCoveringRange world.term_length p.round.view r.view → Sound (finalize p) → Sound (nullify r) → ⊥
  not_nullified zero p r low range c d = absurd (omega (arith, low))
  not_nullified (suc k) p r low range c d =
      let v = common_voter (finalize p) (nullify r) c d in
      let earlier = finalize_is_healed (owner_of v.member) (world.recorded v.member) (holds.lawful v.member v.correct) p r range v.first v.second in
      let first : term_start world.term_length earlier.0.round.view ≤ r.view = omega (arith, range.0, term_start-up world.term_length earlier.0.round.view p.round.view (omega (arith, earlier.2))) in
      not_nullified k earlier.0 r (omega (arith, low, earlier.2)) (first, earlier.1) (recorded_is_sound v.member v.correct (finalize earlier.0) earlier.3) d

  -- nothing that is finalized is skipped
  not_skipped : (p q : Proposal D) → q.parent < p.round.view → p.round.view < q.round.view → Sound (finalize p) → Sound (notarize q) → ⊥
  not_skipped p q above below c d =
      let v = common_voter (finalize p) (notarize q) c d in
      let lawful = holds.lawful v.member v.correct in
      let some = finalize_is_above (owner_of v.member) (world.recorded v.member) lawful p v.first in
      let covered = skipped_is_covered (owner_of v.member) (world.recorded v.member) lawful q p.round.view v.second above below some in
      not_nullified (p.round.view + 1) p covered.0 (omega arith) covered.1 c (recorded_is_sound v.member v.correct (nullify covered.0) covered.2)

  -- a sound certificate for a proposal makes a sound notarization of it
  notarized : (c : Certificate S D P G C) (p : Proposal D) → IsSound attests lists world c → IsFor c p → Sound (notarize p)
  notarized (certificate.Notarization c) p sound is = record { certificate = certificate.Notarization c; states = ap (λ (q : Proposal D). notarize q) is; sound = sound }
  notarized (certificate.Nullification c) p sound is = absurd is
  notarized (certificate.Finalization c) p sound is = finalized_is_notarized p (record { certificate = certificate.Finalization c; states = ap (λ (q : Proposal D). finalize q) is; sound = sound })

  pub one_proposal : OneProposalAView attests lists world
  one_proposal c d p q sound_c sound_d for_p for_q same = one_notarized p q same (notarized c p sound_c for_p) (notarized d q sound_d for_q)

  pub none_nullified : NoFinalizedViewNullified attests lists world
  none_nullified c d sound_c sound_d range = not_nullified (c.proposal.round.view + 1) c.proposal d.round (omega arith) range
      (record { certificate = certificate.Finalization c; states = refl; sound = sound_c }) (record { certificate = certificate.Nullification d; states = refl; sound = sound_d })

  pub none_skipped : NoFinalizedViewSkipped attests lists world
  none_skipped c d sound_c sound_d above below = not_skipped c.proposal d.proposal above below
      (record { certificate = certificate.Finalization c; states = refl; sound = sound_c }) (record { certificate = certificate.Notarization d; states = refl; sound = sound_d })

  -- ---- one chain

  -- behind a sound certificate of two members or more stands a correct member other than l that voted for it
  another_voter : (s : Statement D) → Sound s → (l : ℕ) → 2 ≤ world.size → (i : ℕ) × IsCorrect world i × (i ≢ l) × HasVoted (entries (world.recorded i)) s
  another_voter s c l two =
      let of_c = quorum_of s c in
      let these = lists (certified_by c.certificate) in
      let found = beyond_one_more world.size (signers these) world.excused l two (signers-AreQuorum world.size (λ i a. attests i s a) these of_c) holds.few in
      let correct : IsCorrect world found.0 = (found.1, found.4) in
      (found.0, correct, found.3, voted_for s c found.0 correct (signers-attest world.size (λ i a. attests i s a) these of_c found.0 found.2))

  abbrev IsNotarize : Statement D → Type 0
  IsNotarize (notarize p) = ⊤
  IsNotarize (nullify r) = ⊥
  IsNotarize (finalize p) = ⊥

  abbrev proposal_of : Proposal D → Statement D → Proposal D
  proposal_of other (notarize p) = p
  proposal_of other (nullify r) = other
  proposal_of other (finalize p) = other

  -- what a correct member has seen notarized is
  recorded_is_notarized : (i : ℕ) → IsCorrect world i → (p : Proposal D) → HasTaken (entries (world.recorded i)) (notarize p) → IsNotarized attests lists world p
  recorded_is_notarized i correct p here =
      let c = recorded i correct (notarize p) here in
      of_certificate c.0 c.1 c.2 c.3
    where
      of_certificate : (c : Certificate S D P G C) → certificate_statement c ≡ notarize p → Contains (world.recorded i) (certificate_artifact c) → IsSound attests lists world c → IsNotarized attests lists world p
      of_certificate (certificate.Notarization c) states in_it sound = record { member = i; correct = correct; notarization = c; of_it = ap (proposal_of p) states; recorded = in_it; sound = sound }
      of_certificate (certificate.Nullification c) states in_it sound = absurd (subst IsNotarize (sym states) tt)
      of_certificate (certificate.Finalization c) states in_it sound = absurd (subst IsNotarize (sym states) tt)

  -- what is notarized has a sound certificate
  notarized_is_sound : (p : Proposal D) → IsNotarized attests lists world p → Sound (notarize p)
  notarized_is_sound p is = record { certificate = certificate.Notarization is.notarization; states = ap (λ (q : Proposal D). notarize q) is.of_it; sound = is.sound }

  -- a view is explicit at a correct member
  abbrev IsExplicitSomewhere : ℕ → Type 0
  IsExplicitSomewhere view = (i : ℕ) × IsCorrect world i × IsExplicit (entries (world.recorded i)) view

  -- a correct member judged a view true
  abbrev IsJudgedSomewhere : ℕ → Type 0
  IsJudgedSomewhere view = (i : ℕ) × IsCorrect world i × ((r : Round) × (r.view ≡ view) × HasJudged (entries (world.recorded i)) r true)

  -- one did where a proposal of it is finalized
  finalized_is_judged : (p : Proposal D) → Sound (finalize p) → IsJudgedSomewhere p.round.view
  finalized_is_judged p c =
      let v = common_voter (finalize p) (finalize p) c c in
      (v.member, v.correct, finalize_is_judged (owner_of v.member) (world.recorded v.member) (holds.lawful v.member v.correct) p v.first)

  -- and where it is explicit
  explicit_is_judged : (view : ℕ) → IsExplicitSomewhere view → IsJudgedSomewhere view
  explicit_is_judged view e = ⊎_elim
      (λ finalized. subst IsJudgedSomewhere finalized.1 (finalized_is_judged finalized.0 (recorded_is_sound e.0 e.1 (finalize finalized.0) finalized.2)))
      (λ verdict. (e.0, e.1, verdict))
      e.2

  module _ (leader : ℕ → Option ℕ) (ground : AllStandOnGround leader world) where
    -- a proposal of a view is notarized, and its parent is the genesis, or explicit in turn
    record StepDown (view : ℕ) : Type 0 where
      pub proposal : Proposal D
      pub at : proposal.round.view ≡ view
      pub notarized : IsNotarized attests lists world proposal
      pub below : proposal.parent < view
      pub onto : (proposal.parent ≡ 0) ⊎ IsExplicitSomewhere proposal.parent

    -- what is ground at a correct member
    ground_at : (i : ℕ) → IsCorrect world i → (view : ℕ) → IsGround (entries (world.recorded i)) view → (view ≡ 0) ⊎ IsExplicitSomewhere view
    ground_at i correct view is = ⊎_elim (λ genesis. inl genesis) (λ explicit. inr (i, correct, explicit)) is

    -- what is notarized at the start of a term, by two members or more, has a parent that is ground at one of them: of two
    -- that voted for it one at most leads the view
    starts_on_ground : (p : Proposal D) → IsTermStart world.term_length p.round.view → 2 ≤ world.size → Sound (notarize p) → (p.parent ≡ 0) ⊎ IsExplicitSomewhere p.parent
    starts_on_ground p starts two c =
        let v = common_voter (notarize p) (notarize p) c c in
        let w = another_voter (notarize p) c v.member two in
        ⊎_elim
        (λ is. ground_at v.member v.correct p.parent is)
        (λ leads. ⊎_elim
        (λ is. ground_at w.0 w.1 p.parent is)
        (λ leads_too. absurd (w.2 (ap (λ (o : Option ℕ). unwrap_or o 0) (sym leads_too ∙ leads))))
        ((ground w.0 w.1).voted p w.3 starts))
        ((ground v.member v.correct).voted p v.first starts)

    -- one step down
    step_down : (view : ℕ) → IsExplicitSomewhere view → StepDown view
    step_down view e =
        let j = explicit_is_judged view e in
        let found = (ground j.0 j.1).judged j.2.0 j.2.2 in
        let p = found.0 in
        let is = recorded_is_notarized j.0 j.1 p found.2 in
        let same : p.round.view ≡ view = found.1 ∙ j.2.1 in
        record {
          proposal = p;
          at = same;
          notarized = is;
          below = omega (arith, same, notarized_is_above (owner_of j.0) (world.recorded j.0) (holds.lawful j.0 j.1) p found.2);
          onto = elim (cases_eq p.round.view (term_start world.term_length p.round.view)) [
            | inl starts ↦ elim (cases_lt 1 world.size) [
              | inl two ↦ starts_on_ground p starts (omega (arith, two)) (notarized_is_sound p is)
              | inr alone ↦ ground_at j.0 j.1 p.parent (found.3 (inr (omega (arith, alone, holds.some))))
            ]
            | inr inside ↦ ground_at j.0 j.1 p.parent (found.3 (inl inside))
          ];
        }

    -- from a view parents lead down to the proposal q
    record Down (view : ℕ) (q : Proposal D) : Type 0 where
      pub first : Proposal D
      pub at : first.round.view ≡ view
      pub notarized : IsNotarized attests lists world first
      pub path : List (Proposal D)
      pub leads : LeadDown attests lists world first path q

    -- they do from each explicit view at or above one that is finalized: by induction on the view
    descend : (k view : ℕ) (q : Proposal D) → view < k → q.round.view ≤ view → Sound (finalize q) → IsExplicitSomewhere view → Down view q
    descend zero view q low above d e = absurd (omega (arith, low))
    descend (suc k) view q low above d e =
        let s = step_down view e in
        elim (cases_lt q.round.view view) [
          | inl higher ↦ elim (cases_lt s.proposal.parent q.round.view) [
            | inl skips ↦ absurd (not_skipped q s.proposal skips (omega (arith, higher, s.at)) d (notarized_is_sound s.proposal s.notarized))
            | inr kept ↦
                let v = common_voter (finalize q) (finalize q) d d in
                let some = finalize_is_above (owner_of v.member) (world.recorded v.member) (holds.lawful v.member v.correct) q v.first in
                ⊎_elim
                (λ genesis. absurd (omega (arith, genesis, kept, some)))
                (λ further.
                let rest = descend k s.proposal.parent q (omega (arith, low, s.below)) kept d further in
                record {
                  first = s.proposal;
                  at = s.at;
                  notarized = s.notarized;
                  path = rest.first ∷ rest.path;
                  leads = (s.notarized, rest.at, omega (arith, rest.at, s.at, s.below), rest.leads);
                })
                s.onto
          ]
          | inr there ↦ record {
            first = s.proposal;
            at = s.at;
            notarized = s.notarized;
            path = [];
            leads = (s.notarized, one_notarized s.proposal q (omega (arith, s.at, above, there)) (notarized_is_sound s.proposal s.notarized) (finalized_is_notarized q d));
          }
        ]

    pub one_chain : OneChain attests lists world
    one_chain c d sound_c sound_d above =
        let of_c : Sound (finalize c.proposal) = record { certificate = certificate.Finalization c; states = refl; sound = sound_c } in
        let of_d : Sound (finalize d.proposal) = record { certificate = certificate.Finalization d; states = refl; sound = sound_d } in
        let j = finalized_is_judged c.proposal of_c in
        let down = descend (c.proposal.round.view + 1) c.proposal.round.view d.proposal (omega arith) above of_d (j.0, j.1, inr j.2) in
        let same : down.first ≡ c.proposal = one_notarized down.first c.proposal down.at (notarized_is_sound down.first down.notarized) (finalized_is_notarized c.proposal of_c) in
        (down.path, subst (λ (p : Proposal D). LeadDown attests lists world p down.path d.proposal) same down.leads)
