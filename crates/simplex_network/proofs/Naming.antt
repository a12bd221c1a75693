-- An audit over what correct members report names none of them.
use Rattle.std.proofs.Common.{◌≡◌, inl, inr, ⊎_elim, ℕ, ◌<◌, List, [], ◌∷◌, ◌++◌, Option, Some, None, refl, sym, ap, subst, arith}
use Rattle.std.specs.Prelude.{Contains, ⊤}
use Rattle.std.specs.List.{flat_map}
use Rattle.std.specs.declared.cmp.Ordering.{Ordering}
use Rattle.std.proofs.lemmas.List.Elements.{Contains-append_cases, Contains-append_right}
use Rattle.types_quorum.specs.Counting.{Contains-head, Contains-rest}
use Rattle.types_core.specs.declared.position.Round.{Round}
use Rattle.types_core.specs.declared.proposal.Proposal.{Proposal}
use Rattle.types_core.specs.declared.scheme.Scheme.{Ghosts}
use Rattle.types_core.specs.Subject.{Statement, notarize, nullify, finalize}
use Rattle.messages_certificates.specs.declared.certificate.Certificate.{Certificate}
use Rattle.messages_certificates.specs.declared.certificate.Certificate.TheVariants as certificate
use Rattle.messages_certificates.specs.declared.nullify.Nullify.{Nullify}
use Rattle.messages_certificates.specs.Certificate.{certificate_statement, certified_by}
use Rattle.messages_certificates.specs.ProposalCertificate.{Notarization}
use Rattle.messages_certificates.specs.ProposalVote.{Finalize, Notarize}
use Rattle.simplex_messages.specs.declared.activity.Activity.{Activity}
use Rattle.simplex_messages.specs.declared.activity.Activity.TheVariants as activity
use Rattle.simplex_messages.specs.declared.vote.Vote.TheVariants as vote
use Rattle.simplex_messages.specs.Guilt.{finalizes_in, notarizes_in, nullifies_in, finalizes_of, notarizes_of, nullifies_of}
use Rattle.simplex_rules.specs.Accountability.{HoldNotarization, IsContradicted}
use Rattle.simplex_rules.specs.Audit.{Accusation, IsAccused, IsLeast, IsVerdict, accused}
use Rattle.simplex_record.specs.Record.{entries, HasVoted}
use Rattle.simplex_record.specs.World.{World, IsCorrect}
use Rattle.simplex_member.specs.Laws.{IsHonestReport, OwnVotesAgree, ReportedCertify, ReportsAreHonest, reported_certificate}
use Rattle.simplex_member.specs.Lives.{LiveByNodes, IsHonestVote, Members}
use Rattle.simplex_member.specs.Packet.{Formats}
use Rattle.simplex_network.specs.Accountability.{AreReported}

-- what stands in lists that are put together stands in one of them
among : {X Y : Type 0} (k : X → List Y) (xs : List X) (y : Y) → Contains (flat_map k xs) y → (x : X) × Contains xs x × Contains (k x) y
among k [] y here = absurd (omega (arith, here.1))
among k (x ∷ xs) y here = ⊎_elim
    (λ now. (x, Contains-head x xs, now))
    (λ later. let rest = among k xs y later in (rest.0, Contains-rest x xs rest.0 rest.1, rest.2))
    (Contains-append_cases (k x) (flat_map k xs) y here)

-- what stands between two parts of a list stands in it
between : {X : Type 0} (xs before : List X) (x : X) (behind : List X) → xs ≡ before ++ x ∷ behind → Contains xs x
between {X} xs before x behind is = subst (λ (l : List X). Contains l x) (sym is) (Contains-append_right before (x ∷ behind) x (Contains-head x behind))

-- who is accused, if anybody
abbrev whom : Option Accusation → ℕ
whom None = 0
whom (Some x) = x.signer

notarized-is : {D : Type 0} (p q : Proposal D) → notarize p ≡ notarize q → p ≡ q
notarized-is {D} p q is = ap inside is
  where
    inside : Statement D → Proposal D
    inside (notarize x) = x
    inside (nullify r) = p
    inside (finalize x) = p

finalized-is : {D : Type 0} (p q : Proposal D) → finalize p ≡ finalize q → p ≡ q
finalized-is {D} p q is = ap inside is
  where
    inside : Statement D → Proposal D
    inside (notarize x) = p
    inside (nullify r) = p
    inside (finalize x) = x

apart : {D : Type 0} (r : Round) (p : Proposal D) → nullify r ≡ finalize p → ⊥
apart r p is = cc is

module _ {S D P G C : Type 0} (g : Ghosts S D P G C) (f : Formats S D P G C) (scheme : S) (m : Members S D P G C) (world : World S D P G C) (w : LiveByNodes g f scheme m world)
    (honest : ReportsAreHonest g f) (agree : OwnVotesAgree g f) (reports : List (Activity S D P G C)) (told : AreReported g f scheme m world reports) where
  -- of a report of these
  report : (a : Activity S D P G C) → Contains reports a → IsHonestReport g f scheme m world a
  report a here = let by = told a here in honest scheme m world w by.0 by.1 a by.2

  notarizes-true : (v : Notarize S D P G C) → Contains (notarizes_of g.lists reports) v → IsHonestVote g f scheme m world (vote.Notarize v)
  notarizes-true v here = let at = among (notarizes_in g.lists) reports v here in (report at.0 at.1).notarizes v at.2

  nullifies-true : (v : Nullify S D P G C) → Contains (nullifies_of g.lists reports) v → IsHonestVote g f scheme m world (vote.Nullify v)
  nullifies-true v here = let at = among (nullifies_in g.lists) reports v here in (report at.0 at.1).nullifies v at.2

  finalizes-true : (v : Finalize S D P G C) → Contains (finalizes_of g.lists reports) v → IsHonestVote g f scheme m world (vote.Finalize v)
  finalizes-true v here = let at = among (finalizes_in g.lists) reports v here in (report at.0 at.1).finalizes v at.2

  module _ (cmp : D → D → Ordering) where
    -- a piece of evidence accuses no correct member
    none-accused : (a : Activity S D P G C) → IsLeast g.lists (g.attests scheme) cmp reports a → (x : Accusation) → accused a ≡ Some x → IsCorrect world x.signer → ⊥
    none-accused (activity.ConflictingNotarize e) least x is correct =
        let signer : e.0.attestation.signer ≡ x.signer = ap whom is in
        let mine : IsCorrect world e.0.attestation.signer = subst (λ (i : ℕ). IsCorrect world i) (sym signer) correct in
        let also : IsCorrect world e.1.attestation.signer = subst (λ (i : ℕ). IsCorrect world i) least.contradict.one_signer mine in
        let first = notarizes-true e.0 (between (notarizes_of g.lists reports) least.first.before e.0 least.first.after least.first.whole) mine least.first.verifies in
        let second = notarizes-true e.1 (between (notarizes_of g.lists reports) least.second.before e.1 least.second.after least.second.whole) also least.second.verifies in
        least.contradict.two_proposals (notarized-is e.0.proposal e.1.proposal
        (agree scheme m world w e.0.attestation.signer mine (notarize e.0.proposal) (notarize e.1.proposal) first
        (subst (λ (i : ℕ). HasVoted (entries (world.recorded i)) (notarize e.1.proposal)) (sym least.contradict.one_signer) second)
        (ap (λ (r : Round). r.view) least.contradict.one_round)))
    none-accused (activity.ConflictingFinalize e) least x is correct =
        let signer : e.0.attestation.signer ≡ x.signer = ap whom is in
        let mine : IsCorrect world e.0.attestation.signer = subst (λ (i : ℕ). IsCorrect world i) (sym signer) correct in
        let also : IsCorrect world e.1.attestation.signer = subst (λ (i : ℕ). IsCorrect world i) least.contradict.one_signer mine in
        let first = finalizes-true e.0 (between (finalizes_of g.lists reports) least.first.before e.0 least.first.after least.first.whole) mine least.first.verifies in
        let second = finalizes-true e.1 (between (finalizes_of g.lists reports) least.second.before e.1 least.second.after least.second.whole) also least.second.verifies in
        least.contradict.two_proposals (finalized-is e.0.proposal e.1.proposal
        (agree scheme m world w e.0.attestation.signer mine (finalize e.0.proposal) (finalize e.1.proposal) first
        (subst (λ (i : ℕ). HasVoted (entries (world.recorded i)) (finalize e.1.proposal)) (sym least.contradict.one_signer) second)
        (ap (λ (r : Round). r.view) least.contradict.one_round)))
    none-accused (activity.NullifyFinalize e) least x is correct =
        let signer : e.0.attestation.signer ≡ x.signer = ap whom is in
        let mine : IsCorrect world e.0.attestation.signer = subst (λ (i : ℕ). IsCorrect world i) (sym signer) correct in
        let also : IsCorrect world e.1.attestation.signer = subst (λ (i : ℕ). IsCorrect world i) least.beside.one_signer mine in
        let first = nullifies-true e.0 (between (nullifies_of g.lists reports) least.first.before e.0 least.first.after least.first.whole) mine least.first.verifies in
        let second = finalizes-true e.1 (between (finalizes_of g.lists reports) least.second.before e.1 least.second.after least.second.whole) also least.second.verifies in
        apart e.0.round e.1.proposal
        (agree scheme m world w e.0.attestation.signer mine (nullify e.0.round) (finalize e.1.proposal) first
        (subst (λ (i : ℕ). HasVoted (entries (world.recorded i)) (finalize e.1.proposal)) (sym least.beside.one_signer) second)
        (ap (λ (r : Round). r.view) least.beside.one_round))
    none-accused (activity.Notarize v) least x is correct = least
    none-accused (activity.Notarization c) least x is correct = least
    none-accused (activity.Certification c) least x is correct = least
    none-accused (activity.Nullify v) least x is correct = least
    none-accused (activity.Nullification c) least x is correct = least
    none-accused (activity.Finalize v) least x is correct = least
    none-accused (activity.Finalization c) least x is correct = least

    -- so no audit's verdict names one
    pub none-named : (evidence : List (Activity S D P G C)) → IsVerdict g.lists (g.attests scheme) cmp reports evidence → (x : Accusation) → IsAccused evidence x → IsCorrect world x.signer → ⊥
    none-named evidence verdict x by correct = none-accused by.0 (verdict.sound by.0 by.1) x by.2 correct

    -- certificates among the reports that contradict each other do so as certificates that verify
    module _ (certify : ReportedCertify g f) (size : g.size scheme ≡ world.size) where
      certified : (a : Activity S D P G C) → Contains reports a → (c : Certificate S D P G C) → reported_certificate a ≡ Some c → g.certifies scheme (certificate_statement c) (certified_by c)
      certified a here c is = let by = told a here in certify scheme m world w size by.0 by.1 a by.2 c is

      notarization-certified : (c : Notarization S D P G C) → HoldNotarization reports c → g.certifies scheme (notarize c.proposal) c.certificate
      notarization-certified c held = ⊎_elim
          (λ here. certified (activity.Notarization c) here (certificate.Notarization c) refl)
          (λ here. certified (activity.Certification c) here (certificate.Notarization c) refl)
          held

      pub verified : (round : Round) → IsContradicted (λ x c. ⊤) reports round → IsContradicted (g.certifies scheme) reports round
      verified round contradicted = ⊎_elim
          (λ two. inl (record {
            first = two.first;
            second = two.second;
            first_is_held = two.first_is_held;
            second_is_held = two.second_is_held;
            first_certifies = notarization-certified two.first two.first_is_held;
            second_certifies = notarization-certified two.second two.second_is_held;
            first_round = two.first_round;
            second_round = two.second_round;
            two_proposals = two.two_proposals;
          }))
          (λ others. ⊎_elim
          (λ two. inr (inl (record {
            first = two.first;
            second = two.second;
            first_is_held = two.first_is_held;
            second_is_held = two.second_is_held;
            first_certifies = certified (activity.Finalization two.first) two.first_is_held (certificate.Finalization two.first) refl;
            second_certifies = certified (activity.Finalization two.second) two.second_is_held (certificate.Finalization two.second) refl;
            first_round = two.first_round;
            second_round = two.second_round;
            two_proposals = two.two_proposals;
          })))
          (λ both. inr (inr (record {
            first = both.first;
            second = both.second;
            first_is_held = both.first_is_held;
            second_is_held = both.second_is_held;
            first_certifies = certified (activity.Nullification both.first) both.first_is_held (certificate.Nullification both.first) refl;
            second_certifies = certified (activity.Finalization both.second) both.second_is_held (certificate.Finalization both.second) refl;
            first_round = both.first_round;
            second_round = both.second_round;
          })))
          others)
          contradicted

      -- one of the reports was handed out by a member
      some-report : (a : Activity S D P G C) → Contains reports a → 0 < g.size scheme
      some-report a here = let by = told a here in let low : by.0 < world.size = by.1.0 in omega (arith, low, size)

      held-some : (c : Notarization S D P G C) → HoldNotarization reports c → 0 < g.size scheme
      held-some c held = ⊎_elim (λ here. some-report (activity.Notarization c) here) (λ here. some-report (activity.Certification c) here) held

      pub some-member : (round : Round) → IsContradicted (λ x c. ⊤) reports round → 0 < g.size scheme
      some-member round contradicted = ⊎_elim
          (λ two. held-some two.first two.first_is_held)
          (λ others. ⊎_elim (λ two. some-report (activity.Finalization two.first) two.first_is_held) (λ both. some-report (activity.Nullification both.first) both.first_is_held) others)
          contradicted
