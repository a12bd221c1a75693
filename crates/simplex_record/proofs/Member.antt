-- What a member has recorded that votes lawfully.
use Rattle.std.proofs.Common.{◌≡◌, ◌≢◌, ◌⊎◌, inl, inr, ⊎_elim, ℕ, ◌+◌, ◌<◌, ◌≤◌, true, List, ◌∷◌, ◌++◌, sym, ◌∙◌, ap, subst, arith, append_assoc}
use Rattle.std.specs.Prelude.{⊤}
use Rattle.std.specs.List.{Contains}
use Rattle.std.proofs.lemmas.List.{map-append}
use Rattle.types_core.specs.declared.position.Round.{Round}
use Rattle.types_core.specs.declared.proposal.Proposal.{Proposal}
use Rattle.types_core.specs.Positions.{InCoveringRange}
use Rattle.types_core.specs.Subject.{Statement, notarize, nullify, finalize}
use Rattle.messages_certificates.specs.declared.artifact.Artifact.{Artifact}
use Rattle.messages_certificates.specs.declared.artifact.Artifact.TheVariants as artifact
use Rattle.messages_certificates.specs.declared.certificate.Certificate.{Certificate}
use Rattle.messages_certificates.specs.declared.certificate.Certificate.TheVariants as certificate
use Rattle.messages_certificates.specs.Artifact.{certificate_artifact}
use Rattle.messages_certificates.specs.Certificate.{certificate_statement, certified_by}
use Rattle.simplex_record.specs.Record.{Entry, voted, taken, judged, entry, entries, HasVoted, HasTaken, HasJudged, finalizes, last_finalized, enters, current_view, IsCovered, floor}
use Rattle.simplex_record.specs.Rules.{MayNotarize, MayNullify, MayFinalize, StandsByVotes}
use Rattle.simplex_record.specs.declared.owner.Owner.{Owner}
use Rattle.simplex_record.specs.Lawful.{EverStands, VotesLawfully}
use Rattle.simplex_record.proofs.Places.{two_places, Stands, stands, Contains-earlier, Contains-mapped, Contains-place}
use Rattle.simplex_record.proofs.Figures.{greatest-at, greatest-found, term_start-some}
use Rattle.simplex_record.proofs.Floors.{floor-final, floor-front, floor-same}

module _ {D : Type 0} where
  -- a last finalized view from 1 on was finalized
  pub last_finalized-taken : (es : List (Entry D)) → 1 ≤ last_finalized es → (p : Proposal D) × (p.round.view ≡ last_finalized es) × HasTaken es (finalize p)
  last_finalized-taken es some = ⊎_elim (λ none. absurd (omega (arith, some, none))) (λ found. of_entry found.0 found.1 found.2) (greatest-found 0 finalizes es)
    where
      of_entry : (e : Entry D) → Contains es e → finalizes e ≡ last_finalized es → (p : Proposal D) × (p.round.view ≡ last_finalized es) × HasTaken es (finalize p)
      of_entry (voted s) here is = absurd (omega (arith, some, is))
      of_entry (taken (notarize p)) here is = absurd (omega (arith, some, is))
      of_entry (taken (nullify r)) here is = absurd (omega (arith, some, is))
      of_entry (taken (finalize p)) here is = (p, is, here)
      of_entry (judged r verdict) here is = absurd (omega (arith, some, is))

  -- the statement that an entry is about, or else this one
  abbrev statement_or : Statement D → Entry D → Statement D
  statement_or other (voted s) = s
  statement_or other (taken s) = s
  statement_or other (judged r verdict) = other

  -- votes are one vote where their entries are
  pub voted-once : (s t : Statement D) → voted s ≡ voted t → s ≡ t
  voted-once s t same = ap (statement_or s) same

  -- the proposal that a statement is on, or else this one
  abbrev proposal_or : Proposal D → Statement D → Proposal D
  proposal_or other (notarize p) = p
  proposal_or other (nullify r) = other
  proposal_or other (finalize p) = p

  pub notarize-once : (p q : Proposal D) → notarize p ≡ notarize q → p ≡ q
  notarize-once p q same = ap (proposal_or p) same

  abbrev pub IsVote : Entry D → Type 0
  IsVote (voted s) = ⊤
  IsVote (taken s) = ⊥
  IsVote (judged r verdict) = ⊥

  abbrev IsVerdict : Entry D → Type 0
  IsVerdict (voted s) = ⊥
  IsVerdict (taken s) = ⊥
  IsVerdict (judged r verdict) = ⊤

  abbrev IsFinalize : Statement D → Type 0
  IsFinalize (notarize p) = ⊥
  IsFinalize (nullify r) = ⊥
  IsFinalize (finalize p) = ⊤

  -- no vote is one to finalize and one to nullify
  pub finalize-nullify : (p : Proposal D) (r : Round) → finalize p ≡ nullify r → ⊥
  finalize-nullify p r same = subst IsFinalize same tt

module _ {S D P G C : Type 0} {attests : ℕ → Statement D → G → Type 0} {certifies : Statement D → C → Type 0} {owner : Owner} where
  -- what stands at the place of an entry
  pub follows : (record_ : List (Artifact S D P G C)) (e : Entry D) → VotesLawfully attests certifies owner record_ → (s : Stands entry record_ e) → StandsByVotes owner.term_length (entries s.before) e
  follows record_ e lawful s = subst (λ (z : Entry D). StandsByVotes owner.term_length (entries s.before) z) s.gives (lawful s.before s.after s.x s.is).stands

  -- what stood before a place is lawful too
  pub lawful_before : (record_ : List (Artifact S D P G C)) (e : Entry D) → VotesLawfully attests certifies owner record_ → (s : Stands entry record_ e) → VotesLawfully attests certifies owner s.before
  lawful_before record_ e lawful s = λ before after x is.
      lawful before (after ++ s.x ∷ s.after) x (s.is ∙ ap (λ (l : List (Artifact S D P G C)). l ++ s.x ∷ s.after) is ∙ append_assoc before (x ∷ after) (s.x ∷ s.after))

module _ {S D P G C : Type 0} where
  -- what stood before a place is in the record
  pub within : (record_ : List (Artifact S D P G C)) (e f : Entry D) (s : Stands entry record_ e) → Contains (entries s.before) f → Contains (entries record_) f
  within record_ e f s here = subst (λ (l : List (Artifact S D P G C)). Contains (entries l) f) (sym s.is) (Contains-earlier entry s.before (s.x ∷ s.after) f here)

  -- of two entries one stands before the other, or they are one
  pub two_entries : (record_ : List (Artifact S D P G C)) (e f : Entry D) (s : Stands entry record_ e) (t : Stands entry record_ f) → (e ≡ f) ⊎ (Contains (entries s.before) f ⊎ Contains (entries t.before) e)
  two_entries record_ e f s t = ⊎_elim
      (λ one. inl (sym s.gives ∙ ap entry one ∙ t.gives))
      (λ apart. inr (⊎_elim (λ here. inl (told s.before t.x f here t.gives)) (λ there. inr (told t.before s.x e there s.gives)) apart))
      (two_places s.before s.after t.before t.after s.x t.x (sym s.is ∙ t.is))
    where
      told : (before : List (Artifact S D P G C)) (x : Artifact S D P G C) (z : Entry D) → Contains before x → entry x ≡ z → Contains (entries before) z
      told before x z here is = subst (λ (y : Entry D). Contains (entries before) y) is (Contains-mapped entry before x here)

module _ {S D P G C : Type 0} {attests : ℕ → Statement D → G → Type 0} {certifies : Statement D → C → Type 0} (owner : Owner) (record_ : List (Artifact S D P G C)) (lawful : VotesLawfully attests certifies owner record_) where
  -- a member votes to notarize one proposal of a view
  pub one_notarize : (p q : Proposal D) → p.round.view ≡ q.round.view → HasVoted (entries record_) (notarize p) → HasVoted (entries record_) (notarize q) → p ≡ q
  one_notarize p q same here there =
      let s = stands entry record_ (voted (notarize p)) here in
      let t = stands entry record_ (voted (notarize q)) there in
      let at_p : MayNotarize owner.term_length (entries s.before) p = follows record_ (voted (notarize p)) lawful s in
      let at_q : MayNotarize owner.term_length (entries t.before) q = follows record_ (voted (notarize q)) lawful t in
      ⊎_elim (λ one. notarize-once p q (voted-once (notarize p) (notarize q) one))
      (λ apart. ⊎_elim (λ before. absurd (at_p.first (notarize q) same before)) (λ before. absurd (at_q.first (notarize p) (sym same) before)) apart)
      (two_entries record_ (voted (notarize p)) (voted (notarize q)) s t)

  -- it votes to finalize what it has seen notarized
  pub finalize_is_notarized : (p : Proposal D) → HasVoted (entries record_) (finalize p) → HasTaken (entries record_) (notarize p)
  finalize_is_notarized p here =
      let s = stands entry record_ (voted (finalize p)) here in
      let at_p : MayFinalize owner.term_length (entries s.before) p = follows record_ (voted (finalize p)) lawful s in
      within record_ (voted (finalize p)) (taken (notarize p)) s at_p.notarized

  -- and what it has judged true
  pub finalize_is_judged : (p : Proposal D) → HasVoted (entries record_) (finalize p) → (r : Round) × (r.view ≡ p.round.view) × HasJudged (entries record_) r true
  finalize_is_judged p here =
      let s = stands entry record_ (voted (finalize p)) here in
      let at_p : MayFinalize owner.term_length (entries s.before) p = follows record_ (voted (finalize p)) lawful s in
      let verdict = at_p.certified in
      (verdict.0, verdict.1, within record_ (voted (finalize p)) (judged verdict.0 true) s verdict.2)

  -- what it has seen notarized lies above its parent
  pub notarized_is_above : (p : Proposal D) → HasTaken (entries record_) (notarize p) → p.parent < p.round.view
  notarized_is_above p here =
      let s = stands entry record_ (taken (notarize p)) here in
      follows record_ (taken (notarize p)) lawful s

  -- what it votes to finalize lies behind the floor: something stood before the vote, so the floor is that of what stood
  -- there
  pub finalize_is_above : (p : Proposal D) → HasVoted (entries record_) (finalize p) → floor (entries record_) < p.round.view
  finalize_is_above p here =
      let s = stands entry record_ (voted (finalize p)) here in
      let at_p : MayFinalize owner.term_length (entries s.before) p = follows record_ (voted (finalize p)) lawful s in
      let same : floor (entries record_) ≡ floor (entries s.before) =
      ap (λ (l : List (Artifact S D P G C)). floor (entries l)) s.is ∙ ap floor (map-append entry s.before (s.x ∷ s.after)) ∙ floor-same (entries s.before) (entries (s.x ∷ s.after)) (taken (notarize p)) at_p.notarized in
      omega (arith, same, floor-final (entries s.before), at_p.above)

  -- behind a vote to finalize and one to nullify an earlier view of the term stands a finalization between them
  pub finalize_is_healed : (p : Proposal D) (r : Round) → InCoveringRange owner.term_length p.round.view r.view → HasVoted (entries record_) (finalize p) → HasVoted (entries record_) (nullify r)
      → (q : Proposal D) × (r.view ≤ q.round.view) × (q.round.view < p.round.view) × HasTaken (entries record_) (finalize q)
  finalize_is_healed p r range here there = ⊎_elim
      (λ one. absurd (finalize-nullify p r (voted-once (finalize p) (nullify r) one)))
      (λ apart. ⊎_elim nullified_first finalized_first apart)
      (two_entries record_ (voted (finalize p)) (voted (nullify r)) s t)
    where
      s : Stands entry record_ (voted (finalize p))
      s = stands entry record_ (voted (finalize p)) here

      t : Stands entry record_ (voted (nullify r))
      t = stands entry record_ (voted (nullify r)) there

      nullified_first : HasVoted (entries s.before) (nullify r) → (q : Proposal D) × (r.view ≤ q.round.view) × (q.round.view < p.round.view) × HasTaken (entries record_) (finalize q)
      nullified_first before =
          let at_p : MayFinalize owner.term_length (entries s.before) p = follows record_ (voted (finalize p)) lawful s in
          let apart : r.view ≢ p.round.view = λ same. at_p.not_given_up (nullify r) (sym same) before in
          let below : r.view < p.round.view = grind (arith, apart, range.1) in
          let low : r.view ≤ last_finalized (entries s.before) = at_p.healed r range.0 below before in
          let found = last_finalized-taken (entries s.before) (omega (arith, low, range.0, term_start-some owner.term_length p.round.view (omega (arith, at_p.above)))) in
          (found.0, omega (arith, low, found.1), omega (arith, at_p.above, found.1), within record_ (voted (finalize p)) (taken (finalize found.0)) s found.2)

      finalized_first : HasVoted (entries t.before) (finalize p) → (q : Proposal D) × (r.view ≤ q.round.view) × (q.round.view < p.round.view) × HasTaken (entries record_) (finalize q)
      finalized_first before =
          let at_r : MayNullify owner.term_length (entries t.before) r = follows record_ (voted (nullify r)) lawful t in
          let u = stands entry t.before (voted (finalize p)) before in
          let at_p : MayFinalize owner.term_length (entries u.before) p = follows t.before (voted (finalize p)) (lawful_before record_ (voted (nullify r)) lawful t) u in
          let verdict = at_p.certified in
          let judged_before : HasJudged (entries t.before) verdict.0 true = within t.before (voted (finalize p)) (judged verdict.0 true) u verdict.2 in
          let passed : p.round.view + 1 ≤ current_view owner.term_length (entries t.before) = omega (arith, verdict.1, greatest-at 1 (enters owner.term_length) (entries t.before) (judged verdict.0 true) judged_before) in
          absurd (omega (arith, passed, at_r.current, range.1))

  -- each view behind the floor that it votes to skip is covered
  pub skipped_is_covered : (p : Proposal D) (view : ℕ) → HasVoted (entries record_) (notarize p) → p.parent < view → view < p.round.view → floor (entries record_) < view → IsCovered owner.term_length (entries record_) view
  skipped_is_covered p view here above below some =
      let s = stands entry record_ (voted (notarize p)) here in
      let at_p : MayNotarize owner.term_length (entries s.before) p = follows record_ (voted (notarize p)) lawful s in
      let front : floor (entries s.before) ≤ floor (entries record_) =
      omega (arith, floor-front (entries s.before) (entries (s.x ∷ s.after)), ap (λ (l : List (Artifact S D P G C)). floor (entries l)) s.is, ap floor (map-append entry s.before (s.x ∷ s.after))) in
      let covered = at_p.covered view above below (omega (arith, front, some)) in
      (covered.0, covered.1, within record_ (voted (notarize p)) (taken (nullify covered.0)) s covered.2)

  -- a certificate in it certifies what it states
  pub taken_certifies : (s : Statement D) → HasTaken (entries record_) s → (c : Certificate S D P G C) × (certificate_statement c ≡ s) × Contains record_ (certificate_artifact c) × certifies (certificate_statement c) (certified_by c)
  taken_certifies s here =
      let t = stands entry record_ (taken s) here in
      let at = lawful t.before t.after t.x t.is in
      of_artifact t.x t.gives (subst (λ (l : List (Artifact S D P G C)). Contains l t.x) (sym t.is) (Contains-place t.before t.after t.x)) at
    where
      of_artifact : {before : List (Artifact S D P G C)} (x : Artifact S D P G C) → entry x ≡ taken s → Contains record_ x → EverStands attests certifies owner before x
          → (c : Certificate S D P G C) × (certificate_statement c ≡ s) × Contains record_ (certificate_artifact c) × certifies (certificate_statement c) (certified_by c)
      of_artifact (artifact.Notarize v) says in_it fits = absurd (subst IsVote says tt)
      of_artifact (artifact.Notarization c) says in_it fits = (certificate.Notarization c, ap (statement_or s) says, in_it, fits.verifies.verifies)
      of_artifact (artifact.Certification r verdict) says in_it fits = absurd (subst IsVerdict says tt)
      of_artifact (artifact.Nullify v) says in_it fits = absurd (subst IsVote says tt)
      of_artifact (artifact.Nullification c) says in_it fits = (certificate.Nullification c, ap (statement_or s) says, in_it, fits.verifies.verifies)
      of_artifact (artifact.Finalize v) says in_it fits = absurd (subst IsVote says tt)
      of_artifact (artifact.Finalization c) says in_it fits = (certificate.Finalization c, ap (statement_or s) says, in_it, fits.verifies.verifies)
