-- What is kept of a record says which votes may stand behind it.
use Rattle.std.specs.Prelude.{is_some, ◌↔◌, IsTrue, not, ◌&&◌, Contains}
use Rattle.std.specs.BTreeMap.{BTreeMap}
use Rattle.std.specs.declared.cmp.Reverse.{Reverse}
use Rattle.std.proofs.Common.{◌≡◌, inl, inr, ℕ, ◌<◌, nat_eq, Bool, true, false, List, Option, Some, None, refl, sym, ◌∙◌, ap, subst, arith}
use Rattle.std.proofs.lemmas.Bool.{and_parts}
use Rattle.std.proofs.lemmas.Bool.Decides.{nat_tests}
use Rattle.std.proofs.lemmas.Option.{none-some}
use Rattle.types_core.specs.declared.position.Round.{Round}
use Rattle.types_core.specs.declared.proposal.Proposal.{Proposal}
use Rattle.types_core.specs.LatestFirst.{holds, stored}
use Rattle.types_core.specs.Subject.{Statement, notarize, nullify, finalize}
use Rattle.simplex_record.specs.declared.certificates.Certificates.{Certificates}
use Rattle.simplex_record.specs.declared.votes.Votes.{Votes}
use Rattle.simplex_record.specs.Record.{Entry, voted, taken, judged, HasVoted, HasTaken, HasJudged, HasVerdict, HasCertificate, finalizes, last_finalized}
use Rattle.simplex_record.specs.Rules.{AreAlike, HasNoVoteLike}
use Rattle.simplex_record.specs.CheckerState.{KeepsVotes, KeepsCertificates, KeepsVerdicts}
use Rattle.simplex_record.specs.Told.{told, certificate_in, notarized_at, nullified_at, finalized_at, verdict_at}
use Rattle.types_terms.specs.declared.kind.Kind.TheVariants as kind
use Rattle.simplex_record.proofs.Figures.{greatest-at}
use Rattle.simplex_record.proofs.Telling.{is_some-false, is_some-true, some-once, cases_option, told-none, told-some, told-nothing, votes-none, votes-nothing, certificates-none, certificates-nothing, certificates-some, notarize-alike, notarize-none, nullify-alike, nullify-none, finalize-alike, finalize-none, at_same, at_other, of_view}

-- an answer is false just where its negation is true
pub true_not : (b : Bool) → (not b ≡ true) ↔ (b ≡ false)
true_not true = (λ e. sym e, λ e. sym e)
true_not false = (λ e. refl, λ e. refl)

pub false_not : (b : Bool) → not b ≡ false → b ≡ true
false_not true e = refl
false_not false e = sym e

pub true-false : true ≡ false → ⊥
true-false same = absurd (grind (arith, same))

-- what makes true and false one is ruled out
pub unlike : {P : Type 0} → (P → true ≡ false) → (IsTrue false → P) × (P → IsTrue false)
unlike never = (λ t. absurd (true-false (sym t)), λ p. absurd (true-false (never p)))

-- the test of two rounds
pub rounds_eq : (r t : Round) → (◌&&◌ (nat_eq r.epoch t.epoch) (nat_eq r.view t.view)) ≡ true → r ≡ t
rounds_eq r t both =
    let parts = and_parts (nat_eq r.epoch t.epoch) (nat_eq r.view t.view) both in
    let epochs : r.epoch ≡ t.epoch = grind (arith, nat_tests, parts) in
    let views : r.view ≡ t.view = grind (arith, nat_tests, parts) in
    λ i. record { epoch = epochs i; view = views i }

pub eq_rounds : (r t : Round) → r ≡ t → (◌&&◌ (nat_eq r.epoch t.epoch) (nat_eq r.view t.view)) ≡ true
eq_rounds r t same = grind (arith, nat_tests, ap (λ (x : Round). x.epoch) same, ap (λ (x : Round). x.view) same)

module _ {Y : Type 0} where
  -- a set without a view tells nothing of it
  pub absent : (o : Option Y) (kept : Bool) → kept ≡ is_some o → kept ≡ false → o ≡ None
  absent o kept is none = is_some-false o (sym is ∙ none)

  -- and the other way round
  lacks : (o : Option Y) (kept : Bool) → kept ≡ is_some o → o ≡ None → kept ≡ false
  lacks o kept is none = is ∙ ap is_some none

module _ {D : Type 0} (votes : Votes) (before : List (Entry D)) (keeps : KeepsVotes votes before) where
  -- no notarize of the view is kept just where no vote like this one is recorded
  pub no_notarize : (p : Proposal D) → (holds votes.notarizes p.round.view ≡ false) ↔ HasNoVoteLike before (notarize p)
  no_notarize p = (
    λ none. notarize-alike (HasVoted before) p (votes-none (notarized_at p.round.view) before (absent _ _ (keeps.notarizes p.round.view) none)),
    λ never. lacks _ _ (keeps.notarizes p.round.view) (votes-nothing (notarized_at p.round.view) before (notarize-none (HasVoted before) p never)),
  )

  pub no_nullify : (r : Round) → (holds votes.nullifies r.view ≡ false) ↔ HasNoVoteLike before (nullify r)
  no_nullify r = (
    λ none. nullify-alike (HasVoted before) r (votes-none (nullified_at r.view) before (absent _ _ (keeps.nullifies r.view) none)),
    λ never. lacks _ _ (keeps.nullifies r.view) (votes-nothing (nullified_at r.view) before (nullify-none (HasVoted before) r never)),
  )

  pub no_finalize : (p : Proposal D) → (holds votes.finalizes p.round.view ≡ false) ↔ HasNoVoteLike before (finalize p)
  no_finalize p = (
    λ none. finalize-alike (HasVoted before) p (votes-none (finalized_at p.round.view) before (absent _ _ (keeps.finalizes p.round.view) none)),
    λ never. lacks _ _ (keeps.finalizes p.round.view) (votes-nothing (finalized_at p.round.view) before (finalize-none (HasVoted before) p never)),
  )

  -- no finalize of a view is kept just where none is recorded
  pub no_finalize_of : (view : ℕ) → (holds votes.finalizes view ≡ false) ↔ ((p : Proposal D) → p.round.view ≡ view → HasVoted before (finalize p) → ⊥)
  no_finalize_of view = (
    λ none p same here. none-some p (sym (votes-none (finalized_at view) before (absent _ _ (keeps.finalizes view) none) (finalize p) here) ∙ at_same view p.round.view p same),
    λ never. lacks _ _ (keeps.finalizes view) (votes-nothing (finalized_at view) before (none_given never)),
  )
    where
      none_given : {view : ℕ} → ((p : Proposal D) → p.round.view ≡ view → HasVoted before (finalize p) → ⊥) → (s : Statement D) → HasVoted before s → finalized_at view s ≡ None
      none_given {view} never (notarize p) here = refl
      none_given {view} never (nullify r) here = refl
      none_given {view} never (finalize p) here = at_other view p.round.view p (λ same. never p same here)

module _ {D : Type 0} (views : ℕ) (certificates : Certificates D) (before : List (Entry D)) (keeps : KeepsCertificates views certificates before) where
  -- the proposal that is kept as notarized is
  pub notarized_is : (p : Proposal D) → (view : ℕ) → stored certificates.notarizations view ≡ Some p → (p.round.view ≡ view) × HasTaken before (notarize p)
  notarized_is p view kept =
      let found = certificates-some (notarized_at view) before p (sym (keeps.notarizations view) ∙ kept) in
      of_statement found.0 found.1 found.2
    where
      of_statement : (s : Statement D) → HasTaken before s → notarized_at view s ≡ Some p → (p.round.view ≡ view) × HasTaken before (notarize p)
      of_statement (notarize q) here gives =
          let same = of_view view q.round.view q p gives in
          (ap (λ (x : Proposal D). x.round.view) (sym same.1) ∙ same.0, subst (λ (x : Proposal D). HasTaken before (notarize x)) same.1 here)
      of_statement (nullify r) here gives = absurd (none-some p gives)
      of_statement (finalize q) here gives = absurd (none-some p gives)

  -- and what is notarized is kept
  pub notarized_kept : (p : Proposal D) → HasTaken before (notarize p) → stored certificates.notarizations p.round.view ≡ Some p
  notarized_kept p here = elim (cases_option (stored certificates.notarizations p.round.view)) [
    | inl none ↦ absurd (none-some p (sym (certificates-none (notarized_at p.round.view) before (sym (keeps.notarizations p.round.view) ∙ none) (notarize p) here) ∙ at_same p.round.view p.round.view p refl))
    | inr some ↦
        let is = notarized_is some.0 p.round.view some.1 in
        some.1 ∙ ap Some (keeps.one_notarized some.0 p is.0 is.1 here)
  ]

  -- a proposal is kept as notarized of a view just where one of that view is
  pub no_notarization : (p : Proposal D) → (is_some (stored certificates.notarizations p.round.view) ≡ false) ↔ ((t : Statement D) → AreAlike (notarize p) t → HasTaken before t → ⊥)
  no_notarization p = (
    λ none. notarize-alike (HasTaken before) p (certificates-none (notarized_at p.round.view) before (sym (keeps.notarizations p.round.view) ∙ is_some-false _ none)),
    λ never. ap is_some (keeps.notarizations p.round.view ∙ certificates-nothing (notarized_at p.round.view) before (notarize-none (HasTaken before) p never)),
  )

  pub no_nullification : (r : Round) → (holds certificates.nullifications r.view ≡ false) ↔ ((t : Statement D) → AreAlike (nullify r) t → HasTaken before t → ⊥)
  no_nullification r = (
    λ none. nullify-alike (HasTaken before) r (certificates-none (nullified_at r.view) before (absent _ _ (keeps.nullifications r.view) none)),
    λ never. lacks _ _ (keeps.nullifications r.view) (certificates-nothing (nullified_at r.view) before (nullify-none (HasTaken before) r never)),
  )

  pub no_finalization : (p : Proposal D) → (holds certificates.finalizations p.round.view ≡ false) ↔ ((t : Statement D) → AreAlike (finalize p) t → HasTaken before t → ⊥)
  no_finalization p = (
    λ none. finalize-alike (HasTaken before) p (certificates-none (finalized_at p.round.view) before (absent _ _ (keeps.finalizations p.round.view) none)),
    λ never. lacks _ _ (keeps.finalizations p.round.view) (certificates-nothing (finalized_at p.round.view) before (finalize-none (HasTaken before) p never)),
  )

  -- something is told of certificates just where it is given of one
  told_certificate : {Y : Type 0} (f : Statement D → Option Y) → IsTrue (is_some (told (certificate_in f) before)) ↔ ((s : Statement D) × HasTaken before s × IsTrue (is_some (f s)))
  told_certificate f = (
    λ some.
        let y = is_some-true (told (certificate_in f) before) some in
        let found = certificates-some f before y.0 y.1 in
        (found.0, found.1, ap is_some found.2),
    λ found. elim (cases_option (told (certificate_in f) before)) [
      | inl none ↦ absurd (true-false (sym found.2 ∙ ap is_some (certificates-none f before none found.0 found.1)))
      | inr some ↦ ap is_some some.1
    ],
  )

  -- a certificate of a kind and view is kept just where it is recorded
  pub kept_notarization : (view : ℕ) → IsTrue (is_some (stored certificates.notarizations view)) ↔ HasCertificate before kind.Notarization view
  kept_notarization view =
      let told_so = told_certificate (notarized_at view) in (
        λ some. let found = told_so.0 (sym (ap is_some (keeps.notarizations view)) ∙ some) in of_statement found.0 found.1 found.2,
        λ has. ap is_some (keeps.notarizations view) ∙ told_so.1 (notarize has.0, has.2, ap is_some (at_same view has.0.round.view has.0 has.1)),
      )
    where
      of_statement : (s : Statement D) → HasTaken before s → IsTrue (is_some (notarized_at view s)) → HasCertificate before kind.Notarization view
      of_statement (notarize p) here some = let y = is_some-true (notarized_at view (notarize p)) some in (p, (of_view view p.round.view p y.0 y.1).0, here)
      of_statement (nullify r) here some = absurd (true-false (sym some))
      of_statement (finalize p) here some = absurd (true-false (sym some))

  pub kept_nullification : (view : ℕ) → IsTrue (holds certificates.nullifications view) ↔ HasCertificate before kind.Nullification view
  kept_nullification view =
      let told_so = told_certificate (nullified_at view) in (
        λ some. let found = told_so.0 (sym (keeps.nullifications view) ∙ some) in of_statement found.0 found.1 found.2,
        λ has. keeps.nullifications view ∙ told_so.1 (nullify has.0, has.2, ap is_some (at_same view has.0.view has.0 has.1)),
      )
    where
      of_statement : (s : Statement D) → HasTaken before s → IsTrue (is_some (nullified_at view s)) → HasCertificate before kind.Nullification view
      of_statement (notarize p) here some = absurd (true-false (sym some))
      of_statement (nullify r) here some = let y = is_some-true (nullified_at {D = D} view (nullify r)) some in (r, (of_view view r.view r y.0 y.1).0, here)
      of_statement (finalize p) here some = absurd (true-false (sym some))

  pub kept_finalization : (view : ℕ) → IsTrue (holds certificates.finalizations view) ↔ HasCertificate before kind.Finalization view
  kept_finalization view =
      let told_so = told_certificate (finalized_at view) in (
        λ some. let found = told_so.0 (sym (keeps.finalizations view) ∙ some) in of_statement found.0 found.1 found.2,
        λ has. keeps.finalizations view ∙ told_so.1 (finalize has.0, has.2, ap is_some (at_same view has.0.round.view has.0 has.1)),
      )
    where
      of_statement : (s : Statement D) → HasTaken before s → IsTrue (is_some (finalized_at view s)) → HasCertificate before kind.Finalization view
      of_statement (notarize p) here some = absurd (true-false (sym some))
      of_statement (nullify r) here some = absurd (true-false (sym some))
      of_statement (finalize p) here some = let y = is_some-true (finalized_at view (finalize p)) some in (p, (of_view view p.round.view p y.0 y.1).0, here)

  -- where a proposal is kept, one of this round is notarized just where it is of this round
  pub notarized_of : (r : Round) (p : Proposal D) → stored certificates.notarizations r.view ≡ Some p → (p.round ≡ r) ↔ ((q : Proposal D) × (q.round ≡ r) × HasTaken before (notarize q))
  notarized_of r p kept = (
    λ same. (p, same, (notarized_is p r.view kept).1),
    λ q. ap (λ (x : Proposal D). x.round) (some-once p q.0 (sym kept ∙ ap (λ (x : Round). stored certificates.notarizations x.view) (sym q.1) ∙ notarized_kept q.0 q.2)) ∙ q.1,
  )

  -- and where none is kept, none is
  pub none_notarized : (r : Round) → stored certificates.notarizations r.view ≡ None → ((q : Proposal D) × (q.round ≡ r) × HasTaken before (notarize q)) → true ≡ false
  none_notarized r none q = absurd (none-some q.0 (sym none ∙ ap (λ (x : Round). stored certificates.notarizations x.view) (sym q.1) ∙ notarized_kept q.0 q.2))

module _ {D : Type 0} (map : BTreeMap (Reverse ℕ) Bool) (before : List (Entry D)) (keeps : KeepsVerdicts map before) where
  -- no verdict is kept of a view just where none is recorded
  pub no_verdict : (r : Round) → (is_some (stored map r.view) ≡ false) ↔ ((t : Round) (verdict : Bool) → t.view ≡ r.view → HasJudged before t verdict → ⊥)
  no_verdict r = (
    λ none t verdict same here. none-some verdict (sym (told-none (verdict_at r.view) before (sym (keeps.verdicts r.view) ∙ is_some-false _ none) (judged t verdict) here) ∙ at_same r.view t.view verdict same),
    λ never. ap is_some (keeps.verdicts r.view ∙ told-nothing (verdict_at r.view) before (λ verdict given. of_entry r never verdict given.x given.there given.gives)),
  )
    where
      of_entry : (r : Round) → ((t : Round) (verdict : Bool) → t.view ≡ r.view → HasJudged before t verdict → ⊥) → (verdict : Bool) (e : Entry D) → Contains before e → verdict_at r.view e ≡ Some verdict → ⊥
      of_entry r never verdict (voted s) here gives = none-some verdict gives
      of_entry r never verdict (taken s) here gives = none-some verdict gives
      of_entry r never verdict (judged t other) here gives = never t other (of_view r.view t.view other verdict gives).0 here

  -- a verdict is kept of a view just where it is recorded
  pub kept_verdict : (view : ℕ) (verdict : Bool) → (stored map view ≡ Some verdict) ↔ HasVerdict before view verdict
  kept_verdict view verdict = (
    λ kept. let given = told-some (verdict_at view) before verdict (sym (keeps.verdicts view) ∙ kept) in of_verdict view verdict given.x given.there given.gives,
    λ some. elim (cases_option (stored map view)) [
      | inl none ↦ absurd (none-some verdict (sym (told-none (verdict_at view) before (sym (keeps.verdicts view) ∙ none) (judged some.0 verdict) some.2) ∙ at_same view some.0.view verdict some.1))
      | inr other ↦
          let given = told-some (verdict_at view) before other.0 (sym (keeps.verdicts view) ∙ other.1) in
          let found = of_verdict view other.0 given.x given.there given.gives in
          other.1 ∙ ap Some (keeps.one_verdict found.0 some.0 other.0 verdict (found.1 ∙ sym some.1) found.2 some.2)
    ],
  )
    where
      of_verdict : (view : ℕ) (verdict : Bool) (e : Entry D) → Contains before e → verdict_at view e ≡ Some verdict → HasVerdict before view verdict
      of_verdict view verdict (voted s) here gives = absurd (none-some verdict gives)
      of_verdict view verdict (taken s) here gives = absurd (none-some verdict gives)
      of_verdict view verdict (judged t other) here gives =
          let same = of_view view t.view other verdict gives in
          (t, same.0, subst (λ (v : Bool). HasJudged before t v) same.1 here)

  -- a true one too
  pub true_verdict : (view : ℕ) → (stored map view ≡ Some true) ↔ HasVerdict before view true
  true_verdict view = kept_verdict view true

module _ {D : Type 0} where
  -- a finalization above the last finalized view is none
  pub none_above : (before : List (Entry D)) (p q : Proposal D) → last_finalized before < p.round.view → q.round.view ≡ p.round.view → HasTaken before (finalize q) → ⊥
  none_above before p q above same here = absurd (omega (arith, above, same, greatest-at 0 finalizes before (taken (finalize q)) here))
