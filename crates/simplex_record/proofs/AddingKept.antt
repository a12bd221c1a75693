-- What is kept of a record stays what its entries tell when one more entry stands behind them.
use Rattle.std.specs.Prelude.{◌↔◌, ⊤}
use Rattle.std.specs.BTreeMap.{BTreeMap}
use Rattle.std.specs.BTreeSet.{BTreeSet}
use Rattle.std.specs.List.{Contains}
use Rattle.std.specs.Ordering.{nat_cmp, ord_max}
use Rattle.std.specs.declared.cmp.Reverse.{Reverse}
use Rattle.std.proofs.Common.{◌≡◌, ◌⊎◌, inl, inr, ⊎_elim, ℕ, ◌≤◌, ◌<◌, max, Bool, List, [], ◌∷◌, ◌++◌, Option, None, Some, refl, sym, ◌∙◌, ap, subst, arith}
use Rattle.std.proofs.lemmas.Bool.Decides.{nat_tests}
use Rattle.std.proofs.lemmas.List.Elements.{Contains-append_left, Contains-push, Contains-push_cases}
use Rattle.std.proofs.lemmas.Option.{none-some}
use Rattle.types_core.specs.declared.position.Round.{Round}
use Rattle.types_core.specs.declared.proposal.Proposal.{Proposal}
use Rattle.types_core.specs.LatestFirst.{Adds, Stores}
use Rattle.types_core.specs.Positions.{HasRoom, InCoveringRange, term_end}
use Rattle.types_core.specs.Subject.{Statement, notarize, nullify, finalize, statement_round}
use Rattle.simplex_record.specs.declared.certificates.Certificates.{Certificates}
use Rattle.simplex_record.specs.declared.standing.Standing.{Standing}
use Rattle.simplex_record.specs.declared.votes.Votes.{Votes}
use Rattle.simplex_record.specs.Coverage as coverage
use Rattle.simplex_record.specs.Record.{Entry, voted, taken, judged, HasTaken, HasJudged, IsCovered, finalizes, enters}
use Rattle.simplex_record.specs.Rules.{AreAlike, MayTake, MayJudge}
use Rattle.simplex_record.specs.CheckerState.{KeepsVotes, KeepsCertificates, KeepsVerdicts, KeepsViews}
use Rattle.simplex_record.specs.Told.{told, notarized_at, nullified_at, finalized_at, vote_in, certificate_in, verdict_at}
use Rattle.simplex_record.specs.Spans.{covers-span}
use Rattle.simplex_record.proofs.AddingTold.{greatest-push, greatest-same, KeepsSet-same, KeepsSet-push, KeepsMap-same, KeepsMap-push}
use Rattle.simplex_record.proofs.Member.{IsVote}
use Rattle.simplex_record.proofs.Telling.{told-nothing, of_view, certificates-nothing, notarize-none}

-- ---- votes

module _ {D : Type 0} where
  -- of an entry that is no vote nothing is given
  vote_in-none : {Y : Type 0} (f : Statement D → Option Y) (x : Entry D) → (IsVote x → ⊥) → vote_in f x ≡ None
  vote_in-none f (voted s) never = absurd (never tt)
  vote_in-none f (taken s) never = refl
  vote_in-none f (judged r verdict) never = refl

module _ {D : Type 0} (votes : Votes) (before : List (Entry D)) (keeps : KeepsVotes votes before) where
  -- the votes stay where the new entry is none
  pub KeepsVotes-same : (x : Entry D) → (IsVote x → ⊥) → KeepsVotes votes (before ++ x ∷ [])
  KeepsVotes-same x never = record {
    notarizes = KeepsSet-same (λ view. vote_in (notarized_at view)) before x votes.notarizes (λ view. vote_in-none (notarized_at view) x never) keeps.notarizes;
    nullifies = KeepsSet-same (λ view. vote_in (nullified_at view)) before x votes.nullifies (λ view. vote_in-none (nullified_at view) x never) keeps.nullifies;
    finalizes = KeepsSet-same (λ view. vote_in (finalized_at view)) before x votes.finalizes (λ view. vote_in-none (finalized_at view) x never) keeps.finalizes;
  }

  module _ (new : BTreeSet (Reverse ℕ)) where
    -- a vote adds its view to those of its kind
    pub KeepsVotes-notarize : (p : Proposal D) → Adds votes.notarizes new p.round.view → KeepsVotes (record votes { notarizes = new }) (before ++ voted (notarize p) ∷ [])
    KeepsVotes-notarize p inserts = record {
      notarizes = KeepsSet-push (λ view. vote_in (notarized_at view)) before (voted (notarize p)) p.round.view p (λ view. refl) votes.notarizes new inserts keeps.notarizes;
      nullifies = KeepsSet-same (λ view. vote_in (nullified_at view)) before (voted (notarize p)) votes.nullifies (λ view. refl) keeps.nullifies;
      finalizes = KeepsSet-same (λ view. vote_in (finalized_at view)) before (voted (notarize p)) votes.finalizes (λ view. refl) keeps.finalizes;
    }

    pub KeepsVotes-nullify : (r : Round) → Adds votes.nullifies new r.view → KeepsVotes (record votes { nullifies = new }) (before ++ voted (nullify r) ∷ [])
    KeepsVotes-nullify r inserts = record {
      notarizes = KeepsSet-same (λ view. vote_in (notarized_at view)) before (voted (nullify r)) votes.notarizes (λ view. refl) keeps.notarizes;
      nullifies = KeepsSet-push (λ view. vote_in (nullified_at view)) before (voted (nullify r)) r.view r (λ view. refl) votes.nullifies new inserts keeps.nullifies;
      finalizes = KeepsSet-same (λ view. vote_in (finalized_at view)) before (voted (nullify r)) votes.finalizes (λ view. refl) keeps.finalizes;
    }

    pub KeepsVotes-finalize : (p : Proposal D) → Adds votes.finalizes new p.round.view → KeepsVotes (record votes { finalizes = new }) (before ++ voted (finalize p) ∷ [])
    KeepsVotes-finalize p inserts = record {
      notarizes = KeepsSet-same (λ view. vote_in (notarized_at view)) before (voted (finalize p)) votes.notarizes (λ view. refl) keeps.notarizes;
      nullifies = KeepsSet-same (λ view. vote_in (nullified_at view)) before (voted (finalize p)) votes.nullifies (λ view. refl) keeps.nullifies;
      finalizes = KeepsSet-push (λ view. vote_in (finalized_at view)) before (voted (finalize p)) p.round.view p (λ view. refl) votes.finalizes new inserts keeps.finalizes;
    }

-- ---- certificates

module _ {D : Type 0} where
  -- an entry is a certificate
  abbrev pub IsTaken : Entry D → Type 0
  IsTaken (voted s) = ⊥
  IsTaken (taken s) = ⊤
  IsTaken (judged r verdict) = ⊥

  -- of an entry that is no certificate nothing is given
  certificate_in-none : {Y : Type 0} (f : Statement D → Option Y) (x : Entry D) → (IsTaken x → ⊥) → certificate_in f x ≡ None
  certificate_in-none f (voted s) never = refl
  certificate_in-none f (taken s) never = absurd (never tt)
  certificate_in-none f (judged r verdict) never = refl

  -- no two proposals of a view are notarized
  abbrev HasOneNotarized : List (Entry D) → Type 0
  HasOneNotarized before = (p q : Proposal D) → p.round.view ≡ q.round.view → HasTaken before (notarize p) → HasTaken before (notarize q) → p ≡ q

  -- each certificate's view has room
  abbrev HaveRoom : ℕ → List (Entry D) → Type 0
  HaveRoom views before = (s : Statement D) → HasTaken before s → HasRoom views (statement_round s).view

module _ {D : Type 0} (before : List (Entry D)) (x : Entry D) where
  -- a certificate that isn't the new entry was taken before
  HasTaken-before : (s : Statement D) → (x ≡ taken s → ⊥) → HasTaken (before ++ x ∷ []) s → HasTaken before s
  HasTaken-before s never here = ⊎_elim (λ earlier. earlier) (λ new. absurd (never new)) (Contains-push_cases before x (taken s) here)

  -- the covered views stay where the new entry is no nullification
  IsCovered-same : (views : ℕ) → ((r : Round) → x ≡ taken (nullify r) → ⊥) → (view : ℕ) → IsCovered views before view ↔ IsCovered views (before ++ x ∷ []) view
  IsCovered-same views never view = (
    λ (r, range, here). (r, range, Contains-append_left before (x ∷ []) (taken (nullify r)) here),
    λ (r, range, here). (r, range, HasTaken-before (nullify r) (never r) here),
  )

  -- no two proposals of a view are notarized where the new entry is no notarization
  one_notarized-same : ((p : Proposal D) → x ≡ taken (notarize p) → ⊥) → HasOneNotarized before → HasOneNotarized (before ++ x ∷ [])
  one_notarized-same never one p q same here there = one p q same (HasTaken-before (notarize p) (never p) here) (HasTaken-before (notarize q) (never q) there)

  -- each view has room where that of the new entry has
  room-push : (views : ℕ) → ((s : Statement D) → x ≡ taken s → HasRoom views (statement_round s).view) → HaveRoom views before → HaveRoom views (before ++ x ∷ [])
  room-push views of_new room s here = ⊎_elim (room s) (of_new s) (Contains-push_cases before x (taken s) here)

module _ {D : Type 0} (views : ℕ) (before : List (Entry D)) where
  -- a nullification covers the views from its own to the end of its term
  IsCovered-push : (r : Round) → 0 < views → 1 ≤ r.view → (view : ℕ) → 1 ≤ view → (IsCovered views before view ⊎ coverage.LiesIn (r.view, term_end views r.view) view) ↔ IsCovered views (before ++ taken (nullify r) ∷ []) view
  IsCovered-push r some from_one view view_from_one =
      let spans = covers-span views view r.view some in (
        λ covered. ⊎_elim
            (λ (was : IsCovered views before view). (was.0, was.1, Contains-append_left before (taken (nullify r) ∷ []) (taken (nullify was.0)) was.2))
            (λ lies. (r, spans.0 lies, Contains-push before (taken (nullify r))))
            covered,
        λ (t, range, here). ⊎_elim
            (λ earlier. inl (t, range, earlier))
            (λ new. inr (spans.1 (subst (λ (u : Round). InCoveringRange views view u.view) (sym (nullify-once t new)) range)))
            (Contains-push_cases before (taken (nullify r)) (taken (nullify t)) here),
      )
    where
      nullify-once : (t : Round) → ◌≡◌ {A = Entry D} (taken (nullify r)) (taken (nullify t)) → r ≡ t
      nullify-once t new = cc

  -- a notarization of a view that has none yet is the only one
  one_notarized-push : (p : Proposal D) → ((t : Statement D) → AreAlike (notarize p) t → HasTaken before t → ⊥) → HasOneNotarized before → HasOneNotarized (before ++ taken (notarize p) ∷ [])
  one_notarized-push p first one q other same here there = elim (pushed q here) [
    | inl q_before ↦ elim (pushed other there) [
      | inl other_before ↦ one q other same q_before other_before
      | inr other_new ↦ absurd (first (notarize q) (ap (λ (z : Proposal D). z.round.view) other_new ∙ sym same) q_before)
    ]
    | inr q_new ↦ elim (pushed other there) [
      | inl other_before ↦ absurd (first (notarize other) (ap (λ (z : Proposal D). z.round.view) q_new ∙ same) other_before)
      | inr other_new ↦ sym q_new ∙ other_new
    ]
  ]
    where
      notarize-once : (q : Proposal D) → taken (notarize p) ≡ taken (notarize q) → p ≡ q
      notarize-once q new = cc

      pushed : (q : Proposal D) → HasTaken (before ++ taken (notarize p) ∷ []) (notarize q) → HasTaken before (notarize q) ⊎ (p ≡ q)
      pushed q here = ⊎_elim inl (λ new. inr (notarize-once q new)) (Contains-push_cases before (taken (notarize p)) (taken (notarize q)) here)

  -- what may be taken has room
  room-new : (s : Statement D) → MayTake views before s → (t : Statement D) → taken s ≡ taken t → HasRoom views (statement_round t).view
  room-new s may t is = subst (λ (u : Statement D). HasRoom views (statement_round u).view) (taken-once t is) may.room
    where
      taken-once : (t : Statement D) → taken s ≡ taken t → s ≡ t
      taken-once t is = cc

module _ {D : Type 0} (views : ℕ) (certificates : Certificates D) (before : List (Entry D)) (keeps : KeepsCertificates views certificates before) where
  -- the spans stay right where the new entry is no nullification
  covered-same : (x : Entry D) → ((r : Round) → x ≡ taken (nullify r) → ⊥) → (view : ℕ) → 1 ≤ view → coverage.IsCovered certificates.covered view ↔ IsCovered views (before ++ x ∷ []) view
  covered-same x never view from_one =
      let kept = keeps.covered view from_one in
      let same = IsCovered-same before x views never view in
      (λ covered. same.0 (kept.0 covered), λ covered. kept.1 (same.1 covered))

  -- the certificates stay where the new entry is none
  pub KeepsCertificates-same : (x : Entry D) → (IsTaken x → ⊥) → KeepsCertificates views certificates (before ++ x ∷ [])
  KeepsCertificates-same x never = record {
    notarizations = KeepsMap-same (λ view. certificate_in (notarized_at view)) before x certificates.notarizations (λ view. certificate_in-none (notarized_at view) x never) keeps.notarizations;
    nullifications = KeepsSet-same (λ view. certificate_in (nullified_at view)) before x certificates.nullifications (λ view. certificate_in-none (nullified_at view) x never) keeps.nullifications;
    finalizations = KeepsSet-same (λ view. certificate_in (finalized_at view)) before x certificates.finalizations (λ view. certificate_in-none (finalized_at view) x never) keeps.finalizations;
    covered = covered-same x (λ r. is_none (nullify r));
    one_notarized = one_notarized-same before x (λ p. is_none (notarize p)) keeps.one_notarized;
    room = room-push before x views (λ s is. absurd (is_none s is)) keeps.room;
  }
    where
      is_none : (s : Statement D) → x ≡ taken s → ⊥
      is_none s is = never (subst IsTaken (sym is) tt)

  -- a notarization adds its proposal
  pub KeepsCertificates-notarize : (p : Proposal D) → MayTake views before (notarize p) → (new : BTreeMap (Reverse ℕ) (Proposal D)) → Stores certificates.notarizations new p.round.view (Some p)
      → KeepsCertificates views (record certificates { notarizations = new }) (before ++ taken (notarize p) ∷ [])
  KeepsCertificates-notarize p may new inserts = record {
    notarizations = KeepsMap-push (λ view. certificate_in (notarized_at view)) before (taken (notarize p)) p.round.view p (λ view. refl) certificates.notarizations new untold inserts keeps.notarizations;
    nullifications = KeepsSet-same (λ view. certificate_in (nullified_at view)) before (taken (notarize p)) certificates.nullifications (λ view. refl) keeps.nullifications;
    finalizations = KeepsSet-same (λ view. certificate_in (finalized_at view)) before (taken (notarize p)) certificates.finalizations (λ view. refl) keeps.finalizations;
    covered = covered-same (taken (notarize p)) (λ r is. cc);
    one_notarized = one_notarized-push views before p may.first keeps.one_notarized;
    room = room-push before (taken (notarize p)) views (room-new views before (notarize p) may) keeps.room;
  }
    where
      untold : told (certificate_in (notarized_at p.round.view)) before ≡ None
      untold = certificates-nothing (notarized_at p.round.view) before (notarize-none (HasTaken before) p may.first)

  -- a nullification adds its view to those that are nullified, and the rest of the term to those that are covered
  pub KeepsCertificates-nullify : (r : Round) → 0 < views → MayTake views before (nullify r) → (new : BTreeSet (Reverse ℕ)) (spans : List (ℕ × ℕ)) → Adds certificates.nullifications new r.view
      → ((view : ℕ) → coverage.IsCovered spans view ↔ (coverage.IsCovered certificates.covered view ⊎ coverage.LiesIn (r.view, term_end views r.view) view))
      → KeepsCertificates views (record certificates { nullifications = new; covered = spans }) (before ++ taken (nullify r) ∷ [])
  KeepsCertificates-nullify r some may new spans inserts covers = record {
    notarizations = KeepsMap-same (λ view. certificate_in (notarized_at view)) before (taken (nullify r)) certificates.notarizations (λ view. refl) keeps.notarizations;
    nullifications = KeepsSet-push (λ view. certificate_in (nullified_at view)) before (taken (nullify r)) r.view r (λ view. refl) certificates.nullifications new inserts keeps.nullifications;
    finalizations = KeepsSet-same (λ view. certificate_in (finalized_at view)) before (taken (nullify r)) certificates.finalizations (λ view. refl) keeps.finalizations;
    covered = covered_push;
    one_notarized = one_notarized-same before (taken (nullify r)) (λ p is. cc) keeps.one_notarized;
    room = room-push before (taken (nullify r)) views (room-new views before (nullify r) may) keeps.room;
  }
    where
      covered_push : (view : ℕ) → 1 ≤ view → coverage.IsCovered spans view ↔ IsCovered views (before ++ taken (nullify r) ∷ []) view
      covered_push view from_one =
          let kept = keeps.covered view from_one in
          let pushed = IsCovered-push views before r some may.from_one view from_one in (
            λ covered. pushed.0 (⊎_elim (λ was. inl (kept.0 was)) inr ((covers view).0 covered)),
            λ covered. (covers view).1 (⊎_elim (λ was. inl (kept.1 was)) inr (pushed.1 covered)),
          )

  -- a finalization adds its view
  pub KeepsCertificates-finalize : (p : Proposal D) → MayTake views before (finalize p) → (new : BTreeSet (Reverse ℕ)) → Adds certificates.finalizations new p.round.view
      → KeepsCertificates views (record certificates { finalizations = new }) (before ++ taken (finalize p) ∷ [])
  KeepsCertificates-finalize p may new inserts = record {
    notarizations = KeepsMap-same (λ view. certificate_in (notarized_at view)) before (taken (finalize p)) certificates.notarizations (λ view. refl) keeps.notarizations;
    nullifications = KeepsSet-same (λ view. certificate_in (nullified_at view)) before (taken (finalize p)) certificates.nullifications (λ view. refl) keeps.nullifications;
    finalizations = KeepsSet-push (λ view. certificate_in (finalized_at view)) before (taken (finalize p)) p.round.view p (λ view. refl) certificates.finalizations new inserts keeps.finalizations;
    covered = covered-same (taken (finalize p)) (λ r is. cc);
    one_notarized = one_notarized-same before (taken (finalize p)) (λ q is. cc) keeps.one_notarized;
    room = room-push before (taken (finalize p)) views (room-new views before (finalize p) may) keeps.room;
  }

-- ---- verdicts

module _ {D : Type 0} where
  -- an entry is a verdict
  abbrev pub IsJudged : Entry D → Type 0
  IsJudged (voted s) = ⊥
  IsJudged (taken s) = ⊥
  IsJudged (judged r verdict) = ⊤

  -- an entry that is no verdict is none of any view
  verdict_at-none : (view : ℕ) (x : Entry D) → (IsJudged x → ⊥) → verdict_at view x ≡ None
  verdict_at-none view (voted s) never = refl
  verdict_at-none view (taken s) never = refl
  verdict_at-none view (judged r verdict) never = absurd (never tt)

module _ {D : Type 0} (map : BTreeMap (Reverse ℕ) Bool) (before : List (Entry D)) (keeps : KeepsVerdicts map before) where
  -- the verdicts stay where the new entry is none
  pub KeepsVerdicts-same : (x : Entry D) → (IsJudged x → ⊥) → KeepsVerdicts map (before ++ x ∷ [])
  KeepsVerdicts-same x never = record {
    verdicts = KeepsMap-same verdict_at before x map (λ view. verdict_at-none view x never) keeps.verdicts;
    one_verdict = λ r t this that same here there. keeps.one_verdict r t this that same (was_before r this here) (was_before t that there);
  }
    where
      was_before : (r : Round) (verdict : Bool) → HasJudged (before ++ x ∷ []) r verdict → HasJudged before r verdict
      was_before r verdict here = ⊎_elim (λ earlier. earlier) (λ new. absurd (never (subst IsJudged (sym new) tt))) (Contains-push_cases before x (judged r verdict) here)

  -- a verdict on a view that has none yet is added
  pub KeepsVerdicts-judge : (r : Round) (verdict : Bool) → MayJudge before r → (new : BTreeMap (Reverse ℕ) Bool) → Stores map new r.view (Some verdict) → KeepsVerdicts new (before ++ judged r verdict ∷ [])
  KeepsVerdicts-judge r verdict may new inserts = record {
    verdicts = KeepsMap-push verdict_at before (judged r verdict) r.view verdict (λ view. refl) map new untold inserts keeps.verdicts;
    one_verdict = λ t u this that same here there. elim (pushed t this here) [
      | inl t_before ↦ elim (pushed u that there) [
        | inl u_before ↦ keeps.one_verdict t u this that same t_before u_before
        | inr u_new ↦ absurd (may.first t this (same ∙ u_new.0) t_before)
      ]
      | inr t_new ↦ elim (pushed u that there) [
        | inl u_before ↦ absurd (may.first u that (sym same ∙ t_new.0) u_before)
        | inr u_new ↦ t_new.1 ∙ sym u_new.1
      ]
    ];
  }
    where
      judged-once : (t : Round) (this : Bool) → ◌≡◌ {A = Entry D} (judged r verdict) (judged t this) → (t.view ≡ r.view) × (this ≡ verdict)
      judged-once t this is =
          let round : t ≡ r = cc in
          let one : this ≡ verdict = cc in
          (ap (λ (z : Round). z.view) round, one)

      pushed : (t : Round) (this : Bool) → HasJudged (before ++ judged r verdict ∷ []) t this → HasJudged before t this ⊎ ((t.view ≡ r.view) × (this ≡ verdict))
      pushed t this here = ⊎_elim inl (λ new. inr (judged-once t this new)) (Contains-push_cases before (judged r verdict) (judged t this) here)

      none_given : (y : Bool) (x : Entry D) → Contains before x → verdict_at r.view x ≡ Some y → ⊥
      none_given y (voted s) here gives = none-some y gives
      none_given y (taken s) here gives = none-some y gives
      none_given y (judged t this) here gives = may.first t this (of_view r.view t.view this y gives).0 here

      untold : told (verdict_at r.view) before ≡ None
      untold = told-nothing (verdict_at r.view) before (λ y g. none_given y g.x g.there g.gives)

-- ---- all that is kept

-- what `max` gives of two numbers is the greater
pub greater : (a b m : ℕ) → m ≡ ord_max nat_cmp a b → m ≡ max a b
greater a b m is = grind (arith, nat_tests, is)

module _ {D : Type 0} (views : ℕ) (standing : Standing D) (before : List (Entry D)) (keeps : KeepsViews views standing before) where
  -- a vote changes nothing but the votes
  pub KeepsViews-voted : (s : Statement D) (votes : Votes) → KeepsVotes votes (before ++ voted s ∷ []) → KeepsViews views (record standing { votes = votes }) (before ++ voted s ∷ [])
  KeepsViews-voted s votes kept = record {
    votes = kept;
    certificates = KeepsCertificates-same views standing.certificates before keeps.certificates (voted s) (λ never. never);
    verdicts = KeepsVerdicts-same standing.verdicts before keeps.verdicts (voted s) (λ never. never);
    last_finalized = keeps.last_finalized ∙ sym (greatest-same 0 finalizes before (voted s) (omega arith));
    current_view = keeps.current_view ∙ sym (greatest-same 1 (enters views) before (voted s) (omega arith));
  }

  -- a certificate changes neither the votes nor the verdicts
  pub KeepsViews-taken : (s : Statement D) (certificates : Certificates D) (last current : ℕ) → KeepsCertificates views certificates (before ++ taken s ∷ [])
      → last ≡ max standing.last_finalized (finalizes (taken s)) → current ≡ max standing.current_view (enters views (taken s))
      → KeepsViews views (record standing { certificates = certificates; last_finalized = last; current_view = current }) (before ++ taken s ∷ [])
  KeepsViews-taken s certificates last current kept last_is current_is = record {
    votes = KeepsVotes-same standing.votes before keeps.votes (taken s) (λ never. never);
    certificates = kept;
    verdicts = KeepsVerdicts-same standing.verdicts before keeps.verdicts (taken s) (λ never. never);
    last_finalized = omega (arith, last_is, keeps.last_finalized, greatest-push 0 finalizes before (taken s));
    current_view = omega (arith, current_is, keeps.current_view, greatest-push 1 (enters views) before (taken s));
  }

  -- a verdict changes the verdicts and the current view
  pub KeepsViews-judged : (r : Round) (verdict : Bool) (verdicts : BTreeMap (Reverse ℕ) Bool) (current : ℕ) → KeepsVerdicts verdicts (before ++ judged r verdict ∷ [])
      → current ≡ max standing.current_view (enters {D = D} views (judged r verdict))
      → KeepsViews views (record standing { verdicts = verdicts; current_view = current }) (before ++ judged r verdict ∷ [])
  KeepsViews-judged r verdict verdicts current kept current_is = record {
    votes = KeepsVotes-same standing.votes before keeps.votes (judged r verdict) (λ never. never);
    certificates = KeepsCertificates-same views standing.certificates before keeps.certificates (judged r verdict) (λ never. never);
    verdicts = kept;
    last_finalized = keeps.last_finalized ∙ sym (greatest-same 0 finalizes before (judged r verdict) (omega arith));
    current_view = omega (arith, current_is, keeps.current_view, greatest-push 1 (enters views) before (judged r verdict));
  }
