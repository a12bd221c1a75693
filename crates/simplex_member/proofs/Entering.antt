-- Each certificate that the voter has of a view came to it: so the best one to enter a view by is recorded.
use Rattle.std.proofs.Common.{◌≡◌, ◌⊎◌, inl, inr, ⊎_elim, ℕ, zero, suc, ◌==◌, Bool, true, false, List, [], ◌∷◌, ◌++◌, Option, Some, None, refl, sym, ◌∙◌, ap, subst}
use Rattle.std.specs.Prelude.{Contains, ◌+◌, ◌-◌, ◌&&◌, if◌then◌else◌, nat_le, nat_lt, option_map, unwrap_or}
use Rattle.std.specs.Option.{option_or}
use Rattle.std.proofs.lemmas.Option.{none-some}
use Rattle.std.proofs.lemmas.List.Elements.{Contains-append_cases}
use Rattle.types_quorum.specs.Counting.{Contains-cases, Contains-head, Contains-nil, Contains-rest}
use Rattle.types_core.specs.Positions.{term_end, term_start}
use Rattle.messages_certificates.specs.declared.artifact.Artifact.{Artifact}
use Rattle.messages_certificates.specs.declared.artifact.Artifact.TheVariants as artifact
use Rattle.messages_certificates.specs.declared.certificate.Certificate.{Certificate}
use Rattle.messages_certificates.specs.declared.certificate.Certificate.TheVariants as certificate
use Rattle.messages_certificates.specs.declared.nullification.Nullification.{Nullification}
use Rattle.messages_certificates.specs.Artifact.{certificate_artifact}
use Rattle.messages_certificates.specs.ProposalCertificate.{Notarization, Finalization}
use Rattle.simplex_messages.specs.declared.vote.Vote.{Vote}
use Rattle.simplex_messages.specs.declared.vote.Vote.TheVariants as vote
use Rattle.types_terms.specs.declared.kind.Kind.TheVariants as kind
use Rattle.voter_history.specs.declared.timeout_reason.TimeoutReason.TheVariants as reason
use Rattle.voter_history.specs.Held as offer
use Rattle.voter_history.specs.History as views
use Rattle.voter_history.specs.History.{current, later, last_finalized, min_active, seen}
use Rattle.voter_history.specs.Past as past
use Rattle.voter_rules.specs.Answers.{best_certificate, covering_nullification, entry_certificate, last_of}
use Rattle.voter_rules.specs.Building.{proposal_on}
use Rattle.simplex_member.specs.Layers.{casts, finalizes_above, finds, latest, reason_of, takes_certificate, takes_outcome, voter_of, voter_points}
use Rattle.simplex_member.specs.Point.{Outcome, Counts, Falls, Passes, Point, Opened, Found, Began, Came, Built, Checked, Judged, Forwards, Constructs, Latches, Polls, AsksBuild, AsksVerify, AsksCertify, GivesBack, PutsOff, Resolves, Votes, Repeats, Rewrote, History}
use Rattle.simplex_member.specs.Recorded.{record_of, recorded_by}
use Rattle.simplex_member.specs.Setup.{Setup}
use Rattle.simplex_member.proofs.Lists.{put-before, put-here, some-is}
use Rattle.simplex_member.proofs.Seeing.{AreGood, Enters, Puts, good-at, good-weaker, seen-good}

pub or-cases : {X : Type 0} (a b : Option X) (x : X) → option_or a b ≡ Some x → (a ≡ Some x) ⊎ (b ≡ Some x)
or-cases None b x is = inr is
or-cases (Some y) b x is = inl is

pub record IsMapped {X Y : Type 0} (k : X → Y) (o : Option X) (y : Y) : Type 0 where
  pub x : X
  pub is : o ≡ Some x
  pub gives : k x ≡ y

pub mapped : {X Y : Type 0} (k : X → Y) (o : Option X) (y : Y) → option_map k o ≡ Some y → IsMapped k o y
mapped k None y is = absurd (none-some y is)
mapped k (Some x) y is = record { x = x; is = refl; gives = some-is (k x) y is }

module _ {S D P G C : Type 0} where
  -- the certificate that an item of a view is, and the one that a point of the voter's is
  abbrev item_certificate : past.Item S D P G C → Option (Certificate S D P G C)
  item_certificate (past.notarized c) = Some (certificate.Notarization c)
  item_certificate (past.nullified c) = Some (certificate.Nullification c)
  item_certificate (past.finalized c) = Some (certificate.Finalization c)
  item_certificate x = None

  abbrev point_certificate : views.Point S D P G C → Option (Certificate S D P G C)
  point_certificate (views.notarized c) = Some (certificate.Notarization c)
  point_certificate (views.nullified now c) = Some (certificate.Nullification c)
  point_certificate (views.finalized now c) = Some (certificate.Finalization c)
  point_certificate p = None

  -- it came to the voter
  abbrev Brought : List (views.Point S D P G C) → Certificate S D P G C → Type 0
  Brought h c = (p : views.Point S D P G C) × Contains h p × (point_certificate p ≡ Some c)

  -- the certificate that an item is, if it is one, did
  abbrev IsFrom : List (views.Point S D P G C) → past.Item S D P G C → Type 0
  IsFrom h x = (c : Certificate S D P G C) → item_certificate x ≡ Some c → Brought h c

  further : (p : views.Point S D P G C) (h : List (views.Point S D P G C)) (c : Certificate S D P G C) → Brought h c → Brought (p ∷ h) c
  further p h c by = (by.0, Contains-rest p h by.0 by.1, by.2)

  -- an item that is none
  none-new : (h : List (views.Point S D P G C)) (x : past.Item S D P G C) → item_certificate x ≡ None → IsFrom h x
  none-new h x none c is = absurd (none-some c (sym none ∙ is))

module _ {S D P G C : Type 0} (s : views.Setup S C) where
  module _ (h : List (views.Point S D P G C)) where
    enters-from : (q : views.Point S D P G C) (now : ℕ) → Enters (IsFrom (q ∷ h)) s now
    enters-from q now = (
      none-new (q ∷ h) (past.entered now) refl,
      none-new (q ∷ h) (past.armed (past.deadline now s.leader_timeout) (past.deadline now s.certification_timeout) (later now s.stall_timeout)) refl,
    )

    -- a point puts no certificate on a view but its own
    puts-from : (q : views.Point S D P G C) (view : ℕ) → Puts (IsFrom (q ∷ h)) s q view
    puts-from (views.started now payload) view = enters-from (views.started now payload) now
    puts-from (views.based floor) view = tt
    puts-from (views.notarized c) view = λ d is. (views.notarized c, Contains-head (views.notarized c) h, is)
    puts-from (views.nullified now c) view = (λ d is. (views.nullified now c, Contains-head (views.nullified now c) h, is), enters-from (views.nullified now c) now)
    puts-from (views.finalized now c) view = (λ d is. (views.finalized now c, Contains-head (views.finalized now c) h, is), enters-from (views.finalized now c) now)
    puts-from (views.judged now at true) view = (none-new (views.judged now at true ∷ h) (past.judged true) refl, enters-from (views.judged now at true) now)
    puts-from (views.judged now at false) view = (none-new (views.judged now at false ∷ h) (past.judged false) refl, λ e. none-new (views.judged now at false ∷ h) (past.latched now reason.FailedCertification) refl)
    puts-from (views.forwarded at p) view = none-new (views.forwarded at p ∷ h) (past.offered (offer.forwarded p)) refl
    puts-from (views.built now p payload) view = (none-new (views.built now p payload ∷ h) (past.built now p) refl, none-new (views.built now p payload ∷ h) (past.bound p payload) refl)
    puts-from (views.confirmed at) view = none-new (views.confirmed at ∷ h) (past.offered offer.confirmed) refl
    puts-from (views.unbound at) view = none-new (views.unbound at ∷ h) past.unbound refl
    puts-from (views.latched now at why) view = λ e. none-new (views.latched now at why ∷ h) (past.latched now why) refl
    puts-from (views.build_asked at) view = none-new (views.build_asked at ∷ h) (past.offered offer.building) refl
    puts-from (views.build_released at) view = none-new (views.build_released at ∷ h) (past.offered offer.released) refl
    puts-from (views.verify_asked at p payload) view = (none-new (views.verify_asked at p payload ∷ h) (past.offered offer.verifying) refl, none-new (views.verify_asked at p payload ∷ h) (past.bound p payload) refl)
    puts-from (views.ancestry_asked at missing) view = none-new (views.ancestry_asked at missing ∷ h) (past.asked missing) refl
    puts-from (views.certify_asked at handle) view = none-new (views.certify_asked at handle ∷ h) (past.certifying handle) refl
    puts-from (views.certify_waited at) view = tt
    puts-from (views.voted_notarize at p) view = none-new (views.voted_notarize at p ∷ h) past.voted_notarize refl
    puts-from (views.voted_nullify at) view = λ e. none-new (views.voted_nullify at ∷ h) past.voted_nullify refl
    puts-from (views.voted_finalize at p) view = none-new (views.voted_finalize at p ∷ h) past.voted_finalize refl
    puts-from (views.recalled_notarize p taken) view = (
      none-new (views.recalled_notarize p taken ∷ h) past.voted_notarize refl,
      none-new (views.recalled_notarize p taken ∷ h) (past.offered (offer.recorded p)) refl,
      λ payload. none-new (views.recalled_notarize p taken ∷ h) (past.bound p payload) refl,
    )
    puts-from (views.recalled_nullify at) view = λ e. none-new (views.recalled_nullify at ∷ h) past.voted_nullify refl
    puts-from (views.recalled_finalize p) view = none-new (views.recalled_finalize p ∷ h) past.voted_finalize refl
    puts-from (views.recalled_verdict at ok) view = none-new (views.recalled_verdict at ok ∷ h) (past.judged ok) refl
    puts-from (views.sent kind.Notarization at) view = none-new (views.sent kind.Notarization at ∷ h) past.sent_notarization refl
    puts-from (views.sent kind.Nullification at) view = none-new (views.sent kind.Nullification at ∷ h) past.sent_nullification refl
    puts-from (views.sent kind.Finalization at) view = none-new (views.sent kind.Finalization at ∷ h) past.sent_finalization refl
    puts-from (views.polled now) view = none-new (views.polled now ∷ h) (past.polled (past.deadline now s.timeout_retry)) refl
    puts-from views.pruned view = tt

  -- each certificate that is seen of a view came
  seen-from : (h : List (views.Point S D P G C)) (view : ℕ) → AreGood (IsFrom h) (seen s h view)
  seen-from [] view = tt
  seen-from (p ∷ h) view = seen-good (IsFrom (p ∷ h)) s p h view (puts-from h p view)
      (good-weaker (IsFrom h) (IsFrom (p ∷ h)) (λ x from c is. further p h c (from c is)) (seen s h view) (seen-from h view))

  seen-only : (h : List (views.Point S D P G C)) (view : ℕ) (x : past.Item S D P G C) → Contains (seen s h view) x → (c : Certificate S D P G C) → item_certificate x ≡ Some c → Brought h c
  seen-only h view x here c is = good-at (IsFrom h) (seen s h view) (seen-from h view) x here c is

  -- ---- so each that is found did

  item-notarization : (items : List (past.Item S D P G C)) (c : Notarization S D P G C) → past.notarization items ≡ Some c → Contains items (past.notarized c)
  item-notarization [] c is = absurd (none-some c is)
  item-notarization (past.notarized d ∷ items) c is = ⊎_elim
      (λ before. Contains-rest (past.notarized d) items (past.notarized c) (item-notarization items c before))
      (λ now. subst (λ (x : Notarization S D P G C). Contains (past.notarized d ∷ items) (past.notarized x)) (some-is d c now) (Contains-head (past.notarized d) items))
      (or-cases (past.notarization items) (Some d) c is)
  item-notarization (x ∷ items) c is = Contains-rest x items (past.notarized c) (item-notarization items c is)

  item-finalization : (items : List (past.Item S D P G C)) (c : Finalization S D P G C) → past.finalization items ≡ Some c → Contains items (past.finalized c)
  item-finalization [] c is = absurd (none-some c is)
  item-finalization (past.finalized d ∷ items) c is = ⊎_elim
      (λ before. Contains-rest (past.finalized d) items (past.finalized c) (item-finalization items c before))
      (λ now. subst (λ (x : Finalization S D P G C). Contains (past.finalized d ∷ items) (past.finalized x)) (some-is d c now) (Contains-head (past.finalized d) items))
      (or-cases (past.finalization items) (Some d) c is)
  item-finalization (x ∷ items) c is = Contains-rest x items (past.finalized c) (item-finalization items c is)

  kept-nullification : (h : List (views.Point S D P G C)) (view : ℕ) (c : Nullification S D P G C) → views.nullification s h view ≡ Some c → Brought h (certificate.Nullification c)
  kept-nullification [] view c is = absurd (none-some c is)
  kept-nullification (views.nullified now d ∷ h) view c is = go (d.round.view == view) is (λ found. kept-nullification h view c found)
    where
      go : (b : Bool) → (if b then option_or (views.nullification s h view) (Some d) else views.nullification s h view) ≡ Some c → (views.nullification s h view ≡ Some c → Brought h (certificate.Nullification c))
          → Brought (views.nullified now d ∷ h) (certificate.Nullification c)
      go true found kept = ⊎_elim
          (λ before. further (views.nullified now d) h (certificate.Nullification c) (kept before))
          (λ new. (views.nullified now d, Contains-head (views.nullified now d) h, ap (λ (o : Option (Nullification S D P G C)). option_map certificate.Nullification o) new))
          (or-cases (views.nullification s h view) (Some d) c found)
      go false found kept = further (views.nullified now d) h (certificate.Nullification c) (kept found)
  kept-nullification (views.pruned ∷ h) view c is = go (nat_lt view (min_active s h) && nat_le (term_end s.length view) (last_finalized h)) is (λ found. kept-nullification h view c found)
    where
      go : (b : Bool) → (if b then None else views.nullification s h view) ≡ Some c → (views.nullification s h view ≡ Some c → Brought h (certificate.Nullification c)) → Brought (views.pruned ∷ h) (certificate.Nullification c)
      go true found kept = absurd (none-some c found)
      go false found kept = further views.pruned h (certificate.Nullification c) (kept found)
  kept-nullification (p ∷ h) view c is = further p h (certificate.Nullification c) (kept-nullification h view c is)

  last-brought : (h : List (views.Point S D P G C)) (high n : ℕ) (c : Nullification S D P G C) → last_of (views.nullification s h) high n ≡ Some c → Brought h (certificate.Nullification c)
  last-brought h high zero c is = absurd (none-some c is)
  last-brought h high (suc n) c is = ⊎_elim
      (λ here. kept-nullification h high c here)
      (λ lower. last-brought h (high - 1) n c lower)
      (or-cases (views.nullification s h high) (last_of (views.nullification s h) (high - 1) n) c is)

  -- the best certificate to enter a view by came
  best-brought : (h : List (views.Point S D P G C)) (c : Certificate S D P G C) → best_certificate s h ≡ Some c → Brought h c
  best-brought h c is = go (current s h) (current s h - 1) is
    where
      final : (before : ℕ) → option_map certificate.Finalization (past.finalization (seen s h before)) ≡ Some c → Brought h c
      final before e =
          let of = mapped certificate.Finalization (past.finalization (seen s h before)) c e in
          subst (λ (x : Certificate S D P G C). Brought h x) of.gives
          (seen-only h before (past.finalized of.x) (item-finalization (seen s h before) of.x of.is) (certificate.Finalization of.x) refl)

      direct : (before : ℕ) → option_map certificate.Notarization (past.notarization (seen s h before)) ≡ Some c → Brought h c
      direct before e =
          let of = mapped certificate.Notarization (past.notarization (seen s h before)) c e in
          subst (λ (x : Certificate S D P G C). Brought h x) of.gives
          (seen-only h before (past.notarized of.x) (item-notarization (seen s h before) of.x of.is) (certificate.Notarization of.x) refl)

      null : (before : ℕ) (b : Bool) → (if b then option_map certificate.Nullification (covering_nullification s h before) else None) ≡ Some c → Brought h c
      null before true e =
          let of = mapped certificate.Nullification (covering_nullification s h before) c e in
          subst (λ (x : Certificate S D P G C). Brought h x) of.gives (last-brought h before (before + 1 - term_start s.length before) of.x of.is)
      null before false e = absurd (none-some c e)

      go : (view before : ℕ) → entry_certificate s h view before ≡ Some c → Brought h c
      go view before e = start (before == 0) e
        where
          start : (b : Bool) → (if b then None else option_or (option_map certificate.Finalization (past.finalization (seen s h before)))
              (option_or (if view == term_start s.length view then option_map certificate.Nullification (covering_nullification s h before) else None)
              (option_map certificate.Notarization (past.notarization (seen s h before))))) ≡ Some c → Brought h c
          start true none = absurd (none-some c none)
          start false some = ⊎_elim
              (λ first. final before first)
              (λ rest. ⊎_elim
              (λ second. null before (view == term_start s.length view) second)
              (λ third. direct before third)
              (or-cases (if view == term_start s.length view then option_map certificate.Nullification (covering_nullification s h before) else None) (option_map certificate.Notarization (past.notarization (seen s h before))) c rest))
              (or-cases (option_map certificate.Finalization (past.finalization (seen s h before)))
              (option_or (if view == term_start s.length view then option_map certificate.Nullification (covering_nullification s h before) else None)
              (option_map certificate.Notarization (past.notarization (seen s h before)))) c some)

module _ {S D P G C : Type 0} (p : Point S D P G C) where
  -- what a point brings to the voter it records
  abbrev Records : List (views.Point S D P G C) → Type 0
  Records points = (q : views.Point S D P G C) → Contains points q → (c : Certificate S D P G C) → point_certificate q ≡ Some c → recorded_by p ≡ Some (certificate_artifact c)

  records-nil : Records []
  records-nil q here c is = absurd (Contains-nil q here)

  records-plain : (q : views.Point S D P G C) (points : List (views.Point S D P G C)) → point_certificate q ≡ None → Records points → Records (q ∷ points)
  records-plain q points none rest x here c is = ⊎_elim
      (λ e. absurd (none-some c (sym none ∙ (ap point_certificate e ∙ is))))
      (λ later. rest x later c is)
      (Contains-cases q points x here)

  records-new : (q : views.Point S D P G C) (points : List (views.Point S D P G C)) (d : Certificate S D P G C) → point_certificate q ≡ Some d → recorded_by p ≡ Some (certificate_artifact d) → Records points → Records (q ∷ points)
  records-new q points d brings recorded rest x here c is = ⊎_elim
      (λ e. recorded ∙ ap (λ (o : Certificate S D P G C). Some (certificate_artifact o)) (some-is d c (sym brings ∙ (ap point_certificate e ∙ is))))
      (λ later. rest x later c is)
      (Contains-cases q points x here)

  records-pruned : (b : Bool) (points : List (views.Point S D P G C)) → Records points → Records ((if b then views.pruned ∷ [] else []) ++ points)
  records-pruned true points rest = records-plain views.pruned points refl rest
  records-pruned false points rest = rest

  takes-records : (now low : ℕ) (c : Certificate S D P G C) → recorded_by p ≡ Some (certificate_artifact c) → Records (takes_certificate now low c)
  takes-records now low (certificate.Notarization c) is = records-plain (views.sent kind.Notarization c.proposal.round.view) (views.notarized c ∷ []) refl (records-new (views.notarized c) [] (certificate.Notarization c) refl is records-nil)
  takes-records now low (certificate.Nullification c) is = records-plain (views.sent kind.Nullification c.round.view) (views.nullified now c ∷ []) refl (records-new (views.nullified now c) [] (certificate.Nullification c) refl is records-nil)
  takes-records now low (certificate.Finalization c) is = records-pruned (finalizes_above low (certificate.Finalization c)) (views.sent kind.Finalization c.proposal.round.view ∷ views.finalized now c ∷ [])
      (records-plain (views.sent kind.Finalization c.proposal.round.view) (views.finalized now c ∷ []) refl (records-new (views.finalized now c) [] (certificate.Finalization c) refl is records-nil))

  made-records : (now low : ℕ) (o : Option (Certificate S D P G C)) → recorded_by p ≡ option_map certificate_artifact o → Records (unwrap_or (option_map (takes_certificate now low) o) [])
  made-records now low None is = records-nil
  made-records now low (Some c) is = takes-records now low c is

  found-records : (now : ℕ) (x : Artifact S D P G C) (taken : Bool) → recorded_by p ≡ Some x → Records (finds now x taken)
  found-records now (artifact.Notarize v) taken is = records-plain (views.recalled_notarize v.proposal taken) [] refl records-nil
  found-records now (artifact.Notarization c) taken is = records-new (views.notarized c) (views.sent kind.Notarization c.proposal.round.view ∷ []) (certificate.Notarization c) refl is (records-plain (views.sent kind.Notarization c.proposal.round.view) [] refl records-nil)
  found-records now (artifact.Certification r ok) taken is = records-plain (views.judged now r.view ok) (views.recalled_verdict r.view ok ∷ []) refl (records-plain (views.recalled_verdict r.view ok) [] refl records-nil)
  found-records now (artifact.Nullify v) taken is = records-plain (views.recalled_nullify v.round.view) [] refl records-nil
  found-records now (artifact.Nullification c) taken is = records-new (views.nullified now c) (views.sent kind.Nullification c.round.view ∷ []) (certificate.Nullification c) refl is (records-plain (views.sent kind.Nullification c.round.view) [] refl records-nil)
  found-records now (artifact.Finalize v) taken is = records-plain (views.recalled_finalize v.proposal) [] refl records-nil
  found-records now (artifact.Finalization c) taken is = records-new (views.finalized now c) (views.sent kind.Finalization c.proposal.round.view ∷ []) (certificate.Finalization c) refl is (records-plain (views.sent kind.Finalization c.proposal.round.view) [] refl records-nil)

  answer-records : (now view : ℕ) (answer : Option Bool) (outcome : Outcome) → Records (takes_outcome now view answer outcome)
  answer-records now view (Some true) Counts = records-plain (views.confirmed view) [] refl records-nil
  answer-records now view (Some false) Counts = records-plain (views.latched now view (reason_of (Some false))) [] refl records-nil
  answer-records now view None Counts = records-plain (views.latched now view (reason_of None)) [] refl records-nil
  answer-records now view answer Falls = records-plain (views.unbound view) [] refl records-nil
  answer-records now view answer Passes = records-nil

  casts-records : (v : Vote S D P G C) → Records (casts v ∷ [])
  casts-records (vote.Notarize v) = records-plain (views.voted_notarize v.proposal.round.view v.proposal) [] refl records-nil
  casts-records (vote.Nullify v) = records-plain (views.voted_nullify v.round.view) [] refl records-nil
  casts-records (vote.Finalize v) = records-plain (views.voted_finalize v.proposal.round.view v.proposal) [] refl records-nil

module _ {S D P G C : Type 0} (s : Setup S D C) where
  point-records : (now low : ℕ) (p : Point S D P G C) → Records p (voter_points s now low p)
  point-records now low (Opened t) = records-plain (Opened t) (views.started t s.genesis) [] refl (records-nil (Opened t))
  point-records now low (Found x taken) = found-records (Found x taken) now x taken refl
  point-records now low Began = records-plain Began views.pruned [] refl (records-nil Began)
  point-records now low (Came c) = takes-records (Came c) now low c refl
  point-records now low (Built number handoff context (Some payload) true) = records-plain (Built number handoff context (Some payload) true) (views.built now (proposal_on context payload) context.parent.1) [] refl (records-nil (Built number handoff context (Some payload) true))
  point-records now low (Built number handoff context None true) = records-plain (Built number handoff context None true) (views.latched now context.round.view reason.MissingProposal) [] refl (records-nil (Built number handoff context None true))
  point-records now low (Built number handoff context payload false) = records-nil (Built number handoff context payload false)
  point-records now low (Checked number view answer outcome) = answer-records (Checked number view answer outcome) now view answer outcome
  point-records now low (Judged r ok) = records-plain (Judged r ok) (views.judged now r.view ok) [] refl (records-nil (Judged r ok))
  point-records now low (Forwards view q) = records-plain (Forwards view q) (views.forwarded view q) [] refl (records-nil (Forwards view q))
  point-records now low (Constructs view kind_ batch) = made-records (Constructs view kind_ batch) now low batch.certificate refl
  point-records now low (Latches view why) = records-plain (Latches view why) (views.latched now view why) [] refl (records-nil (Latches view why))
  point-records now low Polls = records-plain Polls (views.polled now) [] refl (records-nil Polls)
  point-records now low (AsksBuild number handoff context) = records-plain (AsksBuild number handoff context) (views.build_asked context.round.view) [] refl (records-nil (AsksBuild number handoff context))
  point-records now low (AsksVerify number context q) = records-plain (AsksVerify number context q) (views.verify_asked context.round.view q context.parent.1) [] refl (records-nil (AsksVerify number context q))
  point-records now low (AsksCertify q) = records-plain (AsksCertify q) (views.certify_asked q.round.view (record { 0 = q.round.view })) [] refl (records-nil (AsksCertify q))
  point-records now low (GivesBack number view) = records-plain (GivesBack number view) (views.build_released view) [] refl (records-nil (GivesBack number view))
  point-records now low (PutsOff view) = records-plain (PutsOff view) (views.certify_waited view) [] refl (records-nil (PutsOff view))
  point-records now low (Resolves view kind_ u) = records-plain (Resolves view kind_ u) (views.ancestry_asked view u) [] refl (records-nil (Resolves view kind_ u))
  point-records now low (Votes v) = casts-records (Votes v) v
  point-records now low (Repeats v best) = records-plain (Repeats v best) (views.voted_nullify v.round.view) [] refl (records-nil (Repeats v best))
  point-records now low (Rewrote c) = records-plain (Rewrote c) (views.based c.proposal.round.view) [] refl (records-nil (Rewrote c))
  point-records now low p = records-nil p

  -- what came to the voter is recorded
  brought-recorded : (h : History S D P G C) (c : Certificate S D P G C) → Brought (voter_of s h) c → Contains (record_of h) (certificate_artifact c)
  brought-recorded [] c by = absurd (Contains-nil by.0 by.1)
  brought-recorded (p ∷ h) c by = ⊎_elim
      (λ now. put-here (record_of h) (recorded_by p) (certificate_artifact c) (point-records (latest (p ∷ h)) (last_finalized (voter_of s h)) p by.0 now c by.2))
      (λ before. put-before (record_of h) (recorded_by p) (certificate_artifact c) (brought-recorded h c (by.0, before, by.2)))
      (Contains-append_cases (voter_points s (latest (p ∷ h)) (last_finalized (voter_of s h)) p) (voter_of s h) by.0 by.1)

  -- so is the best certificate to enter a view by
  pub best-recorded : (h : History S D P G C) (c : Certificate S D P G C) → best_certificate s.voter (voter_of s h) ≡ Some c → Contains (record_of h) (certificate_artifact c)
  best-recorded h c is = brought-recorded h c (best-brought s.voter (voter_of s h) c is)

  -- so is each notarization that the voter has of a view
  pub notarized-recorded : (h : History S D P G C) (view : ℕ) (c : Notarization S D P G C) → past.notarization (seen s.voter (voter_of s h) view) ≡ Some c → Contains (record_of h) (artifact.Notarization c)
  notarized-recorded h view c is = brought-recorded h (certificate.Notarization c)
      (seen-only s.voter (voter_of s h) view (past.notarized c) (item-notarization s.voter (seen s.voter (voter_of s h) view) c is) (certificate.Notarization c) refl)
