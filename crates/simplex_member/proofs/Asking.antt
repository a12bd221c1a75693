-- A view that a member asks others for has a number of 64 bits: so has each view of a certificate that it recorded.
use Rattle.std.proofs.Common.{◌≡◌, ◌⊎◌, inl, inr, ⊎_elim, ℕ, ◌≤◌, ◌<◌, ◌^◌, ◌==◌, Bool, true, false, List, [], ◌∷◌, Option, Some, None, refl, sym, ◌∙◌, ap, subst, arith}
use Rattle.std.specs.Prelude.{Contains, ◌||◌, option_map, option_to_list}
use Rattle.std.proofs.lemmas.Bool.{cases_lt, eqb-true}
use Rattle.std.proofs.lemmas.List.Elements.{Contains-append_cases, Contains-append_left}
use Rattle.types_quorum.specs.Counting.{Contains-cases, Contains-head, Contains-nil, Contains-rest}
use Rattle.types_core.specs.declared.position.Round.{Round}
use Rattle.types_core.specs.declared.scheme.Scheme.{Ghosts}
use Rattle.types_core.specs.Positions.{HasRoom, term_end}
use Rattle.types_core.specs.Subject.{Statement, notarize, nullify, finalize, statement_round}
use Rattle.messages_certificates.specs.declared.artifact.Artifact.{Artifact}
use Rattle.messages_certificates.specs.declared.artifact.Artifact.TheVariants as artifact
use Rattle.messages_certificates.specs.declared.certificate.Certificate.{Certificate}
use Rattle.messages_certificates.specs.declared.certificate.Certificate.TheVariants as certificate
use Rattle.messages_certificates.specs.Artifact.{certificate_artifact}
use Rattle.messages_certificates.specs.Certificate.{certificate_round}
use Rattle.types_terms.specs.Spans.{term_end-above}
use Rattle.types_terms.specs.Windows.{AdmitsOutbound}
use Rattle.simplex_record.specs.Record.{taken, current_view, entries, entry, enters, HasTaken}
use Rattle.voter_rules.specs.Requests.{IsOpen}
use Rattle.voter_laws.specs.Matching.{EachHistoryMatches}
use Rattle.voter_laws.specs.Missing.{IsMissing}
use Rattle.simplex_resolver.specs.declared.ask.Ask.{Ask}
use Rattle.simplex_resolver.specs.declared.ask.Kind as repair
use Rattle.simplex_resolver.specs.declared.ask.Kind.TheVariants as repair_kind
use Rattle.simplex_resolver.specs.RepairHistory as repair_history
use Rattle.simplex_resolver.specs.RepairHistory.{Item, certificate_view, has_failed, item_of}
use Rattle.simplex_member.specs.declared.asked.Asked.{Asked}
use Rattle.simplex_member.specs.Allowed.{Allowed, AreAllowed, IsSought, MayRecord}
use Rattle.simplex_member.specs.Asked.{asks_of}
use Rattle.simplex_member.specs.Layers.{known_of, notarization_bytes, repair_found, repair_items, repair_of}
use Rattle.simplex_member.specs.Laws.{RecordLaws}
use Rattle.simplex_member.specs.Packet.{Formats}
use Rattle.simplex_member.specs.Point.{Point, Found, Began, Came, Judged, Constructs, Asks, History}
use Rattle.simplex_member.specs.Recorded.{record_of, recorded_by}
use Rattle.simplex_member.specs.Setup.{Setup, member_of}
use Rattle.simplex_member.proofs.Blame.{placed}
use Rattle.simplex_member.proofs.Going.{Lawful, allowed-lawful}
use Rattle.simplex_member.proofs.Lists.{Contains-mapped, put-before, put-here}
use Rattle.simplex_member.proofs.Recordable.{matches}
use Rattle.simplex_member.proofs.Reporting.{one}
use Rattle.simplex_member.proofs.Telling.{apart}

-- a view with room has a number of 64 bits
pub room-small : (views view : ℕ) → 0 < views → HasRoom views view → view < 2 ^ 64
room-small views view some room = omega (arith, room, term_end-above views view some)

-- a view that may be spoken of, where terms had no views, is no later than the current one, or the first
outbound-early : (optimistic current view : ℕ) → AdmitsOutbound 0 optimistic current view → (view ≤ current) ⊎ (view ≤ 1)
outbound-early optimistic current view spoken =
    let end : term_end 0 current ≡ 0 = omega arith in
    ⊎_elim
    (λ low. inl low)
    (λ more. ⊎_elim (λ within. inr (omega (arith, within, end))) (λ next. inr (omega (arith, next.0, end))) more)
    spoken

-- the view of which an item is a certificate, or a verdict
abbrev item_view : Item → ℕ
item_view (repair_history.Nullified u bytes) = u
item_view (repair_history.Notarized v) = v
item_view (repair_history.Finalized v bytes) = v
item_view (repair_history.Judged v bytes verdict) = v
item_view repair_history.Replayed = 0

-- all items are of views of 64 bits
abbrev AreLow : List Item → Type 0
AreLow items = (x : Item) → Contains items x → item_view x < 2 ^ 64

low-nil : AreLow []
low-nil x here = absurd (Contains-nil x here)

rest-low : (x : Item) (items : List Item) → AreLow (x ∷ items) → AreLow items
rest-low x items low y here = low y (Contains-rest x items y here)

certificate-low : (x : Item) → item_view x < 2 ^ 64 → certificate_view x < 2 ^ 64
certificate-low (repair_history.Nullified u bytes) low = low
certificate-low (repair_history.Notarized v) low = low
certificate-low (repair_history.Finalized v bytes) low = low
certificate-low (repair_history.Judged v bytes verdict) low = omega arith
certificate-low repair_history.Replayed low = low

-- so is the highest certificate among them
highest-low : (items : List Item) → AreLow items → repair_history.current items < 2 ^ 64
highest-low [] low = omega arith
highest-low (x ∷ items) low =
    let first = certificate-low x (low x (Contains-head x items)) in
    let rest = highest-low items (rest-low x items low) in
    omega (arith, first, rest)

-- and each view with a false verdict
failed-low : (items : List Item) → AreLow items → (view : ℕ) → has_failed items view ≡ true → view < 2 ^ 64
failed-low [] low view failed = absurd (apart failed)
failed-low (repair_history.Judged w bytes false ∷ items) low view failed = go (w == view) refl failed (λ before. failed-low items (rest-low (repair_history.Judged w bytes false) items low) view before)
  where
    go : (b : Bool) → (w == view) ≡ b → (b || has_failed items view) ≡ true → (has_failed items view ≡ true → view < 2 ^ 64) → view < 2 ^ 64
    go true is some rest = subst (λ (n : ℕ). n < 2 ^ 64) (eqb-true w view is) (low (repair_history.Judged w bytes false) (Contains-head (repair_history.Judged w bytes false) items))
    go false is some rest = rest some
failed-low (x ∷ items) low view failed = failed-low items (rest-low x items low) view failed

taken-is : {D : Type 0} (x y : Statement D) → taken x ≡ taken y → x ≡ y
taken-is x y is = cc is

module _ {S D P G C : Type 0} where
  -- each certificate of a record is of a view of 64 bits
  abbrev pub AreSmall : List (Artifact S D P G C) → Type 0
  AreSmall r = (c : Certificate S D P G C) → Contains r (certificate_artifact c) → (certificate_round c).view < 2 ^ 64

  item-is : (spelling : Certificate S D P G C → List ℕ) (c : Certificate S D P G C) → item_view (item_of spelling c) ≡ (certificate_round c).view
  item-is spelling (certificate.Notarization c) = refl
  item-is spelling (certificate.Nullification c) = refl
  item-is spelling (certificate.Finalization c) = refl

  -- so is what an entry says that was taken
  taken-small : (r : List (Artifact S D P G C)) → AreSmall r → (x : Statement D) → HasTaken (entries r) x → (statement_round x).view < 2 ^ 64
  taken-small r small x here = let of = Contains-mapped entry r (taken x) here in go of.0 of.1 of.2
    where
      go : (y : Artifact S D P G C) → Contains r y → entry y ≡ taken x → (statement_round x).view < 2 ^ 64
      go (artifact.Notarization c) there is = subst (λ (z : Statement D). (statement_round z).view < 2 ^ 64) (taken-is (notarize c.proposal) x is) (small (certificate.Notarization c) there)
      go (artifact.Nullification c) there is = subst (λ (z : Statement D). (statement_round z).view < 2 ^ 64) (taken-is (nullify c.round) x is) (small (certificate.Nullification c) there)
      go (artifact.Finalization c) there is = subst (λ (z : Statement D). (statement_round z).view < 2 ^ 64) (taken-is (finalize c.proposal) x is) (small (certificate.Finalization c) there)
      go (artifact.Notarize v) there is = absurd (cc is)
      go (artifact.Certification round ok) there is = absurd (cc is)
      go (artifact.Nullify v) there is = absurd (cc is)
      go (artifact.Finalize v) there is = absurd (cc is)

module _ {S D P G C : Type 0} (g : Ghosts S D P G C) (f : Formats S D P G C) (s : Setup S D C) where
  before-small : (p : Point S D P G C) (h : History S D P G C) → AreSmall (record_of (p ∷ h)) → AreSmall (record_of h)
  before-small p h small c here = small c (put-before (record_of h) (recorded_by p) (certificate_artifact c) here)

  -- ---- what the repair holds

  low-certificate : (p : Point S D P G C) (h : History S D P G C) → AreSmall (record_of (p ∷ h)) → (c : Certificate S D P G C) → recorded_by p ≡ Some (certificate_artifact c) → AreLow (item_of f.certificate c ∷ [])
  low-certificate p h small c records x here = subst (λ (y : Item). item_view y < 2 ^ 64) (one (item_of f.certificate c) x here)
      (subst (λ (n : ℕ). n < 2 ^ 64) (sym (item-is f.certificate c)) (small c (put-here (record_of h) (recorded_by p) (certificate_artifact c) records)))

  low-verdict : (p : Point S D P G C) (h : History S D P G C) → AreSmall (record_of (p ∷ h)) → (r : Round) (ok : Bool) → MayRecord g f s h (artifact.Certification r ok)
      → AreLow (repair_history.Judged r.view (notarization_bytes f h r.view) ok ∷ [])
  low-verdict p h small r ok may x here =
      let of = may.follows.notarized in
      subst (λ (y : Item). item_view y < 2 ^ 64) (one (repair_history.Judged r.view (notarization_bytes f h r.view) ok) x here)
      (subst (λ (t : Round). t.view < 2 ^ 64) of.1 (taken-small (record_of h) (before-small p h small) (notarize of.0) of.2))

  low-made : (p : Point S D P G C) (h : History S D P G C) → AreSmall (record_of (p ∷ h)) → (o : Option (Certificate S D P G C)) → recorded_by p ≡ option_map certificate_artifact o → AreLow (option_to_list (option_map (item_of f.certificate) o))
  low-made p h small None records = low-nil
  low-made p h small (Some c) records = low-certificate p h small c records

  low-found : (h : History S D P G C) (x : Artifact S D P G C) (found : Bool) → AreSmall (record_of (Found x found ∷ h)) → MayRecord g f s h x → AreLow (repair_found f h x)
  low-found h (artifact.Notarization c) found small may = low-certificate (Found (artifact.Notarization c) found) h small (certificate.Notarization c) refl
  low-found h (artifact.Nullification c) found small may = low-certificate (Found (artifact.Nullification c) found) h small (certificate.Nullification c) refl
  low-found h (artifact.Finalization c) found small may = low-certificate (Found (artifact.Finalization c) found) h small (certificate.Finalization c) refl
  low-found h (artifact.Certification r ok) found small may = low-verdict (Found (artifact.Certification r ok) found) h small r ok may
  low-found h (artifact.Notarize v) found small may = low-nil
  low-found h (artifact.Nullify v) found small may = low-nil
  low-found h (artifact.Finalize v) found small may = low-nil

  low-point : (p : Point S D P G C) (h : History S D P G C) → Allowed g f s h p → AreSmall (record_of (p ∷ h)) → AreLow (repair_items f h p)
  low-point (Found x found) h a small = low-found h x found small a.fits
  low-point Began h a small = λ x here. subst (λ (y : Item). item_view y < 2 ^ 64) (one repair_history.Replayed x here) (omega arith)
  low-point (Came c) h a small = low-certificate (Came c) h small c refl
  low-point (Judged r ok) h a small = low-verdict (Judged r ok) h small r ok a.fits
  low-point (Constructs view kind batch) h a small = low-made (Constructs view kind batch) h small batch.certificate refl
  low-point p h a small = low-nil

  all-low : (h : History S D P G C) → AreAllowed g f s h → AreSmall (record_of h) → AreLow (repair_of f h)
  all-low [] all small x here = absurd (Contains-nil x here)
  all-low (p ∷ h) all small x here = ⊎_elim
      (λ now. low-point p h all.0 small x now)
      (λ before. all-low h all.1 (before-small p h small) x before)
      (Contains-append_cases (repair_items f h p) (repair_of f h) x here)

  -- ---- what the voter knows

  -- an entry enters a view of 64 bits, or the one behind these, were terms to have no views
  entry-low : (r : List (Artifact S D P G C)) → Lawful g f s r → AreSmall r → (x : Artifact S D P G C) → Contains r x → enters 0 (entry x) ≤ 2 ^ 64
  entry-low r lawful small (artifact.Notarize v) here = omega arith
  entry-low r lawful small (artifact.Notarization c) here = omega arith
  entry-low r lawful small (artifact.Certification t true) here =
      let at = placed g f s r lawful (artifact.Certification t true) here in
      let of = at.3.follows.notarized in
      let low = taken-small at.0 (λ c there. small c (subst (λ (l : List (Artifact S D P G C)). Contains l (certificate_artifact c)) (sym at.2) (Contains-append_left at.0 (artifact.Certification t true ∷ at.1) (certificate_artifact c) there))) (notarize of.0) of.2 in
      let view : t.view < 2 ^ 64 = subst (λ (u : Round). u.view < 2 ^ 64) of.1 low in
      omega (arith, view)
  entry-low r lawful small (artifact.Certification t false) here = omega arith
  entry-low r lawful small (artifact.Nullify v) here = omega arith
  entry-low r lawful small (artifact.Nullification c) here = omega arith
  entry-low r lawful small (artifact.Finalize v) here = omega arith
  entry-low r lawful small (artifact.Finalization c) here = let low = small (certificate.Finalization c) here in omega (arith, low)

  entered-low : (r : List (Artifact S D P G C)) → ((x : Artifact S D P G C) → Contains r x → enters 0 (entry x) ≤ 2 ^ 64) → current_view 0 (entries r) ≤ 2 ^ 64
  entered-low [] low = omega arith
  entered-low (x ∷ r) low =
      let first = low x (Contains-head x r) in
      let rest = entered-low r (λ y here. low y (Contains-rest x r y here)) in
      omega (arith, first, rest)

  module _ (grows : RecordLaws g) (law : EachHistoryMatches S D P G C) (q : Point S D P G C) (h : History S D P G C) (all : AreAllowed g f s (q ∷ h)) (small : AreSmall (record_of (q ∷ h))) where
    -- a view below one for whose proposal something may be asked
    below-open : (view u : ℕ) → IsOpen (member_of s) (known_of s (q ∷ h)) view → u < view → u < 2 ^ 64
    below-open view u opens below = ⊎_elim
        (λ some. let low = room-small s.voter.length view some opens.room in omega (arith, low, below))
        (λ none.
        let zero : s.voter.length ≡ 0 = omega (arith, none) in
        let current = (matches g f s law q h all).current ∙ ap (λ (n : ℕ). current_view n (entries (record_of (q ∷ h)))) zero in
        let low = entered-low (record_of (q ∷ h)) (entry-low (record_of (q ∷ h)) (allowed-lawful g f s grows (q ∷ h) all) small) in
        ⊎_elim
        (λ first. omega (arith, first, below, low, current))
        (λ first. omega (arith, first, below))
        (outbound-early s.voter.optimistic_views (known_of s (q ∷ h)).current view (subst (λ (n : ℕ). AdmitsOutbound n s.voter.optimistic_views (known_of s (q ∷ h)).current view) zero opens.outbound)))
        (cases_lt 0 s.voter.length)

    missing-low : (view : ℕ) (kind : repair.Kind) (u : ℕ) → IsMissing (member_of s) (known_of s (q ∷ h)) view kind u → u < 2 ^ 64
    missing-low view repair_kind.Nullification u missing = below-open view u missing.1.waits.opens missing.1.uncovered.before
    missing-low view repair_kind.Notarization u missing =
        subst (λ (n : ℕ). n < 2 ^ 64) missing.2 (below-open view missing.0.parent missing.1.waits.opens missing.1.lacks.span.below)

    sought-low : (view : ℕ) (ask : Ask) (to : Option ℕ) → IsSought g f s (q ∷ h) view ask to → view < 2 ^ 64
    sought-low view ask None sought = ⊎_elim
        (λ back. ⊎_elim
        (λ below. let low = highest-low (repair_of f (q ∷ h)) (all-low (q ∷ h) all small) in omega (arith, low, below.0))
        (λ failed. failed-low (repair_of f (q ∷ h)) (all-low (q ∷ h) all small) view failed)
        back.1.due)
        (λ wanted.
        let waits = wanted.1.1.waits in
        let known = (matches g f s law q h all).notarized wanted.1.0 waits.proposal waits.opens.notarized in
        let low = taken-small (record_of (q ∷ h)) small (notarize waits.proposal) known.1 in
        omega (arith, low, known.0, waits.requires_it.next))
        sought
    sought-low view ask (Some target) sought = missing-low sought.1 sought.0 view sought.3

  module _ (grows : RecordLaws g) (law : EachHistoryMatches S D P G C) where
    -- a view that is asked for, where those are that were before
    low-behind : (h : History S D P G C) → AreAllowed g f s h → AreSmall (record_of h) → ((x : Asked) → Contains (asks_of h) x → x.view < 2 ^ 64) → (view : ℕ) (ask : Ask) (to : Option ℕ) → Allowed g f s h (Asks view ask to) → view < 2 ^ 64
    low-behind [] all small before view ask to a = absurd (apart a.order)
    low-behind (q ∷ h) all small before view ask to a = ⊎_elim
        (λ sought. sought-low grows law q h all small view ask to sought)
        (λ pending. before (record { view = view; ask = ask; to = to }) pending.1)
        a.due.sought

    asks-low : (h : History S D P G C) → AreAllowed g f s h → AreSmall (record_of h) → (x : Asked) → Contains (asks_of h) x → x.view < 2 ^ 64
    asks-low [] all small x here = absurd (Contains-nil x here)
    asks-low (Asks view ask to ∷ h) all small x here = ⊎_elim
        (λ is. subst (λ (y : Asked). y.view < 2 ^ 64) is (low-behind h all.1 (before-small (Asks view ask to) h small) (asks-low h all.1 (before-small (Asks view ask to) h small)) view ask to all.0))
        (λ before. asks-low h all.1 (before-small (Asks view ask to) h small) x before)
        (Contains-cases {X = Asked} (record { view = view; ask = ask; to = to }) (asks_of h) x here)
    asks-low (p ∷ h) all small x here = asks-low h all.1 (before-small p h small) x here

    -- a view that is asked for
    pub asked-low : (h : History S D P G C) → AreAllowed g f s h → AreSmall (record_of h) → (view : ℕ) (ask : Ask) (to : Option ℕ) → Allowed g f s h (Asks view ask to) → view < 2 ^ 64
    asked-low h all small view ask to a = low-behind h all small (asks-low h all small) view ask to a
