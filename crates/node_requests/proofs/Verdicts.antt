-- Verdicts that are put off, and those that are asked for one after the other.
use Rattle.std.proofs.Common.{◌≡◌, ◌≢◌, ◌⊎◌, ◌<◌, ◌≤◌, ◌+◌, ◌∷◌, ◌++◌, ◌∙◌, [], inl, inr, ⊎_elim, ℕ, Bool, true, false, suc, List, drop, get_or, map, Option, Some, None, refl, sym, ap, subst, arith, length, if◌then◌else◌}
use Rattle.std.specs.Prelude.{◌==◌, ◌||◌, ◌↔◌, All, AllPairs, Contains, option_map}
use Rattle.std.proofs.Math.Seq.{drop-cons}
use Rattle.std.proofs.lemmas.Bool.{cases_Bool, eqb-true, false≢true}
use Rattle.std.proofs.lemmas.Bool.Decides.{Decides-eqb}
use Rattle.std.proofs.lemmas.List.{nil_from_length}
use Rattle.std.proofs.lemmas.Option.{none-some}
use Rattle.std.proofs.lemmas.List.Elements.{All-append, All-cons, All-contains, All-contains_itself, All-head, All-nil, All-push, All-tail, All-weaker}
use Rattle.types_quorum.specs.Counting.{Contains-cases, Contains-head, Contains-nil, Contains-rest}
use Rattle.types_core.specs.declared.proposal.Proposal.{Proposal}
use Rattle.types_core.specs.declared.scheme.Scheme.{Ghosts}
use Rattle.messages_certificates.specs.ProposalCertificate.{Notarization, Finalization}
use Rattle.types_terms.specs.declared.elector.Elector as elector
use Rattle.voter_history.specs.declared.token.Token.{Token}
use Rattle.voter_history.specs.Past as past
use Rattle.voter_history.specs.Past.{Item}
use Rattle.voter_history.specs.Pasts.{put}
use Rattle.voter_history.specs.History as views
use Rattle.voter_history.specs.History.{certify_asked, certify_waited, seen}
use Rattle.voter_history.specs.Known.{Known, known, waits}
use Rattle.voter_history.specs.Leaders.{leader}
use Rattle.voter_rules.specs.Ancestry.{Member, IsRequired, IsSpan, member}
use Rattle.voter_rules.specs.GivingUp.{IsTracked}
use Rattle.voter_rules.specs.declared.certificate_fetch.CertificateFetch.{CertificateFetch}
use Rattle.voter_rules.specs.Requests.{ArePutOff, AreReady, CertificateIsWanted, CertifyIsDue, CertifyWaits, IsPutOff, VerdictIsOpen}
use Rattle.voter_laws.specs.Steps.{put_holds}
use Rattle.simplex_resolver.specs.declared.ask.Ask.{Ask}
use Rattle.simplex_resolver.specs.declared.ask.Kind.TheVariants as kind
use Rattle.simplex_state.specs.Candidates.{AreWanted, put_off}
use Rattle.simplex_state.specs.Known.{AddsIfTracked}
use Rattle.simplex_state.specs.declared.state.State.{State}
use Rattle.simplex_state.specs.State as voting
use Rattle.node_record.specs.declared.tables.Tables.{Tables}
use Rattle.node_record.specs.Tables.{KeepsTables, Remembered, Tells, remembered}
use Rattle.simplex_member.specs.declared.action.Action.{Action}
use Rattle.simplex_member.specs.Allowed.{Allowed, AreAllowed}
use Rattle.simplex_member.specs.Asked.{IsAnswered, ancestry}
use Rattle.simplex_member.specs.Deeds.{Certifies, Deed, all_deeds}
use Rattle.simplex_member.specs.Layers.{finalized_of, is_begun, known_of, repair_of, voter_of}
use Rattle.simplex_member.specs.Member.{Goes}
use Rattle.simplex_member.specs.Packet.{Formats}
use Rattle.simplex_member.specs.Point.{Point, AsksCertify, Asks, PutsOff, History}
use Rattle.simplex_member.specs.Setup.{Setup, member_of}
use Rattle.node_outbox.specs.Handing.{AddsDeeds, both_more, hands_as, nothing_more}
use Rattle.simplex_resolver.specs.declared.state.State.{State as Repair}
use Rattle.simplex_resolver.specs.Keeps as repairing
use Rattle.node_requests.specs.Asking.{AskerKeeps, HadNothingToAsk, HasAsked, WasAsked, is_ask, is_put_off}
use Rattle.node_requests.specs.Certifying.{AreDueVerdicts, AsksForEach}
use Rattle.node_requests.specs.declared.acted.Acted.{Acted}
use Rattle.node_requests.specs.declared.acted.Acted.TheVariants as came
use Rattle.node_requests.specs.Fetching.{AreAllWanted, Fetches, FetchesParents, HasFetched, RepairerKeeps, is_fetch}
use Rattle.node_requests.specs.NoneDue.{NoVerdictToAsk}
use Rattle.node_requests.specs.Onward.{is_some_list, on_before, on_behind}
use Rattle.node_requests.proofs.Seeking.{AsksBut, deeds_then, goes_then, none_asked, one_fewer, sent_answered, stands_aside}

-- a list is empty, or has an item
empty_or_not : {X : Type 0} (xs : List X) → (xs ≡ []) ⊎ (xs ≢ [])
empty_or_not [] = inl refl
empty_or_not (x ∷ xs) = inr (λ is. cc is)

empty_is : {X : Type 0} (xs : List X) → ((length xs == 0) ≡ true) ↔ (xs ≡ [])
empty_is xs = (λ yes. nil_from_length xs (eqb-true (length xs) 0 yes), λ none. rw none refl)

-- whether both are empty
pub both_empty : {X Y : Type 0} (xs : List X) (ys : List Y) (result : Bool) → (length xs == 0) ≡ true → result ≡ (length ys == 0) → (result ≡ true) ↔ ((xs ≡ []) × (ys ≡ []))
both_empty xs ys result none same = (λ yes. ((empty_is xs).0 none, (empty_is ys).0 (sym same ∙ yes)), λ both. same ∙ (empty_is ys).1 both.1)

pub not_empty : {X Y : Type 0} (xs : List X) (ys : List Y) (result : Bool) → result ≡ (length xs == 0) → result ≡ false → (result ≡ true) ↔ ((xs ≡ []) × (ys ≡ []))
not_empty xs ys result same off = (λ yes. absurd (false≢true (sym off ∙ yes)), λ both. absurd (false≢true (sym off ∙ same ∙ (empty_is xs).1 both.0)))

one_of : {X : Type 0} (xs : List X) → xs ≢ [] → (x : X) × Contains xs x
one_of [] many = absurd (many refl)
one_of (x ∷ xs) many = (x, Contains-head x xs)

-- ---- pairs

pub pairs_rest : {X : Type 0} (R : X → X → Type 0) (x : X) (xs : List X) → AllPairs R (x ∷ xs) → AllPairs R xs
pairs_rest R x xs pairs i j d before within = pairs (suc i) (suc j) d (omega (arith, before)) (omega (arith, within))

pub pairs_first : {X : Type 0} (R : X → X → Type 0) (x : X) (xs : List X) (y : X) → AllPairs R (x ∷ xs) → Contains xs y → R x y
pairs_first R x xs y pairs there = subst (λ z. R x z) there.2 (pairs 0 (suc there.0) y (omega arith) (omega (arith, there.1)))

-- what is left begins with the next one
pub drop_next : {X : Type 0} (xs : List X) (i : ℕ) (x : X) → i < length xs → x ≡ get_or xs i x → drop i xs ≡ x ∷ drop (i + 1) xs
drop_next xs i x within is =
    let next : suc i ≡ i + 1 = omega arith in
    drop-cons xs i x within ∙ (ap (λ (m : ℕ). get_or xs i x ∷ drop m xs) next ∙ ap (λ y. y ∷ drop (i + 1) xs) (sym is))

-- ---- what a verdict rests on

module _ {D : Type 0} where
  -- the same is known but of who leads, and of which verdicts were asked for or put off
  abbrev pub but_verdicts : Known D → (ℕ → Option ℕ) → (ℕ → Bool) → (ℕ → Bool) → Known D
  but_verdicts k leads asked waited = record k { leader = leads; certify_asked = asked; certify_waited = waited }

  module _ (m : Member) (k : Known D) (leads : ℕ → Option ℕ) (asked waited : ℕ → Bool) (view : ℕ) where
    required_alike : (parent required : ℕ) → IsRequired m (but_verdicts k leads asked waited) view parent required → IsRequired m k view parent required
    required_alike parent required is = record { next = is.next; early = is.early }

    span_alike : (parent : ℕ) → IsSpan m k view parent → IsSpan m (but_verdicts k leads asked waited) view parent
    span_alike parent is = record { below = is.below; above = is.above; next = is.next; covered = is.covered }

    open_alike : (p : Proposal D) → asked view ≡ false → VerdictIsOpen m k view p → VerdictIsOpen m (but_verdicts k leads asked waited) view p
    open_alike p first is = record {
      room = is.room;
      above = is.above;
      notarized = is.notarized;
      without = is.without;
      first = first;
      below = is.below;
      span = λ required needs. span_alike p.parent (is.span required (required_alike p.parent required needs));
    }

    -- so a verdict is due alike
    pub due_alike : (p : Proposal D) → asked view ≡ false → CertifyIsDue m k view p → CertifyIsDue m (but_verdicts k leads asked waited) view p
    due_alike p first due = record {
      opens = open_alike p first due.opens;
      explicit = λ required needs. due.explicit required (required_alike p.parent required needs);
    }

  -- and waits alike
  pub waits_alike : (m : Member) (k : Known D) (leads : ℕ → Option ℕ) (asked waited : ℕ → Bool) (view required : ℕ) → asked view ≡ false → CertifyWaits m k view required → CertifyWaits m (but_verdicts k leads asked waited) view required
  waits_alike m k leads asked waited view required first is = record {
    proposal = is.proposal;
    opens = open_alike m k leads asked waited view is.proposal first is.opens;
    requires_it = required_alike m (but_verdicts k leads asked waited) k.leader k.certify_asked k.certify_waited view is.proposal.parent required is.requires_it;
    missing = is.missing;
  }

module _ {S D P G C : Type 0} where
  put_elsewhere : (at view : ℕ) (x : Item S D P G C) (t : ℕ → List (Item S D P G C)) → (at ≡ view → ⊥) → put at x t view ≡ t view
  put_elsewhere at view x t other = put_holds (λ (l : List (Item S D P G C)). l ≡ t view) view at x t (λ same. absurd (other same)) refl

  -- that a verdict was asked for changes nothing else that verdicts rest on
  pub asked_known : (s : views.Setup S C) (h : List (views.Point S D P G C)) (at : ℕ) (token : Token)
      → known s (certify_asked at token ∷ h) ≡ but_verdicts (known s h) (leader s (certify_asked at token ∷ h)) (λ u. past.is_certify_asked (seen s (certify_asked at token ∷ h) u)) (known s h).certify_waited
  asked_known s h at token = λ i. record {
    current = views.current s h;
    last_finalized = views.last_finalized h;
    floor = views.floor s h;
    genesis = views.genesis h;
    leader = leader s (certify_asked at token ∷ h);
    offers = λ u. by (λ l. past.offers l) u (λ l. refl) i;
    nullified = views.was_nullified h;
    notarized = λ u. by (λ l. option_map (λ (c : Notarization S D P G C). c.proposal) (past.notarization l)) u (λ l. refl) i;
    finalized = λ u. by (λ l. option_map (λ (c : Finalization S D P G C). c.proposal) (past.finalization l)) u (λ l. refl) i;
    verdict = λ u. by (λ l. past.verdict l) u (λ l. refl) i;
    has_notarized = λ u. by (λ l. past.has_notarized l) u (λ l. refl) i;
    has_nullified = λ u. by (λ l. past.has_nullified l) u (λ l. refl) i;
    has_finalized = λ u. by (λ l. past.has_finalized l) u (λ l. refl) i;
    is_backed = (known s h).is_backed;
    last_asked = λ u. by (λ l. past.last_asked l) u (λ l. refl) i;
    binding = λ u. by (λ l. past.binding l) u (λ l. refl) i;
    certify_asked = λ u. past.is_certify_asked (seen s (certify_asked at token ∷ h) u);
    certify_waited = (known s h).certify_waited;
  }
    where
      by : {Y : Type 0} (F : List (Item S D P G C) → Y) (u : ℕ) → ((l : List (Item S D P G C)) → F (past.certifying token ∷ l) ≡ F l) → F (put at (past.certifying token) (seen s h) u) ≡ F (seen s h u)
      by F u same = put_holds (λ (l : List (Item S D P G C)). F l ≡ F (seen s h u)) u at (past.certifying token) (seen s h) (λ here prior. same (seen s h u)) refl

  -- a view of which a proposal is notarized is tracked
  pub notarized_tracked : (s : views.Setup S C) (h : List (views.Point S D P G C)) (view : ℕ) (p : Proposal D) → (known s h).notarized view ≡ Some p → IsTracked s h view
  notarized_tracked s h view p is = inl (λ none. none-some p (ap (λ (l : List (Item S D P G C)). option_map (λ (c : Notarization S D P G C). c.proposal) (past.notarization l)) (sym none) ∙ is))

  -- of another view nothing was asked by that
  pub asked_elsewhere : (s : views.Setup S C) (h : List (views.Point S D P G C)) (at view : ℕ) (token : Token) → (at ≡ view → ⊥) → past.is_certify_asked (seen s (certify_asked at token ∷ h) view) ≡ past.is_certify_asked (seen s h view)
  asked_elsewhere s h at view token other = ap past.is_certify_asked (put_elsewhere at view (past.certifying token) (seen s h) other)

  -- a verdict on another view stays due
  pub stays_due : (s : views.Setup S C) (h : List (views.Point S D P G C)) (at view : ℕ) (token : Token) (p : Proposal D) → (at ≡ view → ⊥) → CertifyIsDue (member s) (known s h) view p → CertifyIsDue (member s) (known s (certify_asked at token ∷ h)) view p
  stays_due s h at view token p other due =
      subst (λ (k : Known D). CertifyIsDue (member s) k view p) (sym (asked_known s h at token))
      (due_alike (member s) (known s h) (leader s (certify_asked at token ∷ h)) (λ u. past.is_certify_asked (seen s (certify_asked at token ∷ h) u)) (known s h).certify_waited view p (asked_elsewhere s h at view token other ∙ due.opens.first) due)

-- ---- verdicts that are put off

module _ {S D P G C : Type 0} (g : Ghosts S D P G C) (f : Formats S D P G C) (s : Setup S D C) where
  -- a verdict that is put off, behind which what it waits for was asked for, where that isn't there
  abbrev pub IsReadyToWait : History S D P G C → ℕ → Type 0
  IsReadyToWait h view = (required : ℕ) × IsPutOff (member_of s) (known_of s h) view required
      × (CertificateIsWanted (member_of s) (known_of s h) view required → IsAnswered f s h required (ancestry kind.Notarization) None)

  -- the verdicts on these views were put off, the first of them first: nothing is handed out for that, and nothing else changed
  pub record HasPutOff (waiting : List ℕ) (h : History S D P G C) : Type 0 where
    pub points : List (Point S D P G C)
    pub end : History S D P G C
    pub are_put_off : All (λ p. is_put_off p ≡ true) points
    pub goes : Goes g f s h points end
    pub voter_is : voter_of s end ≡ put_off waiting (voter_of s h)
    pub no_deeds : all_deeds g f s h points ≡ []
    pub some : waiting ≢ [] → points ≢ []
    pub repair_is : repair_of f end ≡ repair_of f h
    pub remembered_is : remembered end ≡ remembered h
    pub finalized_is : finalized_of s end ≡ finalized_of s h
    pub begun : is_begun end ≡ true
    pub leads : ℕ → Option ℕ
    pub waited : ℕ → Bool
    pub known_is : known_of s end ≡ but_verdicts (known_of s h) leads (known_of s h).certify_asked waited
    pub waits : (u : ℕ) → (waited u ≡ true) ↔ (((known_of s h).certify_waited u ≡ true) ⊎ Contains waiting u)

  apart : (a b : ℕ) → a < b → (a == b) ≡ false
  apart a b before = ⊎_elim (λ same. absurd (omega (arith, before, (Decides-eqb a b).0 same))) (λ is. is) (cases_Bool (a == b))

  -- the first is put off: what holds of the others still does
  still_ready : (h : History S D P G C) (view u : ℕ) → view < u → IsReadyToWait h u → IsReadyToWait (PutsOff view ∷ h) u
  still_ready h view u before ready =
      let k = known_of s h in
      let put_off_is : IsPutOff (member_of s) k u ready.0 = ready.1 in
      let l = leader s.voter (certify_waited view ∷ voter_of s h) in
      let w : ℕ → Bool = λ (v : ℕ). (view == v) || k.certify_waited v in (
        ready.0,
        record {
          waits = waits_alike (member_of s) k l k.certify_asked w u ready.0 put_off_is.waits.opens.first put_off_is.waits;
          first = ap (λ (b : Bool). b || k.certify_waited u) (apart view u before) ∙ put_off_is.first;
        },
        λ wanted. ready.2 (record {
          waits = put_off_is.waits;
          first = put_off_is.first;
          absent = wanted.absent;
        }),
      )

  pub puts_off : (waiting : List ℕ) (h : History S D P G C) → is_begun h ≡ true → AllPairs (λ (u w : ℕ). u < w) waiting → ((view : ℕ) → Contains waiting view → IsReadyToWait h view) → HasPutOff waiting h
  puts_off [] h begun pairs ready = record {
    points = [];
    end = h;
    are_put_off = All-nil (λ (q : Point S D P G C). is_put_off q ≡ true);
    goes = refl;
    voter_is = refl;
    no_deeds = refl;
    some = λ many. absurd (many refl);
    repair_is = refl;
    remembered_is = refl;
    finalized_is = refl;
    begun = begun;
    leads = (known_of s h).leader;
    waited = (known_of s h).certify_waited;
    known_is = refl;
    waits = λ u. (λ is. inl is, λ either. ⊎_elim (λ is. is) (λ none. absurd (Contains-nil u none)) either);
  }
  puts_off (view ∷ waiting) h begun pairs ready =
      let x : Point S D P G C = PutsOff view in
      let here : IsReadyToWait h view = ready view (Contains-head view waiting) in
      let may : Allowed g f s h x = record { order = begun; due = record { required = here.0; due = here.1; asked = here.2 }; fits = tt; readable = tt } in
      let rest : HasPutOff waiting (x ∷ h) = puts_off waiting (x ∷ h) begun (pairs_rest (λ (u w : ℕ). u < w) view waiting pairs)
      (λ u there. still_ready h view u (pairs_first (λ (a b : ℕ). a < b) view waiting u pairs there) (ready u (Contains-rest view waiting u there))) in
      record {
        points = x ∷ rest.points;
        end = rest.end;
        are_put_off = All-cons (λ (q : Point S D P G C). is_put_off q ≡ true) x rest.points refl rest.are_put_off;
        goes = (may, rest.goes);
        voter_is = rest.voter_is;
        no_deeds = rest.no_deeds;
        some = λ many. is_some_list x rest.points;
        repair_is = rest.repair_is;
        remembered_is = rest.remembered_is;
        finalized_is = rest.finalized_is;
        begun = rest.begun;
        leads = rest.leads;
        waited = rest.waited;
        known_is = rest.known_is;
        waits = λ u. (
          λ is. ⊎_elim
              (λ earlier. first_or (view == u) ((known_of s h).certify_waited u) u earlier (λ same. (Decides-eqb view u).0 same))
              (λ later. inr (Contains-rest view waiting u later))
              ((rest.waits u).0 is),
          λ either. (rest.waits u).1 (⊎_elim
              (λ earlier. inl (or_right (view == u) ((known_of s h).certify_waited u) earlier))
              (λ among. ⊎_elim
              (λ same. inl (or_left (view == u) ((known_of s h).certify_waited u) ((Decides-eqb view u).1 same)))
              (λ later. inr later)
              (Contains-cases view waiting u among))
              either),
        );
      }
    where
      first_or : (a b : Bool) (u : ℕ) → (a || b) ≡ true → (a ≡ true → view ≡ u) → (b ≡ true) ⊎ Contains (view ∷ waiting) u
      first_or true b u is same = inr (subst (λ (w : ℕ). Contains (view ∷ waiting) w) (same refl) (Contains-head view waiting))
      first_or false b u is same = inl is

      or_left : (a b : Bool) → a ≡ true → (a || b) ≡ true
      or_left true b is = refl
      or_left false b is = absurd (false≢true is)

      or_right : (a b : Bool) → b ≡ true → (a || b) ≡ true
      or_right true b is = refl
      or_right false b is = is

  -- the tables stand there too
  pub tables_put_off : (waiting : List ℕ) (h : History S D P G C) (tables : Tables S D P G C) (k : HasPutOff waiting h) → KeepsTables (finalized_of s h) tables h → KeepsTables (finalized_of s k.end) tables k.end
  tables_put_off waiting h tables k are =
      subst (λ (n : ℕ). Tells n tables (remembered k.end)) (sym k.finalized_is)
      (subst (λ (r : Remembered D P). Tells (finalized_of s h) tables r) (sym k.remembered_is) are)

  -- behind them a verdict is due just where it was
  pub due_behind : (waiting : List ℕ) (h : History S D P G C) (k : HasPutOff waiting h) (p : Proposal D) → CertifyIsDue (member_of s) (known_of s h) p.round.view p → CertifyIsDue (member_of s) (known_of s k.end) p.round.view p
  due_behind waiting h k p due =
      subst (λ (x : Known D). CertifyIsDue (member_of s) x p.round.view p) (sym k.known_is)
      (due_alike (member_of s) (known_of s h) k.leads (known_of s h).certify_asked k.waited p.round.view p due.opens.first due)

  due_before : (waiting : List ℕ) (h : History S D P G C) (k : HasPutOff waiting h) (p : Proposal D) → CertifyIsDue (member_of s) (known_of s k.end) p.round.view p → CertifyIsDue (member_of s) (known_of s h) p.round.view p
  due_before waiting h k p due =
      let there = subst (λ (x : Known D). CertifyIsDue (member_of s) x p.round.view p) k.known_is due in
      due_alike (member_of s) (but_verdicts (known_of s h) k.leads (known_of s h).certify_asked k.waited) (known_of s h).leader (known_of s h).certify_asked (known_of s h).certify_waited p.round.view p there.opens.first there

  waits_before : (waiting : List ℕ) (h : History S D P G C) (k : HasPutOff waiting h) (view required : ℕ) → IsPutOff (member_of s) (known_of s k.end) view required → CertifyWaits (member_of s) (known_of s h) view required × (k.waited view ≡ false)
  waits_before waiting h k view required is =
      let there = subst (λ (x : Known D). IsPutOff (member_of s) x view required) k.known_is is in (
        waits_alike (member_of s) (but_verdicts (known_of s h) k.leads (known_of s h).certify_asked k.waited) (known_of s h).leader (known_of s h).certify_asked (known_of s h).certify_waited view required there.waits.opens.first there.waits,
        there.first,
      )

  -- where no verdict was due, and all that were to be put off were, nothing is left
  pub no_verdict_left : (waiting : List ℕ) (h : History S D P G C) (k : HasPutOff waiting h) → ArePutOff (member_of s) (known_of s h) waiting → ((p : Proposal D) → CertifyIsDue (member_of s) (known_of s h) p.round.view p → ⊥) → NoVerdictToAsk g f s k.end
  no_verdict_left waiting h k are none = record {
    no_certify = λ p due. none p (due_before waiting h k p due);
    none_put_off = λ view required is.
        let before = waits_before waiting h k view required is in
        let waited_now : ((known_of s h).certify_waited view ≡ true) ⊎ Contains waiting view → ⊥ = λ either. false≢true (sym before.1 ∙ (k.waits view).1 either) in
        ⊎_elim
        (λ already. waited_now (inl already))
        (λ first. waited_now (inr ((are.exact view).1 (required, record { waits = before.0; first = first }))))
        (cases_Bool ((known_of s h).certify_waited view));
  }

-- ---- what they wait for

module _ {S D P G C : Type 0} (g : Ghosts S D P G C) (f : Formats S D P G C) (s : Setup S D C) where
  -- a notarization is one of these
  abbrev pub IsWantedIn : List CertificateFetch → ℕ → Type 0
  IsWantedIn wanted view = (fetch : CertificateFetch) × Contains wanted fetch × (fetch.view ≡ view)

  -- all of these notarizations were asked for but those that are left
  abbrev pub ParentsBut : List CertificateFetch → List CertificateFetch → Tables S D P G C → History S D P G C → List (Action S D P G C) → List (Action S D P G C) → Type 0
  ParentsBut wanted left tables h before after = (acted : Acted) × AsksBut g f s (ancestry kind.Notarization) (IsWantedIn wanted) (map (λ (x : CertificateFetch). x.view) left) tables h before after acted

  among_views : (wanted : List CertificateFetch) (view : ℕ) → Contains (map (λ (x : CertificateFetch). x.view) wanted) view → IsWantedIn wanted view
  among_views [] view there = absurd (Contains-nil view there)
  among_views (x ∷ wanted) view there = ⊎_elim
      (λ same. (x, Contains-head x wanted, same))
      (λ later. let rest = among_views wanted view later in (rest.0, Contains-rest x wanted rest.0 rest.1, rest.2))
      (Contains-cases x.view (map (λ (y : CertificateFetch). y.view) wanted) view there)

  views_among : (wanted : List CertificateFetch) (fetch : CertificateFetch) → Contains wanted fetch → Contains (map (λ (x : CertificateFetch). x.view) wanted) fetch.view
  views_among [] fetch there = absurd (Contains-nil fetch there)
  views_among (x ∷ wanted) fetch there = ⊎_elim
      (λ same. subst (λ (y : CertificateFetch). Contains (x.view ∷ map (λ (z : CertificateFetch). z.view) wanted) y.view) same (Contains-head x.view (map (λ (z : CertificateFetch). z.view) wanted)))
      (λ later. Contains-rest x.view (map (λ (z : CertificateFetch). z.view) wanted) fetch.view (views_among wanted fetch later))
      (Contains-cases x wanted fetch there)

  pub no_parent_asked : (wanted : List CertificateFetch) (tables : Tables S D P G C) (h : History S D P G C) (actions : List (Action S D P G C)) → KeepsTables (finalized_of s h) tables h → AreAllWanted g f s h wanted → ParentsBut wanted wanted tables h actions actions
  no_parent_asked wanted tables h actions are all = (
    came.Nothing,
    none_asked g f s (ancestry kind.Notarization) (IsWantedIn wanted) (map (λ (x : CertificateFetch). x.view) wanted) tables h actions are
        (λ view there. let one = among_views wanted view there in
        inr (refl, (one.0.proposal, subst (λ (v : ℕ). CertificateIsWanted (member_of s) (known_of s h) one.0.proposal v) one.2 (all one.0 one.1))))
        (λ view is. subst (λ (v : ℕ). Contains (map (λ (x : CertificateFetch). x.view) wanted) v) is.2 (views_among wanted is.0 is.1)),
  )

  -- whether any was sent by now
  abbrev came_by : Acted → Bool → Acted
  came_by acted true = came.Did
  came_by acted false = acted

  none_came : (acted : Acted) (sent : Bool) → came_by acted sent ≡ came.Nothing → (acted ≡ came.Nothing) × (sent ≡ false)
  none_came acted true is = absurd (cc is)
  none_came acted false is = (is, refl)

  some_came : (acted : Acted) (sent : Bool) → came_by acted sent ≡ came.Did → (acted ≡ came.Did) ⊎ (sent ≡ true)
  some_came acted true is = inr refl
  some_came acted false is = inl is

  -- one more was asked for
  pub one_parent_asked : (wanted : List CertificateFetch) (x : CertificateFetch) (left : List CertificateFetch) (repair : Repair) (first tables more : Tables S D P G C) (h : History S D P G C) (before mid after : List (Action S D P G C)) (sent : Bool) → RepairerKeeps g f s repair first h
      → ParentsBut wanted (x ∷ left) tables h before mid
      → ((end : History S D P G C) → repairing.Keeps s.voter.length repair (repair_of f end) → KeepsTables (finalized_of s end) tables end → Fetches f s more end (record { view = x.view; ask = ancestry kind.Notarization; to = None }) mid after sent)
      → ParentsBut wanted left more h before after
  one_parent_asked wanted x left repair first tables more h before mid after sent stands k fetches = (
    came_by k.0 sent,
    one_fewer g f s (ancestry kind.Notarization) (IsWantedIn wanted) x.view (map (λ (y : CertificateFetch). y.view) left) tables more h before mid after k.0 (came_by k.0 sent) sent stands.begun (none_came k.0 sent) (some_came k.0 sent) k.1
        (λ end aside back. absurd (cc (ap (λ (a : Ask). a.kind) back)))
        (λ end aside there. fetches end (subst (λ r. repairing.Keeps s.voter.length repair r) (sym aside.repair) stands.repair_is) there),
  )

  pub parents_asked : (wanted : List CertificateFetch) (tables : Tables S D P G C) (h : History S D P G C) (before after : List (Action S D P G C)) → ParentsBut wanted [] tables h before after → FetchesParents g f s tables h wanted before after
  parents_asked wanted tables h before after k = record {
    points = k.1.points;
    end = k.1.end;
    fetched = k.1.fetched;
    answered = λ fetch there. ⊎_elim (λ left. absurd (Contains-nil fetch.view left)) (λ is. sent_answered g f s k.1.end fetch.view (ancestry kind.Notarization) None is) (k.1.rest fetch.view (fetch, there, refl));
  }

put_off_is_ask : {S D P G C : Type 0} (p : Point S D P G C) → is_put_off p ≡ true → is_ask p ≡ true
put_off_is_ask (PutsOff view) is = refl
put_off_is_ask p is = absurd (false≢true is)

fetch_is_ask : {S D P G C : Type 0} (p : Point S D P G C) → is_fetch p ≡ true → is_ask p ≡ true
fetch_is_ask (Asks view ask to) is = refl
fetch_is_ask p is = absurd (false≢true is)

-- ---- verdicts that are asked for

module _ {S L D P G C : Type 0} (g : Ghosts S D P G C) (e : elector.Ghosts L S D P G C) (f : Formats S D P G C) (s : Setup S D C) where
  -- verdicts were asked for on so many proposals, on all but those that are left
  pub record AskedBut (count : ℕ) (left : List (Proposal D)) (voter : State S L D P G C) (tables : Tables S D P G C) (h : History S D P G C) (before after : List (Action S D P G C)) : Type 0 where
    pub points : List (Point S D P G C)
    pub end : History S D P G C
    pub asked : HasAsked g e f s voter tables h points end before after
    pub begun : is_begun end ≡ true
    pub due : AreDueVerdicts s end left
    pub some : 0 < count → points ≢ []

  pub no_verdict_asked : (ready : List (Proposal D)) (voter : State S L D P G C) (repair : Repair) (tables : Tables S D P G C) (h : History S D P G C) (actions : List (Action S D P G C)) → AskerKeeps g e f s voter repair tables h → AreDueVerdicts s h ready
      → AskedBut 0 ready voter tables h actions actions
  no_verdict_asked ready voter repair tables h actions k due = record {
    points = [];
    end = h;
    asked = record {
      are_asks = All-nil (λ (q : Point S D P G C). is_ask q ≡ true);
      goes = refl;
      voter_is = k.voter_is;
      tables_are = k.tables_are;
      acts = nothing_more f actions;
    };
    begun = k.begun;
    due = due;
    some = λ any. absurd (omega (arith, any));
  }

  pub one_verdict_asked : (count : ℕ) (p : Proposal D) (left : List (Proposal D)) (voter more : State S L D P G C) (tables told : Tables S D P G C) (h : History S D P G C) (before mid after : List (Action S D P G C)) → AskedBut count (p ∷ left) voter tables h before mid
      → ((v : views.Setup S C) (x : List (views.Point S D P G C)) → voting.Keeps g e v voter x → AddsIfTracked g e v more x p.round.view (certify_asked p.round.view (record { 0 = p.round.view })))
      → ((low : ℕ) (x : History S D P G C) → KeepsTables low tables x → low < p.round.view → KeepsTables low told (AsksCertify p ∷ x))
      → AddsDeeds f mid after (Certifies p ∷ []) → AskedBut (count + 1) left more told h before after
  one_verdict_asked count p left voter more tables told h before mid after k adds tells acts =
      let Due : Proposal D → Type 0 = λ q. CertifyIsDue (member_of s) (known_of s k.end) q.round.view q in
      let x : Point S D P G C = AsksCertify p in
      let token : Token = record { 0 = p.round.view } in
      let due : CertifyIsDue (member_of s) (known_of s k.end) p.round.view p = All-head Due p left k.due.due in
      let may : Allowed g f s k.end x = record { order = k.begun; due = due; fits = tt; readable = tt } in
      let keeps : voting.Keeps g e s.voter more (certify_asked p.round.view token ∷ voter_of s k.end) = ⊎_elim
      (λ added. added.1)
      (λ untracked. absurd (untracked.0 (notarized_tracked s.voter (voter_of s k.end) p.round.view p due.opens.notarized)))
      (adds s.voter (voter_of s k.end) k.asked.voter_is) in
      record {
        points = k.points ++ x ∷ [];
        end = x ∷ k.end;
        asked = record {
          are_asks = All-push (λ (q : Point S D P G C). is_ask q ≡ true) k.points x k.asked.are_asks refl;
          goes = goes_then g f s h k.end (x ∷ k.end) k.points (x ∷ []) k.asked.goes (may, refl);
          voter_is = keeps;
          tables_are = tells (finalized_of s k.end) k.end k.asked.tables_are due.opens.above;
          acts = hands_as f before after (all_deeds g f s h (k.points ++ x ∷ [])) (all_deeds g f s h k.points ++ (Certifies p ∷ []))
              (deeds_then g f s h k.end k.points (x ∷ []) k.asked.goes) (both_more f before mid after (all_deeds g f s h k.points) (Certifies p ∷ []) k.asked.acts acts);
        };
        begun = k.begun;
        due = record {
          due = All-weaker (Contains left) (λ q. CertifyIsDue (member_of s) (known_of s (x ∷ k.end)) q.round.view q)
              (λ q there. stays_due s.voter (voter_of s k.end) p.round.view q.round.view token q (λ same. absurd (omega (arith, same, pairs_first (λ (a b : Proposal D). a.round.view < b.round.view) p left q k.due.ascend there)))
              (All-contains Due left q (All-tail Due p left k.due.due) there)) left (All-contains_itself left);
          ascend = pairs_rest (λ (a b : Proposal D). a.round.view < b.round.view) p left k.due.ascend;
        };
        some = λ any. on_behind k.points (x ∷ []) (is_some_list x []);
      }

  -- when none is left, some were asked for, if there were any
  pub verdicts_asked : (voter : State S L D P G C) (tables : Tables S D P G C) (h : History S D P G C) (before after : List (Action S D P G C)) (count : ℕ) (ready left : List (Proposal D)) → length ready ≤ count → AskedBut count left voter tables h before after
      → AsksForEach g e f s voter tables h ready before after
  verdicts_asked voter tables h before after count ready left all k = record {
    points = k.points;
    end = k.end;
    asked = k.asked;
    some = λ many. k.some (some_of ready all many);
  }
    where
      some_of : (xs : List (Proposal D)) → length xs ≤ count → xs ≢ [] → 0 < count
      some_of [] within many = absurd (many refl)
      some_of (x ∷ xs) within many = omega (arith, within)

  -- views were asked for, then verdicts put off, then others asked for
  pub all_asked_for : (voter : State S L D P G C) (first tables : Tables S D P G C) (h : History S D P G C) (waiting : List ℕ) (points : List (Point S D P G C)) (at : History S D P G C) (before mid after : List (Action S D P G C))
      (ready : List (Proposal D)) → HasFetched g f s first h points at before mid → (k : HasPutOff g f s waiting at) → AsksForEach g e f s voter tables k.end ready mid after → (waiting ≢ []) ⊎ (ready ≢ []) → WasAsked g e f s voter tables h before after
  all_asked_for voter first tables h waiting points at before mid after ready fetched k more any = record {
    points = points ++ (k.points ++ more.points);
    end = more.end;
    asked = record {
      are_asks = All-append (λ (q : Point S D P G C). is_ask q ≡ true) points (k.points ++ more.points)
          (All-weaker (λ q. is_fetch q ≡ true) (λ q. is_ask q ≡ true) fetch_is_ask points fetched.are_fetches)
          (All-append (λ (q : Point S D P G C). is_ask q ≡ true) k.points more.points
          (All-weaker (λ q. is_put_off q ≡ true) (λ q. is_ask q ≡ true) put_off_is_ask k.points k.are_put_off) more.asked.are_asks);
      goes = goes_then g f s h at more.end points (k.points ++ more.points) fetched.goes (goes_then g f s at k.end more.end k.points more.points k.goes more.asked.goes);
      voter_is = more.asked.voter_is;
      tables_are = more.asked.tables_are;
      acts = hands_as f before after (all_deeds g f s h (points ++ (k.points ++ more.points))) (all_deeds g f s h points ++ all_deeds g f s k.end more.points)
          (deeds_then g f s h at points (k.points ++ more.points) fetched.goes
          ∙ ap (λ (l : List (Deed S D P G C)). all_deeds g f s h points ++ l)
          (deeds_then g f s at k.end k.points more.points k.goes ∙ ap (λ (l : List (Deed S D P G C)). l ++ all_deeds g f s k.end more.points) k.no_deeds))
          (both_more f before mid after (all_deeds g f s h points) (all_deeds g f s k.end more.points) fetched.acts more.asked.acts);
    };
    some = on_behind points (k.points ++ more.points) (⊎_elim
        (λ waits. on_before k.points more.points (k.some waits))
        (λ asks. on_behind k.points more.points (more.some asks))
        any);
  }

  -- ---- all of it

  allowed_then : (h end : History S D P G C) (points : List (Point S D P G C)) → Goes g f s h points end → AreAllowed g f s h → AreAllowed g f s end
  allowed_then h end [] is all = subst (λ (x : History S D P G C). AreAllowed g f s x) (sym is) all
  allowed_then h end (p ∷ points) goes all = allowed_then (p ∷ h) end points goes.1 (goes.0, all)

  -- who stands where this history leads, and has put the verdicts on these views off
  pub record HasLookedAt (voter : State S L D P G C) (h : History S D P G C) (ready : List (Proposal D)) (fetches : List CertificateFetch) : Type 0 where
    pub waiting : List ℕ
    pub are_put_off : ArePutOff (member_of s) (known_of s h) waiting
    pub voter_is : voting.Keeps g e s.voter voter (put_off waiting (voter_of s h))
    pub are_ready : AreReady (member_of s) (known_of s h) ready
    pub are_wanted : AreWanted (member_of s) (known_of s h) fetches

  pub has_looked_at : (voter : State S L D P G C) (h : History S D P G C) (ready : List (Proposal D)) (fetches : List CertificateFetch) → ((waiting : List ℕ) × ArePutOff (member_of s) (known_of s h) waiting × voting.Keeps g e s.voter voter (put_off waiting (voter_of s h)))
      → AreReady (member_of s) (known_of s h) ready → AreWanted (member_of s) (known_of s h) fetches → HasLookedAt voter h ready fetches
  has_looked_at voter h ready fetches is are_ready are_wanted = record {
    waiting = is.0;
    are_put_off = is.1;
    voter_is = is.2;
    are_ready = are_ready;
    are_wanted = are_wanted;
  }

  -- verdicts that wait may be put off, once what they wait for was asked for
  ready_to_wait : (voter : State S L D P G C) (h at : History S D P G C) (ready : List (Proposal D)) (fetches : List CertificateFetch) (k : HasLookedAt voter h ready fetches) → voter_of s at ≡ voter_of s h
      → ((fetch : CertificateFetch) → Contains fetches fetch → IsAnswered f s at fetch.view (ancestry kind.Notarization) None) → (view : ℕ) → Contains k.waiting view → IsReadyToWait g f s at view
  ready_to_wait voter h at ready fetches k same answered view there =
      let due = (k.are_put_off.exact view).0 there in (
        due.0,
        subst (λ (v : List (views.Point S D P G C)). IsPutOff (member_of s) (known s.voter v) view due.0) (sym same) due.1,
        λ wanted. answered (record { proposal = view; view = due.0 })
            ((k.are_wanted.exact (record { proposal = view; view = due.0 })).1 (subst (λ (v : List (views.Point S D P G C)). CertificateIsWanted (member_of s) (known s.voter v) view due.0) same wanted)),
      )

  -- nothing is left where no verdict was to be asked for, and no notarization
  pub no_verdict_due : (voter : State S L D P G C) (tables : Tables S D P G C) (h : History S D P G C) (ready : List (Proposal D)) (fetches : List CertificateFetch) (actions : List (Action S D P G C)) → is_begun h ≡ true → KeepsTables (finalized_of s h) tables h
      → HasLookedAt voter h ready fetches → ready ≡ [] → fetches ≡ [] → HadNothingToAsk g e f s is_put_off (NoVerdictToAsk g f s) voter tables h actions actions
  no_verdict_due voter tables h ready fetches actions begun tables_are k none_ready none_wanted =
      let no_fetch : (fetch : CertificateFetch) → Contains fetches fetch → IsAnswered f s h fetch.view (ancestry kind.Notarization) None =
      λ fetch there. absurd (Contains-nil fetch (subst (λ (l : List CertificateFetch). Contains l fetch) none_wanted there)) in
      let put : HasPutOff g f s k.waiting h = puts_off g f s k.waiting h begun k.are_put_off.ascend (ready_to_wait voter h h ready fetches k refl no_fetch) in
      record {
        points = put.points;
        end = put.end;
        are_kind = put.are_put_off;
        asked = record {
          are_asks = All-weaker (λ q. is_put_off q ≡ true) (λ q. is_ask q ≡ true) put_off_is_ask put.points put.are_put_off;
          goes = put.goes;
          voter_is = subst (λ (v : List (views.Point S D P G C)). voting.Keeps g e s.voter voter v) (sym put.voter_is) k.voter_is;
          tables_are = tables_put_off g f s k.waiting h tables put tables_are;
          acts = hands_as f actions actions (all_deeds g f s h put.points) [] put.no_deeds (nothing_more f actions);
        };
        none = no_verdict_left g f s k.waiting h put k.are_put_off
            (λ p due. Contains-nil p (subst (λ (l : List (Proposal D)). Contains l p) none_ready ((k.are_ready.exact p).1 due)));
      }

  -- else all of them are asked for
  pub verdicts_come : (old voter new : State S L D P G C) (repair : Repair) (tables mid_tables told : Tables S D P G C) (h : History S D P G C) (ready : List (Proposal D)) (fetches : List CertificateFetch) (before mid after : List (Action S D P G C))
      → AskerKeeps g e f s old repair tables h → HasLookedAt voter h ready fetches → (AreAllWanted g f s h fetches → FetchesParents g f s mid_tables h fetches before mid)
      → ((x : History S D P G C) → AskerKeeps g e f s voter repair mid_tables x → AreDueVerdicts s x ready → AsksForEach g e f s new told x ready mid after) → (ready ≡ [] → fetches ≡ [] → ⊥) → WasAsked g e f s new told h before after
  verdicts_come old voter new repair tables mid_tables told h ready fetches before mid after stands k fetches_them asks_each any =
      let parents : FetchesParents g f s mid_tables h fetches before mid = fetches_them (λ fetch there. (k.are_wanted.exact fetch).0 there) in
      let aside = stands_aside g f s h parents.end parents.points parents.fetched.are_fetches parents.fetched.goes in
      let put : HasPutOff g f s k.waiting parents.end = puts_off g f s k.waiting parents.end (aside.begun stands.begun) k.are_put_off.ascend (ready_to_wait voter h parents.end ready fetches k aside.voter parents.answered) in
      let there : AskerKeeps g e f s voter repair mid_tables put.end = record {
        begun = put.begun;
        allowed = allowed_then parents.end put.end put.points put.goes (aside.allowed stands.allowed);
        voter_is = subst (λ (v : List (views.Point S D P G C)). voting.Keeps g e s.voter voter v) (sym (put.voter_is ∙ ap (λ (v : List (views.Point S D P G C)). put_off k.waiting v) aside.voter)) k.voter_is;
        repair_is = subst (λ r. repairing.Keeps s.voter.length repair r) (sym (put.repair_is ∙ aside.repair)) stands.repair_is;
        tables_are = tables_put_off g f s k.waiting parents.end mid_tables put parents.fetched.tables_are;
      } in
      let due : AreDueVerdicts s put.end ready = record {
        due = All-weaker (Contains ready) (λ q. CertifyIsDue (member_of s) (known_of s put.end) q.round.view q)
            (λ q among. due_behind g f s k.waiting parents.end put q
            (subst (λ (v : List (views.Point S D P G C)). CertifyIsDue (member_of s) (known s.voter v) q.round.view q) (sym aside.voter) ((k.are_ready.exact q).0 among)))
            ready (All-contains_itself ready);
        ascend = k.are_ready.ascend;
      } in
      all_asked_for new mid_tables told h k.waiting parents.points parents.end before mid after ready parents.fetched put (asks_each put.end there due)
      (⊎_elim (λ none. inl (waits_for (one_of fetches (any none)))) (λ many. inr many) (empty_or_not ready))
    where
      -- a verdict waits for each notarization that is fetched
      waits_for : (fetch : CertificateFetch) × Contains fetches fetch → k.waiting ≢ []
      waits_for some none =
          let wanted = (k.are_wanted.exact some.0).0 some.1 in
          let waits : Contains k.waiting some.0.proposal = (k.are_put_off.exact some.0.proposal).1 (some.0.view, record { waits = wanted.waits; first = wanted.first }) in
          Contains-nil some.0.proposal (subst (λ (l : List ℕ). Contains l some.0.proposal) none waits)
