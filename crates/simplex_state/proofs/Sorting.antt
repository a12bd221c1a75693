-- What is found while views are looked at, ascending.
use Rattle.std.proofs.Common.{◌≡◌, ◌⊎◌, inl, inr, false, ℕ, List, [], ◌∷◌, ◌++◌, refl, sym, ◌∙◌, ap, subst, get_or, ◌+◌, ◌<◌, ◌≤◌, ◌^◌, arith}
use mathlib.Core.Bool.{true≢false}
use Rattle.std.proofs.lemmas.Bool.{cases_lt}
use Rattle.std.proofs.lemmas.Bool.Decides.{nat_tests}
use Rattle.std.proofs.lemmas.List.Elements.{Contains-append_left, Contains-append_right, Contains-append_cases, Contains-get_or}
use Rattle.std.proofs.lemmas.List.Quantifiers.{all_pairs_push}
use Rattle.std.proofs.lemmas.Option.{same_Some}
use Rattle.std.specs.Prelude.{◌↔◌, AllPairs, Contains, Some, None, is_some, IsSome, IsTrue}
use Rattle.std.specs.Ordering.{nat_cmp}
use Rattle.std.specs.BTreeMap.{is_at}
use Rattle.std.specs.BTreeSet.{BTreeSet, contains, IsLowerBound, Updates}
use Rattle.types_quorum.specs.Counting.{Contains-nil, Contains-head}
use Rattle.types_core.specs.declared.proposal.Proposal.{Proposal}
use Rattle.types_terms.specs.Spans.{term_end-above}
use Rattle.voter_history.specs.Known.{Known}
use Rattle.voter_rules.specs.Ancestry.{Member, explicit, IsRequired}
use Rattle.voter_rules.specs.Asking.{Decides}
use Rattle.voter_rules.specs.Requests.{VerdictIsOpen, CertifyIsDue, CertifyWaits, IsPutOff, CertificateIsWanted, MayBeAsked, AreReady, ArePutOff}
use Rattle.voter_rules.specs.declared.requests.CertifyRequest.{CertifyRequest}
use Rattle.voter_rules.specs.declared.requests.CertifyRequest.TheVariants as certify
use Rattle.voter_rules.specs.declared.certificate_fetch.CertificateFetch.{CertificateFetch}
use Rattle.simplex_state.specs.declared.state.certifying.Verdicts.{Verdicts}
use Rattle.simplex_state.specs.Candidates.{Adds, AreAll, AreWanted}
use Rattle.simplex_state.proofs.Members.{only_element}

in_push : {X : Type 0} (xs : List X) (x : X) → Contains (xs ++ x ∷ []) x
in_push xs x = Contains-append_right xs (x ∷ []) x (Contains-head x [])

module _ {X : Type 0} (key : X → ℕ) (Due : X → Type 0) where
  -- a list has all that is due of the views before the end, ascending
  pub record IsSorted (end : ℕ) (xs : List X) : Type 0 where
    pub exact : (x : X) → Contains xs x ↔ ((key x < end) × Due x)
    pub ascend : AllPairs (λ (x y : X). key x < key y) xs

  begins : IsSorted 0 []
  begins = record { exact = λ x. (λ there. absurd (Contains-nil x there), λ below. absurd (omega (arith, below.0))); ascend = λ i j d before small. absurd (omega (arith, small)) }

  -- where nothing is due of one more view, nor of those that were passed over
  passes : (view end : ℕ) (xs : List X) → IsSorted end xs → end ≤ view → ((x : X) → end ≤ key x → key x ≤ view → Due x → ⊥) → IsSorted (view + 1) xs
  passes view end xs s from none = record {
    exact = λ x. (
      λ there. let found = (s.exact x).0 there in (omega (arith, found.0, from), found.1),
      λ is. elim (cases_lt (key x) end) [ inl before ↦ (s.exact x).1 (before, is.1) | inr behind ↦ absurd (none x behind (omega (arith, is.0)) is.1) ],
    );
    ascend = s.ascend;
  }

  -- where this one is
  grows_by : (view end : ℕ) (xs : List X) (y : X) → IsSorted end xs → end ≤ view → key y ≡ view → Due y → ((x : X) → end ≤ key x → key x ≤ view → Due x → x ≡ y) → IsSorted (view + 1) (xs ++ y ∷ [])
  grows_by view end xs y s from at due one = record {
    exact = λ x. (
      λ there. elim (Contains-append_cases xs (y ∷ []) x there) [
        | inl among ↦ let found = (s.exact x).0 among in (omega (arith, found.0, from), found.1)
        | inr last ↦ subst (λ (z : X). (key z < view + 1) × Due z) (only_element y x last) (omega (arith, at), due)
      ],
      λ is. elim (cases_lt (key x) end) [
        | inl before ↦ Contains-append_left xs (y ∷ []) x ((s.exact x).1 (before, is.1))
        | inr behind ↦ subst (λ (z : X). Contains (xs ++ y ∷ []) z) (sym (one x behind (omega (arith, is.0)) is.1)) (in_push xs y)
      ],
    );
    ascend = all_pairs_push (λ (a b : X). key a < key b) xs y s.ascend
        (λ k d small. let found = (s.exact (get_or xs k d)).0 (Contains-get_or xs k d small) in omega (arith, found.0, from, at));
  }

module _ {D : Type 0} (m : Member) (k : Known D) where
  -- what is to ask is among what may be
  due_may : (view : ℕ) (p : Proposal D) → CertifyIsDue m k view p → MayBeAsked m k view p
  due_may view p due = record { opens = due.opens; woken = λ waited. due.explicit }

  put_off_may : (view required : ℕ) → IsPutOff m k view required → (p : Proposal D) × MayBeAsked m k view p
  put_off_may view required is = (is.waits.proposal, record { opens = is.waits.opens; woken = λ waited. absurd (true≢false (sym waited ∙ is.first)) })

  wanted_is_put_off : (view required : ℕ) → CertificateIsWanted m k view required → IsPutOff m k view required
  wanted_is_put_off view required wanted = record { waits = wanted.waits; first = wanted.first }

  same_proposal : (view : ℕ) (p q : Proposal D) → VerdictIsOpen m k view p → VerdictIsOpen m k view q → p ≡ q
  same_proposal view p q a b = same_Some p q (sym a.notarized ∙ b.notarized)

  same_required : (view u w : ℕ) → CertifyWaits m k view u → CertifyWaits m k view w → u ≡ w
  same_required view u w a b = omega (arith, a.requires_it.next, b.requires_it.next)

  -- one that waits has a required parent that isn't explicit
  unexplicit : (view u : ℕ) (p : Proposal D) → CertifyWaits m k view u → VerdictIsOpen m k view p → ((required : ℕ) → IsRequired m k view p.parent required → IsSome (explicit m k required)) → ⊥
  unexplicit view u p waits opens all =
      let one : waits.proposal ≡ p = same_proposal view waits.proposal p waits.opens opens in
      true≢false (sym (all u (subst (λ (q : Proposal D). IsRequired m k view q.parent u) one waits.requires_it)) ∙ ap is_some waits.missing)

  not_due : (view u : ℕ) (p : Proposal D) → CertifyWaits m k view u → CertifyIsDue m k view p → ⊥
  not_due view u p waits due = unexplicit view u p waits due.opens due.explicit

  -- it is found in a view with a number of 64 bits
  fits : (view : ℕ) (p : Proposal D) → 0 < m.length → MayBeAsked m k view p → view < 2 ^ 64
  fits view p some may = let end = term_end-above m.length view some in let room = may.opens.room in omega (arith, end, room)

  -- all that is to ask for the views before the end was found
  pub record IsFound (end : ℕ) (proposals : List (Proposal D)) (asks : List CertificateFetch) (views : List ℕ) : Type 0 where
    pub ready : IsSorted (λ (p : Proposal D). p.round.view) (λ (p : Proposal D). CertifyIsDue m k p.round.view p) end proposals
    pub fetches : IsSorted (λ (f : CertificateFetch). f.proposal) (λ (f : CertificateFetch). CertificateIsWanted m k f.proposal f.view) end asks
    pub put_off : IsSorted (λ (u : ℕ). u) (λ (u : ℕ). (required : ℕ) × IsPutOff m k u required) end views
    pub sorted : (view : ℕ) (p : Proposal D) → view < end → MayBeAsked m k view p → ((q : Proposal D) × Contains proposals q × (q.round.view ≡ view)) ⊎ Contains views view

  module _ (at : (view : ℕ) (p : Proposal D) → k.notarized view ≡ Some p → p.round.view ≡ view) (view end : ℕ) (ready : List (Proposal D)) (fetches : List CertificateFetch) (waiting : List ℕ)
      (found : IsFound end ready fetches waiting) (from : end ≤ view) (none : (u : ℕ) (p : Proposal D) → end ≤ u → u < view → MayBeAsked m k u p → ⊥) where
    -- what may be to ask up to this view, and wasn't looked at, is for it
    here : (u : ℕ) (p : Proposal D) → end ≤ u → u ≤ view → MayBeAsked m k u p → u ≡ view
    here u p behind to may = elim (cases_lt u view) [ inl before ↦ absurd (none u p behind before may) | inr after ↦ omega (arith, after, to) ]

    no_ready : ((p : Proposal D) → CertifyIsDue m k view p → ⊥) → IsSorted (λ (p : Proposal D). p.round.view) (λ (p : Proposal D). CertifyIsDue m k p.round.view p) (view + 1) ready
    no_ready not = passes (λ (p : Proposal D). p.round.view) (λ (p : Proposal D). CertifyIsDue m k p.round.view p) view end ready found.ready from
        (λ p behind to due. not p (subst (λ (u : ℕ). CertifyIsDue m k u p) (here p.round.view p behind to (due_may p.round.view p due)) due))

    one_ready : (p : Proposal D) → CertifyIsDue m k view p → IsSorted (λ (p : Proposal D). p.round.view) (λ (p : Proposal D). CertifyIsDue m k p.round.view p) (view + 1) (ready ++ p ∷ [])
    one_ready p due =
        let is : p.round.view ≡ view = at view p due.opens.notarized in
        grows_by (λ (p : Proposal D). p.round.view) (λ (p : Proposal D). CertifyIsDue m k p.round.view p) view end ready p found.ready from is (subst (λ (u : ℕ). CertifyIsDue m k u p) (sym is) due)
        (λ q behind to other. same_proposal view q p (subst (λ (u : ℕ). VerdictIsOpen m k u q) (here q.round.view q behind to (due_may q.round.view q other)) other.opens) due.opens)

    no_fetch : ((u : ℕ) → CertificateIsWanted m k view u → ⊥)
        → IsSorted (λ (f : CertificateFetch). f.proposal) (λ (f : CertificateFetch). CertificateIsWanted m k f.proposal f.view) (view + 1) fetches
    no_fetch not = passes (λ (f : CertificateFetch). f.proposal) (λ (f : CertificateFetch). CertificateIsWanted m k f.proposal f.view) view end fetches found.fetches from
        (λ f behind to wanted.
        let may = put_off_may f.proposal f.view (wanted_is_put_off f.proposal f.view wanted) in
        not f.view (subst (λ (u : ℕ). CertificateIsWanted m k u f.view) (here f.proposal may.0 behind to may.1) wanted))

    one_fetch : (u : ℕ) → CertificateIsWanted m k view u
        → IsSorted (λ (f : CertificateFetch). f.proposal) (λ (f : CertificateFetch). CertificateIsWanted m k f.proposal f.view) (view + 1) (fetches ++ record { proposal = view; view = u } ∷ [])
    one_fetch u wanted = grows_by (λ (f : CertificateFetch). f.proposal) (λ (f : CertificateFetch). CertificateIsWanted m k f.proposal f.view) view end fetches (record { proposal = view; view = u }) found.fetches from refl wanted
        (λ f behind to other.
        let may = put_off_may f.proposal f.view (wanted_is_put_off f.proposal f.view other) in
        let own : f.proposal ≡ view = here f.proposal may.0 behind to may.1 in
        let parent : f.view ≡ u = same_required view f.view u (subst (λ (w : ℕ). CertifyWaits m k w f.view) own other.waits) wanted.waits in
        λ i. record { proposal = own i; view = parent i })

    no_put_off : ((u : ℕ) → IsPutOff m k view u → ⊥) → IsSorted (λ (u : ℕ). u) (λ (u : ℕ). (required : ℕ) × IsPutOff m k u required) (view + 1) waiting
    no_put_off not = passes (λ (u : ℕ). u) (λ (u : ℕ). (required : ℕ) × IsPutOff m k u required) view end waiting found.put_off from
        (λ u behind to is.
        let may = put_off_may u is.0 is.1 in
        not is.0 (subst (λ (w : ℕ). IsPutOff m k w is.0) (here u may.0 behind to may.1) is.1))

    one_put_off : (u : ℕ) → IsPutOff m k view u → IsSorted (λ (u : ℕ). u) (λ (u : ℕ). (required : ℕ) × IsPutOff m k u required) (view + 1) (waiting ++ view ∷ [])
    one_put_off u is = grows_by (λ (u : ℕ). u) (λ (u : ℕ). (required : ℕ) × IsPutOff m k u required) view end waiting view found.put_off from refl (u, is)
        (λ w behind to other. let may = put_off_may w other.0 other.1 in here w may.0 behind to may.1)

    -- and those that were looked at are still sorted, with this one
    still_sorted : (new_ready : List (Proposal D)) (new_waiting : List ℕ) → ((q : Proposal D) → Contains ready q → Contains new_ready q) → ((u : ℕ) → Contains waiting u → Contains new_waiting u)
        → ((p : Proposal D) → MayBeAsked m k view p → ((q : Proposal D) × Contains new_ready q × (q.round.view ≡ view)) ⊎ Contains new_waiting view)
        → (w : ℕ) (p : Proposal D) → w < view + 1 → MayBeAsked m k w p → ((q : Proposal D) × Contains new_ready q × (q.round.view ≡ w)) ⊎ Contains new_waiting w
    still_sorted new_ready new_waiting more_ready more_waiting own w p below may = elim (cases_lt w end) [
      | inl before ↦ elim (found.sorted w p before may) [ inl is ↦ inl (is.0, more_ready is.0 is.1, is.2) | inr is ↦ inr (more_waiting w is) ]
      | inr behind ↦
          let same : w ≡ view = here w p behind (omega (arith, below)) may in
          subst (λ (u : ℕ). ((q : Proposal D) × Contains new_ready q × (q.round.view ≡ u)) ⊎ Contains new_waiting u) (sym same) (own p (subst (λ (u : ℕ). MayBeAsked m k u p) same may))
    ]

    found_ready : (p : Proposal D) → CertifyIsDue m k view p → IsFound (view + 1) (ready ++ p ∷ []) fetches waiting
    found_ready p due = record {
      ready = one_ready p due;
      fetches = no_fetch (λ u wanted. not_due view u p wanted.waits due);
      put_off = no_put_off (λ u is. not_due view u p is.waits due);
      sorted = still_sorted (ready ++ p ∷ []) waiting (λ q there. Contains-append_left ready (p ∷ []) q there) (λ u there. there) (λ q may. inl (p, in_push ready p, at view p due.opens.notarized));
    }

    found_fetch : (u : ℕ) → CertificateIsWanted m k view u → IsFound (view + 1) ready (fetches ++ record { proposal = view; view = u } ∷ []) (waiting ++ view ∷ [])
    found_fetch u wanted = record {
      ready = no_ready (λ p due. not_due view u p wanted.waits due);
      fetches = one_fetch u wanted;
      put_off = one_put_off u (wanted_is_put_off view u wanted);
      sorted = still_sorted ready (waiting ++ view ∷ []) (λ q there. there) (λ w there. Contains-append_left waiting (view ∷ []) w there) (λ q may. inr (in_push waiting view));
    }

    found_put_off : (u : ℕ) → IsPutOff m k view u → IsSome (k.notarized u) → IsFound (view + 1) ready fetches (waiting ++ view ∷ [])
    found_put_off u is there = record {
      ready = no_ready (λ p due. not_due view u p is.waits due);
      fetches = no_fetch (λ w wanted. true≢false (sym there ∙ ap is_some (subst (λ (v : ℕ). k.notarized v ≡ None) (same_required view w u wanted.waits is.waits) wanted.absent)));
      put_off = one_put_off u is;
      sorted = still_sorted ready (waiting ++ view ∷ []) (λ q there. there) (λ w there. Contains-append_left waiting (view ∷ []) w there) (λ q may. inr (in_push waiting view));
    }

    found_none : Decides m k view certify.Wait → IsFound (view + 1) ready fetches waiting
    found_none wait = record {
      ready = no_ready (λ p due. let is = wait p due.opens in not_due view is.1.0 p is.1.1 due);
      fetches = no_fetch (λ u wanted. true≢false (sym (wait wanted.waits.proposal wanted.waits.opens).0 ∙ wanted.first));
      put_off = no_put_off (λ u is. true≢false (sym (wait is.waits.proposal is.waits.opens).0 ∙ is.first));
      sorted = still_sorted ready waiting (λ q there. there) (λ u there. there)
          (λ p may. let is = wait p may.opens in absurd (unexplicit view is.1.0 p is.1.1 may.opens (may.woken is.0)));
    }

    found_more : (request : CertifyRequest D) → Decides m k view request → (old new : Verdicts D) → old.ready.items ≡ ready → old.fetches.items ≡ fetches → old.put_off.items ≡ waiting → Adds view request old new
        → IsFound (view + 1) new.ready.items new.fetches.items new.put_off.items
    found_more (certify.Ready p) due old new r f w adds = rw (adds.0, adds.1, adds.2, r, f, w) (found_ready p due)
    found_more (certify.Fetch u) wanted old new r f w adds = rw (adds.0, adds.1, adds.2, r, f, w) (found_fetch u wanted)
    found_more (certify.PutOff u) is old new r f w adds = rw (adds.0, adds.1, adds.2, r, f, w) (found_put_off u is.0 is.1)
    found_more certify.Wait wait old new r f w adds = rw (adds.0, adds.1, adds.2, r, f, w) (found_none wait)

  -- how far a look at views got: these are left
  pub record IsLookedAt (end : ℕ) (v : Verdicts D) (rest : BTreeSet ℕ) : Type 0 where
    pub found : IsFound end v.ready.items v.fetches.items v.put_off.items
    pub left : (u : ℕ) (p : Proposal D) → end ≤ u → MayBeAsked m k u p → IsTrue (contains nat_cmp rest u)
    pub ahead : (u : ℕ) → IsTrue (contains nat_cmp rest u) → end ≤ u

  pub looked_at_none : (v : Verdicts D) (rest : BTreeSet ℕ) → 0 < m.length → v.ready.items ≡ [] → v.fetches.items ≡ [] → v.put_off.items ≡ []
      → ((u : ℕ) (p : Proposal D) → u < 2 ^ 64 → MayBeAsked m k u p → IsTrue (contains nat_cmp rest u)) → IsLookedAt 0 v rest
  looked_at_none v rest some ready fetches waiting all = record {
    found = record {
      ready = rw ready (begins _ _);
      fetches = rw fetches (begins _ _);
      put_off = rw waiting (begins _ _);
      sorted = λ view p below may. absurd (omega (arith, below));
    };
    left = λ u p from may. all u p (fits u p some may) may;
    ahead = λ u there. omega arith;
  }

  pub looked_at_more : (at : (view : ℕ) (p : Proposal D) → k.notarized view ≡ Some p → p.round.view ≡ view) (view end : ℕ) (old new : Verdicts D) (rest less : BTreeSet ℕ) → IsLookedAt end old rest
      → IsTrue (contains nat_cmp rest view) → IsLowerBound nat_cmp rest view → Updates nat_cmp rest less view false → (request : CertifyRequest D) → Decides m k view request → Adds view request old new → IsLookedAt (view + 1) new less
  looked_at_more at view end old new rest less l there least updates request decides adds = record {
    found = found_more at view end old.ready.items old.fetches.items old.put_off.items l.found (l.ahead view there)
        (λ u p from below may. let le : view ≤ u = grind (arith, nat_tests, least u (l.left u p from may)) in omega (arith, le, below)) request decides old new refl refl refl adds;
    left = λ u p from may.
        let was = l.left u p (let le = l.ahead view there in omega (arith, le, from)) may in
        let apart = apart_above u from in
        updates.2 u apart ∙ was;
    ahead = λ u is. elim (cases_lt view u) [
      | inl above ↦ omega (arith, above)
      | inr under ↦ absurd (not_less u under is)
    ];
  }
    where
      apart_above : (u : ℕ) → view + 1 ≤ u → is_at (nat_cmp view) u ≡ false
      apart_above u from = grind (arith, nat_tests, from)

      apart_below : (u : ℕ) → u < view → is_at (nat_cmp view) u ≡ false
      apart_below u below = grind (arith, nat_tests, below)

      not_less : (u : ℕ) → u ≤ view → IsTrue (contains nat_cmp less u) → ⊥
      not_less u under is = elim (cases_lt u view) [
        | inl before ↦
            let was : IsTrue (contains nat_cmp rest u) = sym (updates.2 u (apart_below u before)) ∙ is in
            let le : view ≤ u = grind (arith, nat_tests, least u was) in omega (arith, le, before)
        | inr after ↦
            let same : u ≡ view = omega (arith, after, under) in
            true≢false (sym is ∙ ap (λ (v : ℕ). contains nat_cmp less v) same ∙ updates.1)
      ]

  -- with none left, that is all
  pub looked_at_all : (end : ℕ) (v : Verdicts D) (rest : BTreeSet ℕ) → IsLookedAt end v rest → ((u : ℕ) → IsTrue (contains nat_cmp rest u) → ⊥) → AreAll m k v
  looked_at_all end v rest l none = record {
    ready = record { exact = λ p. ((λ there. ((l.found.ready.exact p).0 there).1), (λ due. (l.found.ready.exact p).1 (before p.round.view p (due_may p.round.view p due), due))); ascend = l.found.ready.ascend };
    wanted = record {
      exact = λ f. (
        λ there. ((l.found.fetches.exact f).0 there).1,
        λ wanted. let may = put_off_may f.proposal f.view (wanted_is_put_off f.proposal f.view wanted) in (l.found.fetches.exact f).1 (before f.proposal may.0 may.1, wanted),
      );
      ascend = l.found.fetches.ascend;
    };
    put_off = record {
      exact = λ u. (λ there. ((l.found.put_off.exact u).0 there).1, λ is. let may = put_off_may u is.0 is.1 in (l.found.put_off.exact u).1 (before u may.0 may.1, is));
      ascend = l.found.put_off.ascend;
    };
    sorted = λ view p may. l.found.sorted view p (before view p may) may;
  }
    where
      before : (u : ℕ) (p : Proposal D) → MayBeAsked m k u p → u < end
      before u p may = elim (cases_lt u end) [ inl below ↦ below | inr from ↦ absurd (none u (l.left u p from may)) ]

  -- where nothing may be to ask, nothing is
  pub none_may : (views : BTreeSet ℕ) → 0 < m.length → ((u : ℕ) (p : Proposal D) → u < 2 ^ 64 → MayBeAsked m k u p → IsTrue (contains nat_cmp views u)) → ((u : ℕ) → IsTrue (contains nat_cmp views u) → ⊥)
      → (u : ℕ) (p : Proposal D) → MayBeAsked m k u p → ⊥
  none_may views some all none u p may = none u (all u p (fits u p some may) may)

  module _ (none : (u : ℕ) (p : Proposal D) → MayBeAsked m k u p → ⊥) where
    pub none_ready : AreReady m k []
    none_ready = record {
      exact = λ p. (λ there. absurd (Contains-nil p there), λ due. absurd (none p.round.view p (due_may p.round.view p due)));
      ascend = λ i j d before small. absurd (omega (arith, small));
    }

    pub none_wanted : AreWanted m k []
    none_wanted = record {
      exact = λ f. (λ there. absurd (Contains-nil f there), λ wanted. let may = put_off_may f.proposal f.view (wanted_is_put_off f.proposal f.view wanted) in absurd (none f.proposal may.0 may.1));
      ascend = λ i j d before small. absurd (omega (arith, small));
    }

    pub none_put_off : ArePutOff m k []
    none_put_off = record {
      exact = λ u. (λ there. absurd (Contains-nil u there), λ is. let may = put_off_may u is.0 is.1 in absurd (none u may.0 may.1));
      ascend = λ i j d before small. absurd (omega (arith, small));
    }
