-- Where the same is known from the last finalized view on, the same is due above it.
use Rattle.std.proofs.Common.{◌≡◌, ◌≢◌, ◌⊎◌, inl, inr, true, false, ℕ, sym, ◌∙◌, subst, refl, ◌+◌, ◌-◌, ◌<◌, ◌≤◌, arith}
use mathlib.Core.Bool.{true≢false}
use Rattle.std.proofs.lemmas.Bool.{cases_lt, or_right}
use Rattle.std.proofs.lemmas.Bool.Decides.{nat_tests}
use Rattle.std.proofs.lemmas.Option.{none-some}
use Rattle.std.specs.Prelude.{◌||◌, ◌==◌, Bool, Option, Some, None, is_some, IsSome, option_map, if◌then◌else◌}
use Rattle.types_core.specs.declared.proposal.Proposal.{Proposal}
use Rattle.types_terms.specs.Windows.{issuance_floor}
use Rattle.voter_history.specs.Past.{verdict_is_true}
use Rattle.voter_history.specs.Known.{Known}
use Rattle.voter_rules.specs.Ancestry.{Member, held_at, AreCoveredBetween, IsFirstUncovered, explicit, has_certificate, certificate_payload, InWindow, IsHandoffParent, HasFailed, IsVotedFor, Optimistic, at_start, by_certificate, by_own_vote, Supports, IsSpan, IsParent, IsPredecessor, IsLastCertified, IsHandedOver, IsPreferred, Leads, Stands, IsSteady, IsRequired}
use Rattle.voter_rules.specs.Requests.{IsOpen, BuildIsDue, IsCaptured, IsSuperseded, WaitsForParent, NullificationIsWanted, VerdictIsOpen}
use Rattle.voter_rules.specs.VotesDue.{NotarizeIsDue, FinalizeIsDue}
use Rattle.voter_laws.specs.Matching.{AgreeAbove, WhatAgreesIsDueAlike}

-- a view behind the start that is finalized and holds a proposal is explicit
is_explicit : {A D : Type 0} (start : Bool) (finalized : Option A) (verdict : Option Bool) (genesis : Option D) (held : Option (Proposal D))
    → start ≡ false → IsSome finalized → IsSome held
    → (x : D) × ((if start then genesis else (if is_some finalized || verdict_is_true verdict then option_map (λ (p : Proposal D). p.payload) held else None)) ≡ Some x)
is_explicit true finalized verdict genesis held behind some here = absurd (true≢false behind)
is_explicit false None verdict genesis held behind some here = absurd (true≢false (sym some))
is_explicit false (Some q) verdict genesis None behind some here = absurd (true≢false (sym here))
is_explicit false (Some q) verdict genesis (Some p) behind some here = (p.payload, refl)

module _ {D : Type 0} (m : Member) (k j : Known D) (a : AgreeAbove m k j) where
  -- of each view from the last finalized one on the same is explicit, held and certified
  same_certificate : (view : ℕ) → k.last_finalized ≤ view → has_certificate m k view ≡ has_certificate m j view
  same_certificate view from = rw (a.notarized view from, a.finalized view from) refl

  same_held : (view : ℕ) → k.last_finalized ≤ view → held_at m k view ≡ held_at m j view
  same_held view from = rw (a.offers view from) refl

  pub same_explicit : (view : ℕ) → k.last_finalized ≤ view → explicit m k view ≡ explicit m j view
  same_explicit view from = rw (a.genesis, a.finalized view from, a.verdict view from, a.offers view from) refl

  same_support : (view : ℕ) → k.last_finalized ≤ view → certificate_payload m k view ≡ certificate_payload m j view
  same_support view from = rw (a.finalized view from, a.verdict view from, a.notarized view from) refl

  -- the last finalized view has a certificate and is explicit, unless it is the start
  anchor : k.last_finalized ≢ 0 → IsSome (k.finalized k.last_finalized) × IsSome (held_at m k k.last_finalized)
  anchor some = elim a.anchored [ inl none ↦ absurd (some none) | inr both ↦ both ]

  anchor_certified : k.last_finalized ≢ 0 → has_certificate m k k.last_finalized ≡ true
  anchor_certified some = or_right (is_some (k.notarized k.last_finalized)) (is_some (k.finalized k.last_finalized)) (anchor some).0

  anchor_explicit : k.last_finalized ≢ 0 → (x : D) × (explicit m k k.last_finalized ≡ Some x)
  anchor_explicit some =
      is_explicit (k.last_finalized == 0) (k.finalized k.last_finalized) (k.verdict k.last_finalized) k.genesis (held_at m k k.last_finalized) (grind (arith, nat_tests, some))
      (anchor some).0 (anchor some).1

  -- the windows above it are the same
  window : (view : ℕ) → k.last_finalized < view → InWindow m k view → InWindow m j view
  window view above w = record { optimism = w.optimism; inside = w.inside; anchor = anchored w.anchor }
    where
      anchored : (issuance_floor m.optimistic_views view ≡ 0) ⊎ ((u : ℕ) × (issuance_floor m.optimistic_views view ≤ u) × (u < view) × (has_certificate m k u ≡ true))
          → (issuance_floor m.optimistic_views view ≡ 0) ⊎ ((u : ℕ) × (issuance_floor m.optimistic_views view ≤ u) × (u < view) × (has_certificate m j u ≡ true))
      anchored (inl bottom) = inl bottom
      anchored (inr (u, from, below, direct)) = elim (cases_lt u k.last_finalized) [
        | inl under ↦
            let some : k.last_finalized ≢ 0 = omega (arith, under) in
            inr (k.last_finalized, omega (arith, from, under), above, sym (same_certificate k.last_finalized (omega arith)) ∙ anchor_certified some)
        | inr over ↦ inr (u, from, below, sym (same_certificate u over) ∙ direct)
      ]

  -- what is covered between views from the last finalized one on
  between : (parent view : ℕ) → k.last_finalized ≤ parent → AreCoveredBetween m k parent view → AreCoveredBetween m j parent view
  between parent view from covered = λ u after before. (a.covered u (omega (arith, from, after))).0 (covered u after before)

  -- the same may be handed off, and has failed
  handoff : (view : ℕ) → k.last_finalized < view → IsHandoffParent m k view → IsHandoffParent m j view
  handoff view above h = record { ends = h.ends; leads = h.leads; bare = λ covered. h.bare ((a.covered view above).1 covered) }

  failed : (view : ℕ) → HasFailed m k view → HasFailed m j view
  failed view (u, range, above, false_verdict) = (u, range, omega (arith, above, a.last_finalized), sym (a.verdict u (omega (arith, above))) ∙ false_verdict)

  span : (view parent : ℕ) → IsSpan m k view parent → IsSpan m j view parent
  span view parent s = record { below = s.below; above = omega (arith, s.above, a.last_finalized); next = s.next; covered = between parent view s.above s.covered }

  pub required : (view parent u : ℕ) → k.last_finalized < view → IsRequired m k view parent u → IsRequired m j view parent u
  required view parent u above r = record {
    next = r.next;
    early = λ start. let e = r.early start in (e.0, e.1, sym (a.has_notarized view (omega (arith, above))) ∙ e.2);
  }

  -- agreement turned round
  pub turned : AgreeAbove m j k
  turned = record {
    current = sym a.current;
    last_finalized = sym a.last_finalized;
    floor = sym a.floor;
    genesis = sym a.genesis;
    ahead = omega (arith, a.ahead, a.current, a.last_finalized);
    anchored = subst (λ (f : ℕ). (f ≡ 0) ⊎ (IsSome (j.finalized f) × IsSome (held_at m j f))) a.last_finalized here;
    covered = λ view above. let same = a.covered view (omega (arith, above, a.last_finalized)) in (same.1, same.0);
    leader = λ view from. sym (a.leader view (omega (arith, from, a.last_finalized)));
    offers = λ view from. sym (a.offers view (omega (arith, from, a.last_finalized)));
    notarized = λ view from. sym (a.notarized view (omega (arith, from, a.last_finalized)));
    finalized = λ view from. sym (a.finalized view (omega (arith, from, a.last_finalized)));
    verdict = λ view from. sym (a.verdict view (omega (arith, from, a.last_finalized)));
    has_notarized = λ view from. sym (a.has_notarized view (omega (arith, from, a.last_finalized)));
    has_nullified = λ view from. sym (a.has_nullified view (omega (arith, from, a.last_finalized)));
    has_finalized = λ view from. sym (a.has_finalized view (omega (arith, from, a.last_finalized)));
    is_backed = λ view from. sym (a.is_backed view (omega (arith, from, a.last_finalized)));
    last_asked = λ view from. sym (a.last_asked view (omega (arith, from, a.last_finalized)));
    binding = λ view from. sym (a.binding view (omega (arith, from, a.last_finalized)));
    certify_asked = λ view from. sym (a.certify_asked view (omega (arith, from, a.last_finalized)));
    certify_waited = λ view from. sym (a.certify_waited view (omega (arith, from, a.last_finalized)));
  }
    where
      here : (k.last_finalized ≡ 0) ⊎ (IsSome (j.finalized k.last_finalized) × IsSome (held_at m j k.last_finalized))
      here = elim a.anchored [
        | inl none ↦ inl none
        | inr both ↦ inr (
          subst (λ (o : Option (Proposal D)). IsSome o) (a.finalized k.last_finalized (omega arith)) both.0,
          subst (λ (o : Option (Proposal D)). IsSome o) (same_held k.last_finalized (omega arith)) both.1,
        )
      ]

module _ {D : Type 0} (m : Member) (k j : Known D) (a : AgreeAbove m k j) where
  -- each view from the last finalized one on supports the same
  voted_for : (view : ℕ) (p : Proposal D) → view ≢ 0 → k.last_finalized ≤ view → IsVotedFor m k view p → IsVotedFor m j view p
  voted_for view p some from v = record {
    undecided = sym (same_certificate m k j a view from) ∙ v.undecided;
    reached = elim v.reached [ inl inside ↦ inl (window m k j a (view + 1) (omega (arith, from)) inside) | inr over ↦ inr (handoff m k j a view above over) ];
    voted = sym (a.has_notarized view from) ∙ v.voted;
    verified = rw (sym (a.offers view from)) v.verified;
    held = sym (same_held m k j a view from) ∙ v.held;
    above = omega (arith, v.above, a.last_finalized);
    below = v.below;
    covered = between m k j a p.parent view v.above v.covered;
  }
    where
      above : k.last_finalized < view
      above = elim (cases_lt k.last_finalized view) [
        | inl over ↦ over
        | inr under ↦
            let same : k.last_finalized ≡ view = omega (arith, from, under) in
            let direct : has_certificate m k view ≡ true = subst (λ (v : ℕ). has_certificate m k v ≡ true) same (anchor_certified m k j a (omega (arith, some, same))) in
            absurd (true≢false (sym direct ∙ v.undecided))
      ]

  optimistic : (view : ℕ) (payload : D) → k.last_finalized ≤ view → Optimistic m k view payload → Optimistic m j view payload
  optimistic view payload from (at_start start) = at_start (sym a.genesis ∙ start)
  optimistic view payload from (by_certificate some direct sound supported) =
      by_certificate some (sym (same_certificate m k j a view from) ∙ direct) (λ bad. sound (failed m j k (turned m k j a) view bad)) (sym (same_support m k j a view from) ∙ supported)
  optimistic view payload from (by_own_vote {p = p} some voted below bound) =
      by_own_vote some (voted_for view p some from voted) (optimistic p.parent _ voted.above below) (λ b is. bound b (a.binding view from ∙ is))

  supports : (view parent : ℕ) (payload : D) → k.last_finalized < view → k.last_finalized ≤ parent → Supports m k view parent payload → Supports m j view parent payload
  supports view parent payload above from s = record {
    inside = λ w. optimistic parent payload from (s.inside (window m j k (turned m k j a) view (omega (arith, above, a.last_finalized)) w));
    outside = λ out. sym (same_explicit m k j a parent from) ∙ s.outside (λ w. out (window m k j a view above w));
  }

  pub parent_rule : (view parent : ℕ) (payload : D) → k.last_finalized < view → IsParent m k view parent payload → IsParent m j view parent payload
  parent_rule view parent payload above r = record { span = span m k j a view parent r.span; supports = supports view parent payload above r.span.above r.supports }

  -- the highest explicit view below doesn't lie below the last finalized one
  last_above : (view parent : ℕ) (payload : D) → k.last_finalized < view → IsLastCertified m k view parent payload → k.last_finalized ≤ parent
  last_above view parent payload above l = elim (cases_lt parent k.last_finalized) [
    | inl under ↦
        let some = anchor_explicit m k j a (omega (arith, under)) in
        absurd (none-some some.0 (sym (l.highest k.last_finalized under above) ∙ some.1))
    | inr over ↦ over
  ]

  last_certified : (view parent : ℕ) (payload : D) → k.last_finalized < view → IsLastCertified m k view parent payload → IsLastCertified m j view parent payload
  last_certified view parent payload above l =
      let from = last_above view parent payload above l in
      record {
        starts = l.starts;
        below = l.below;
        there = sym (same_explicit m k j a parent from) ∙ l.there;
        highest = λ u after before. sym (same_explicit m k j a u (omega (arith, from, after))) ∙ l.highest u after before;
        covered = between m k j a parent view from l.covered;
      }

module _ {D : Type 0} (m : Member) (k j : Known D) (a : AgreeAbove m k j) where
  -- a view is handed over behind the last finalized one only
  over_above : (view parent : ℕ) (payload : D) → k.last_finalized < view → IsHandedOver m k view parent payload → k.last_finalized < parent
  over_above view parent payload above o = elim (cases_lt k.last_finalized parent) [
    | inl over ↦ over
    | inr under ↦
        let same : parent ≡ k.last_finalized = omega (arith, under, above, o.next) in
        let some = known_there same (decided parent) in
        absurd (o.no_other parent some.0 (record {
          starts = o.starts;
          below = omega (arith, o.next);
          there = some.1;
          highest = λ u after before. absurd (omega (arith, after, before, o.next));
          covered = λ u after before. absurd (omega (arith, after, before, o.next));
        }))
  ]
    where
      at_zero : (u : ℕ) (x : D) → u ≡ 0 → Optimistic m k u x → explicit m k u ≡ Some x
      at_zero u x zero (at_start start) = start
      at_zero u x zero (by_certificate some direct sound supported) = absurd (some zero)
      at_zero u x zero (by_own_vote some voted below bound) = absurd (some zero)

      decided : (n : ℕ) → (n ≡ 0) ⊎ (n ≢ 0)
      decided n = elim (cases_lt 0 n) [ inl some ↦ inr (λ none. omega (arith, some, none)) | inr none ↦ inl (omega (arith, none)) ]

      known_there : parent ≡ k.last_finalized → (parent ≡ 0) ⊎ (parent ≢ 0) → (x : D) × (explicit m k parent ≡ Some x)
      known_there same (inl none) = (payload, at_zero parent payload none o.there)
      known_there same (inr some) = subst (λ (u : ℕ). (x : D) × (explicit m k u ≡ Some x)) (sym same) (anchor_explicit m k j a (λ none. some (same ∙ none)))

  handed_over : (view parent : ℕ) (payload : D) → k.last_finalized < view → IsHandedOver m k view parent payload → IsHandedOver m j view parent payload
  handed_over view parent payload above o =
      let over = over_above view parent payload above o in
      record {
        starts = o.starts;
        no_other = λ u x last. o.no_other u x (last_certified m j k (turned m k j a) view u x (omega (arith, above, a.last_finalized)) last);
        next = o.next;
        handoff = handoff m k j a parent over o.handoff;
        there = optimistic m k j a parent payload (omega (arith, over)) o.there;
      }

  predecessor : (view parent : ℕ) (payload : D) → k.last_finalized < view → IsPredecessor m k view parent payload → IsPredecessor m j view parent payload
  predecessor view parent payload above p = record { inside = p.inside; next = p.next; supports = supports m k j a view parent payload above (omega (arith, above, p.next)) p.supports }

  -- the same is to be built on, and doesn't lie below the last finalized view
  pub preferred : (view parent : ℕ) (payload : D) → k.last_finalized < view → IsPreferred m k view parent payload → IsPreferred m j view parent payload
  preferred view parent payload above (inl before) = inl (predecessor view parent payload above before)
  preferred view parent payload above (inr (inl last)) = inr (inl (last_certified m k j a view parent payload above last))
  preferred view parent payload above (inr (inr over)) = inr (inr (handed_over view parent payload above over))

  preferred_above : (view parent : ℕ) (payload : D) → k.last_finalized < view → IsPreferred m k view parent payload → k.last_finalized ≤ parent
  preferred_above view parent payload above (inl before) = omega (arith, above, before.next)
  preferred_above view parent payload above (inr (inl last)) = last_above m k j a view parent payload above last
  preferred_above view parent payload above (inr (inr over)) = omega (arith, over_above view parent payload above over)

  leads : (view : ℕ) → k.last_finalized < view → Leads m k view → Leads m j view
  leads view above l = record { some = l.some; known = sym (a.leader view (omega (arith, above))) ∙ l.known }

  stands : (view : ℕ) (b : Proposal D × D) → k.last_finalized < view → Stands m k view b → Stands m j view b
  stands view b above s = record { held = sym (same_held m k j a view (omega (arith, above))) ∙ s.held; parent = still s.parent }
    where
      still : IsParent m k view b.0.parent b.1 ⊎ (Leads m k view × IsPreferred m k view b.0.parent b.1) → IsParent m j view b.0.parent b.1 ⊎ (Leads m j view × IsPreferred m j view b.0.parent b.1)
      still (inl rule) = inl (parent_rule m k j a view b.0.parent b.1 above rule)
      still (inr (own, built)) = inr (leads view above own, preferred view b.0.parent b.1 above built)

  pub steady : (view : ℕ) → k.last_finalized < view → IsSteady m k view → IsSteady m j view
  steady view above s = λ b bound. stands view b above (s b (a.binding view (omega (arith, above)) ∙ bound))

  -- the same votes are due
  notarize_is_due : (view : ℕ) → k.last_finalized < view → NotarizeIsDue m k view → NotarizeIsDue m j view
  notarize_is_due view above due =
      let from : k.last_finalized ≤ view = omega (arith, above) in
      record {
        kept = rw (sym a.last_finalized) due.kept;
        behind = rw (sym a.floor) due.behind;
        room = due.room;
        outbound = rw (sym a.current) due.outbound;
        first = sym (a.has_notarized view from) ∙ due.first;
        not_given_up = sym (a.has_nullified view from) ∙ due.not_given_up;
        verified = rw (sym (a.offers view from)) due.verified;
        supported = λ w.
            let below = due.supported (window m j k (turned m k j a) view (omega (arith, above, a.last_finalized)) w) in
            (below.0, optimistic m k j a (view - 1) below.0 (omega (arith, above)) below.1);
        steady = steady view above due.steady;
      }

  finalize_is_due : (view : ℕ) → k.last_finalized < view → FinalizeIsDue m k view → FinalizeIsDue m j view
  finalize_is_due view above due =
      let from : k.last_finalized ≤ view = omega (arith, above) in
      record {
        above = omega (arith, due.above, a.last_finalized);
        room = due.room;
        outbound = rw (sym a.current) due.outbound;
        not_given_up = sym (a.has_nullified view from) ∙ due.not_given_up;
        first = sym (a.has_finalized view from) ∙ due.first;
        unequivocated = rw (sym (a.offers view from)) due.unequivocated;
        notarized = rw (sym (a.notarized view from)) due.notarized;
        certified = sym (a.verdict view from) ∙ due.certified;
        healed = λ u start before over.
            sym (a.has_nullified u (omega (arith, over, a.last_finalized))) ∙ due.healed u start before (omega (arith, over, a.last_finalized));
        supported = λ p u held asked.
            let back = required m j k (turned m k j a) view p.parent u (omega (arith, above, a.last_finalized)) asked in
            subst (λ (o : Option D). IsSome o) (same_explicit m k j a u (omega (arith, above, asked.next))) (due.supported p u (same_held m k j a view from ∙ held) back);
      }

  -- the same requests are
  opens : (view : ℕ) → k.last_finalized < view → IsOpen m k view → IsOpen m j view
  opens view above o = record {
    from = omega (arith, o.from, a.current);
    room = o.room;
    outbound = rw (sym a.current) o.outbound;
    not_given_up = sym (a.has_nullified view (omega (arith, above))) ∙ o.not_given_up;
  }

  build_is_due : (view parent : ℕ) (payload : D) → k.last_finalized < view → BuildIsDue m k view parent payload → BuildIsDue m j view parent payload
  build_is_due view parent payload above due =
      let from = preferred_above view parent payload above due.preferred in
      record {
        opens = opens view above due.opens;
        leads = leads view above due.leads;
        vacant = rw (sym (a.offers view (omega (arith, above)))) due.vacant;
        preferred = preferred view parent payload above due.preferred;
        patient = λ early.
            let waiting = due.patient (record { starts = early.starts; early = λ there. early.early (sym (same_explicit m k j a parent from) ∙ there) }) in
            subst (λ (c : ℕ). j.has_nullified c ≡ false) a.current (sym (a.has_nullified k.current a.ahead) ∙ waiting);
      }

  waits : (view : ℕ) (p : Proposal D) → k.last_finalized < view → WaitsForParent m k view p → WaitsForParent m j view p
  waits view p above w =
      let from : k.last_finalized ≤ view = omega (arith, above) in
      record {
        opens = opens view above w.opens;
        led = rw (sym (a.leader view from)) w.led;
        held = sym (same_held m k j a view from) ∙ w.held;
        first = rw (sym (a.offers view from)) w.first;
        not_backed = sym (a.is_backed view from) ∙ w.not_backed;
      }

  pub verdict_is_open : (view : ℕ) (p : Proposal D) → VerdictIsOpen m k view p → VerdictIsOpen m j view p
  verdict_is_open view p o =
      let from : k.last_finalized ≤ view = omega (arith, o.above) in
      record {
        room = o.room;
        above = omega (arith, o.above, a.last_finalized);
        notarized = sym (a.notarized view from) ∙ o.notarized;
        without = sym (a.verdict view from) ∙ o.without;
        first = sym (a.certify_asked view from) ∙ o.first;
        below = o.below;
        span = λ u asked. span m k j a view p.parent (o.span u (required m j k (turned m k j a) view p.parent u (omega (arith, o.above, a.last_finalized)) asked));
      }

pub what_agrees_is_due_alike : {D : Type 0} → WhatAgreesIsDueAlike D
what_agrees_is_due_alike {D} m k j view a above = record {
  notarize = notarize_is_due m k j a view above;
  finalize = finalize_is_due m k j a view above;
  build = λ parent payload due. build_is_due m k j a view parent payload above due;
  verify = λ p payload due. record { waits = waits m k j a view p above due.waits; parent = parent_rule m k j a view p.parent payload above due.parent };
  superseded = λ parent payload s. superseded parent payload s;
  invalid = λ p bad. record { waits = waits m k j a view p above bad.waits; invalid = rw (sym a.last_finalized) bad.invalid };
  nullification = λ p u wanted. record {
    waits = waits m k j a view p above wanted.waits;
    valid = rw (sym a.last_finalized) wanted.valid;
    uncovered = uncovered p u wanted;
    first = λ asked. wanted.first (a.last_asked view from ∙ asked);
  };
  notarization = λ p wanted. record {
    waits = waits m k j a view p above wanted.waits;
    lacks = record {
      span = span m k j a view p.parent wanted.lacks.span;
      missing = λ payload s. wanted.lacks.missing payload (supports m j k (turned m k j a) view p.parent payload over (omega (arith, wanted.lacks.span.above, a.last_finalized)) s);
    };
    outside = λ w. wanted.outside (window m j k (turned m k j a) view over w);
    first = λ asked. wanted.first (a.last_asked view from ∙ asked);
  };
  certify = λ p due. record {
    opens = verdict_is_open m k j a view p due.opens;
    explicit = λ u asked.
        subst (λ (o : Option D). IsSome o) (same_explicit m k j a u (omega (arith, above, asked.next)))
        (due.explicit u (required m j k (turned m k j a) view p.parent u over asked));
  };
  certificate = λ u wanted.
      let below : k.last_finalized ≤ u = omega (arith, above, wanted.waits.requires_it.next) in
      record {
        waits = record {
          proposal = wanted.waits.proposal;
          opens = verdict_is_open m k j a view wanted.waits.proposal wanted.waits.opens;
          requires_it = required m k j a view wanted.waits.proposal.parent u above wanted.waits.requires_it;
          missing = sym (same_explicit m k j a u below) ∙ wanted.waits.missing;
        };
        first = sym (a.certify_waited view from) ∙ wanted.first;
        absent = sym (a.notarized u below) ∙ wanted.absent;
      };
}
  where
    from : k.last_finalized ≤ view
    from = omega (arith, above)

    over : j.last_finalized < view
    over = omega (arith, above, a.last_finalized)

    superseded : (parent : ℕ) (payload : D) → IsSuperseded m k view parent payload → IsSuperseded m j view parent payload
    superseded parent payload s =
        let other = s.other in
        record { fallen = λ captured. s.fallen (captured_back captured); other = (other.0, other.1, preferred m k j a view other.0 other.1 above other.2) }
      where
        captured_back : IsCaptured m j view parent payload → IsCaptured m k view parent payload
        captured_back (inl built) = inl (preferred m j k (turned m k j a) view parent payload over built)
        captured_back (inr rule) = inr (parent_rule m j k (turned m k j a) view parent payload over rule)

    uncovered : (p : Proposal D) (u : ℕ) → NullificationIsWanted m k view p u → IsFirstUncovered m j p.parent view u
    uncovered p u wanted =
        let high : k.last_finalized ≤ p.parent = elim (cases_lt p.parent k.last_finalized) [ inl under ↦ absurd (wanted.valid (inr (inl under))) | inr fine ↦ fine ] in
        record {
          after = wanted.uncovered.after;
          before = wanted.uncovered.before;
          bare = λ covered. wanted.uncovered.bare ((a.covered u (omega (arith, high, wanted.uncovered.after))).1 covered);
          least = between m k j a p.parent u high wanted.uncovered.least;
        }
