-- Which requests are due.
use Rattle.std.proofs.Common.{◌≡◌, inl, inr, true, false, ℕ, sym, ◌∙◌, ap, subst, refl, ◌⊎◌, ◌+◌, ◌<◌, ◌≤◌, ◌||◌, arith, if◌then◌else◌}
use mathlib.Core.Bool.{true≢false}
use Rattle.std.proofs.lemmas.Bool.{cases_lt}
use Rattle.std.proofs.lemmas.Option.{none-some, same_Some}
use Rattle.std.specs.Prelude.{not, Bool, Option, Some, None, is_some, IsTrue, ◌↔◌, MatchOption}
use Rattle.types_core.specs.declared.proposal.Proposal.{Proposal}
use Rattle.types_core.specs.Positions.{IsTermStart}
use Rattle.voter_history.specs.Known.{Known}
use Rattle.voter_rules.specs.Ancestry.{Member, explicit, InWindow, Supports, IsFirstUncovered, IsInvalidParent, IsSpan, IsParent, LacksPayload, IsPreferred, IsRequired}
use Rattle.voter_rules.specs.Knowing.{AllowsVerify, Explains, uncertified}
use Rattle.voter_rules.specs.declared.ancestry.ParentFault.{ParentFault}
use Rattle.voter_rules.specs.declared.ancestry.ParentFault.TheVariants as fault
use Rattle.voter_rules.specs.Requests.{IsOpen, IsHandoff, BuildIsDue, WaitsForParent, IsPassed, VerdictIsOpen, CertifyIsDue, CertifyWaits, CertificateIsWanted}
use Rattle.voter_rules.proofs.Single.{one_is_preferred}

-- what isn't there is none
pub nothing : {A : Type 0} (o : Option A) → is_some o ≡ false → o ≡ None
nothing None is = refl
nothing (Some x) is = absurd (true≢false is)

module _ {D : Type 0} (m : Member) (k : Known D) (view : ℕ) where
  -- a parent that can never stand spans nothing
  pub spans_nothing : (parent : ℕ) → IsInvalidParent m k view parent → IsSpan m k view parent → ⊥
  spans_nothing parent (inl above) span = omega (arith, above, span.below)
  spans_nothing parent (inr (inl under)) span = omega (arith, under, span.above)
  spans_nothing parent (inr (inr apart)) span = elim span.next [ inl start ↦ apart.0 start | inr next ↦ apart.1 next ]

  -- and one that lies right spans something, or is valid
  pub valid_parent : (parent : ℕ) → parent < view → k.last_finalized ≤ parent → IsTermStart m.length view ⊎ (view ≡ parent + 1) → ¬ IsInvalidParent m k view parent
  valid_parent parent below above next (inl over) = omega (arith, below, over)
  valid_parent parent below above next (inr (inl under)) = omega (arith, above, under)
  valid_parent parent below above next (inr (inr apart)) = elim next [ inl start ↦ apart.0 start | inr beside ↦ apart.1 beside ]

  -- where there is a fault no payload is that of a parent
  pub fault_bars : (parent : ℕ) (why : ParentFault) → Explains m k view parent why → (payload : D) → ¬ IsParent m k view parent payload
  fault_bars parent fault.Invalid bad payload is = spans_nothing parent bad is.span
  fault_bars parent (fault.Uncovered first) bare payload is = bare.1.bare (is.span.covered first bare.1.after bare.1.before)
  fault_bars parent fault.Missing lacks payload is = lacks.missing payload is.supports

  -- the first uncovered view is one
  pub one_first : (parent u w : ℕ) → IsFirstUncovered m k parent view u → IsFirstUncovered m k parent view w → u ≡ w
  one_first parent u w a b = elim (cases_lt u w) [
    | inl under ↦ absurd (a.bare (b.least u a.after under))
    | inr above ↦ elim (cases_lt w u) [ inl under ↦ absurd (b.bare (a.least w b.after under)) | inr other ↦ omega (arith, above, other) ]
  ]

  -- where a build on the parent that is preferred has to wait, none is due
  pub waiting_build : (u : ℕ) (x : D) → IsPreferred m k view u x → ¬ (IsHandoff m k view u x → k.has_nullified k.current ≡ false)
      → (parent : ℕ) (payload : D) → ¬ BuildIsDue m k view parent payload
  waiting_build u x found waits parent payload due =
      let one = one_is_preferred m k view u parent x payload found due.preferred in
      waits (λ handoff. due.patient (subst (λ (y : ℕ × D). IsHandoff m k view y.0 y.1) (λ i. (one.0 i, one.1 i)) handoff))

  -- where nothing is open nothing waits, and where nothing waits nothing is asked for
  pub waiting_of : (o : Option (Proposal D)) → IsOpen m k view → MatchOption o ((p : Proposal D) → ¬ AllowsVerify m k view p) (λ p. AllowsVerify m k view p)
      → MatchOption o ((p : Proposal D) → ¬ WaitsForParent m k view p) (λ p. WaitsForParent m k view p)
  waiting_of None opens none = λ p waits. none p (record { led = waits.led; not_given_up = opens.not_given_up; held = waits.held; first = waits.first; not_backed = waits.not_backed })
  waiting_of (Some p) opens allows = record { opens = opens; led = allows.led; held = allows.held; first = allows.first; not_backed = allows.not_backed }

  pub none_waits : ((p : Proposal D) → ¬ WaitsForParent m k view p) → IsPassed m k view
  none_waits none = record {
    asks = record {
      no_verify = λ p payload due. none p due.waits;
      no_nullification = λ p u wanted. none p wanted.waits;
      no_notarization = λ p wanted. none p wanted.waits;
    };
    not_invalid = λ p bad. none p bad.waits;
  }

  module _ (p : Proposal D) (waits : WaitsForParent m k view p) where
    -- what waits is one
    same_parent : (q : Proposal D) → WaitsForParent m k view q → q.parent ≡ p.parent
    same_parent q other = ap (λ (x : Proposal D). x.parent) (same_Some q p (sym other.held ∙ waits.held))

    -- the payload alone is missing, and inside the window it isn't asked for, nor where it was asked for last
    pub missing_passes : LacksPayload m k view p.parent → InWindow m k view ⊎ (k.last_asked view ≡ Some p.parent) → IsPassed m k view
    missing_passes lacks settled = record {
      asks = record {
        no_verify = λ q payload due. lacks.missing payload (subst (λ (v : ℕ). Supports m k view v payload) (same_parent q due.waits) due.parent.supports);
        no_nullification = λ q u wanted.
            let first = subst (λ (v : ℕ). IsFirstUncovered m k v view u) (same_parent q wanted.waits) wanted.uncovered in
            first.bare (lacks.span.covered u first.after first.before);
        no_notarization = λ q wanted. elim settled [
          | inl inside ↦ wanted.outside inside
          | inr asked ↦ wanted.first (asked ∙ ap Some (sym (same_parent q wanted.waits)))
        ];
      };
      not_invalid = λ q bad. spans_nothing p.parent (subst (λ (v : ℕ). IsInvalidParent m k view v) (same_parent q bad.waits) bad.invalid) lacks.span;
    }

    -- the first uncovered view was asked for
    pub uncovered_was_asked : (first : ℕ) → ¬ IsInvalidParent m k view p.parent → IsFirstUncovered m k p.parent view first → k.last_asked view ≡ Some first → IsPassed m k view
    uncovered_was_asked first valid bare asked = record {
      asks = record {
        no_verify = λ q payload due. bare.bare (due.parent.span.covered first (after q due.waits) bare.before);
        no_nullification = λ q u wanted. wanted.first
            (asked ∙ ap Some (one_first p.parent first u bare (subst (λ (v : ℕ). IsFirstUncovered m k v view u) (same_parent q wanted.waits) wanted.uncovered)));
        no_notarization = λ q wanted. bare.bare (wanted.lacks.span.covered first (after q wanted.waits) bare.before);
      };
      not_invalid = λ q bad. valid (subst (λ (v : ℕ). IsInvalidParent m k view v) (same_parent q bad.waits) bad.invalid);
    }
      where
        after : (q : Proposal D) → WaitsForParent m k view q → q.parent < first
        after q other = let same : q.parent ≡ p.parent = same_parent q other in omega (arith, same, bare.after)

  -- no parent is required; or one is, and may be stood on
  pub none_required : (parent : ℕ) (o : Option ℕ) → is_some o ≡ false → MatchOption o ((required : ℕ) → ¬ IsRequired m k view parent required) (λ required. IsRequired m k view parent required)
      → (required : ℕ) → ¬ IsRequired m k view parent required
  none_required parent None is none = none
  none_required parent (Some r) is found = absurd (true≢false is)

  pub spans_where_required : (parent : ℕ) (r : Option ℕ) (o : Option ParentFault) (answer : Bool) → is_some r ≡ true
      → MatchOption r ((required : ℕ) → ¬ IsRequired m k view parent required) (λ required. IsRequired m k view parent required)
      → is_some o ≡ not answer → MatchOption o (IsSpan m k view parent) (λ why. Explains m k view parent why × ¬ IsSpan m k view parent)
      → IsTrue answer ↔ ((required : ℕ) → IsRequired m k view parent required → IsSpan m k view parent)
  spans_where_required parent None o answer some none is law = absurd (true≢false (sym some))
  spans_where_required parent (Some r) None true some found is span = (λ so required asked. span, λ all. refl)
  spans_where_required parent (Some r) None false some found is span = absurd (true≢false (sym is))
  spans_where_required parent (Some r) (Some why) true some found is bars = absurd (true≢false is)
  spans_where_required parent (Some r) (Some why) false some found is bars = (λ never. absurd (true≢false (sym never)), λ all. absurd (bars.1 (all r found)))

  -- what a view is notarized for without a verdict, nor one that was asked for
  passes : (asked : Bool) (o : Option Bool) (n : Option (Proposal D)) (p : Proposal D) → (if asked || is_some o then None else n) ≡ Some p → (asked ≡ false) × (o ≡ None) × (n ≡ Some p)
  passes true o n p is = absurd (none-some p is)
  passes false (Some ok) n p is = absurd (none-some p is)
  passes false None n p is = (refl, refl, is)

  pub uncertified_is : (p : Proposal D) → uncertified m k view ≡ Some p → (k.certify_asked view ≡ false) × (k.verdict view ≡ None) × (k.notarized view ≡ Some p)
  uncertified_is p is = passes (k.certify_asked view) (k.verdict view) (k.notarized view) p is

  pub open_is_uncertified : (p : Proposal D) → VerdictIsOpen m k view p → uncertified m k view ≡ Some p
  open_is_uncertified p opens = rw (opens.first, opens.without) opens.notarized

  -- where the verdict is open on a proposal, it is on no other
  pub one_is_open : (p q : Proposal D) → VerdictIsOpen m k view p → VerdictIsOpen m k view q → q ≡ p
  one_is_open p q a b = same_Some q p (sym b.notarized ∙ a.notarized)

  module _ (p : Proposal D) (opens : VerdictIsOpen m k view p) where
    -- no parent is required
    pub ready_alone : ((required : ℕ) → ¬ IsRequired m k view p.parent required) → CertifyIsDue m k view p
    ready_alone none = record { opens = opens; explicit = λ required asked. absurd (none required asked) }

    module _ (required : ℕ) (asked : IsRequired m k view p.parent required) where
      -- the required parent is explicit
      pub ready_over : is_some (explicit m k required) ≡ true → CertifyIsDue m k view p
      ready_over there = record {
        opens = opens;
        explicit = λ other is. let one : required ≡ other = omega (arith, asked.next, is.next) in subst (λ (u : ℕ). is_some (explicit m k u) ≡ true) one there;
      }

      -- or isn't
      pub not_ready : explicit m k required ≡ None → (q : Proposal D) → ¬ CertifyIsDue m k view q
      not_ready missing q due =
          let one : q ≡ p = one_is_open p q opens due.opens in
          true≢false (sym (due.explicit required (subst (λ (x : Proposal D). IsRequired m k view x.parent required) (sym one) asked)) ∙ ap is_some missing)

      -- so the verdict waits for it, and its notarization is to be asked for
      pub waits_for : explicit m k required ≡ None → CertifyWaits m k view required
      waits_for missing = record { proposal = p; opens = opens; requires_it = asked; missing = missing }

      pub fetches : explicit m k required ≡ None → k.certify_waited view ≡ false → k.notarized required ≡ None → CertificateIsWanted m k view required
      fetches missing first absent = record { waits = waits_for missing; first = first; absent = absent }
