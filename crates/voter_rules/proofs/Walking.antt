-- How far what a view supports rests on those below.
use Rattle.std.proofs.Common.{◌≡◌, ◌≢◌, inl, inr, true, false, ℕ, refl, sym, ◌∙◌, ap, subst, ◌⊎◌, ◌+◌, ◌<◌, ◌≤◌, max, arith}
use mathlib.Core.Bool.{true≢false}
use Rattle.std.proofs.lemmas.Option.{none-some, same_Some}
use Rattle.std.specs.Prelude.{Bool, Option, Some, None, MatchOption, IsTrue, ◌↔◌, is_some, option_map}
use Rattle.std.specs.Option.{ForSome}
use Rattle.types_core.specs.declared.proposal.Proposal.{Proposal}
use Rattle.types_core.specs.Positions.{term_start}
use Rattle.voter_history.specs.Known.{Known}
use Rattle.voter_rules.specs.Ancestry.{Member, held_at, AreCoveredBetween, IsFirstUncovered, has_certificate, certificate_payload, HasFailed, IsVotedFor, Optimistic, at_start, by_certificate, by_own_vote}
use Rattle.voter_rules.specs.Knowing.{IsBacked, IsLink, HasFailedWithin, Rests}
use Rattle.voter_rules.specs.declared.ancestry.Link.{Link}
use Rattle.voter_rules.proofs.Single.{why, one_is_supported}

-- what a payload rests on lies below
pub below_is : {D : Type 0} (view : ℕ) (x : ℕ × Option D) → x.0 < view → ForSome (Some x) (λ below. below.0 < view)
below_is {D = D} view x below y is = subst (λ (z : ℕ × Option D). z.0 < view) (same_Some x y is) below

-- a bound payload is there, and it is this one
pub met_by : {D : Type 0} (b payload : D) (o : Option D) (answer same : Bool) → o ≡ Some b → answer ≡ same → IsTrue same ↔ (b ≡ payload) → IsTrue answer ↔ ForSome o (λ x. x ≡ payload)
met_by b payload o answer same there is law = (λ so x other. sym (same_Some b x (sym there ∙ other)) ∙ law.0 (sym is ∙ so), λ all. is ∙ law.1 (all b there))

module _ {D : Type 0} (m : Member) (k : Known D) where
  -- at the start
  pub start_link : (view : ℕ) (payload : D) → view ≡ 0 → k.genesis ≡ Some payload → IsLink m k view (record { payload = payload; below = None })
  start_link view payload zero is = record {
    holds = λ rests. subst (λ (v : ℕ). Optimistic m k v payload) (sym zero) (at_start is);
    needs = λ other o. tt;
  }

  pub start_none : (view : ℕ) → view ≡ 0 → k.genesis ≡ None → (payload : D) → ¬ Optimistic m k view payload
  start_none view zero none payload o = elim (why m k view payload o) [
    | inl start ↦ none-some payload (sym none ∙ start.1)
    | inr rest ↦ elim rest [ inl certified ↦ certified.0 zero | inr voted ↦ voted.1 zero ]
  ]

  -- where the view has a certificate
  pub certified_is_link : (view : ℕ) (payload : D) → has_certificate m k view ≡ true → view ≢ 0 → ¬ HasFailed m k view → certificate_payload m k view ≡ Some payload
      → IsLink m k view (record { payload = payload; below = None })
  certified_is_link view payload direct some sound is = record { holds = λ rests. by_certificate some direct sound is; needs = λ other o. tt }

  pub failed_none : (view : ℕ) → has_certificate m k view ≡ true → view ≢ 0 → HasFailed m k view → (payload : D) → ¬ Optimistic m k view payload
  failed_none view direct some failed payload o = elim (why m k view payload o) [
    | inl start ↦ some start.0
    | inr rest ↦ elim rest [ inl certified ↦ certified.3 failed | inr voted ↦ true≢false (sym direct ∙ voted.2.undecided) ]
  ]

  pub empty_none : (view : ℕ) → has_certificate m k view ≡ true → view ≢ 0 → certificate_payload m k view ≡ None → (payload : D) → ¬ Optimistic m k view payload
  empty_none view direct some empty payload o = elim (why m k view payload o) [
    | inl start ↦ some start.0
    | inr rest ↦ elim rest [ inl certified ↦ none-some payload (sym empty ∙ certified.2) | inr voted ↦ true≢false (sym direct ∙ voted.2.undecided) ]
  ]

  pub settled_is_sound : (view : ℕ) → view ≤ k.last_finalized → ¬ HasFailed m k view
  settled_is_sound view settled failed = omega (arith, settled, failed.1.1, failed.2)

  -- what failed of the views up to this one, above the last finalized
  pub failed_by : (view first end : ℕ) (found : Bool) → first ≡ max (term_start m.length view) (k.last_finalized + 1) → end ≡ view + 1 → IsTrue found ↔ HasFailedWithin m k first end
      → IsTrue found ↔ HasFailed m k view
  failed_by view first end found from to law = (
    λ so. let one = law.0 so in (one.0, (omega (arith, from, one.1), omega (arith, to, one.2)), omega (arith, from, one.1), one.3),
    λ failed. law.1 (failed.0, omega (arith, from, failed.1.0, failed.2), omega (arith, to, failed.1.1), failed.3),
  )

  -- where it has none
  pub unvoted_none : (view : ℕ) → has_certificate m k view ≡ false → view ≢ 0 → ((p : Proposal D) → ¬ IsVotedFor m k view p) → (payload : D) → ¬ Optimistic m k view payload
  unvoted_none view undecided some unvoted payload o = elim (why m k view payload o) [
    | inl start ↦ some start.0
    | inr rest ↦ elim rest [ inl certified ↦ true≢false (sym certified.1 ∙ undecided) | inr voted ↦ unvoted voted.0 voted.2 ]
  ]

  pub voted_is_link : (view : ℕ) (p : Proposal D) → view ≢ 0 → IsVotedFor m k view p
      → IsLink m k view (record { payload = p.payload; below = Some (p.parent, option_map (λ (b : Proposal D × D). b.1) (k.binding view)) })
  voted_is_link view p some v = record {
    holds = λ rests. by_own_vote some v rests.1 (λ b is. rests.2 b.1 (ap (λ (o : Option (Proposal D × D)). option_map (λ (x : Proposal D × D). x.1) o) is));
    needs = λ other o. elim (why m k view other o) [
      | inl start ↦ absurd (some start.0)
      | inr rest ↦ elim rest [
        | inl certified ↦ absurd (true≢false (sym certified.1 ∙ v.undecided))
        | inr voted ↦
            let one : voted.0 ≡ p = same_Some voted.0 p (sym voted.2.held ∙ v.held) in
            let parent : voted.0.parent ≡ p.parent = ap (λ (x : Proposal D). x.parent) one in
            (voted.4.0, subst (λ (u : ℕ). Optimistic m k u voted.4.0) parent voted.4.1, λ bound is. bound_as voted.4.0 (k.binding view) voted.4.2 bound is)
      ]
    ];
  }
    where
      bound_as : (x : D) (b : Option (Proposal D × D)) → ForSome b (λ b. b.1 ≡ x) → (bound : D) → option_map (λ (b : Proposal D × D). b.1) b ≡ Some bound → bound ≡ x
      bound_as x None stands bound is = absurd (none-some bound is)
      bound_as x (Some b) stands bound is = sym (same_Some b.1 bound is) ∙ stands b refl

  -- no vote counts over a view that isn't covered
  pub uncovered_unvoted : (view : ℕ) (p : Proposal D) → held_at m k view ≡ Some p → (o : Option ℕ) → is_some o ≡ true
      → MatchOption o (AreCoveredBetween m k p.parent view) (λ first. IsFirstUncovered m k p.parent view first) → (q : Proposal D) → ¬ IsVotedFor m k view q
  uncovered_unvoted view p held None there first q v = true≢false (sym there)
  uncovered_unvoted view p held (Some u) there first q v =
      let parent : p.parent ≡ q.parent = ap (λ (x : Proposal D). x.parent) (same_Some p q (sym held ∙ v.held)) in
      first.bare (v.covered u (omega (arith, parent, first.after)) first.before)

  pub unbacked_unvoted : (view : ℕ) → ¬ IsBacked m k view → (q : Proposal D) → ¬ IsVotedFor m k view q
  unbacked_unvoted view unbacked q v = unbacked (record { voted = v.voted; verified = v.verified })

  pub misplaced_unvoted : (view : ℕ) (p : Proposal D) → held_at m k view ≡ Some p → (p.parent < k.last_finalized) ⊎ (view ≤ p.parent) → (q : Proposal D) → ¬ IsVotedFor m k view q
  misplaced_unvoted view p held misplaced q v =
      let parent : p.parent ≡ q.parent = ap (λ (x : Proposal D). x.parent) (same_Some p q (sym held ∙ v.held)) in
      elim misplaced [ inl under ↦ omega (arith, parent, under, v.above) | inr above ↦ omega (arith, parent, above, v.below) ]

  -- where no view between is uncovered each is covered
  pub covered_of : (parent view : ℕ) (o : Option ℕ) → is_some o ≡ false → MatchOption o (AreCoveredBetween m k parent view) (λ first. IsFirstUncovered m k parent view first) → AreCoveredBetween m k parent view
  covered_of parent view None none all = all
  covered_of parent view (Some first) none all = absurd (true≢false none)

  -- a view that supports a payload, where that is the bound one, rests on what its link rests on, and elsewhere on nothing
  module _ (view : ℕ) (l : Link D) (link : IsLink m k view l) (bound : Option D) where
    pub moves_on : ForSome bound (λ b. b ≡ l.payload) → Rests m k l.below ↔ Rests m k (Some (view, bound))
    moves_on met = (λ rests. (l.payload, link.holds rests, met), λ rests. link.needs rests.0 rests.1)

    pub stops_at : ¬ ForSome bound (λ b. b ≡ l.payload) → ¬ Rests m k (Some (view, bound))
    stops_at unmet rests = let one = one_is_supported m k view rests.0 l.payload rests.1 (link.holds (link.needs rests.0 rests.1)) in unmet (λ b is. rests.2 b is ∙ one)
