use Rattle.std.proofs.Common.{◌≡◌, ◌≢◌, ◌⊎◌, ◌-◌, ◌∙◌, ℕ, ⊎_elim, false, true, inl, inr, refl, sym}
use Rattle.std.proofs.Math.Nat.{le_trans}
use Rattle.types_core.specs.Positions.{IsTermStart, term_start}
use Rattle.types_terms.specs.Windows.{issuance_floor}
use Rattle.voter_rounds.specs.Tracked.{Holds, direct, is_spoken}
use Rattle.voter_rounds.proofs.Choices.{false_is_not}
use Rattle.voter_rounds.proofs.tracked.Tracked.inherits.Goals as goal

-- where a view has a floor, views are optimistic, and it starts no term
bounded : {views views' length length' : ℕ} (view : ℕ) → views ≡ views' → length ≡ length' → ((views ≡ 0) ⊎ IsTermStart length view → true ≡ false) → (views' ≢ 0) × (view ≢ term_start length' view)
bounded view same same' floor = (λ none. absurd (cc (floor (inl (same ∙ none)))), λ first. absurd (cc (floor (inr (rw same' first)))))

pub returns-in_default : goal.returns-in_default
unfolding Holds
returns-in_default g c = λ f t k. (
  λ no. absurd (false_is_not refl no),
  λ i. absurd (⊎_elim (λ none. i.optimism (sym k.optimistic_views ∙ none)) (λ first. i.inside (rw k.length at first)) (c.in_default.ensures.none.0 refl)),
)

pub returns-then-any_within : goal.returns-then-any_within
unfolding Holds
returns-then-any_within g c = λ f t k.
    let low : c.in-Some.floor ≡ issuance_floor f.optimistic_views c.args.view = rw (← k.optimistic_views) c.in-Some.ensures.floor in
    let start : c.term_start-start.result ≡ term_start f.length c.args.view = rw (← k.length) c.term_start-start.ensures in
    let there = (c.any_within.ensures (direct t) k.signs.direct).0 c.if-any_within.true in
    let within = bounded c.args.view k.optimistic_views k.length c.in-Some.ensures.none.1 in (
      λ _. record {
        optimism = within.0;
        inside = within.1;
        why = inl (there.0, rw start at (le_trans c.later-low.ensures.other there.1), rw low at (le_trans c.later-low.ensures.one there.1), there.2, there.3);
      },
      λ _. refl,
    )

pub returns-in_default-previous : goal.returns-in_default-previous
unfolding Holds
returns-in_default-previous g c = λ f t k. (
  λ no. absurd (false_is_not refl no),
  λ i. let zero : c.args.view ≡ 0 = c.in_default-previous.ensures.none.0 refl in absurd (i.inside (rw zero refl)),
)

pub returns-then-not-is_spoken : goal.returns-then-not-is_spoken
unfolding Holds
returns-then-not-is_spoken g c = λ f t k.
    let low : c.in-Some.floor ≡ issuance_floor f.optimistic_views c.args.view = rw (← k.optimistic_views) c.in-Some.ensures.floor in
    let start : c.term_start-start.result ≡ term_start f.length c.args.view = rw (← k.length) c.term_start-start.ensures in
    let near = c.any_within.ensures (direct t) k.signs.direct in (
      λ no. absurd (false_is_not refl no),
      λ i. absurd (⊎_elim
          (λ there. false_is_not c.if-any_within.false (near.1 (there.0, c.later-low.ensures.least there.0 (rw low there.2) (rw start there.1), there.3, there.4)))
          (λ window. false_is_not c.if-not-is_spoken.true ((c.is_spoken.ensures f t k).1 (rw c.in-Some-previous.ensures.before window.0)))
          i.why),
    )

pub returns-then-is_zero : goal.returns-then-is_zero
unfolding Holds
returns-then-is_zero g c = λ f t k.
    let low : c.in-Some.floor ≡ issuance_floor f.optimistic_views c.args.view = rw (← k.optimistic_views) c.in-Some.ensures.floor in
    let spoken : is_spoken t (c.args.view - 1) ≡ true = rw c.in-Some-previous.ensures.before at ((c.is_spoken.ensures f t k).0 c.if-not-is_spoken.false) in
    let within = bounded c.args.view k.optimistic_views k.length c.in-Some.ensures.none.1 in (
      λ _. record { optimism = within.0; inside = within.1; why = inr (spoken, inl (sym low ∙ c.is_zero.ensures.0 c.if-is_zero.true)) },
      λ _. c.if-is_zero.true,
    )

pub returns-else-is_zero : goal.returns-else-is_zero
unfolding Holds
returns-else-is_zero g c = λ f t k.
    let low : c.in-Some.floor ≡ issuance_floor f.optimistic_views c.args.view = rw (← k.optimistic_views) c.in-Some.ensures.floor in
    let start : c.term_start-start.result ≡ term_start f.length c.args.view = rw (← k.length) c.term_start-start.ensures in
    let far = c.any_within-else-is_zero.ensures (direct t) k.signs.direct in
    let near = c.any_within.ensures (direct t) k.signs.direct in
    let spoken : is_spoken t (c.args.view - 1) ≡ true = rw c.in-Some-previous.ensures.before at ((c.is_spoken.ensures f t k).0 c.if-not-is_spoken.false) in
    let within = bounded c.args.view k.optimistic_views k.length c.in-Some.ensures.none.1 in (
      λ so. record {
        optimism = within.0;
        inside = within.1;
        why = inr (spoken, inr (rw low at (far.0 so)));
      },
      λ i. ⊎_elim
          (λ there. absurd (false_is_not c.if-any_within.false (near.1 (there.0, c.later-low.ensures.least there.0 (rw low there.2) (rw start there.1), there.3, there.4))))
          (λ window. ⊎_elim (λ first. absurd (false_is_not c.if-is_zero.false (c.is_zero.ensures.1 (low ∙ first)))) (λ there. far.1 (rw low there)) window.1)
          i.why,
    )
