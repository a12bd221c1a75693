-- What the marks on views show behind what changes them: a certificate, a verdict or an own nullify.
use Rattle.std.proofs.Common.{◌≡◌, ◌∙◌, ℕ, true, false, ◌==◌, ⊎_elim, List, ◌∷◌, refl, sym, subst, arith, if◌then◌else◌}
use Rattle.std.specs.Prelude.{Bool, Option, Some, None, is_some, nat_lt, not, ◌&&◌, ◌||◌}
use Rattle.std.specs.Option.{option_or}
use Rattle.std.proofs.lemmas.Grind.{common_steps}
use Rattle.std.proofs.lemmas.Bool.{cases_eq, or_right}
use Rattle.messages_certificates.specs.ProposalCertificate.{Notarization, Finalization}
use Rattle.voter_history.specs.Past as past
use Rattle.voter_history.specs.Past.{Item, finalization, notarization, verdict, verdict_is_false, verdict_is_true}
use Rattle.voter_rounds.specs.declared.marks.Marks.{Marks}
use Rattle.voter_history.specs.declared.sign.Sign.TheVariants as sign
use Rattle.voter_rounds.specs.Laws.{put-fact}
use Rattle.voter_rounds.specs.Marks.{Shows}
use Rattle.voter_history.specs.Pasts.{bears, forget, put}
use Rattle.voter_rounds.specs.Tracked.{AreShown}
use Rattle.voter_rounds.proofs.Dropping.{forget-fact}

or-some : {A : Type 0} (o : Option A) (x : A) → is_some (option_or o (Some x)) ≡ true
or-some None x = refl
or-some (Some y) x = refl

-- a first verdict decides, a later one changes nothing
judged-certified : (final : Bool) (v : Option Bool) (ok : Bool) → (final || verdict_is_true (option_or v (Some ok))) ≡ ((not (is_some v) && ok) || (final || verdict_is_true v))
judged-certified true None true = refl
judged-certified true None false = refl
judged-certified true (Some was) ok = refl
judged-certified false None true = refl
judged-certified false None false = refl
judged-certified false (Some was) ok = refl

judged-failed : (v : Option Bool) (ok : Bool) → verdict_is_false (option_or v (Some ok)) ≡ ((not (is_some v) && not ok) || verdict_is_false v)
judged-failed None true = refl
judged-failed None false = refl
judged-failed (Some was) ok = refl

-- at the marked view this is so now, elsewhere it is what it was
marked : (is_so was now : Bool) → now ≡ (is_so || was) → ((is_so && true) || was) ≡ now
marked true was now is = sym is
marked false was now is = sym is

unmarked : (is_so was : Bool) → ((is_so && false) || was) ≡ was
unmarked true was = refl
unmarked false was = refl

-- marks were taken off the views before an end
abbrev IsCut : ℕ → Marks → Marks → Type 0
IsCut end old new = (marked : ℕ → Bool) → Shows old marked → Shows new (λ u. if nat_lt u end then false else marked u)

module _ {S D P G C : Type 0} where
  -- the views that a fact holds of behind an item are those of before, and its view where this is so
  put-marked : (q : List (Item S D P G C) → Bool) (x : Item S D P G C) (view : ℕ) (t : ℕ → List (Item S D P G C)) (is_so : Bool)
      → q (x ∷ t view) ≡ (is_so || q (t view)) → (u : ℕ) → ((is_so && (view == u)) || q (t u)) ≡ q (put view x t u)
  put-marked q x view t is_so now u = ⊎_elim
      (λ e. let here : (view == u) ≡ true = grind (arith, common_steps) in rw here (marked is_so (q (t u)) (q (x ∷ t u)) (subst (λ n. q (x ∷ t n) ≡ (is_so || q (t n))) e now)))
      (λ ne. let apart : (view == u) ≡ false = grind (arith, common_steps) in rw apart (unmarked is_so (q (t u))))
      (cases_eq view u)

  module _ {d c f g : Marks} {t : ℕ → List (Item S D P G C)} (shown : AreShown d c f g t) (view : ℕ) where
    -- a notarization makes its view a direct one
    pub notarized-shown : {d' : Marks} (n : Notarization S D P G C) → Shows d' (λ u. (view == u) || bears sign.Direct (t u)) → AreShown d' c f g (put view (past.notarized n) t)
    unfolding Shows
    notarized-shown n said =
        let x : Item S D P G C = past.notarized n in
        record {
          direct = λ u. said u ∙ put-marked (bears sign.Direct) x view t true (rw (or-some (notarization (t view)) n) refl) u;
          certified = λ u. shown.certified u ∙ sym (put-fact (bears sign.Certified) x (λ l. refl) view t u);
          failed = λ u. shown.failed u ∙ sym (put-fact (bears sign.Failed) x (λ l. refl) view t u);
          given_up = λ u. shown.given_up u ∙ sym (put-fact (bears sign.GivenUp) x (λ l. refl) view t u);
        }

    -- a finalization makes it a certified one too
    pub finalized-shown : {d' c' : Marks} (n : Finalization S D P G C) → Shows d' (λ u. (view == u) || bears sign.Direct (t u)) → Shows c' (λ u. (view == u) || bears sign.Certified (t u))
        → AreShown d' c' f g (put view (past.finalized n) t)
    unfolding Shows
    finalized-shown n direct certified =
        let x : Item S D P G C = past.finalized n in
        let final = or-some (finalization (t view)) n in
        record {
          direct = λ u. direct u ∙ put-marked (bears sign.Direct) x view t true (or_right (is_some (notarization (t view))) (is_some (option_or (finalization (t view)) (Some n))) final) u;
          certified = λ u. certified u ∙ put-marked (bears sign.Certified) x view t true (rw final refl) u;
          failed = λ u. shown.failed u ∙ sym (put-fact (bears sign.Failed) x (λ l. refl) view t u);
          given_up = λ u. shown.given_up u ∙ sym (put-fact (bears sign.GivenUp) x (λ l. refl) view t u);
        }

    -- the first verdict makes it a certified one or a failed one
    pub judged-shown : {c' f' : Marks} (ok : Bool) → Shows c' (λ u. ((not (is_some (verdict (t view))) && ok) && (view == u)) || bears sign.Certified (t u))
        → Shows f' (λ u. ((not (is_some (verdict (t view))) && not ok) && (view == u)) || bears sign.Failed (t u)) → AreShown d c' f' g (put view (past.judged ok) t)
    unfolding Shows
    judged-shown ok certified failed =
        let x : Item S D P G C = past.judged ok in
        let first : Bool = not (is_some (verdict (t view))) in
        record {
          direct = λ u. shown.direct u ∙ sym (put-fact (bears sign.Direct) x (λ l. refl) view t u);
          certified = λ u. certified u ∙ put-marked (bears sign.Certified) x view t (first && ok) (judged-certified (is_some (finalization (t view))) (verdict (t view)) ok) u;
          failed = λ u. failed u ∙ put-marked (bears sign.Failed) x view t (first && not ok) (judged-failed (verdict (t view)) ok) u;
          given_up = λ u. shown.given_up u ∙ sym (put-fact (bears sign.GivenUp) x (λ l. refl) view t u);
        }

    -- an own nullify makes it one that is given up
    pub nullified-shown : {g' : Marks} (voted : Bool) → Shows g' (λ u. (voted && (view == u)) || bears sign.GivenUp (t u)) → AreShown d c f g' (if voted then put view past.voted_nullify t else t)
    unfolding Shows
    nullified-shown true said =
        let x : Item S D P G C = past.voted_nullify in
        record {
          direct = λ u. shown.direct u ∙ sym (put-fact (bears sign.Direct) x (λ l. refl) view t u);
          certified = λ u. shown.certified u ∙ sym (put-fact (bears sign.Certified) x (λ l. refl) view t u);
          failed = λ u. shown.failed u ∙ sym (put-fact (bears sign.Failed) x (λ l. refl) view t u);
          given_up = λ u. said u ∙ put-marked (bears sign.GivenUp) x view t true refl u;
        }
    nullified-shown false said = record { direct = shown.direct; certified = shown.certified; failed = shown.failed; given_up = said }

  -- where marks are taken off the views before an end, they show what is known of the views from it on
  pub forgotten-shown : {d c f g d' c' f' g' : Marks} {t : ℕ → List (Item S D P G C)} (end : ℕ) → IsCut end d d' → IsCut end c c' → IsCut end f f' → IsCut end g g'
      → AreShown d c f g t → AreShown d' c' f' g' (forget end t)
  unfolding Shows
  forgotten-shown {t = t} end on_direct on_certified on_failed on_given_up shown = record {
    direct = λ u. on_direct _ shown.direct u ∙ forget-fact (bears sign.Direct) refl end t u;
    certified = λ u. on_certified _ shown.certified u ∙ forget-fact (bears sign.Certified) refl end t u;
    failed = λ u. on_failed _ shown.failed u ∙ forget-fact (bears sign.Failed) refl end t u;
    given_up = λ u. on_given_up _ shown.given_up u ∙ forget-fact (bears sign.GivenUp) refl end t u;
  }
