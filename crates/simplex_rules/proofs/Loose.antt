-- A loose notarize that is read as such.
use Rattle.std.proofs.Common.{◌≡◌, ◌≢◌, ℕ, List, [], ◌∷◌, ◌++◌, Bool, refl, ap}
use Rattle.std.specs.Prelude.{⊤, Result, Err, IsErr}
use Rattle.types_codec.specs.declared.codec.CodecError.{CodecError}
use Rattle.types_codec.specs.declared.codec.CodecError.TheVariants.{End, Invalid, TooLong, Memory}
use Rattle.types_codec.specs.Codec.{Gives, Readable}
use Rattle.simplex_messages.specs.declared.activity.Activity.{Activity}
use Rattle.simplex_messages.specs.Activity.{activity_at, activity_behind, activity_body, activity_fits, activity_spelling, activity_tag, activity_within, notarize_report}
use Rattle.messages_certificates.specs.ProposalVote.{Notarize, vote_at, vote_fits, vote_spelling}
use Rattle.simplex_rules.specs.Counted.{CountsOne}

module _ {S D P G C T : Type 0} (Holds : List (Activity S D P G C) → T → Type 0) where
  -- a report of it was read and counted
  pub loose-counted : (same : D → D → Bool) (Q : D → Type 0) (F : G → Type 0) (H W : C → Type 0) (p : D → List ℕ) (f : G → List ℕ) (g : C → List ℕ) (v : Notarize S D P G C) (behind after : List ℕ) (old new : T)
      → Readable (vote_fits Q F) (λ x. ⊤) v → behind ≡ vote_spelling p f v ++ after → ((reports : List (Activity S D P G C)) → Holds reports old → Holds (reports ++ notarize_report v ∷ []) new)
      → CountsOne Holds (Readable (activity_fits same Q F H) (activity_within W)) (activity_spelling p f g) (0 ∷ behind) after old new
  unfolding activity_fits activity_within activity_spelling activity_tag activity_body
  loose-counted same Q F H W p f g v behind after old new fits spelled counted = record {
    report = notarize_report v;
    fits = (fits.0, tt);
    whole = ap (λ (bytes : List ℕ). 0 ∷ bytes) spelled;
    counted = counted;
  }

module _ (S P : Type 0) {D G C : Type 0} where
  -- where no notarize stands behind its tag, no report stands there
  pub loose-none : (same : D → D → Bool) (q : List ℕ → Result (D × List ℕ) CodecError) (r : List ℕ → Result (G × List ℕ) CodecError) (s : List ℕ → Result (C × List ℕ) CodecError) (behind after : List ℕ) (e : CodecError)
      → Gives {A = Notarize S D P G C} (vote_at q r) behind after (Err e) → e ≢ Memory → IsErr (activity_at {S = S} {D = D} {P = P} {G = G} {C = C} same q r s (0 ∷ behind))
  unfolding activity_at activity_behind
  loose-none same q r s behind after End gives other = rw gives.0 refl
  loose-none same q r s behind after Invalid gives other = rw gives.0 refl
  loose-none same q r s behind after TooLong gives other = rw gives.0 refl
  loose-none same q r s behind after Memory gives other = absurd (other refl)
