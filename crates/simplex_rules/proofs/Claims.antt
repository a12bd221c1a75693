-- One more nullify of a signer in a round.
use Rattle.std.proofs.Common.{◌≡◌, ℕ, List, [], ◌∷◌, ◌++◌, subst}
use Rattle.std.specs.Prelude.{Contains}
use Rattle.types_core.specs.Subject.{Statement}
use Rattle.types_quorum.specs.Counting.{Contains-nil}
use Rattle.simplex_rules.specs.declared.cast.Suspect.{Suspect}
use Rattle.simplex_rules.specs.declared.nullifies.Given.TheVariants as given
use Rattle.simplex_rules.specs.Cast.{AreNone}
use Rattle.simplex_rules.specs.Tally.{GivenIsAttested, KeepsNullifies}
use Rattle.simplex_rules.proofs.Casts.{IsFirst-push, IsFirst-last, AreNone-push}

module _ {D G : Type 0} (attests : ℕ → Statement D → G → Type 0) (q : Suspect) where
  abbrev Verifies : G → Type 0
  Verifies a = GivenIsAttested attests q a

  given_last : (signatures : List G) (a : G) → AreNone Verifies signatures → KeepsNullifies attests q (signatures ++ a ∷ []) (given.Claim a)
  given_last signatures a none = (λ verifies. IsFirst-last Verifies signatures a verifies none, λ fails. AreNone-push Verifies signatures a none fails)

  -- the one nullify of a signer stands for all
  pub given_alone : (signatures : List G) (a : G) → KeepsNullifies attests q signatures given.Nothing → KeepsNullifies attests q (signatures ++ a ∷ []) (given.Claim a)
  given_alone signatures a none = given_last signatures a (λ b there verifies. Contains-nil b (subst (λ (xs : List G). Contains xs b) none there))

  module _ (signatures : List G) (a b : G) where
    -- so does one where it is read again
    pub given_again : KeepsNullifies attests q signatures (given.Claim a) → a ≡ b → KeepsNullifies attests q (signatures ++ b ∷ []) (given.Claim a)
    given_again s same = subst (λ (c : G). KeepsNullifies attests q (signatures ++ c ∷ []) (given.Claim a)) same
        (λ verifies. IsFirst-push Verifies signatures a a (s.0 verifies), λ fails. AreNone-push Verifies signatures a (s.1 fails) fails)

    -- the one behind it takes its place where it fails
    pub given_next : KeepsNullifies attests q signatures (given.Claim a) → (Verifies a → ⊥) → KeepsNullifies attests q (signatures ++ b ∷ []) (given.Claim b)
    given_next s fails = given_last signatures b (s.1 fails)
