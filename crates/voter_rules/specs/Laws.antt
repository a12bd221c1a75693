-- The laws of what is due, as statements. Each is proved as a clause of a function without a body (`laws.rt`).
use Rattle.std.specs.Prelude.{◌≡◌, ℕ}
use Rattle.voter_history.specs.Known.{Known}
use Rattle.voter_rules.specs.Ancestry.{Member, Optimistic, IsPreferred}
use Rattle.voter_rules.specs.Asking.{Finds, Decides}
use Rattle.voter_rules.specs.declared.requests.VerifyRequest.{VerifyRequest}
use Rattle.voter_rules.specs.declared.requests.CertifyRequest.{CertifyRequest}

-- there is at most one payload that a view supports, and at most one parent to build on
abbrev pub OneIsSupported : Type 0 → Type 0
OneIsSupported D = (m : Member) (k : Known D) (view : ℕ) (a b : D) → Optimistic m k view a → Optimistic m k view b → a ≡ b

abbrev pub OneIsPreferred : Type 0 → Type 0
OneIsPreferred D = (m : Member) (k : Known D) (view u w : ℕ) (a b : D) → IsPreferred m k view u a → IsPreferred m k view w b → (u ≡ w) × (a ≡ b)

-- of these answers one alone is right: the one that is given
abbrev pub OneIsFound : Type 0 → Type 0
OneIsFound D = (m : Member) (k : Known D) (view : ℕ) (a b : VerifyRequest D) → Finds m k view a → Finds m k view b → a ≡ b

abbrev pub OneIsDecided : Type 0 → Type 0
OneIsDecided D = (m : Member) (k : Known D) (view : ℕ) (a b : CertifyRequest D) → Decides m k view a → Decides m k view b → a ≡ b
