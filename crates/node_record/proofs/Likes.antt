-- Certificates of the kind and view of another one.
use Rattle.std.proofs.Common.{◌≡◌, ◌↔◌, ◌∙◌, ℕ, List, sym}
use Rattle.types_core.specs.declared.position.Round.{Round}
use Rattle.types_core.specs.declared.proposal.Proposal.{Proposal}
use Rattle.types_core.specs.Subject.{Statement, notarize, nullify, finalize}
use Rattle.types_terms.specs.declared.kind.Kind.TheVariants as kind
use Rattle.simplex_record.specs.Record.{Entry, HasCertificate, HasTaken}
use Rattle.simplex_record.specs.Rules.{AreAlike}
use Rattle.node_record.specs.Recorded.{HasLike}

module _ {D : Type 0} (before : List (Entry D)) where
  like_notarize : (p : Proposal D) (view : ℕ) → view ≡ p.round.view → (t : Statement D) → AreAlike (notarize p) t → HasTaken before t → HasCertificate before kind.Notarization view
  like_notarize p view is (notarize q) alike taken = (q, sym alike ∙ sym is, taken)
  like_notarize p view is (nullify r) alike taken = absurd alike
  like_notarize p view is (finalize q) alike taken = absurd alike

  -- whether a notarization of the view is recorded is whether one like this is
  pub like_notarization : (p : Proposal D) (view : ℕ) (A : Type 0) → view ≡ p.round.view → A ↔ HasCertificate before kind.Notarization view → A ↔ HasLike before (notarize p)
  like_notarization p view A is told = (λ a. let c = told.0 a in (notarize c.0, sym is ∙ sym c.1, c.2), λ l. told.1 (like_notarize p view is l.0 l.1 l.2))

  like_nullify : (r : Round) (view : ℕ) → view ≡ r.view → (t : Statement D) → AreAlike (nullify r) t → HasTaken before t → HasCertificate before kind.Nullification view
  like_nullify r view is (notarize q) alike taken = absurd alike
  like_nullify r view is (nullify t) alike taken = (t, sym alike ∙ sym is, taken)
  like_nullify r view is (finalize q) alike taken = absurd alike

  pub like_nullification : (r : Round) (view : ℕ) (A : Type 0) → view ≡ r.view → A ↔ HasCertificate before kind.Nullification view → A ↔ HasLike before (nullify r)
  like_nullification r view A is told = (λ a. let c = told.0 a in (nullify c.0, sym is ∙ sym c.1, c.2), λ l. told.1 (like_nullify r view is l.0 l.1 l.2))

  like_finalize : (p : Proposal D) (view : ℕ) → view ≡ p.round.view → (t : Statement D) → AreAlike (finalize p) t → HasTaken before t → HasCertificate before kind.Finalization view
  like_finalize p view is (notarize q) alike taken = absurd alike
  like_finalize p view is (nullify r) alike taken = absurd alike
  like_finalize p view is (finalize q) alike taken = (q, sym alike ∙ sym is, taken)

  pub like_finalization : (p : Proposal D) (view : ℕ) (A : Type 0) → view ≡ p.round.view → A ↔ HasCertificate before kind.Finalization view → A ↔ HasLike before (finalize p)
  like_finalization p view A is told = (λ a. let c = told.0 a in (finalize c.0, sym is ∙ sym c.1, c.2), λ l. told.1 (like_finalize p view is l.0 l.1 l.2))
