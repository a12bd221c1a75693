-- Which certificates are missing, by the words of repair.
use Rattle.std.specs.Prelude.{◌≡◌, ℕ}
use Rattle.types_core.specs.declared.proposal.Proposal.{Proposal}
use Rattle.simplex_resolver.specs.declared.ask.Kind.{Kind}
use Rattle.simplex_resolver.specs.declared.ask.Kind.TheVariants as kind
use Rattle.voter_history.specs.Known.{Known}
use Rattle.voter_rules.specs.Ancestry.{Member}
use Rattle.voter_rules.specs.Requests.{NotarizationIsWanted, NullificationIsWanted}

module _ {D : Type 0} (m : Member) (k : Known D) (view : ℕ) where
  -- the certificate of this kind and view is to be asked for, without which the view's proposal can't be verified
  abbrev pub IsMissing : Kind → ℕ → Type 0
  IsMissing kind.Nullification u = (p : Proposal D) × NullificationIsWanted m k view p u
  IsMissing kind.Notarization u = (p : Proposal D) × NotarizationIsWanted m k view p × (p.parent ≡ u)
