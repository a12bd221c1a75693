-- The words for what is asked for, and why.
use Rattle.std.specs.Prelude.{ℕ, List, codes}
use Rattle.simplex_resolver.specs.declared.ask.Kind.{Kind}
use Rattle.simplex_resolver.specs.declared.ask.Kind.TheVariants as kind
use Rattle.simplex_resolver.specs.declared.effect.FetchReason.{FetchReason}
use Rattle.simplex_resolver.specs.declared.effect.FetchReason.TheVariants as reason

-- the word for a kind of certificate
abbrev pub kind_word : Kind → List ℕ
kind_word kind.Nullification = codes "nullification"
kind_word kind.Notarization = codes "notarization"

-- the words for why a view is fetched
abbrev pub reason_word : FetchReason → List ℕ
reason_word reason.MissingNullification = codes "missing_nullification"
reason_word reason.CertificationFailed = codes "certification_failed"
