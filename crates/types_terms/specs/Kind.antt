-- What the kinds of certificates are called.
use Rattle.std.specs.Prelude.{ℕ, List, codes}
use Rattle.types_terms.specs.declared.kind.Kind.{Kind}
use Rattle.types_terms.specs.declared.kind.Kind.TheVariants.{Notarization, Nullification, Finalization}

-- the word that a kind is printed as
abbrev pub kind_word : Kind → List ℕ
kind_word Notarization = codes "notarization"
kind_word Nullification = codes "nullification"
kind_word Finalization = codes "finalization"
