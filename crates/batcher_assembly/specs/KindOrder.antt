-- The order in which certificates are made.
use Rattle.std.specs.Prelude.{List, [], ◌∷◌}
use Rattle.types_terms.specs.declared.kind.Kind.{Kind}
use Rattle.types_terms.specs.declared.kind.Kind.TheVariants.{Notarization, Nullification, Finalization}

-- all kinds, the one of which a certificate is made first at the head
abbrev pub in_turn : List Kind
in_turn = Notarization ∷ Nullification ∷ Finalization ∷ []
