-- Kinds that are one.
use Rattle.std.specs.Prelude.{◌≡◌, true, refl}
use Rattle.types_terms.specs.declared.kind.Kind.{Kind}
use Rattle.types_terms.specs.declared.kind.Kind.TheVariants.{Notarization, Nullification, Finalization}
use Rattle.batcher_rows.specs.Votes.{is_kind}

-- kinds that are one
pub kind-same : (a b : Kind) → is_kind a b ≡ true → b ≡ a
kind-same Notarization Notarization e = refl
kind-same Notarization Nullification e = absurd (cc e)
kind-same Notarization Finalization e = absurd (cc e)
kind-same Nullification Notarization e = absurd (cc e)
kind-same Nullification Nullification e = refl
kind-same Nullification Finalization e = absurd (cc e)
kind-same Finalization Notarization e = absurd (cc e)
kind-same Finalization Nullification e = absurd (cc e)
kind-same Finalization Finalization e = refl

-- what is of one kind is of no other
pub one-kind : (k a b : Kind) → is_kind k a ≡ true → is_kind b a ≡ is_kind k b
one-kind Notarization Notarization Notarization e = refl
one-kind Notarization Notarization Nullification e = refl
one-kind Notarization Notarization Finalization e = refl
one-kind Nullification Nullification Notarization e = refl
one-kind Nullification Nullification Nullification e = refl
one-kind Nullification Nullification Finalization e = refl
one-kind Finalization Finalization Notarization e = refl
one-kind Finalization Finalization Nullification e = refl
one-kind Finalization Finalization Finalization e = refl
one-kind Notarization Nullification b e = absurd (cc e)
one-kind Notarization Finalization b e = absurd (cc e)
one-kind Nullification Notarization b e = absurd (cc e)
one-kind Nullification Finalization b e = absurd (cc e)
one-kind Finalization Notarization b e = absurd (cc e)
one-kind Finalization Nullification b e = absurd (cc e)
