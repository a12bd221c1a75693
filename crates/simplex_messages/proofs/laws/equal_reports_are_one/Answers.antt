use Rattle.std.proofs.Common.{◌≡◌, true, false, ap}
use Rattle.simplex_messages.specs.declared.activity.Activity.TheVariants as activity
use Rattle.simplex_messages.proofs.laws.equal_reports_are_one.Goals as goal

pub returns : goal.returns
returns g c (activity.Notarize v) (activity.Notarize w) = let law = c.equal_messages_are_one.ensures.votes v w in (λ e. ap (λ z. activity.Notarize z) (law.0 e), λ e. law.1 (let same : activity.Notarize v ≡ activity.Notarize w = e in cc))
returns g c (activity.Notarization v) (activity.Notarization w) = let law = c.equal_messages_are_one.ensures.certificates v w in (λ e. ap (λ z. activity.Notarization z) (law.0 e), λ e. law.1 (let same : activity.Notarization v ≡ activity.Notarization w = e in cc))
returns g c (activity.Certification v) (activity.Certification w) = let law = c.equal_messages_are_one.ensures.certificates v w in (λ e. ap (λ z. activity.Certification z) (law.0 e), λ e. law.1 (let same : activity.Certification v ≡ activity.Certification w = e in cc))
returns g c (activity.Nullify v) (activity.Nullify w) = let law = c.equal_messages_are_one.ensures.nullifies v w in (λ e. ap (λ z. activity.Nullify z) (law.0 e), λ e. law.1 (let same : activity.Nullify v ≡ activity.Nullify w = e in cc))
returns g c (activity.Nullification v) (activity.Nullification w) = let law = c.equal_messages_are_one.ensures.nullifications v w in (λ e. ap (λ z. activity.Nullification z) (law.0 e), λ e. law.1 (let same : activity.Nullification v ≡ activity.Nullification w = e in cc))
returns g c (activity.Finalize v) (activity.Finalize w) = let law = c.equal_messages_are_one-2.ensures.votes v w in (λ e. ap (λ z. activity.Finalize z) (law.0 e), λ e. law.1 (let same : activity.Finalize v ≡ activity.Finalize w = e in cc))
returns g c (activity.Finalization v) (activity.Finalization w) = let law = c.equal_messages_are_one-2.ensures.certificates v w in (λ e. ap (λ z. activity.Finalization z) (law.0 e), λ e. law.1 (let same : activity.Finalization v ≡ activity.Finalization w = e in cc))
returns g c (activity.ConflictingNotarize v) (activity.ConflictingNotarize w) = let law = c.equal_messages_are_one.ensures.conflicts v w in (λ e. ap (λ z. activity.ConflictingNotarize z) (law.0 e), λ e. law.1 (let same : activity.ConflictingNotarize v ≡ activity.ConflictingNotarize w = e in cc))
returns g c (activity.ConflictingFinalize v) (activity.ConflictingFinalize w) = let law = c.equal_messages_are_one-2.ensures.conflicts v w in (λ e. ap (λ z. activity.ConflictingFinalize z) (law.0 e), λ e. law.1 (let same : activity.ConflictingFinalize v ≡ activity.ConflictingFinalize w = e in cc))
returns g c (activity.NullifyFinalize v) (activity.NullifyFinalize w) = let law = c.equal_messages_are_one.ensures.nullifies_beside v w in (λ e. ap (λ z. activity.NullifyFinalize z) (law.0 e), λ e. law.1 (let same : activity.NullifyFinalize v ≡ activity.NullifyFinalize w = e in cc))
returns g c x y = (λ e. absurd (let both : false ≡ true = e in cc), λ e. absurd (let same : x ≡ y = e in cc))
