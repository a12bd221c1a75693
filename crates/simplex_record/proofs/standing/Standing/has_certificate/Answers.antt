use Rattle.std.proofs.Common.{sym, ◌∙◌}
use Rattle.simplex_record.proofs.Ruling.{kept_notarization, kept_nullification, kept_finalization}
use Rattle.simplex_record.proofs.standing.Standing.has_certificate.Goals as goal

pub returns-in-Notarization : goal.returns-in-Notarization
returns-in-Notarization g c = λ views before k.
    let kept = kept_notarization views c.args.self.now.certificates before k.by_view.certificates c.args.view in
    rw c.in-Notarization.is (λ is. kept.0 (sym c.contains_key.ensures ∙ is), λ has. c.contains_key.ensures ∙ kept.1 has)

pub returns-in-Nullification : goal.returns-in-Nullification
returns-in-Nullification g c = λ views before k.
    let kept = kept_nullification views c.args.self.now.certificates before k.by_view.certificates c.args.view in
    rw c.in-Nullification.is (λ is. kept.0 (sym c.contains.ensures ∙ is), λ has. c.contains.ensures ∙ kept.1 has)

pub returns-in-Finalization : goal.returns-in-Finalization
returns-in-Finalization g c = λ views before k.
    let kept = kept_finalization views c.args.self.now.certificates before k.by_view.certificates c.args.view in
    rw c.in-Finalization.is (λ is. kept.0 (sym c.contains-in-Finalization.ensures ∙ is), λ has. c.contains-in-Finalization.ensures ∙ kept.1 has)
