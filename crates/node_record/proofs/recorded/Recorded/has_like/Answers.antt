use Rattle.simplex_record.specs.Record.{entries}
use Rattle.node_record.proofs.Likes.{like_notarization, like_nullification, like_finalization}
use Rattle.node_record.proofs.recorded.Recorded.has_like.Goals as goal

pub returns-in-Notarization : goal.returns-in-Notarization
returns-in-Notarization g c = λ owner xs k.
    rw c.in-Notarization.is (like_notarization (entries xs) c.in-Notarization.notarization.proposal c.view.result _ c.view.ensures (c.has_certificate.ensures owner.term_length (entries xs) k.standing))

pub returns-in-Nullification : goal.returns-in-Nullification
returns-in-Nullification g c = λ owner xs k.
    rw c.in-Nullification.is (like_nullification (entries xs) c.in-Nullification.nullification.round c.view-in-Nullification.result _ c.view-in-Nullification.ensures (c.has_certificate-in-Nullification.ensures owner.term_length (entries xs) k.standing))

pub returns-in-Finalization : goal.returns-in-Finalization
returns-in-Finalization g c = λ owner xs k.
    rw c.in-Finalization.is (like_finalization (entries xs) c.in-Finalization.finalization.proposal c.view-in-Finalization.result _ c.view-in-Finalization.ensures (c.has_certificate-in-Finalization.ensures owner.term_length (entries xs) k.standing))
