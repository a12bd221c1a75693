use Rattle.simplex_record.proofs.standing.Standing.allows.Goals as goal

pub returns-in-Notarize : goal.returns-in-Notarize
returns-in-Notarize g c = rw c.in-Notarize.is (record { lawful = c.may_notarize.ensures.lawful; room = c.may_notarize.ensures.room })

pub returns-in-Notarization : goal.returns-in-Notarization
returns-in-Notarization g c = rw c.in-Notarization.is (record { lawful = c.may_take_notarization.ensures.lawful; room = c.may_take_notarization.ensures.room })

pub returns-in-Certification : goal.returns-in-Certification
returns-in-Certification g c = rw c.in-Certification.is (record { lawful = c.may_judge.ensures.lawful; room = c.may_judge.ensures.room })

pub returns-in-Nullify : goal.returns-in-Nullify
returns-in-Nullify g c = rw c.in-Nullify.is (record { lawful = c.may_nullify.ensures.lawful; room = c.may_nullify.ensures.room })

pub returns-in-Nullification : goal.returns-in-Nullification
returns-in-Nullification g c = rw c.in-Nullification.is (record { lawful = c.may_take_nullification.ensures.lawful; room = c.may_take_nullification.ensures.room })

pub returns-in-Finalize : goal.returns-in-Finalize
returns-in-Finalize g c = rw c.in-Finalize.is (record { lawful = c.may_finalize.ensures.lawful; room = c.may_finalize.ensures.room })

pub returns-in-Finalization : goal.returns-in-Finalization
returns-in-Finalization g c = rw c.in-Finalization.is (record { lawful = c.may_take_finalization.ensures.lawful; room = c.may_take_finalization.ensures.room })
