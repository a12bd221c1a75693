use Rattle.voter_laws.proofs.Recordable.{due_may_be_notarized, due_may_be_finalized, due_may_be_nullified}
use Rattle.voter_laws.proofs.laws.what_is_due_may_be_recorded.Goals as goal

pub returns : goal.returns
returns g c = record { notarize = due_may_be_notarized; finalize = due_may_be_finalized; nullify = due_may_be_nullified }
