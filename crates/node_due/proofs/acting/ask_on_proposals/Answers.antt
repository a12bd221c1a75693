use Rattle.simplex_member.specs.Packet.{formats}
use Rattle.node_requests.specs.Asking.{is_silent}
use Rattle.node_due.proofs.Lasting.{latch_is_silent, put_off_is_silent, verdicts_last}
use Rattle.node_due.proofs.Settling.{did_so, failed_so, tried_as, tried_behind}
use Rattle.node_core.specs.Telling.{tells_behind, tells_ok}
use Rattle.node_due.proofs.acting.ask_on_proposals.Goals as goal

pub returns-in-Ok-Did-clause-tried : goal.returns-in-Ok-Did-clause-tried
returns-in-Ok-Did-clause-tried g c = λ s h k. did_so c.in-Ok-Did.field-0-is (c.in-Ok-Did.ensures.tried s h k)

pub returns-in-Err-clause-tried : goal.returns-in-Err-clause-tried
returns-in-Err-clause-tried g c = λ s h k. failed_so (c.in-Err.ensures.tried s h k)

pub returns-clause-tried : goal.returns-clause-tried
returns-clause-tried g c = λ s h k.
    let f = formats {S = g.row.S.Denot} {P = g.row.S-PublicKey.Denot} g.D.PartialEq.eq g.D.Write.spelling g.S.Signature.Write.spelling g.S.Certificate.Write.spelling g.D.Read.reading g.S.Signature.Read.reading g.S.Certificate.Read.reading (g.S.Scheme.size s.voter.scheme) in
    tried_as (λ at both. record { verdicts = both.0; verifications = both.1 })
    (tried_behind is_silent put_off_is_silent latch_is_silent (verdicts_last g.S.Scheme f s c.a_latch_changes_nothing_due.ensures.latch) c.in-Ok-Nothing.field-0-is (c.in-Ok-Nothing.ensures.tried s h k) (c.try_verification.ensures.tried s))

pub returns-in-Ok-Did-clause-faults : goal.returns-in-Ok-Did-clause-faults
returns-in-Ok-Did-clause-faults g c = tells_ok c.in-Ok-Did.ensures.faults

pub returns-clause-faults : goal.returns-clause-faults
returns-clause-faults g c = tells_behind c.in-Ok-Nothing.ensures.faults c.try_verification.ensures.faults
