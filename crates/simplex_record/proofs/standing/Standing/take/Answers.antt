use Rattle.std.proofs.Common.{arith}
use Rattle.std.proofs.lemmas.Result.{on_ok_weaker}
use Rattle.simplex_record.proofs.Checks.{room-next}
use Rattle.simplex_record.proofs.standing.Standing.take.Goals as goal

pub add_verdict-requires : goal.add_verdict-requires
add_verdict-requires g c =
    let room = rw c.in-Certification.is at c.requires in
    room-next c.args.length c.in-Certification.round.view (omega arith) room

pub returns-in-Notarize-clause-keeps : goal.returns-in-Notarize-clause-keeps
returns-in-Notarize-clause-keeps g c = rw c.in-Notarize.is (on_ok_weaker c.add_notarize.result (λ adds before k may. adds c.args.length before k) c.add_notarize.ensures.keeps)

pub returns-in-Certification-clause-keeps : goal.returns-in-Certification-clause-keeps
returns-in-Certification-clause-keeps g c = rw c.in-Certification.is (on_ok_weaker c.add_verdict.result (λ adds before k may. adds c.args.length before k may) c.add_verdict.ensures.keeps)

pub returns-in-Nullify-clause-keeps : goal.returns-in-Nullify-clause-keeps
returns-in-Nullify-clause-keeps g c = rw c.in-Nullify.is (on_ok_weaker c.add_nullify.result (λ adds before k may. adds c.args.length before k) c.add_nullify.ensures.keeps)

pub returns-in-Finalize-clause-keeps : goal.returns-in-Finalize-clause-keeps
returns-in-Finalize-clause-keeps g c = rw c.in-Finalize.is (on_ok_weaker c.add_finalize.result (λ adds before k may. adds c.args.length before k) c.add_finalize.ensures.keeps)
