use Rattle.std.proofs.Common.{refl, None}
use Rattle.std.proofs.lemmas.Result.{on_ok_weaker}
use Rattle.std.specs.Prelude.{map, option_to_list}
use Rattle.simplex_messages.specs.Activity.{certificate_activity}
use Rattle.simplex_member.specs.Deeds.{Finalizes, Reports, Sends}
use Rattle.simplex_member.specs.Packet.{of_certificate}
use Rattle.node_core.proofs.Certifying.{certificate_handed}
use Rattle.node_core.proofs.node_state.Core.hand_certificate.Goals as goal

pub returns-clause-acts : goal.returns-clause-acts
returns-clause-acts g c = on_ok_weaker c.relay_at_entry.result (λ enters f s h p same k was low spelled.
    certificate_handed g.S.Scheme f s h p c.args.certificate c.args.low (map Finalizes (option_to_list c.final_proposal-finalized.result))
    c.args.out.now.items c.hand_out.new.out.items c.hand_out-2.new.out.items c.hand_out_final.new.out.items c.relay_at_entry.new.out.items
    low c.final_proposal-finalized.ensures.deeds
    (c.in_ok-hand_out.ensures.done f (Reports (certificate_activity c.args.certificate)) c.from.ensures)
    (c.in_ok-hand_out-2.ensures.done f (Sends None (of_certificate c.args.certificate)) (refl, refl, spelled))
    (c.in_ok-hand_out_final.ensures.done f)
    (enters f s h p same k was)) c.relay_at_entry.ensures.acts
