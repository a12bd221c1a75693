use Rattle.std.proofs.Common.{[], ◌∷◌, None, refl, sym}
use Rattle.std.proofs.lemmas.Result.{on_ok_weaker}
use Rattle.simplex_member.specs.Deeds.{Reports, Sends}
use Rattle.simplex_member.specs.Packet.{of_vote}
use Rattle.node_outbox.specs.Handing.{both_more}
use Rattle.node_outbox.proofs.sending.hand_vote_out.Goals as goal

pub returns-in-Ok-clause-done : goal.returns-in-Ok-clause-done
returns-in-Ok-clause-done g c = on_ok_weaker c.hand_out-in-Ok.result (λ done. λ f vote is.
    both_more f c.args.out.now.items c.hand_out.new.out.items c.hand_out-in-Ok.new.out.items (Sends None (of_vote vote) ∷ []) (Reports c.args.report ∷ [])
    (c.in-Ok.ensures.done f (Sends None (of_vote vote)) (c.to_all.ensures f (of_vote vote) refl (sym is))) (done f (Reports c.args.report) refl))
    c.hand_out-in-Ok.ensures.done
