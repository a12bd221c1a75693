use Rattle.std.proofs.lemmas.Result.{on_ok_weaker}
use Rattle.simplex_member.specs.Asked.{next_number}
use Rattle.simplex_member.specs.Deeds.{Builds}
use Rattle.voter_rules.specs.Building.{context_of}
use Rattle.node_requests.proofs.Builds.{noted_as, same_truth}
use Rattle.node_requests.proofs.building.hand_build_out.Goals as goal

pub returns-clause-keeps : goal.returns-clause-keeps
returns-clause-keeps g c = on_ok_weaker c.hand_out.result (λ done. λ low h k handoff is.
    noted_as low c.add_build.new.self h c.in-Ok.number (next_number h) c.is_handoff-handoff.result handoff c.into_context-context.result (context_of c.args.request) (c.in-Ok.ensures.number low h k)
    (same_truth c.is_handoff-handoff.result handoff c.is_handoff-handoff.ensures is) c.into_context-context.ensures (c.in-Ok.ensures.keeps low h k)) c.hand_out.ensures.done

pub returns-clause-acts : goal.returns-clause-acts
returns-clause-acts g c = on_ok_weaker c.hand_out.result (λ done. λ low h k f handoff is.
    done f (Builds (next_number h) handoff (context_of c.args.request))
    (c.in-Ok.ensures.number low h k, same_truth c.is_handoff-handoff.result handoff c.is_handoff-handoff.ensures is, c.into_context-context.ensures)) c.hand_out.ensures.done
