use Rattle.std.proofs.Common.{ℕ, subst, sym}
use Rattle.types_core.specs.Positions.{HasRoom}
use Rattle.node_core.proofs.told_layers.judge_repair.Goals as goal

pub returns-clause-told : goal.returns-clause-told
returns-clause-told g c = λ views h k room.
    c.in-Ok.ensures.keeps (subst (λ (n : ℕ). HasRoom n c.args.notarization.proposal.round.view) (sym k.stands.holds.length_is) room) views h k
