use Rattle.std.proofs.Common.{ℕ, sym, subst}
use Rattle.types_core.specs.Positions.{HasRoom}
use Rattle.messages_certificates.specs.Certificate.{certificate_round}
use Rattle.node_core.proofs.told_layers.update_repair.Goals as goal

pub returns-clause-told : goal.returns-clause-told
returns-clause-told g c = λ views h k room. c.in-Ok.ensures.keeps (subst (λ (n : ℕ). HasRoom n (certificate_round c.args.certificate.now).view) (sym k.stands.holds.length_is) room) views h k
