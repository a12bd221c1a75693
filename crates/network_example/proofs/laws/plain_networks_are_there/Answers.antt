use Rattle.std.proofs.Common.{refl, ap, arith}
use Rattle.std.specs.Prelude.{option_map}
use Rattle.simplex_member.specs.Packet.{of_vote}
use Rattle.network_example.proofs.Plain.{certified, none-read, plain-network, signed}
use Rattle.network_example.proofs.laws.plain_networks_are_there.Goals as goal

pub returns : goal.returns
returns g c = plain-network _ _ g.D.Write.spelling g.D.Write.fits (c.networks_are_there.ensures _)
    (λ base genesis junk handed. record {
      alike = λ i small. record { size_is = refl; attests_too = λ j s a is. is };
      one_another = λ i j small also signer s a is. is;
      attests = λ i small. signed g.D.Write.spelling base i small;
      certifies = λ i small. certified g.D.Write.spelling base;
    })
    (ap (option_map of_vote) (none-read _ _)) (c.packets_are_read_back.ensures.read_back 4 (omega arith)) (c.packets_are_read_back.ensures.readable 4 (omega arith)) (c.packets_are_read_back.ensures.recordable 4 (omega arith))
