use Rattle.std.proofs.Common.{refl, arith}
use Rattle.types_core.specs.Subject.{finalize, notarize}
use Rattle.network_example.specs.PlainFinalized.{plain_proposal}
use Rattle.network_example.proofs.PlainFinalized.{certified, plain-finalized, signed}
use Rattle.network_example.proofs.laws.plain_views_are_finalized.Goals as goal

pub returns : goal.returns
returns g c = plain-finalized _ _ g.D.Write.spelling g.D.Write.fits (c.two_views_are_finalized.ensures _)
    (λ base payload nobody none. record {
      alike = record { size_is = refl; attests_too = λ j s a is. is };
      agrees = λ view. signed g.D.Write.spelling base payload (notarize (plain_proposal g.D.Write.spelling base payload view));
      ends = λ view. signed g.D.Write.spelling base payload (finalize (plain_proposal g.D.Write.spelling base payload view));
      agreed = λ view. certified g.D.Write.spelling base payload (notarize (plain_proposal g.D.Write.spelling base payload view));
      ended = λ view. certified g.D.Write.spelling base payload (finalize (plain_proposal g.D.Write.spelling base payload view));
      lists_agreed = λ view. refl;
      lists_ended = λ view. refl;
      nobody = none;
    })
    (λ payload. (g.met.D.Digest.equal_is_same payload payload).1 refl)
    (c.packets_are_read_back.ensures.recordable 1 (omega arith))
