use Rattle.std.proofs.Common.{refl, arith}
use Rattle.types_core.specs.Subject.{finalize, nullify}
use Rattle.network_example.specs.Contradicted.{second}
use Rattle.network_example.proofs.PlainContradicted.{certified, not-first, plain-named}
use Rattle.network_example.proofs.laws.plain_contradictions_are_named.Goals as goal

pub returns : goal.returns
returns g c = plain-named _ _ g.D.Write.spelling g.D.Write.fits g.D.Ord.cmp (c.contradictions_are_named.ensures _ (c.packets_are_read_back.ensures.exact 4))
    (λ base genesis agreed final null. record {
      alike = record { size_is = refl; attests_too = λ j s a is. is };
      size = refl;
      nullified = certified g.D.Write.spelling base (nullify second);
      finalized = certified g.D.Write.spelling base (finalize (record { round = second; parent = 0; payload = agreed }));
      by_others = not-first g.D.Write.spelling base (nullify second);
      by_others_too = not-first g.D.Write.spelling base (finalize (record { round = second; parent = 0; payload = agreed }));
    })
    (c.packets_are_read_back.ensures.read_back 4 (omega arith)) (c.packets_are_read_back.ensures.readable 4 (omega arith)) (c.packets_are_read_back.ensures.recordable 4 (omega arith))
