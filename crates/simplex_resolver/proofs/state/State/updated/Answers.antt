use Rattle.messages_certificates.specs.Certificate.{any_certificate_spelling}
use Rattle.simplex_resolver.proofs.Choices.{if_ok-map, on_ok-map}
use Rattle.simplex_resolver.proofs.Items.{failed_before}
use Rattle.simplex_resolver.proofs.state.State.updated.Goals as goal

pub returns-clause-keeps : goal.returns-clause-keeps
returns-clause-keeps g c = λ room. on_ok-map c.updated.result (λ keeps views h k. record {
  stands = keeps views h k.stands;
  fits = λ v failed. k.fits v (failed_before (any_certificate_spelling g.D.Write.spelling g.S.Certificate.Write.spelling) c.args.certificate.now h v failed);
}) c.updated.ensures.keeps

pub returns-clause-gives : goal.returns-clause-gives
returns-clause-gives g c = λ room. if_ok-map c.updated.result (λ given gives views h k. gives views h k.stands) c.updated.ensures.gives
