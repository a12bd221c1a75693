use Rattle.messages_certificates.specs.Certificate.{any_certificate_spelling, as_notarization}
use Rattle.simplex_resolver.proofs.Choices.{if_ok-map, on_ok-map}
use Rattle.simplex_resolver.proofs.Gaps.{fits_behind}
use Rattle.simplex_resolver.proofs.TermStarts.{room-next}
use Rattle.simplex_resolver.proofs.state.State.certified.Goals as goal

pub returns-clause-keeps : goal.returns-clause-keeps
returns-clause-keeps g c = λ room. on_ok-map c.certified.result (λ keeps views h k. record {
  stands = keeps views h k.stands;
  fits = fits_behind h c.args.notarization.proposal.round.view (any_certificate_spelling g.D.Write.spelling g.S.Certificate.Write.spelling (as_notarization c.args.notarization)) c.args.success (room-next c.args.self.now.scanner.held.length c.args.self.now.scanner.some c.args.notarization.proposal.round.view room) k.fits;
}) c.certified.ensures.keeps

pub returns-clause-gives : goal.returns-clause-gives
returns-clause-gives g c = λ room. if_ok-map c.certified.result (λ given gives views h k. gives views h k.stands) c.certified.ensures.gives
