use Rattle.std.proofs.Common.{◌<◌, List, sym, ◌∙◌, ap, subst}
use Rattle.std.specs.List.{All}
use Rattle.std.proofs.lemmas.List.Elements.{All-map}
use Rattle.types_core.specs.declared.attestation.Attestation.{Attestation}
use Rattle.types_core.specs.Quorum.{AreDistinct}
use Rattle.messages_certificates.proofs.Voters.{map-AreDistinct, made-from}
use Rattle.messages_certificates.proofs.assembly.assembled.Goals as goal

pub assemble-requires-clause-distinct : goal.assemble-requires-clause-distinct
assemble-requires-clause-distinct g c =
    let listed = c.deref.ensures.value ∙ c.in_ok-attestations.ensures in
    let Distinct : List (Attestation _) → Type 0 = λ attestations. AreDistinct attestations in
    subst Distinct (sym listed) (map-AreDistinct g.V.Attested.attestation_of c.args.votes.now c.requires.distinct)

pub assemble-requires-clause-members : goal.assemble-requires-clause-members
assemble-requires-clause-members g c =
    let listed = c.deref.ensures.value ∙ c.in_ok-attestations.ensures in
    let IsMember : Attestation _ → Type 0 = λ a. a.signer < g.S.Scheme.size c.args.scheme.now in
    subst (All IsMember) (sym listed) (All-map IsMember g.V.Attested.attestation_of c.args.votes.now c.requires.members)

pub returns-clause-made : goal.returns-clause-made
returns-clause-made g c = λ states.
    let content = g.V.Attested.content_of in
    let first = c.index-votes-0.result in
    let listed = c.deref.ensures.value ∙ c.in_ok-attestations.ensures in
    made-from content g.V.Attested.attestation_of states (g.S.Scheme.attests c.args.scheme.now) (g.S.Scheme.certifies c.args.scheme.now) g.S.Scheme.lists g.S.Scheme.enumerates
    (g.S.Scheme.size c.args.scheme.now) c.args.votes.now c.requires first c.content-content.result (c.content-content.ensures ∙ ap content c.index-votes-0.is)
    c.deref.result.now listed c.in_ok-certificate.certificate c.in_ok-certificate.ensures.certifies c.in_ok-certificate.ensures.only_given c.in_ok-certificate.ensures.all_given
