use Rattle.std.proofs.Common.{rules, ◌∙◌, IsTrue, Bool, ◌↔◌}
use Rattle.std.proofs.lemmas.Result.{IfOk-weaker}
use Rattle.messages_certificates.specs.Assembly.{CanAssemble}
use Rattle.messages_certificates.proofs.Voters.{can-assemble}
use Rattle.messages_certificates.proofs.assembly.can_assemble.Goals as goal

pub returns : goal.returns
returns g c =
    let listed = c.deref.ensures.value ∙ c.in_ok-attestations.ensures in
    let Exact : Bool → Type 0 = λ answer. IsTrue answer ↔ CanAssemble g.V.Attested.content_of g.V.Attested.attestation_of c.args.participants c.args.votes.now in
    IfOk-weaker c.are_of_distinct_members.result _ Exact
    (λ answer exact. can-assemble g.V.Attested.attestation_of g.V.Attested.content_of c.args.participants c.args.votes.now (c.if-not-agree.ensures.0 (search rules)) c.deref.result.now listed (IsTrue answer) exact)
    c.are_of_distinct_members.ensures
