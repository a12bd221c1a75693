use Rattle.std.proofs.Common.{◌↔◌, List, subst}
use Rattle.std.specs.Prelude.{All}
use Rattle.std.proofs.lemmas.List.{nil_from_length}
use Rattle.messages_certificates.specs.Artifact.{artifact_within}
use Rattle.node_record.proofs.Rewriting.{all-none, all-one, all-rest}
use Rattle.node_record.proofs.ledger.are_within.Goals as goal

pub loop-artifact-preserved : goal.loop-artifact-preserved
loop-artifact-preserved g c =
    let here = subst (λ (l : List _). All (artifact_within (g.S.Certificate.Read.within 65535)) c.args.artifacts.now ↔ All (artifact_within (g.S.Certificate.Read.within 65535)) l) c.in-Some.ensures.cases.0 c.loop-artifact.invariant in
    all-rest (artifact_within (g.S.Certificate.Read.within 65535)) c.in-Some.artifact.now c.in-Some.behind.now _ (c.is_within.ensures.0 c.if-not-is_within.false) here

pub returns-then-not-is_within : goal.returns-then-not-is_within
returns-then-not-is_within g c =
    let here = subst (λ (l : List _). All (artifact_within (g.S.Certificate.Read.within 65535)) c.args.artifacts.now ↔ All (artifact_within (g.S.Certificate.Read.within 65535)) l) c.in-Some.ensures.cases.0 c.loop-artifact.invariant in
    all-one (artifact_within (g.S.Certificate.Read.within 65535)) c.in-Some.artifact.now c.in-Some.behind.now _ _ c.is_within.ensures c.if-not-is_within.true here

pub returns : goal.returns
returns g c =
    let here = subst (λ (l : List _). All (artifact_within (g.S.Certificate.Read.within 65535)) c.args.artifacts.now ↔ All (artifact_within (g.S.Certificate.Read.within 65535)) l) (nil_from_length _ c.in_default.ensures.cases) c.loop-artifact.invariant in
    all-none (artifact_within (g.S.Certificate.Read.within 65535)) _ here
