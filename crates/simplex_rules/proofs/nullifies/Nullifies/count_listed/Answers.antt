use Rattle.std.proofs.Common.{◌++◌, List, map, subst}
use Rattle.types_core.specs.declared.attestation.Attestation.{Attestation}
use Rattle.simplex_rules.proofs.Listed.{Adds-none, Adds-next, Adds-all, HoldsGivenUp, nullify_by}
use Rattle.simplex_rules.proofs.nullifies.Nullifies.count_listed.Goals as goal

pub loop-attestation-init : goal.loop-attestation-init
loop-attestation-init g c = Adds-none (HoldsGivenUp c.args.made.now (g.S.Scheme.attests c.args.scheme.now) c.args.contested.now) (nullify_by c.args.made.now) c.args.self.now.kept.items c.attestations-attestation-items.result.now

pub loop-attestation-preserved : goal.loop-attestation-preserved
loop-attestation-preserved g c =
    Adds-next (HoldsGivenUp c.args.made.now (g.S.Scheme.attests c.args.scheme.now) c.args.contested.now) (nullify_by c.args.made.now) c.args.self.now.kept.items c.loop-attestation.self.kept.items c.count.new.self.kept.items
    c.attestations-attestation-items.result.now c.loop-attestation.attestation-index c.attestation-item.result c.loop-attestation-test.true c.attestation-item.is c.loop-attestation.invariant c.in_ok-count.ensures

pub returns : goal.returns
returns g c = λ votes h.
    let Holds = HoldsGivenUp c.args.made.now (g.S.Scheme.attests c.args.scheme.now) c.args.contested.now in
    let all = Adds-all Holds (nullify_by c.args.made.now) c.args.self.now.kept.items c.loop-attestation.self.kept.items
    c.attestations-attestation-items.result.now c.loop-attestation.attestation-index c.loop-attestation-test.false c.loop-attestation.invariant votes h in
    subst (λ (listed : List (Attestation _)). Holds (votes ++ map (nullify_by c.args.made.now) listed) c.loop-attestation.self.kept.items) c.attestations-attestation-items.ensures.listed all
