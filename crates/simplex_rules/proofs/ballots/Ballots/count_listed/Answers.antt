use Rattle.std.proofs.Common.{◌++◌, ◌∷◌, [], List, map, subst}
use Rattle.types_core.specs.declared.attestation.Attestation.{Attestation}
use Rattle.messages_certificates.specs.declared.proposal_vote.ProposalVote.{ProposalVote}
use Rattle.simplex_rules.proofs.Listed.{Adds, Adds-none, Adds-next, Adds-all, HoldsAlike, vote_by, vote_by-is}
use Rattle.simplex_rules.proofs.ballots.Ballots.count_listed.Goals as goal

pub loop-attestation-init : goal.loop-attestation-init
loop-attestation-init g c = Adds-none (HoldsAlike c.args.made.now g.K.ProposalKind.states (g.S.Scheme.attests c.args.scheme.now) g.D.Ord.cmp c.args.contested.now) (vote_by c.args.made.now) c.args.self.now.kept.items c.attestations-attestation-items.result.now

pub loop-attestation-preserved : goal.loop-attestation-preserved
loop-attestation-preserved g c =
    let Holds = HoldsAlike c.args.made.now g.K.ProposalKind.states (g.S.Scheme.attests c.args.scheme.now) g.D.Ord.cmp c.args.contested.now in
    let is = vote_by-is c.args.made.now c.attestation-item.result c.new-vote.result c.new-vote.ensures.proposal c.new-vote.ensures.attestation in
    let counted = subst (λ (v : ProposalVote _ _ _ _ _ _). Adds Holds c.loop-attestation.self.kept.items c.count.new.self.kept.items (v ∷ [])) is c.in_ok-count.ensures in
    Adds-next Holds (vote_by c.args.made.now) c.args.self.now.kept.items c.loop-attestation.self.kept.items c.count.new.self.kept.items
    c.attestations-attestation-items.result.now c.loop-attestation.attestation-index c.attestation-item.result c.loop-attestation-test.true c.attestation-item.is c.loop-attestation.invariant counted

pub returns : goal.returns
returns g c = λ votes h.
    let Holds = HoldsAlike c.args.made.now g.K.ProposalKind.states (g.S.Scheme.attests c.args.scheme.now) g.D.Ord.cmp c.args.contested.now in
    let all = Adds-all Holds (vote_by c.args.made.now) c.args.self.now.kept.items c.loop-attestation.self.kept.items
    c.attestations-attestation-items.result.now c.loop-attestation.attestation-index c.loop-attestation-test.false c.loop-attestation.invariant votes h in
    subst (λ (listed : List (Attestation _)). Holds (votes ++ map (vote_by c.args.made.now) listed) c.loop-attestation.self.kept.items) c.attestations-attestation-items.ensures.listed all
