use Rattle.std.proofs.Common.{map, take}
use Rattle.simplex_rules.proofs.Listed.{Adds, HoldsAlike, vote_by}
use Rattle.simplex_rules.proofs.ballots.Ballots.count_listed.Given as goal

-- of the votes listed so far what there is to keep is kept
abbrev pub invariant-loop-attestation : goal.invariant-loop-attestation
invariant-loop-attestation g l =
    Adds (HoldsAlike l.made g.K.ProposalKind.states (g.S.Scheme.attests l.scheme) g.D.Ord.cmp l.contested) l.fn.self.kept.items l.self.kept.items (map (vote_by l.made) (take l.attestation-index l.attestation-items))
