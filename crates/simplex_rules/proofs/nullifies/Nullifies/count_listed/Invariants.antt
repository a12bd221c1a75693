use Rattle.std.proofs.Common.{map, take}
use Rattle.simplex_rules.proofs.Listed.{Adds, HoldsGivenUp, nullify_by}
use Rattle.simplex_rules.proofs.nullifies.Nullifies.count_listed.Given as goal

-- of the nullifies listed so far what there is to keep is kept
abbrev pub invariant-loop-attestation : goal.invariant-loop-attestation
invariant-loop-attestation g l =
    Adds (HoldsGivenUp l.made (g.S.Scheme.attests l.scheme) l.contested) l.fn.self.kept.items l.self.kept.items (map (nullify_by l.made) (take l.attestation-index l.attestation-items))
