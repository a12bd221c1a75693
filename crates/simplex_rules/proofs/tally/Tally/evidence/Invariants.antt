use Rattle.std.proofs.Common.{take}
use Rattle.simplex_rules.proofs.Pieces.{Pieces}
use Rattle.simplex_rules.proofs.tally.Tally.evidence.Given as goal

-- the evidence of the suspects gone over
abbrev pub invariant-loop-place : goal.invariant-loop-place
invariant-loop-place g l = Pieces g.S.Scheme.lists (g.S.Scheme.attests l.scheme) g.D.Ord.cmp l.contested l.self (take l.place l.suspects) l.evidence.items
