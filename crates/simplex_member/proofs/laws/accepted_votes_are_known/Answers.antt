use Rattle.simplex_member.specs.Layers.{all_votes, floor_of}
use Rattle.std.specs.Prelude.{nat_lt}
use Rattle.simplex_member.proofs.Allowing.{begun-allowed}
use Rattle.simplex_member.proofs.Listed.{accepted-known, kept-only}
use Rattle.simplex_member.proofs.laws.accepted_votes_are_known.Goals as goal

pub returns : goal.returns
returns g c = λ f s h points view v goes here.
    (accepted-known g.S.Scheme f s h (begun-allowed g.S.Scheme f s points h goes) view v (kept-only (nat_lt view (floor_of s h)) (all_votes view h) v here)).known
