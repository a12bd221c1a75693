use Rattle.simplex_member.proofs.Reporting.{one-statement}
use Rattle.simplex_member.proofs.laws.own_votes_agree.Goals as goal

pub returns : goal.returns
returns g c = λ f scheme m world w i correct x y first second way.
    one-statement g.S.Scheme f scheme m world c.lives_obey.ensures w i correct (λ views before s t may voted stands. c.no_own_vote_stands_in_the_way.ensures views before s t may voted stands) x y first second way
