use Rattle.simplex_rules.proofs.ballots.Ballots.weigh.Goals as goal

pub returns-then-challenge : goal.returns-then-challenge
returns-then-challenge g c = λ casts s.
    let kept = rw c.if-challenge.true at (c.challenge.ensures casts s) in
    c.add.ensures casts kept.0 kept.1
