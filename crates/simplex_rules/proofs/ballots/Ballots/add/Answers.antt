use Rattle.std.proofs.Common.{◌≡◌, true, false, sym, ◌∙◌}
use Rattle.simplex_rules.specs.Tally.{CastIsAttested}
use Rattle.simplex_rules.proofs.Casts.{none_kept, none_more, one_lower, one_higher, two_lower, two_between}
use Rattle.simplex_rules.proofs.ballots.Ballots.add.Goals as goal

pub returns-in-None : goal.returns-in-None
returns-in-None g c = λ casts settled s.
    none_kept (CastIsAttested g.K.ProposalKind.states (g.S.Scheme.attests c.args.scheme.now) c.args.suspect.now) g.met.D.Ord.total casts c.args.cast.now c.args.kept.now s (rw c.in-None.is at (c.place_of.ensures settled))

pub returns-then-not-verifies : goal.returns-then-not-verifies
returns-then-not-verifies g c = λ casts settled s.
    none_more (CastIsAttested g.K.ProposalKind.states (g.S.Scheme.attests c.args.scheme.now) c.args.suspect.now) g.met.D.Ord.total casts c.args.cast.now c.args.kept.now settled s
    (λ verifies. let both : false ≡ true = sym c.if-not-verifies.true ∙ c.verifies.ensures.1 verifies in cc)

pub returns-in-First : goal.returns-in-First
returns-in-First g c = λ casts settled s.
    let low = rw (c.in-One.is, c.in-Some.is, c.in-First.is) at (c.place_of.ensures settled) in
    (one_lower (CastIsAttested g.K.ProposalKind.states (g.S.Scheme.attests c.args.scheme.now) c.args.suspect.now) g.met.D.Ord.total casts c.args.cast.now c.in-One.only (rw c.in-One.is at s) (c.verifies.ensures.0 c.if-not-verifies.false) low)

pub returns-in-Second : goal.returns-in-Second
returns-in-Second g c = λ casts settled s.
    let high = rw (c.in-One.is, c.in-Some.is, c.in-Second.is) at (c.place_of.ensures settled) in
    (one_higher (CastIsAttested g.K.ProposalKind.states (g.S.Scheme.attests c.args.scheme.now) c.args.suspect.now) g.met.D.Ord.total casts c.args.cast.now c.in-One.only (rw c.in-One.is at s) (c.verifies.ensures.0 c.if-not-verifies.false) high)

pub returns-in-First-place : goal.returns-in-First-place
returns-in-First-place g c = λ casts settled s.
    let low = rw (c.in-Two.is, c.in-Some.is, c.in-First-place.is) at (c.place_of.ensures settled) in
    two_lower (CastIsAttested g.K.ProposalKind.states (g.S.Scheme.attests c.args.scheme.now) c.args.suspect.now) g.met.D.Ord.total casts c.args.cast.now c.in-Two.least c.in-Two.next (rw c.in-Two.is at s) (c.verifies.ensures.0 c.if-not-verifies.false) low

pub returns-in-Second-place : goal.returns-in-Second-place
returns-in-Second-place g c = λ casts settled s.
    let between = rw (c.in-Two.is, c.in-Some.is, c.in-Second-place.is) at (c.place_of.ensures settled) in
    two_between (CastIsAttested g.K.ProposalKind.states (g.S.Scheme.attests c.args.scheme.now) c.args.suspect.now) g.met.D.Ord.total casts c.args.cast.now c.in-Two.least c.in-Two.next (rw c.in-Two.is at s) (c.verifies.ensures.0 c.if-not-verifies.false) between.0 between.1
