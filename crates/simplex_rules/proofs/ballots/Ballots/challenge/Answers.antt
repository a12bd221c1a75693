use Rattle.std.proofs.Common.{◌≡◌, true, false, sym, ◌∙◌}
use Rattle.simplex_rules.specs.Tally.{CastIsAttested}
use Rattle.simplex_rules.proofs.Casts.{claim_again, claim_alone, claim_next}
use Rattle.simplex_rules.proofs.ballots.Ballots.challenge.Goals as goal

pub returns-then-is_same : goal.returns-then-is_same
returns-then-is_same g c = λ casts s.
    claim_again (CastIsAttested g.K.ProposalKind.states (g.S.Scheme.attests c.args.scheme.now) c.args.suspect.now) casts c.in-Claim.claim c.args.cast.now (rw c.in-Claim.is at s) (c.is_same.ensures.0 c.if-is_same.true)

pub returns-then-not-verifies : goal.returns-then-not-verifies
returns-then-not-verifies g c = λ casts s.
    claim_next (CastIsAttested g.K.ProposalKind.states (g.S.Scheme.attests c.args.scheme.now) c.args.suspect.now) casts c.in-Claim.claim c.args.cast.now (rw c.in-Claim.is at s)
    (λ verifies. let both : false ≡ true = sym c.if-not-verifies.true ∙ c.verifies.ensures.1 verifies in cc)

pub returns : goal.returns
returns g c = λ casts s. let claim = rw c.in-Claim.is at s in (tt, claim.0 (c.verifies.ensures.0 c.if-not-verifies.false))

pub returns-in-Nothing : goal.returns-in-Nothing
returns-in-Nothing g c = λ casts s.
    claim_alone (CastIsAttested g.K.ProposalKind.states (g.S.Scheme.attests c.args.scheme.now) c.args.suspect.now) casts c.args.cast.now (rw c.in-Nothing.is at s)
