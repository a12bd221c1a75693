use Rattle.std.proofs.Common.{◌≡◌, true, false, sym, ◌∙◌}
use Rattle.simplex_rules.proofs.Claims.{given_again, given_alone, given_next}
use Rattle.simplex_rules.proofs.nullifies.Nullifies.weigh.Goals as goal

pub returns-then-eq : goal.returns-then-eq
returns-then-eq g c = λ signatures s.
    let same : c.in-Claim.claim ≡ c.args.signature = (g.met.S.Signature.Signature.equal_is_same c.in-Claim.claim c.args.signature).0 (sym c.eq.ensures ∙ c.if-eq.true) in
    given_again (g.S.Scheme.attests c.args.scheme.now) c.args.suspect.now signatures c.in-Claim.claim c.args.signature (rw c.in-Claim.is at s) same

pub returns : goal.returns
returns g c = λ signatures s.
    given_next (g.S.Scheme.attests c.args.scheme.now) c.args.suspect.now signatures c.in-Claim.claim c.args.signature (rw c.in-Claim.is at s)
    (λ verifies. let both : false ≡ true = sym c.if-verifies.false ∙ c.verifies.ensures.1 verifies in cc)

pub returns-in-Nothing : goal.returns-in-Nothing
returns-in-Nothing g c = λ signatures s. given_alone (g.S.Scheme.attests c.args.scheme.now) c.args.suspect.now signatures c.args.signature (rw c.in-Nothing.is at s)
