use Rattle.std.proofs.Common.{sym, ◌∙◌}
use Rattle.std.proofs.lemmas.Option.{none-some}
use Rattle.voter_rules.proofs.Testing.{always}
use Rattle.voter_rules.proofs.Walking.{met_by}
use Rattle.voter_rules.proofs.ancestry.is_met.Goals as goal

pub returns-in-Some : goal.returns-in-Some
returns-in-Some g c =
    met_by c.in-Some.bound c.args.payload c.args.bound c.eq.result (g.D.PartialEq.eq c.in-Some.bound c.args.payload) c.in-Some.is c.eq.ensures
    (g.met.D.Digest.equal_is_same c.in-Some.bound c.args.payload)

pub returns-in-None : goal.returns-in-None
returns-in-None g c = always (λ b is. absurd (none-some b (sym c.in-None.is ∙ is)))
