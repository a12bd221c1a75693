use Rattle.std.proofs.Common.{sym, ◌∙◌}
use Rattle.std.proofs.lemmas.Option.{none-some}
use Rattle.voter_rules.proofs.Testing.{always}
use Rattle.voter_rules.proofs.Preferring.{steady_of}
use Rattle.voter_rules.proofs.ancestry.is_steady.Goals as goal

pub returns-in-Some : goal.returns-in-Some
returns-in-Some g c = λ m k shown.
    let steady = steady_of m k c.args.view (c.in-Some.proposal, c.in-Some.payload) (sym (c.binding.ensures m k shown) ∙ c.in-Some.is) in
    let answer = c.stands.ensures m k shown in
    (λ is. steady.0 (answer.0 is), λ all. answer.1 (steady.1 all))

pub returns-in-None : goal.returns-in-None
returns-in-None g c = λ m k shown. always (λ b there. absurd (none-some b (sym c.in-None.is ∙ c.binding.ensures m k shown ∙ there)))
