use Rattle.std.proofs.Common.{sym, ◌∙◌}
use Rattle.voter_rules.proofs.ancestry.is_explicit_with.Goals as goal

pub returns : goal.returns
returns g c = λ m k shown.
    let there = c.explicit_payload.ensures m k shown in
    (λ so. sym there ∙ c.is_payload.ensures.0 so, λ is. c.is_payload.ensures.1 (there ∙ is))
