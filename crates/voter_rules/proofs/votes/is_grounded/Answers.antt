use Rattle.std.proofs.Common.{sym, ◌∙◌}
use Rattle.voter_rules.proofs.Voting.{grounded_by}
use Rattle.voter_rules.proofs.votes.is_grounded.Goals as goal

pub returns-in-Some : goal.returns-in-Some
returns-in-Some g c = λ m k shown.
    grounded_by m k c.args.view c.in-Some.proposal c.required_parent.result c.is_explicit.result (sym (c.proposal.ensures m k shown) ∙ c.in-Some.is)
    (c.required_parent.ensures m k shown) (c.is_explicit.ensures m k shown)
