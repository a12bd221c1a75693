use Rattle.std.proofs.lemmas.Option.{none-some}
use Rattle.std.proofs.lemmas.Bool.{iff_false}
use Rattle.std.proofs.Common.{sym, ◌∙◌}
use Rattle.voter_rules.proofs.Walking.{certified_is_link, failed_none, empty_none}
use Rattle.voter_rules.proofs.ancestry.certified_link.Goals as goal

pub returns-clause-link : goal.returns-clause-link
returns-clause-link g c = λ m k shown some direct.
    certified_is_link m k c.args.view c.in_ok-payload.payload direct some
    (iff_false (c.has_failed.ensures m k shown) c.if-has_failed.false)
    (sym (c.certificate_payload.ensures m k shown) ∙ c.in_ok-payload.was)

pub returns-clause-lower : goal.returns-clause-lower
returns-clause-lower g c = λ below is. absurd (none-some below is)

pub returns-then-has_failed-clause-lower : goal.returns-then-has_failed-clause-lower
returns-then-has_failed-clause-lower g c = tt

pub returns-then-has_failed-clause-link : goal.returns-then-has_failed-clause-link
returns-then-has_failed-clause-link g c = λ m k shown some direct. failed_none m k c.args.view direct some ((c.has_failed.ensures m k shown).0 c.if-has_failed.true)

pub returns-in_err-payload-clause-lower : goal.returns-in_err-payload-clause-lower
returns-in_err-payload-clause-lower g c = rw c.from_residual.ensures tt

pub returns-in_err-payload-clause-link : goal.returns-in_err-payload-clause-link
returns-in_err-payload-clause-link g c = λ m k shown some direct.
    rw c.from_residual.ensures (empty_none m k c.args.view direct some (sym (c.certificate_payload.ensures m k shown) ∙ c.in_err-payload.was))
