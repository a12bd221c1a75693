use Rattle.std.proofs.Common.{sym, ◌∙◌}
use Rattle.std.proofs.lemmas.Bool.{iff_false}
use Rattle.std.proofs.lemmas.Option.{none-some}
use Rattle.voter_rules.proofs.Walking.{start_link, start_none}
use Rattle.voter_rules.proofs.ancestry.support.Goals as goal

pub returns-then-is_zero-clause-link : goal.returns-then-is_zero-clause-link
returns-then-is_zero-clause-link g c = λ m k shown.
    start_link m k c.args.view c.in_ok-payload.payload (c.is_zero.ensures.0 c.if-is_zero.true) (sym (c.genesis.ensures m k shown) ∙ c.in_ok-payload.was)

pub returns-then-is_zero-clause-lower : goal.returns-then-is_zero-clause-lower
returns-then-is_zero-clause-lower g c = λ below is. absurd (none-some below is)

pub returns-in_err-payload-clause-lower : goal.returns-in_err-payload-clause-lower
returns-in_err-payload-clause-lower g c = rw c.from_residual.ensures tt

pub returns-in_err-payload-clause-link : goal.returns-in_err-payload-clause-link
returns-in_err-payload-clause-link g c = λ m k shown.
    rw c.from_residual.ensures (start_none m k c.args.view (c.is_zero.ensures.0 c.if-is_zero.true) (sym (c.genesis.ensures m k shown) ∙ c.in_err-payload.was))

pub returns-then-has_certificate-clause-lower : goal.returns-then-has_certificate-clause-lower
returns-then-has_certificate-clause-lower g c = c.certified_link.ensures.lower

pub returns-then-has_certificate-clause-link : goal.returns-then-has_certificate-clause-link
returns-then-has_certificate-clause-link g c = λ m k shown.
    c.certified_link.ensures.link m k shown (iff_false c.is_zero.ensures c.if-is_zero.false) (sym (c.has_certificate.ensures m k shown) ∙ c.if-has_certificate.true)

pub returns-clause-lower : goal.returns-clause-lower
returns-clause-lower g c = c.voted_link.ensures.lower

pub returns-clause-link : goal.returns-clause-link
returns-clause-link g c = λ m k shown. c.voted_link.ensures.link m k shown (iff_false c.is_zero.ensures c.if-is_zero.false) (sym (c.has_certificate.ensures m k shown) ∙ c.if-has_certificate.false)
