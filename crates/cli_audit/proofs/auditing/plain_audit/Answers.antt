use Rattle.cli_audit.proofs.auditing.plain_audit.Goals as goal

pub returns : goal.returns
returns c = rw (c.in_ok-scheme.ensures.base, c.in_ok-scheme.ensures.count) at c.audit.ensures.exact
