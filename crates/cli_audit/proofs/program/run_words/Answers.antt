use Rattle.std.proofs.Common.{◌≡◌, ℕ, None, Some, ◌⊎◌, subst, refl}
use Rattle.std.specs.Prelude.{IfSome}
use Rattle.cli_audit.specs.declared.command.Command.TheVariants.{Audit}
use Rattle.cli_audit.specs.Running.{AuditsOver, BreaksOff}
use Rattle.cli_audit.proofs.Counts.{one_count}
use Rattle.cli_audit.proofs.program.run_words.Goals as goal

pub returns-in-Some-Audit-clause-whole : goal.returns-in-Some-Audit-clause-whole
returns-in-Some-Audit-clause-whole g c = λ count spelled done.
    let own = rw c.in-Some-Audit.field-0-is at c.in-Some-Audit.ensures.accepted in
    let same : c.in-Some-Audit.count ≡ count = one_count _ c.in-Some-Audit.count count own spelled in
    subst (λ (n : ℕ). IfSome (g.R.Read.remaining c.args.input.now) (λ bytes. AuditsOver n bytes None (g.W.Write.contents c.args.output.now) (g.W.Write.contents c.audit_over.new.output))) same (c.audit_over.ensures.whole done)

pub returns-in-Some-Audit-clause-faulty : goal.returns-in-Some-Audit-clause-faulty
returns-in-Some-Audit-clause-faulty g c = λ count spelled done.
    let own = rw c.in-Some-Audit.field-0-is at c.in-Some-Audit.ensures.accepted in
    let same : c.in-Some-Audit.count ≡ count = one_count _ c.in-Some-Audit.count count own spelled in
    subst (λ (n : ℕ). IfSome (g.R.Read.remaining c.args.input.now) (λ bytes. (place : ℕ) × AuditsOver n bytes (Some place) (g.W.Write.contents c.args.output.now) (g.W.Write.contents c.audit_over.new.output))) same (c.audit_over.ensures.faulty done)

pub returns-in-None-clause-audit : goal.returns-in-None-clause-audit
returns-in-None-clause-audit g c = λ count spelled. absurd (c.in-None.ensures.refused refl (Audit count) spelled)

pub returns-in-None-clause-silent : goal.returns-in-None-clause-silent
returns-in-None-clause-silent g c = λ count spelled. absurd (c.in-None.ensures.refused refl (Audit count) spelled)

pub returns-in-Some-Audit-clause-broken_off : goal.returns-in-Some-Audit-clause-broken_off
returns-in-Some-Audit-clause-broken_off g c = λ count spelled ended.
    let own = rw c.in-Some-Audit.field-0-is at c.in-Some-Audit.ensures.accepted in
    let same : c.in-Some-Audit.count ≡ count = one_count _ c.in-Some-Audit.count count own spelled in
    subst (λ (n : ℕ). (c.audit_over.new.output ≡ c.args.output.now) ⊎ IfSome (g.R.Read.remaining c.args.input.now) (λ bytes. BreaksOff n bytes (g.W.Write.contents c.args.output.now) (g.W.Write.contents c.audit_over.new.output))) same (c.audit_over.ensures.broken_off ended)
