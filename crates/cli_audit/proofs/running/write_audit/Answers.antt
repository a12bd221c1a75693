use Rattle.std.proofs.Common.{◌≡◌, List, ℕ, subst}
use Rattle.cli_audit.specs.Running.{BreaksOff}
use Rattle.cli_audit.proofs.Implied.{IfSome-implies}
use Rattle.cli_audit.proofs.running.write_audit.Goals as goal

pub returns-then-is_err-clause-broken_off : goal.returns-then-is_err-clause-broken_off
returns-then-is_err-clause-broken_off g c = λ _.
    let Cut : List ℕ → Type 0 = λ bytes. BreaksOff c.args.count bytes (g.W.Write.contents c.args.output.now) (g.W.Write.contents c.write_whole.new.writer) in
    let front = rw c.as_bytes.ensures.value at c.write_whole.ensures.front in
    let cut : Cut c.in_ok-bytes.bytes.items = (c.in_ok-text.fault, _, c.in_ok-text.ensures, front) in
    IfSome-implies (g.R.Read.remaining c.args.input.now) (λ (bytes : List ℕ). c.in_ok-bytes.bytes.items ≡ bytes) Cut c.in_ok-bytes.ensures.whole (λ bytes same. subst Cut same cut)
