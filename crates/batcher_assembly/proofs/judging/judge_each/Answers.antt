use Rattle.std.proofs.Common.{◌≡◌, ◌++◌, ℕ}
use Rattle.types_core.specs.Subject.{statement}
use Rattle.batcher_assembly.specs.Judging.{without}
use Rattle.batcher_assembly.proofs.Backers.{left-attest, left-distinct}
use Rattle.batcher_assembly.proofs.judging.judge_each.Goals as goal

pub returns-clause-verdict : goal.returns-clause-verdict
returns-clause-verdict g c = λ distinct attesting.
    let attests = λ (i : ℕ) (a : g.row.S-Signature.Denot). g.S.Scheme.attests c.args.scheme.now i (statement c.args.subject.now) a in
    let given : c.deref-2.result.now ≡ c.args.verified.now ++ without c.in_ok-invalid.invalid.items c.args.waiting.now = rw c.deref-2.ensures.value ((rw c.deref.ensures.value at c.in_ok-given.ensures c.in_ok-invalid.ensures.ascending)) in
    record {
      fallback_is = c.is_batchable-fallback.ensures;
      declined = c.requires.declined;
      invalid_are = c.in_ok-invalid.ensures;
      made = rw given at c.in_ok-certificate.ensures.made
          (left-distinct attests c.args.verified.now c.args.waiting.now c.in_ok-invalid.invalid.items distinct)
          (left-attest attests c.args.verified.now c.args.waiting.now c.in_ok-invalid.invalid.items attesting c.in_ok-invalid.ensures);
    }
