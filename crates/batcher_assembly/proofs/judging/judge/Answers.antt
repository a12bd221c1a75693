use Rattle.std.proofs.Common.{◌∙◌, inl, inr, refl, sym}
use Rattle.batcher_assembly.proofs.judging.judge.Goals as goal

pub returns-in-Some-clause-verdict : goal.returns-in-Some-clause-verdict
returns-in-Some-clause-verdict g c = λ distinct attesting.
    inl (record {
      batchable_is = rw c.in-Some.is at c.in_ok-certificate.ensures.batchable;
      fallback_is = refl;
      none_invalid = c.new.ensures.items;
      certificate = c.in-Some.certificate;
      made = refl;
      sound = rw c.in-Some.is at c.in_ok-certificate.ensures.sound;
    })

pub returns-clause-verdict : goal.returns-clause-verdict
returns-clause-verdict g c = λ distinct attesting. inr (c.in_ok-judged.ensures.verdict distinct attesting)
