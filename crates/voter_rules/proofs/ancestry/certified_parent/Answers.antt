use Rattle.std.proofs.Common.{sym, ◌∙◌}
use Rattle.voter_rules.proofs.Preferring.{none_is_last, uncovered_is_last}
use Rattle.voter_rules.proofs.Walking.{covered_of}
use Rattle.voter_rules.proofs.ancestry.certified_parent.Goals as goal

pub returns-in_err-parent : goal.returns-in_err-parent
returns-in_err-parent g c = λ m k shown starts. rw c.from_residual.ensures (none_is_last m k c.args.view (c.in_err-parent.ensures m k shown))

pub returns-then-is_some : goal.returns-then-is_some
returns-then-is_some g c = λ m k shown starts.
    uncovered_is_last m k c.args.view c.in_ok-parent.parent c.in_ok-parent.payload (c.in_ok-parent.ensures m k shown) c.first_uncovered.result (sym c.is_some.ensures ∙ c.if-is_some.true)
    (c.first_uncovered.ensures m k shown)

pub returns : goal.returns
returns g c = λ m k shown starts.
    let last = c.in_ok-parent.ensures m k shown in
    record {
      starts = starts;
      below = last.below;
      there = last.there;
      highest = last.highest;
      covered = covered_of m k c.in_ok-parent.parent c.args.view c.first_uncovered.result (sym c.is_some.ensures ∙ c.if-is_some.false) (c.first_uncovered.ensures m k shown);
    }
