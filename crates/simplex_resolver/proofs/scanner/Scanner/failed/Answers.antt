use Rattle.std.proofs.Common.{sym, ◌∙◌, refl}
use Rattle.simplex_resolver.specs.RepairHistory.{floor, current}
use Rattle.simplex_resolver.proofs.Choices.{max_zero}
use Rattle.simplex_resolver.proofs.scanner.Scanner.failed.Goals as goal

pub returns-clause-keeps : goal.returns-clause-keeps
returns-clause-keeps c = λ bytes views h k. record {
  holds = c.in_ok-take_failure.ensures.holds bytes views h k.holds;
  current_is = k.current_is ∙ sym (max_zero (current h));
  floor_is = k.floor_is ∙ sym (max_zero (floor h));
  live_is = k.live_is;
}

pub returns-clause-gives : goal.returns-clause-gives
returns-clause-gives c = λ bytes views h k. rw (c.in_ok-push_if.ensures, c.in_ok-push.ensures.items, c.new-effects.ensures.items, c.settled_notarization.ensures, c.is_missing-missing.ensures views h k, c.fetch_failed.ensures) refl
