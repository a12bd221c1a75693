use Rattle.std.specs.Prelude.{max, nat_lt, not, ◌&&◌}
use Rattle.std.proofs.Common.{◌≡◌, sym, ◌∙◌, ap, refl, ℕ}
use Rattle.simplex_resolver.specs.RepairHistory.{Notarized, current, floor, finalized, has_failed}
use Rattle.simplex_resolver.specs.Outstanding.{settled_notarization, when}
use Rattle.simplex_resolver.proofs.Anchors.{behind}
use Rattle.simplex_resolver.proofs.Choices.{max_zero, max_flip, same_level, ord_max_is}
use Rattle.simplex_resolver.proofs.scanner.Scanner.notarized.Goals as goal

pub returns-clause-keeps : goal.returns-clause-keeps
returns-clause-keeps c = λ views h k. record {
  holds = c.in_ok-settles.ensures.holds views h k.holds;
  current_is = c.max-self.ensures ∙ (ord_max_is c.args.self.now.current c.args.view ∙ (ap (λ (n : ℕ). max n c.args.view) k.current_is ∙ max_flip (current h) c.args.view));
  floor_is = k.floor_is ∙ sym (max_zero (floor h));
  live_is = k.live_is;
}

pub returns-clause-gives : goal.returns-clause-gives
returns-clause-gives c = λ views h k.
    let a = c.in_ok-scan.ensures views h (Notarized c.args.view) (returns-clause-keeps c views h k) (c.scanned-went.ensures.answer views h k) (same_level (floor h)) in
    let first : c.push_if.new.effects.items ≡ when (nat_lt (finalized h) c.args.view && not (has_failed h c.args.view)) (settled_notarization c.args.view) = rw (c.in_ok-push_if.ensures, c.new-effects.ensures.items, c.in_ok-settles.ensures.answer views h k.holds, c.settled_notarization.ensures) refl in
    (a.0, a.1, behind _ _ _ _ a.2 first)
