use Rattle.std.specs.Prelude.{max, nat_lt}
use Rattle.std.proofs.Common.{◌≡◌, sym, ◌∙◌, ap, refl, ℕ}
use Rattle.types_core.specs.Positions.{term_end}
use Rattle.simplex_resolver.specs.RepairHistory.{Nullified, current, floor, finalized}
use Rattle.simplex_resolver.specs.Outstanding.{settled_nullifications, when}
use Rattle.simplex_resolver.proofs.Anchors.{behind}
use Rattle.simplex_resolver.proofs.Choices.{max_zero, max_flip, same_level, ord_max_is}
use Rattle.simplex_resolver.proofs.scanner.Scanner.nullified.Goals as goal

pub returns-clause-keeps : goal.returns-clause-keeps
returns-clause-keeps g c = λ views h k. record {
  holds = c.in_ok-reaches.ensures.holds views h k.holds;
  current_is = c.max-self.ensures ∙ (ord_max_is c.args.self.now.current c.args.view ∙ (ap (λ (n : ℕ). max n c.args.view) k.current_is ∙ max_flip (current h) c.args.view));
  floor_is = k.floor_is ∙ sym (max_zero (floor h));
  live_is = k.live_is;
}

pub returns-clause-gives : goal.returns-clause-gives
returns-clause-gives g c = λ views h k.
    let a = c.in_ok-scan.ensures views h (Nullified c.args.view _) (returns-clause-keeps g c views h k) (c.scanned-went.ensures.answer views h k) (same_level (floor h)) in
    let end_is : c.term_end-end.result ≡ term_end views c.args.view = rw (← k.holds.length_is) c.term_end-end.ensures in
    let first : c.push_if.new.effects.items ≡ when (nat_lt (finalized h) (term_end views c.args.view)) (settled_nullifications c.args.view (term_end views c.args.view)) = rw (c.in_ok-push_if.ensures, c.new-effects.ensures.items, c.in_ok-reaches.ensures.answer views h k.holds, c.settled_nullifications.ensures, end_is) refl in
    (a.0, a.1, behind _ _ _ _ a.2 first)
