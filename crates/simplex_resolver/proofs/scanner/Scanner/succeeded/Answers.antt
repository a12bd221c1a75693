use Rattle.std.specs.Prelude.{max, nat_lt}
use Rattle.std.proofs.Common.{◌≡◌, ◌∷◌, sym, ◌∙◌, ap, refl, arith, ℕ, true}
use Rattle.std.proofs.lemmas.Bool.Decides.{nat_tests}
use Rattle.simplex_resolver.specs.declared.effect.Effect.TheVariants as effect
use Rattle.simplex_resolver.specs.RepairHistory.{Judged, current, floor}
use Rattle.simplex_resolver.specs.Outstanding.{settled_notarization, when}
use Rattle.simplex_resolver.proofs.Anchors.{behind}
use Rattle.simplex_resolver.proofs.Choices.{max_zero, max_flip, raised_level, ord_max_is}
use Rattle.simplex_resolver.proofs.scanner.Scanner.succeeded.Goals as goal

pub returns-clause-keeps : goal.returns-clause-keeps
returns-clause-keeps g c = λ views h k. record {
  holds = c.in_ok-take_success.ensures.holds views h k.holds;
  current_is = k.current_is ∙ sym (max_zero (current h));
  floor_is = c.max-self.ensures ∙ (ord_max_is c.args.self.now.floor c.args.view ∙ (ap (λ (n : ℕ). max n c.args.view) k.floor_is ∙ max_flip (floor h) c.args.view));
  live_is = k.live_is;
}

pub returns-clause-gives : goal.returns-clause-gives
returns-clause-gives g c = λ views h k.
    let raised : c.lt-raised.result ≡ nat_lt (floor h) c.args.view = let is = k.floor_is in grind (arith, nat_tests, is, c.lt-raised.ensures) in
    let a = c.in_ok-scan.ensures views h (Judged c.args.view _ true) (returns-clause-keeps g c views h k) (c.scanned-went.ensures.answer views h k) (raised ∙ raised_level (floor h) c.args.view) in
    let first : c.push_if.new.effects.items ≡ settled_notarization c.args.view ∷ when (nat_lt (floor h) c.args.view) (effect.Raised c.args.view) = rw (c.in_ok-push_if.ensures, c.in_ok-push.ensures.items, c.new-effects.ensures.items, c.settled_notarization.ensures, raised) refl in
    (a.0, a.1, behind _ _ _ _ a.2 first)
