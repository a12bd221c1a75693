use Rattle.std.specs.Prelude.{max, nat_lt}
use Rattle.std.proofs.Common.{◌≡◌, ◌∷◌, ◌∙◌, ap, refl, arith, ℕ}
use Rattle.std.proofs.lemmas.Bool.Decides.{nat_tests}
use Rattle.simplex_resolver.specs.declared.effect.Effect.TheVariants as effect
use Rattle.simplex_resolver.specs.RepairHistory.{Finalized, current, floor, finalized}
use Rattle.simplex_resolver.specs.Outstanding.{when}
use Rattle.simplex_resolver.proofs.Anchors.{behind}
use Rattle.simplex_resolver.proofs.Choices.{max_flip, raised_level, ord_max_is}
use Rattle.simplex_resolver.proofs.scanner.Scanner.finalized.Goals as goal

pub returns-clause-keeps : goal.returns-clause-keeps
returns-clause-keeps g c = λ views h k. record {
  holds = c.in_ok-take_finalization.ensures.holds views h k.holds;
  current_is = c.max-self.ensures ∙ (ord_max_is c.args.self.now.current c.args.view ∙ (ap (λ (n : ℕ). max n c.args.view) k.current_is ∙ max_flip (current h) c.args.view));
  floor_is = c.max-self-2.ensures ∙ (ord_max_is c.args.self.now.floor c.args.view ∙ (ap (λ (n : ℕ). max n c.args.view) k.floor_is ∙ max_flip (floor h) c.args.view));
  live_is = k.live_is;
}

pub returns-clause-gives : goal.returns-clause-gives
returns-clause-gives g c = λ views h k.
    let raised : c.lt-raised.result ≡ nat_lt (floor h) c.args.view = let is = k.floor_is in grind (arith, nat_tests, is, c.lt-raised.ensures) in
    let held = c.in_ok-take_finalization.ensures.holds views h k.holds in
    let a = c.in_ok-scan.ensures views h (Finalized c.args.view (g.W.Write.spelling c.args.finalization.now)) (returns-clause-keeps g c views h k) (c.scanned-went.ensures.answer views h k) (raised ∙ raised_level (floor h) c.args.view) in
    let first : c.push_if.new.effects.items ≡ effect.Finalized (finalized (Finalized c.args.view (g.W.Write.spelling c.args.finalization.now) ∷ h)) ∷ when (nat_lt (floor h) c.args.view) (effect.Raised c.args.view) = rw (c.in_ok-push_if.ensures, c.in_ok-push.ensures.items, c.new-effects.ensures.items, held.finalized_is, raised) refl in
    (a.0, a.1, behind _ _ _ _ a.2 first)
