use Rattle.std.proofs.Common.{◌∷◌, ◌++◌, ◌∙◌, ap, subst, refl, ℕ, List}
use Rattle.simplex_resolver.specs.declared.effect.Effect.{Effect}
use Rattle.simplex_resolver.specs.RepairHistory.{Replayed, floor}
use Rattle.simplex_resolver.specs.Outstanding.{ScansBehind, fetch_failed}
use Rattle.simplex_resolver.proofs.Choices.{same_level}
use Rattle.std.specs.Prelude.{map}
use Rattle.simplex_resolver.proofs.Keeping.{stands-replayed}
use Rattle.simplex_resolver.proofs.scanner.Scanner.replayed.Goals as goal

pub returns-clause-gives : goal.returns-clause-gives
returns-clause-gives c = λ views h k.
    let a = c.in_ok-scan.ensures views h Replayed (stands-replayed views c.args.self.now _ h k refl refl refl refl) (c.scanned-went.ensures.answer views h k) (same_level (floor h)) in
    let f = c.in_ok-ask_for_failed.ensures views (Replayed ∷ h) (stands-replayed views c.args.self.now _ h k refl refl refl refl) in
    (a.0, f.0, subst (λ (n : ℕ). ScansBehind views h Replayed n a.0) k.current_is a.1, f.1, f.2 ∙ ap (λ (es : List Effect). es ++ map fetch_failed f.0) (a.2 ∙ ap (λ (es : List Effect). es ++ a.0) c.new-effects.ensures.items))
