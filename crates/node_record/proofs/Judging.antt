-- That a verdict on a view is recorded, by which one is.
use Rattle.std.proofs.Common.{◌≡◌, ◌↔◌, ℕ, Bool, List, Option, Some, None, refl}
use Rattle.std.specs.Prelude.{IsTrue, is_some}
use Rattle.types_core.specs.declared.position.Round.{Round}
use Rattle.simplex_record.specs.Record.{Entry, HasJudged, HasVerdict}

pub judged_any : {D : Type 0} (before : List (Entry D)) (view : ℕ) (o : Option Bool) → ((ok : Bool) → (o ≡ Some ok) ↔ HasVerdict before view ok)
    → IsTrue (is_some o) ↔ ((r : Round) × (ok : Bool) × (r.view ≡ view) × HasJudged before r ok)
judged_any before view None told = (λ some. absurd (cc some), λ j. absurd (let never = (told j.1).1 (j.0, j.2, j.3) in cc never))
judged_any before view (Some ok) told = (λ some. let v = (told ok).0 refl in (v.0, ok, v.1, v.2), λ j. refl)
