-- A view whose votes came up has a number of 64 bits, and so has the one behind it.
use Rattle.std.proofs.Common.{◌≡◌, ◌<◌, ◌+◌, ◌^◌, ◌==◌, ℕ, Bool, true, false, [], ◌∷◌, refl, arith}
use Rattle.std.specs.Prelude.{◌||◌, ◌&&◌, nat_lt, if◌then◌else◌}
use Rattle.std.proofs.lemmas.Bool.Decides.{nat_tests}
use Rattle.types_terms.specs.Spans.{term_end-above}
use Rattle.simplex_member.specs.Layers.{concerns, current_of, floor_of, has_room, may_enter, opened, passes_over, stage, Stage, Unopened, IsUp, first_up}
use Rattle.simplex_member.specs.Point.{History}
use Rattle.simplex_member.specs.Setup.{Setup}

-- where it opens now it has room, and else it opened before
opens-room : (wanted room x : Bool) (o : Stage) → IsUp (if wanted && room then first_up o x else o) → (IsUp o → room ≡ true) → room ≡ true
opens-room true true x o some before = refl
opens-room true false x o some before = before some
opens-room false room x o some before = before some

kept-opened : (below : Bool) (o : Stage) → IsUp (if below then Unopened else o) → IsUp o
kept-opened true o some = absurd (cc some)
kept-opened false o some = some

module _ {S D P G C : Type 0} (s : Setup S D C) where
  opened-room : (h : History S D P G C) (view : ℕ) → IsUp (opened s h view) → has_room s.voter.length view ≡ true
  opened-room [] view some = absurd (cc some)
  opened-room (p ∷ h) view some = opens-room (concerns view p || (may_enter p && (current_of s (p ∷ h) == view))) (has_room s.voter.length view) (passes_over s h view) (opened s h view) some (opened-room h view)

  pub came_small : (h : History S D P G C) (view : ℕ) → 0 < s.voter.length → IsUp (stage s h view) → view + 1 < 2 ^ 64
  came_small h view long some =
      let room = opened-room h view (kept-opened (nat_lt view (floor_of s h)) (opened s h view) some) in
      let above = term_end-above s.voter.length view long in
      grind (arith, nat_tests, room, above)
