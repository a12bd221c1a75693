-- What comes of the views one by one.
use Rattle.std.proofs.Common.{◌≡◌, ℕ, ◌≤◌, ◌<◌, Bool, true, false, List, [], ◌∷◌, ⊎_elim, refl, sym, ap, arith}
use Rattle.std.specs.Prelude.{◌==◌, ◌||◌, ◌&&◌, nat_lt, if◌then◌else◌}
use Rattle.std.proofs.lemmas.Bool.{cases_eq, cases_lt, eq-eqb, le-ltb, lt-ltb}
use Rattle.std.proofs.lemmas.Bool.Decides.{nat_tests}
use Rattle.node_votes.specs.Standing.{come_up, up_from}
use Rattle.simplex_member.specs.Layers.{Stage, Unopened, Collected, PassedOver, first_up}

-- what came up twice came up once
up_twice : (o : Stage) (b : Bool) → first_up (first_up o b) b ≡ first_up o b
up_twice Unopened true = refl
up_twice Unopened false = refl
up_twice Collected b = refl
up_twice PassedOver b = refl

entered : (concerns room : Bool) (o : Stage) (b : Bool) → room ≡ true
    → first_up (if concerns && room then first_up o b else o) b ≡ (if (concerns || true) && room then first_up o b else o)
entered true room o b some = rw some (up_twice o b)
entered false room o b some = rw some refl

apart : (concerns room : Bool) (o : Stage) (b : Bool) → (if concerns && room then first_up o b else o) ≡ (if (concerns || false) && room then first_up o b else o)
apart true room o b = refl
apart false room o b = refl

roomless : (concerns room : Bool) (o : Stage) (b : Bool) → room ≡ false → (if concerns && room then first_up o b else o) ≡ (if (concerns || true) && room then first_up o b else o)
roomless true room o b none = refl
roomless false room o b none = rw none refl

module _ (floor low current : ℕ) (o : ℕ → Stage) (concerns room passed : ℕ → Bool) (enters : Bool) (does : enters ≡ true) (rises : floor ≤ low) where
  abbrev Ahead : ℕ → Stage
  Ahead u = if nat_lt u floor then Unopened else (if concerns u && room u then first_up (o u) (passed u) else o u)

  abbrev Behind : ℕ → Stage
  Behind u = if nat_lt u low then Unopened else (if (concerns u || (enters && (current == u))) && room u then first_up (o u) (passed u) else o u)

  -- the view that is entered came up
  pub up-entered : room current ≡ true → (view : ℕ) → Behind view ≡ up_from low (come_up current (passed current) Ahead) view
  up-entered some view = ⊎_elim
      (λ below. let down : nat_lt view low ≡ true = lt-ltb view low below in rw down refl)
      (λ from.
      let high : nat_lt view low ≡ false = le-ltb view low from in
      let above : nat_lt view floor ≡ false = le-ltb view floor (omega (arith, from, rises)) in
      ⊎_elim
      (λ e. let here : (current == view) ≡ true = eq-eqb current view e in let alike : passed current ≡ passed view = ap passed e in
      rw (high, does, here, above, alike) (sym (entered (concerns view) (room view) (o view) (passed view) (rw (← e) some))))
      (λ ne. let other : (current == view) ≡ false = grind (arith, nat_tests) in rw (high, does, other, above) (sym (apart (concerns view) (room view) (o view) (passed view))))
      (cases_eq current view))
      (cases_lt view low)

  -- it has no room: then it doesn't come up
  pub up-roomless : room current ≡ false → (view : ℕ) → Behind view ≡ up_from low Ahead view
  up-roomless none view = ⊎_elim
      (λ below. let down : nat_lt view low ≡ true = lt-ltb view low below in rw down refl)
      (λ from.
      let high : nat_lt view low ≡ false = le-ltb view low from in
      let above : nat_lt view floor ≡ false = le-ltb view floor (omega (arith, from, rises)) in
      ⊎_elim
      (λ e. let here : (current == view) ≡ true = eq-eqb current view e in
      rw (high, does, here, above) (sym (roomless (concerns view) (room view) (o view) (passed view) (rw (← e) none))))
      (λ ne. let other : (current == view) ≡ false = grind (arith, nat_tests) in rw (high, does, other, above) (sym (apart (concerns view) (room view) (o view) (passed view))))
      (cases_eq current view))
      (cases_lt view low)

  -- it lies below the floor, and is not kept
  pub up-below : current < low → (view : ℕ) → Behind view ≡ up_from low Ahead view
  up-below down view = ⊎_elim
      (λ below. let down : nat_lt view low ≡ true = lt-ltb view low below in rw down refl)
      (λ from.
      let high : nat_lt view low ≡ false = le-ltb view low from in
      let above : nat_lt view floor ≡ false = le-ltb view floor (omega (arith, from, rises)) in
      let other : (current == view) ≡ false = grind (arith, nat_tests) in rw (high, does, other, above) (sym (apart (concerns view) (room view) (o view) (passed view))))
      (cases_lt view low)

-- what happened, from a higher floor on
pub happened-later : {E : Type 0} (floor low : ℕ) (t : ℕ → List E) → floor ≤ low → (view : ℕ)
    → (if nat_lt view low then [] else t view) ≡ (if nat_lt view low then [] else (if nat_lt view floor then [] else t view))
happened-later floor low t rises view = ⊎_elim
    (λ below. let down : nat_lt view low ≡ true = lt-ltb view low below in rw down refl)
    (λ from. let above : nat_lt view floor ≡ false = le-ltb view floor (omega (arith, from, rises)) in rw above refl)
    (cases_lt view low)

module _ (floor floor' at : ℕ) (o : ℕ → Stage) (concerns room passed is_current : ℕ → Bool) (enters : Bool) (same : floor' ≡ floor) (none : enters ≡ false) (its : (u : ℕ) → concerns u ≡ (at == u)) where
  abbrev Now : ℕ → Stage
  Now u = if nat_lt u floor' then Unopened else (if (concerns u || (enters && is_current u)) && room u then first_up (o u) (passed u) else o u)

  -- a point brings something of a view that is kept, and has room
  pub up-brought : floor ≤ at → room at ≡ true → (view : ℕ) → Now view ≡ come_up at (passed at) (λ u. if nat_lt u floor then Unopened else o u) view
  up-brought low some view = ⊎_elim
      (λ e. let here : (at == view) ≡ true = eq-eqb at view e in let above : nat_lt view floor ≡ false = le-ltb view floor (omega (arith, low, e)) in
      let alike : passed at ≡ passed view = ap passed e in let place : room view ≡ true = rw (← e) some in
      rw (same, its view, here, above, place, alike) refl)
      (λ ne. let other : (at == view) ≡ false = grind (arith, nat_tests) in rw (same, its view, other, none) refl)
      (cases_eq at view)

  -- the view isn't kept
  pub up-unkept : at < floor → (view : ℕ) → Now view ≡ (if nat_lt view floor then Unopened else o view)
  up-unkept low view = ⊎_elim
      (λ e. let below : nat_lt view floor ≡ true = lt-ltb view floor (omega (arith, low, e)) in rw (same, below) refl)
      (λ ne. let other : (at == view) ≡ false = grind (arith, nat_tests) in rw (same, its view, other, none) refl)
      (cases_eq at view)

module _ (floor at : ℕ) (o : ℕ → Stage) (concerns room passed : ℕ → Bool) (its : (u : ℕ) → concerns u ≡ (at == u)) where
  abbrev NowAhead : ℕ → Stage
  NowAhead u = if nat_lt u floor then Unopened else (if concerns u && room u then first_up (o u) (passed u) else o u)

  pub ahead-brought : floor ≤ at → room at ≡ true → (view : ℕ) → NowAhead view ≡ come_up at (passed at) (λ u. if nat_lt u floor then Unopened else o u) view
  ahead-brought low some view = ⊎_elim
      (λ e. let here : (at == view) ≡ true = eq-eqb at view e in let above : nat_lt view floor ≡ false = le-ltb view floor (omega (arith, low, e)) in
      let alike : passed at ≡ passed view = ap passed e in let place : room view ≡ true = rw (← e) some in
      rw (its view, here, above, place, alike) refl)
      (λ ne. let other : (at == view) ≡ false = grind (arith, nat_tests) in rw (its view, other) refl)
      (cases_eq at view)

  pub ahead-unkept : at < floor → (view : ℕ) → NowAhead view ≡ (if nat_lt view floor then Unopened else o view)
  ahead-unkept low view = ⊎_elim
      (λ e. let below : nat_lt view floor ≡ true = lt-ltb view floor (omega (arith, low, e)) in rw below refl)
      (λ ne. let other : (at == view) ≡ false = grind (arith, nat_tests) in rw (its view, other) refl)
      (cases_eq at view)

module _ {E : Type 0} (floor floor' at : ℕ) (e : E) (t t' : ℕ → List E) (same : floor' ≡ floor) (adds : (u : ℕ) → t' u ≡ (if at == u then e ∷ t u else t u)) where
  pub happened-brought : floor ≤ at → (view : ℕ) → (if nat_lt view floor' then [] else t' view) ≡ (if at == view then e ∷ (if nat_lt view floor then [] else t view) else (if nat_lt view floor then [] else t view))
  happened-brought low view = ⊎_elim
      (λ is. let here : (at == view) ≡ true = eq-eqb at view is in let above : nat_lt view floor ≡ false = le-ltb view floor (omega (arith, low, is)) in rw (same, adds view, here, above) refl)
      (λ ne. let other : (at == view) ≡ false = grind (arith, nat_tests) in rw (same, adds view, other) refl)
      (cases_eq at view)

  pub happened-unkept : at < floor → (view : ℕ) → (if nat_lt view floor' then [] else t' view) ≡ (if nat_lt view floor then [] else t view)
  happened-unkept low view = ⊎_elim
      (λ is. let below : nat_lt view floor ≡ true = lt-ltb view floor (omega (arith, low, is)) in rw (same, below) refl)
      (λ ne. let other : (at == view) ≡ false = grind (arith, nat_tests) in rw (same, adds view, other) refl)
      (cases_eq at view)
