-- What the voter answers of what it keeps.
use Rattle.std.specs.Prelude.{◌↔◌, ◌+◌, ◌-◌, ◌<◌, ◌==◌, ℕ, zero, suc, List, AllPairs, Contains, Option, None, option_map, if◌then◌else◌}
use Rattle.std.specs.Option.{option_or}
use Rattle.types_core.specs.Positions.{term_start}
use Rattle.messages_certificates.specs.declared.certificate.Certificate.{Certificate}
use Rattle.messages_certificates.specs.declared.certificate.Certificate.TheVariants as certificate
use Rattle.messages_certificates.specs.declared.nullification.Nullification.{Nullification}
use Rattle.voter_history.specs.Past as past
use Rattle.voter_history.specs.History.{Setup, Point, current, min_active, nullification, seen}
use Rattle.voter_rules.specs.GivingUp.{IsTracked}

-- what the highest of so many numbers up to this one gives that gives something
abbrev pub last_of : {X : Type 0} → (ℕ → Option X) → ℕ → ℕ → Option X
last_of f high zero = None
last_of f high (suc n) = option_or (f high) (last_of f (high - 1) n)

module _ {S D P G C : Type 0} (s : Setup S C) (h : List (Point S D P G C)) where
  -- the highest nullification that covers a view
  abbrev pub covering_nullification : ℕ → Option (Nullification S D P G C)
  covering_nullification view = last_of (nullification s h) view (view + 1 - term_start s.length view)

  -- the best certificate to enter a view by, whose view before is this one: its finalization; where a term starts the highest
  -- nullification that covers it; or its notarization. Of the start there is none
  abbrev pub entry_certificate : ℕ → ℕ → Option (Certificate S D P G C)
  entry_certificate view before =
      if before == 0 then None
      else option_or (option_map certificate.Finalization (past.finalization (seen s h before)))
      (option_or (if view == term_start s.length view then option_map certificate.Nullification (covering_nullification before) else None)
      (option_map certificate.Notarization (past.notarization (seen s h before))))

  abbrev pub best_certificate : Option (Certificate S D P G C)
  best_certificate = entry_certificate (current s h) (current s h - 1)

  -- the views that are dropped by a prune: those that are tracked and need not be kept
  pub record AreDropped (views : List ℕ) : Type 0 where
    pub exact : (view : ℕ) → Contains views view ↔ ((view < min_active s h) × IsTracked s h view)
    pub ascend : AllPairs (λ (u w : ℕ). u < w) views
