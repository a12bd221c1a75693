-- Histories of which each point was allowed after those before it.
use Rattle.std.proofs.Common.{List, [], ◌∷◌, sym, subst}
use Rattle.types_core.specs.declared.scheme.Scheme.{Ghosts}
use Rattle.simplex_member.specs.Allowed.{AreAllowed}
use Rattle.simplex_member.specs.Member.{Goes}
use Rattle.simplex_member.specs.Packet.{Formats}
use Rattle.simplex_member.specs.Point.{Point, History}
use Rattle.simplex_member.specs.Setup.{Setup}

module _ {S D P G C : Type 0} (g : Ghosts S D P G C) (f : Formats S D P G C) (s : Setup S D C) where
  pub goes-allowed : (h : History S D P G C) (points : List (Point S D P G C)) (end : History S D P G C) → Goes g f s h points end → AreAllowed g f s h → AreAllowed g f s end
  goes-allowed h [] end goes all = subst (λ (e : History S D P G C). AreAllowed g f s e) (sym goes) all
  goes-allowed h (p ∷ points) end goes all = goes-allowed (p ∷ h) points end goes.1 (goes.0, all)

  pub begun-allowed : (points : List (Point S D P G C)) (end : History S D P G C) → Goes g f s [] points end → AreAllowed g f s end
  begun-allowed points end goes = goes-allowed [] points end goes tt
