-- What is allowed was gone to.
use Rattle.std.proofs.Common.{List, [], ◌∷◌, ◌++◌, refl, ap, subst}
use Rattle.types_core.specs.declared.scheme.Scheme.{Ghosts}
use Rattle.simplex_member.specs.Allowed.{Allowed, AreAllowed}
use Rattle.simplex_member.specs.Member.{Goes}
use Rattle.simplex_member.specs.Packet.{Formats}
use Rattle.simplex_member.specs.Point.{Point, History}
use Rattle.simplex_member.specs.Setup.{Setup}

module _ {S D P G C : Type 0} (g : Ghosts S D P G C) (f : Formats S D P G C) (s : Setup S D C) where
  -- one point more
  pub goes_on : (h end : History S D P G C) (points : List (Point S D P G C)) (p : Point S D P G C) → Goes g f s h points end → Allowed g f s end p → Goes g f s h (points ++ p ∷ []) (p ∷ end)
  goes_on h end [] p is allowed = (subst (λ (e : History S D P G C). Allowed g f s e p) is allowed, ap (λ (e : History S D P G C). p ∷ e) is)
  goes_on h end (q ∷ points) p goes allowed = (goes.0, goes_on (q ∷ h) end points p goes.1 allowed)

  -- points lead from nothing to each history of which each point was allowed
  pub gone_to : (h : History S D P G C) → AreAllowed g f s h → (points : List (Point S D P G C)) × Goes g f s [] points h
  gone_to [] all = ([], refl)
  gone_to (p ∷ h) all =
      let before = gone_to h all.1 in
      (before.0 ++ p ∷ [], goes_on [] h before.0 p before.1 all.0)
