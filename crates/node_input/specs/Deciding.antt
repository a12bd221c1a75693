-- What is decided of a packet.
use Rattle.std.specs.Prelude.{◌≡◌, ◌≢◌, ℕ, List, Option, Some, None}
use Rattle.types_core.specs.declared.scheme.Scheme.{Ghosts}
use Rattle.simplex_member.specs.declared.refusal.Refusal.{Refusal}
use Rattle.simplex_member.specs.declared.refusal.Refusal.TheVariants as refusal
use Rattle.simplex_member.specs.Allowed.{Allowed}
use Rattle.simplex_member.specs.First.{IsFirst}
use Rattle.simplex_member.specs.Packet.{Formats, Packet, of_vote, of_certificate, of_ask}
use Rattle.simplex_member.specs.Point.{History, Came, Wanted}
use Rattle.simplex_member.specs.Setup.{Setup}
use Rattle.node_input.specs.declared.deciding.Decided.{Decided}
use Rattle.node_input.specs.declared.deciding.Decided.TheVariants as decided
use Rattle.node_input.specs.Refusing.{IsAnother, MayBeHeard, last_vote_tests}

module _ {S D P G C : Type 0} (g : Ghosts S D P G C) (f : Formats S D P G C) (s : Setup S D C) where
  -- What a sender's packet holds is refused by the first of these tests that applies, which is no contradiction; or none applies, and it is
  -- a certificate that may come, or an ask that is heeded; or it is a vote, of which the tests by other votes are left.
  abbrev pub IsDecided : History S D P G C → ℕ → Option (Packet S D P G C) → List (Refusal × Type 0) → Decided S D P G C → Type 0
  IsDecided h sender found tests (decided.Refused r) = IsFirst tests (Some r) × (r ≢ refusal.Contradiction)
  IsDecided h sender found tests (decided.Vote v) = (found ≡ Some (of_vote v)) × IsAnother g f s sender × MayBeHeard g f s h sender v
      × ((answer : Option Refusal) → IsFirst (last_vote_tests g f s h sender v) answer → IsFirst tests answer)
  IsDecided h sender found tests (decided.Certificate c) = (found ≡ Some (of_certificate c)) × IsFirst tests None × Allowed g f s h (Came c)
  IsDecided h sender found tests (decided.Ask view) = (found ≡ Some (of_ask view)) × IsFirst tests None × Allowed g f s h (Wanted sender view)
