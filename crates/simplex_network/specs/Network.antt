-- A network: a committee of which some may do anything, and what each of the others was handed, did, and recorded. What is asked of one
-- is said where it is needed: that the others live by their nodes (`LiveByNodes`), each on one disk or two that were empty at first, of
-- which what comes in, and the floor that an opening brings, has to meet one thing alone, that no verifying vote in the name of one of
-- them is on what that member recorded no vote for; that no more are excused than may be faulty (`AtMostFLie`); and that they have one
-- elector (`HaveOneElector`).
use Rattle.std.specs.Prelude.{◌≡◌, ◌⊎◌, ℕ, Option, Some}
use Rattle.types_core.specs.declared.scheme.Scheme.{Ghosts}
use Rattle.messages_certificates.specs.declared.certificate.Certificate.{Certificate}
use Rattle.messages_certificates.specs.Certificate.{certificate_statement, certified_by}
use Rattle.simplex_record.specs.World.{World, IsCorrect, IsHonest}
use Rattle.voter_history.specs.History.{scheduled_leader}
use Rattle.types_terms.specs.declared.kind.Kind.{Kind}
use Rattle.batcher_verifier.specs.declared.batch.Batch.{Batch}
use Rattle.simplex_member.specs.Allowed.{Allowed}
use Rattle.simplex_member.specs.Laws.{HasReached}
use Rattle.simplex_member.specs.Lives.{CameIn, Life, Members, WasBrought}
use Rattle.simplex_member.specs.Packet.{Formats, of_certificate}
use Rattle.simplex_member.specs.Point.{Constructs, History}

module _ {S D P G C : Type 0} (g : Ghosts S D P G C) (f : Formats S D P G C) (scheme : S) (m : Members S D P G C) (world : World S D P G C) where
  -- the members that aren't excused have one elector: each view has at most one leader by schedule, the same for all of them. It serves the
  -- chain alone
  pub record HaveOneElector : Type 0 where
    pub leader : ℕ → Option ℕ
    pub one : (i : ℕ) → IsCorrect world i → (view : ℕ) → scheduled_leader (m.setup i).voter view ≡ leader view

  -- a certificate verifies by a member's scheme
  abbrev pub Verifies : ℕ → Certificate S D P G C → Type 0
  Verifies member c = g.certifies (m.setup member).voter.scheme (certificate_statement c) (certified_by c)

  -- a certificate stood in bytes that a member was handed, by whatever sender; or an opening of it brought it as its floor
  abbrev pub IsHandedTo : ℕ → Certificate S D P G C → Type 0
  IsHandedTo member c = ((sender : ℕ) × CameIn g f scheme m world member sender (of_certificate c)) ⊎ WasBrought g f scheme m world member c

  -- so it was to one of these members, and verifies by its scheme
  pub record WasHandedIn (c : Certificate S D P G C) : Type 0 where
    pub member : ℕ
    pub correct : IsCorrect world member
    pub handed : IsHandedTo member c
    pub verifies : Verifies member c

  -- one of these members made it, whether or not it came to record it
  pub record WasMade (c : Certificate S D P G C) : Type 0 where
    pub member : ℕ
    pub correct : IsCorrect world member
    pub life : Life S D P G C
    pub h : History S D P G C
    pub reached : HasReached m member life h
    pub view : ℕ
    pub kind : Kind
    pub batch : Batch (Certificate S D P G C)
    pub allowed : Allowed g f life.setup h (Constructs view kind batch)
    pub made : batch.certificate ≡ Some c

  -- it stands wherever else, as in bytes that were handed to a node that had failed, verifies by the scheme of one of these members, and no
  -- verifying vote that it lists in the name of one of them is on what that member recorded no vote for
  pub record StandsElsewhere (c : Certificate S D P G C) : Type 0 where
    pub member : ℕ
    pub correct : IsCorrect world member
    pub honest : IsHonest (g.attests scheme) g.lists world c
    pub verifies : Verifies member c

  -- a verifying certificate is seen: in bytes that a member was handed, or made by one, or honest elsewhere
  abbrev pub IsSeen : Certificate S D P G C → Type 0
  IsSeen c = WasHandedIn c ⊎ (WasMade c ⊎ StandsElsewhere c)
