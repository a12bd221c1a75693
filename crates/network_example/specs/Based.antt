-- A committee of four of which three are excused. They finalized a view; the record of the fourth begins at that: its opening brings the
-- finalization, records it, and knows nothing of the views before.
use Rattle.std.specs.Prelude.{◌≡◌, ℕ, false, List, [], ◌∷◌, Option, Some, None}
use Rattle.types_core.specs.declared.scheme.Scheme.{Ghosts}
use Rattle.messages_certificates.specs.declared.artifact.Artifact.{Artifact}
use Rattle.messages_certificates.specs.declared.artifact.Artifact.TheVariants as artifact
use Rattle.simplex_messages.specs.declared.activity.Activity.TheVariants as activity
use Rattle.simplex_record.specs.Record.{entries, floor}
use Rattle.simplex_record.specs.World.{World, IsCorrect}
use Rattle.simplex_member.specs.Deeds.{Finalizes, Reports, Sends}
use Rattle.simplex_member.specs.Lives.{Course, HandedOut, Lasting, Life, LiveByNodes, Members}
use Rattle.simplex_member.specs.Packet.{Formats, IsRecordable, Packet}
use Rattle.simplex_member.specs.Point.{Opened, Found, Began, Leads}
use Rattle.network_example.specs.Contradicted.{AreForged, Forged, agreed_on, finalization, timed}

module _ {S D P G C : Type 0} (x : Forged S D C) where
  -- what it recorded, and goes on from
  abbrev pub only_floor : List (Artifact S D P G C)
  only_floor = artifact.Finalization (finalization x) ∷ []

  abbrev pub based_course : Course S D P G C
  based_course = Lasting 0 (Opened 0 ∷ Found (artifact.Finalization (finalization x)) false ∷ Began ∷ Leads 1 3 ∷ Leads 3 3 ∷ []) [] None

  abbrev pub based_life : ℕ → Life S D P G C
  based_life i = record { setup = timed x.own x.genesis i 1500; brought = Some (finalization x); founded = only_floor; course = based_course }

  abbrev pub based_member : Members S D P G C
  based_member = record { setup = λ i. timed x.own x.genesis i 1500; lives = λ i. based_life i ∷ [] }

  -- all but the first are excused
  abbrev pub one_based : World S D P G C
  one_based = record { size = 4; epoch = 0; term_length = 1; excused = 1 ∷ 2 ∷ 3 ∷ []; recorded = λ i. only_floor }

module _ {S D P G C : Type 0} (g : Ghosts S D P G C) (f : Formats S D P G C) where
  -- the member lives by its node, and its record begins at the view; the finalization is reported and its proposal handed out as final, and
  -- nothing is sent
  pub record IsBased (scheme : S) (x : Forged S D C) : Type 0 where
    pub live : LiveByNodes g f scheme (based_member x) (one_based x)
    pub correct : IsCorrect (one_based {P = P} {G = G} x) 0
    pub begins : floor (entries ((one_based {S = S} {D = D} {P = P} {G = G} {C = C} x).recorded 0)) ≡ 2
    pub reported : HandedOut g f scheme (based_member x) (one_based x) 0 (Reports (activity.Finalization (finalization x)))
    pub final : HandedOut g f scheme (based_member x) (one_based x) 0 (Finalizes (agreed_on x))
    pub unsent : (to : Option ℕ) (packet : Packet S D P G C) → HandedOut g f scheme (based_member x) (one_based x) 0 (Sends to packet) → ⊥

  abbrev pub MembersBeginAtFloors : Type 0
  MembersBeginAtFloors = (scheme : S) (x : Forged S D C) → AreForged g f scheme x → IsRecordable f (artifact.Finalization (finalization x)) → IsBased scheme x
