-- What a program that runs a node comes to: what was opened, and what was written.
use Rattle.std.specs.Prelude.{◌≡◌, ◌≢◌, ◌⊎◌, ◌++◌, ℕ, Bool, List, Option, None, Result, Ok, Err, false, true, ⊤}
use Rattle.std.specs.Io.KnownBytes.{Appends}
use Rattle.types_codec.specs.declared.codec.CodecError.{CodecError}
use Rattle.types_core.specs.declared.scheme.Scheme.{Ghosts}
use Rattle.messages_certificates.specs.declared.artifact.Artifact.{Artifact}
use Rattle.messages_certificates.specs.ProposalCertificate.{Finalization}
use Rattle.journal_single.specs.declared.disk.Disk as disk
use Rattle.journal_single.specs.Disk.{counted}
use Rattle.journal_books.specs.declared.disks.Disks.{Disks}
use Rattle.journal_books.specs.Books.{MayBeRead, are_two}
use Rattle.node_core.specs.Rewriting.{IsLeftByRewrite}
use Rattle.node_record.specs.Ledger.{AreFoundOn}
use Rattle.simplex_member.specs.declared.action.Reply.{Reply}
use Rattle.simplex_member.specs.declared.event.Event.{Event}
use Rattle.simplex_member.specs.declared.fault.IoFault.{IoFault}
use Rattle.simplex_member.specs.declared.fault.IoFault.TheVariants as fault
use Rattle.simplex_member.specs.declared.fault.NodeFault.{NodeFault}
use Rattle.simplex_member.specs.declared.fault.OpenFault.{OpenFault}
use Rattle.simplex_member.specs.Member.{AppendsFloor, IsReached, Opens, ReadsAsKept, Run}
use Rattle.simplex_member.specs.Packet.{Formats}
use Rattle.simplex_member.specs.Point.{History}
use Rattle.simplex_member.specs.Setup.{Setup}
use Rattle.types_codec.specs.Front.{AppendsFront}
use Rattle.node_wire.specs.Streaming.{EndsIn}
use Rattle.simplex_cli.specs.declared.ending.Ending.{Ending}
use Rattle.simplex_cli.specs.declared.ending.Ending.TheVariants as ending
use Rattle.simplex_cli.specs.Ending.{ending_of, ending_status}

-- how a program ends whose run over streams ended so
abbrev pub ended_of : {A : Type 0} → Result A IoFault → Result A Ending
ended_of (Ok done) = Ok done
ended_of (Err why) = Err (ending_of why)

-- how a program ends whose run over streams came to this, over one disk or over two: as that did; or, over two, all of the input was
-- answered, and then the rewrite of the record failed
abbrev pub EndsAs : {A : Type 0} → Result A IoFault → Bool → Result A Ending → Type 0
EndsAs (Err why) two ended = ended ≡ Err (ending_of why)
EndsAs (Ok done) false ended = ended ≡ Ok done
EndsAs (Ok done) true ended = (ended ≡ Ok done) ⊎ ((why : NodeFault) × (ended ≡ Err (ending.Step why)))

-- its status: 0 where all of the input was answered
abbrev pub status_of : {A : Type 0} → Result A Ending → ℕ
status_of (Ok done) = 0
status_of (Err why) = ending_status why

-- of a program that ended so: its input and its output failed exactly where that is told, by how often each had failed before and has now; and
-- what was written is flushed, where that was so before
pub record AreTold {A : Type 0} (ended : Result A Ending) (read_before read_now written_before written_now : ℕ) (WasFlushed IsFlushed : Type 0) : Type 0 where
  pub read : ended ≢ Err ending.Read → read_now ≡ read_before
  pub write_failed : ended ≡ Err ending.Write → written_now ≡ counted false written_before
  pub write : ended ≢ Err ending.Write → written_now ≡ written_before
  pub flushed : ended ≢ Err ending.Write → WasFlushed → IsFlushed

-- what is read behind a run that came to this, of one disk or of two: what the member keeps here; or, of two, where all of the input was
-- answered, what a rewrite leaves of that
abbrev pub IsLeftBehind : {S D P G C A : Type 0} → Ghosts S D P G C → Formats S D P G C → Setup S D C → Result A IoFault → Bool → History S D P G C → List (List ℕ) → Type 0
IsLeftBehind g f s (Err why) two h read = ReadsAsKept g f s read h
IsLeftBehind g f s (Ok done) false h read = ReadsAsKept g f s read h
IsLeftBehind g f s (Ok done) true h read = IsLeftByRewrite g f s h read

-- by the disks that are left
module _ {S D P G C K : Type 0} (g : Ghosts S D P G C) (k : disk.Ghosts K) (f : Formats S D P G C) (s : Setup S D C) (left : Disks K) where
  -- a member may answer these events by these replies, and then this may be read of its disks, after a crash too
  pub record Answers {A : Type 0} (io : Result A IoFault) (h : History S D P G C) (events : List (Event D)) (replies : List (Reply S D P G C)) : Type 0 where
    pub end : History S D P G C
    pub run : Run g f s h events replies end
    pub leaves : k.keeps → (read : List (List ℕ)) → MayBeRead k left read → IsLeftBehind g f s io (are_two left) end read

  -- it may, and its step over the event behind them fails: of its disks may be read what is kept at a point of that
  pub record AnswersBefore (h : History S D P G C) (events : List (Event D)) (replies : List (Reply S D P G C)) (event : Event D) (why : NodeFault) : Type 0 where
    pub end : History S D P G C
    pub run : Run g f s h events replies end
    pub leaves : k.keeps → (read : List (List ℕ)) → MayBeRead k left read → IsReached g f s end event read

  module _ (F : D → Type 0) (p : D → List ℕ) (w : Reply S D P G C → List ℕ) (q : List ℕ → Result (D × List ℕ) CodecError) where
    -- a run over streams came to this
    abbrev pub ServesOn : {A : Type 0} → History S D P G C → Type 0 → Result A IoFault → Option (List ℕ) → Option (List ℕ) → Option (List ℕ) → Type 0
    ServesOn h ReadFailed io given old new = EndsIn F p w q (Answers io h) (AnswersBefore h) ReadFailed io given old new

    -- a first reply was written, and then a run over streams came to this; or only a front of it was, where a write failed or memory ran out
    abbrev pub Serves : {A : Type 0} → History S D P G C → Reply S D P G C → Type 0 → Result A IoFault → Option (List ℕ) → Option (List ℕ) → Option (List ℕ) → Type 0
    Serves h first ReadFailed io given old new =
        ((mid : Option (List ℕ)) × Appends old mid (w first) × ServesOn h ReadFailed io given mid new)
        ⊎ (((io ≡ Err fault.Memory) ⊎ (io ≡ Err fault.Write)) × AppendsFront old new (w first)
        × (k.keeps → (read : List (List ℕ)) → MayBeRead k left read → ReadsAsKept g f s read h))

module _ {S D P G C K : Type 0} (g : Ghosts S D P G C) (k : disk.Ghosts K) (f : Formats S D P G C) (s : Setup S D C)
    (F : D → Type 0) (p : D → List ℕ) (w : Reply S D P G C → List ℕ) (q : List ℕ → Result (D × List ℕ) CodecError) where
  -- a record was opened over what was found on disks, with the finalization behind it that the opening brings, if it does, and what that
  -- hands out was written as the first reply
  pub record ServesOver {A : Type 0} (Readable : Artifact S D P G C → Type 0) (brought : Option (Finalization S D P G C)) (on left : Disks K) (now : ℕ) (ReadFailed : Type 0) (io : Result A IoFault) (given old new : Option (List ℕ)) : Type 0 where
    pub found : List (Artifact S D P G C)
    pub founded : List (Artifact S D P G C)
    pub are_found : AreFoundOn k f.artifact Readable on found
    pub appends : AppendsFloor brought found founded
    pub first : Reply S D P G C
    pub taken : first.refused ≡ None
    pub end : History S D P G C
    pub opens : Opens g f s now (found ++ founded) first.actions.items end
    pub serves : Serves g k f s left F p w q end first ReadFailed io given old new

  -- a program that starts from the payload of view 0 opened no record, or had no memory for what that takes, and then its output is
  -- untouched; or it opened one and ran a node over streams, at whose end it ended
  abbrev pub ComesTo : (Artifact S D P G C → Type 0) → Disks K → Disks K → ℕ → Type 0 → Type 0 → Result ⊤ Ending → Option (List ℕ) → Option (List ℕ) → Option (List ℕ) → Type 0
  ComesTo Readable on left now ReadFailed Untouched ended given old new =
      (((ended ≡ Err ending.Memory) ⊎ ((why : OpenFault) × (ended ≡ Err (ending.Open why)))) × Untouched)
      ⊎ ((io : Result ⊤ IoFault) × EndsAs io (are_two on) ended × ServesOver Readable None on left now ReadFailed io given old new)
