-- What the program of a member comes to.
use Rattle.std.specs.Prelude.{◌≡◌, ◌⊎◌, ℕ, zero, suc, List, Bool, Option, None, Result, Err, IfErr, OnOk, codes, true, ⊤}
use Rattle.types_codec.specs.declared.codec.CodecError.{CodecError}
use Rattle.types_core.specs.declared.scheme.Scheme.{Ghosts}
use Rattle.types_terms.specs.Rotation.{Rotation}
use Rattle.messages_certificates.specs.declared.artifact.Artifact.{Artifact}
use Rattle.journal_single.specs.declared.disk.Disk as disk
use Rattle.journal_books.specs.declared.disks.Disks.{Disks}
use Rattle.journal_books.specs.Books.{are_two}
use Rattle.simplex_member.specs.declared.action.Reply.{Reply}
use Rattle.simplex_member.specs.declared.fault.IoFault.{IoFault}
use Rattle.simplex_member.specs.declared.fault.OpenFault.{OpenFault}
use Rattle.simplex_member.specs.Packet.{Formats}
use Rattle.simplex_member.specs.Setup.{Setup}
use Rattle.types_codec.specs.Front.{AppendsFront}
use Rattle.cli_settings.specs.declared.setting.Committee.{Committee}
use Rattle.cli_settings.specs.declared.setting.Settings.{Settings}
use Rattle.cli_opening.specs.declared.looking.Barred.{Barred}
use Rattle.cli_opening.specs.declared.looking.Found.{Found}
use Rattle.cli_opening.specs.Looking.{IsBeyondCut}
use Rattle.cli_opening.specs.Members.{AreLeaders, IsBarredFor, IsFoundFor, IsHalfBarredFor, IsHalfFoundFor}
use Rattle.cli_opening.specs.Saying.{found_words}
use Rattle.cli_record.specs.Telling.{TellsLeft}
use Rattle.simplex_cli.specs.declared.ending.Ending.{Ending}
use Rattle.simplex_cli.specs.declared.ending.Ending.TheVariants as ending
use Rattle.simplex_cli.specs.Ending.{ending_line, memory_line}
use Rattle.node_wire.specs.declared.stretch.Stretch.{Stretch}
use Rattle.simplex_cli.specs.Rewriting.{EndsAmong, ServesRewriting}
use Rattle.simplex_cli.specs.Serving.{EndsAs, ServesOver}

-- what holds where a number is 0, or else
abbrev pub MatchZero : ℕ → Type 0 → Type 0 → Type 0
MatchZero zero P Q = P
MatchZero (suc n) P Q = Q

module _ {S D P G C K : Type 0} (g : Ghosts S D P G C) (k : disk.Ghosts K) (f : Formats S D P G C) (s : Rotation → Setup S D C)
    (F : D → Type 0) (p : D → List ℕ) (w : Reply S D P G C → List ℕ) (q : List ℕ → Result (D × List ℕ) CodecError) where
  -- a record was opened, a node ran over streams, and so it ended: by how many views lie between two rewrites of the record, none lies
  -- before the end of the input, or some may
  abbrev pub RunsBy : ℕ → Setup S D C → (Artifact S D P G C → Type 0) → Disks K → Disks K → ℕ → Type 0 → Result ⊤ Ending → Option (List ℕ) → Option (List ℕ) → Option (List ℕ) → Type 0
  RunsBy views member Readable on left now ReadFailed ended given old new = MatchZero views
      ((io : Result ⊤ IoFault) × EndsAs io (are_two on) ended × ServesOver g k f member F p w q Readable None on left now ReadFailed io given old new)
      ((io : Result Stretch IoFault) × EndsAmong io (are_two on) ended × ServesRewriting g k f member F p w q views Readable None on left now ReadFailed io given old new)

  -- a program that starts from the payload of view 0 opened no record, or had no memory for what that takes, and then its output is
  -- untouched; or it opened one of a member that goes by the leaders of this committee, and ran a node over streams, at whose end it ended
  abbrev pub MemberComesTo : ℕ → Committee → (Artifact S D P G C → Type 0) → Disks K → Disks K → ℕ → Type 0 → Type 0 → Result ⊤ Ending → Option (List ℕ) → Option (List ℕ) → Option (List ℕ) → Type 0
  MemberComesTo views c Readable on left now ReadFailed Untouched ended given old new =
      (((ended ≡ Err ending.Memory) ⊎ ((why : OpenFault) × (ended ≡ Err (ending.Open why)))) × Untouched)
      ⊎ ((leaders : Rotation) × AreLeaders c leaders × RunsBy views (s leaders) Readable on left now ReadFailed ended given old new)

module _ {K : Type 0} (k : disk.Ghosts K) (s : Settings) (cuts : Bool) where
  -- what was found on a disk is no record of this member, and is left as it is, whoever asked to cut; which is said of the file at this path
  pub record IsLeft (old new : K) (why : Barred) (path : List ℕ) (said saying : Option (List ℕ)) : Type 0 where
    pub barred : k.keeps → IsBarredFor s (k.seen old) why
    pub beyond : cuts ≡ true → IsBeyondCut why
    pub untouched : k.keeps → k.calls new ≡ k.calls old
    pub told : TellsLeft path (codes "other settings") why said saying

  -- what was found on a disk is a record of this member, and was left until its node opened it; that is said of the file at this path, and
  -- behind it how the node ended, where that was before its input
  pub record IsRun (old on : K) (ended : Result ⊤ Ending) (path : List ℕ) (said saying : Option (List ℕ)) : Type 0 where
    pub found : Found
    pub is_found : k.keeps → IsFoundFor s cuts (k.seen old) found
    pub seen : k.keeps → k.seen on ≡ k.seen old
    pub untouched : k.keeps → k.calls on ≡ k.calls old
    pub mid : Option (List ℕ)
    pub found_told : AppendsFront said mid (found_words path found)
    pub silent : OnOk ended (saying ≡ mid)
    pub told : IfErr ended (λ why. AppendsFront mid saying (ending_line why) ⊎ AppendsFront mid saying memory_line)

  -- what was found on one of two disks is none of a record of this member, and is left as it is, whoever asked to cut; which is said of the
  -- file at this path
  pub record IsHalfLeft (old new : K) (why : Barred) (path : List ℕ) (said saying : Option (List ℕ)) : Type 0 where
    pub barred : k.keeps → IsHalfBarredFor s (k.seen old) why
    pub beyond : cuts ≡ true → IsBeyondCut why
    pub untouched : k.keeps → k.calls new ≡ k.calls old
    pub told : TellsLeft path (codes "other settings") why said saying

  -- what was found on one of two disks is of a record of this member, and was left until its node opens it; that is said of the file at this
  -- path
  pub record IsHalfFound (old new : K) (path : List ℕ) (said saying : Option (List ℕ)) : Type 0 where
    pub found : Found
    pub is_found : k.keeps → IsHalfFoundFor s cuts (k.seen old) found
    pub seen : k.keeps → k.seen new ≡ k.seen old
    pub untouched : k.keeps → k.calls new ≡ k.calls old
    pub told : AppendsFront said saying (found_words path found)
