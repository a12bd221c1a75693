-- What is told of a file of settings.
use Rattle.std.specs.Prelude.{◌≡◌, ◌≢◌, ◌⊎◌, ◌<◌, ℕ, List, codes, length, Option, IfSome, Some}
use Rattle.std.specs.Io.KnownBytes.{Appends}
use Rattle.toml.specs.Data.{Members}
use Rattle.toml.specs.Parse.{parse_document}
use Rattle.types_codec.specs.Front.{AppendsFront}
use Rattle.cli_audit.specs.declared.trouble.Trouble.{Trouble}
use Rattle.cli_audit.specs.Lines.{trouble_line}
use Rattle.cli_toml.specs.declared.fault.FileFault.{FileFault}
use Rattle.cli_toml.specs.declared.fault.FileFault.TheVariants as file
use Rattle.cli_toml.specs.declared.reading.MemberFile.{MemberFile}
use Rattle.cli_file.specs.Lines.{Tells, settings_lines, told_name}
use Rattle.cli_file.specs.Placing.{IsLineOf}
use Rattle.cli_toml.specs.Refusing.{AreKnown, IsRefused}
use Rattle.cli_toml.specs.Saying.{Says}

-- the bytes are a file of settings that says this
abbrev pub IsFile : List ℕ → MemberFile → Type 0
IsFile bytes f = (t : Members) × (parse_document bytes ≡ Some t) × AreKnown t × Says t f

-- the line of a file that has more bytes than are read
abbrev pub too_long_line : List ℕ
too_long_line = codes "fault: more than 65536 bytes\n"

-- a front of the line of this fault was written: the line of these bytes that it tells, if it tells one, is one in which the name stands
abbrev pub TellsFault : List ℕ → FileFault → Option (List ℕ) → Option (List ℕ) → Type 0
TellsFault bytes why old new =
    (line : Option ℕ) × (text : List ℕ) × IfSome line (λ n. IsLineOf (told_name why) n bytes) × Tells line why text × AppendsFront old new text

-- these bytes are no file of settings, and a front of the line that says why was written
abbrev pub TellsRefused : List ℕ → Option (List ℕ) → Option (List ℕ) → Type 0
TellsRefused bytes old new =
    ((65536 < length bytes) × AppendsFront old new too_long_line)
    ⊎ ((why : FileFault) × IsRefused bytes why × (why ≢ file.Memory) × TellsFault bytes why old new)

-- a front of the line of some trouble was written
abbrev pub TellsTrouble : Option (List ℕ) → Option (List ℕ) → Type 0
TellsTrouble old new = (trouble : Trouble) × AppendsFront old new (trouble_line trouble)

-- what a file of these bytes says was written, each key with its value
abbrev pub TellsSettings : List ℕ → Option (List ℕ) → Option (List ℕ) → Type 0
TellsSettings bytes old new = (f : MemberFile) × IsFile bytes f × Appends old new (settings_lines f)
