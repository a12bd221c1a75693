-- The words of the command line.
use Rattle.std.specs.Prelude.{◌≡◌, ℕ, ◌^◌, ◌<◌, List, [], ◌∷◌, codes, ⊤}
use Rattle.std.specs.Fmt.{decimal}
use Rattle.cli_tool.specs.declared.command.Call.{Call}
use Rattle.cli_tool.specs.declared.command.Request.{Request}
use Rattle.cli_tool.specs.declared.command.Request.TheVariants.{Evidence, Reports, Record, Check, Help, Version}
use Rattle.cli_tool.specs.declared.style.Style.{Style}
use Rattle.cli_tool.specs.declared.style.Style.TheVariants.{Plain, Json}

-- the words of a request: a committee has members, and a record is one of theirs
abbrev pub SpellsRequest : List (List ℕ) → Request → Type 0
SpellsRequest words (Evidence count) = (words ≡ codes "evidence" ∷ decimal count ∷ []) × (0 < count) × (count < 2 ^ 16)
SpellsRequest words (Reports count) = (words ≡ codes "dump" ∷ codes "reports" ∷ decimal count ∷ []) × (0 < count) × (count < 2 ^ 16)
SpellsRequest words (Record path) = words ≡ codes "dump" ∷ codes "record" ∷ path.now ∷ []
SpellsRequest words (Check index count path) = (words ≡ codes "check" ∷ decimal index ∷ decimal count ∷ path.now ∷ []) × (index < count) × (count < 2 ^ 16)
SpellsRequest words Help = words ≡ codes "--help" ∷ []
SpellsRequest words Version = words ≡ codes "--version" ∷ []

-- the request is answered by lines
abbrev pub TellsLines : Request → Type 0
TellsLines (Evidence count) = ⊥
TellsLines (Reports count) = ⊤
TellsLines (Record path) = ⊤
TellsLines (Check index count path) = ⊤
TellsLines Help = ⊥
TellsLines Version = ⊥

-- the words of a request whose lines are to be written so: behind a first word where they are to be in JSON
abbrev pub SpellsStyled : List (List ℕ) → Style → Request → Type 0
SpellsStyled words Plain request = SpellsRequest words request
SpellsStyled words Json request = (rest : List (List ℕ)) × (words ≡ codes "--json" ∷ rest) × SpellsRequest rest request × TellsLines request

-- the words of a call
abbrev pub SpellsCall : List (List ℕ) → Call → Type 0
SpellsCall words call = SpellsStyled words call.style call.request

-- a committee has members, and a record is one of theirs
abbrev pub IsAsked : Request → Type 0
IsAsked (Evidence count) = 0 < count
IsAsked (Reports count) = ⊤
IsAsked (Record path) = ⊤
IsAsked (Check index count path) = 0 < count
IsAsked Help = ⊤
IsAsked Version = ⊤

-- how the program is called
abbrev pub help_text : List ℕ
help_text = codes "usage: simplex_tool [--json] COMMAND, under the plain scheme over the base simplex\n  evidence COUNT              the evidence that simplex audit finds in reports on standard input, as reports\n  dump reports COUNT          reports on standard input, a line each\n  dump record RECORD          the record in a file, a line for each entry\n  check INDEX COUNT RECORD    the first entry that a lawful record of this member refuses\n  --help, --version\n"

-- which version of the formats it reads
abbrev pub version_line : List ℕ
version_line = codes "simplex_tool: version 1 of the formats\n"
