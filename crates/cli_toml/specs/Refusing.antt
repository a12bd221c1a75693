-- Why a text is no file of settings.
use Rattle.std.specs.Prelude.{◌≡◌, ◌⊎◌, ◌<◌, ◌^◌, ◌==◌, ℕ, suc, List, Bool, Option, None, Some, Ok, IsUtf8, count_by, string_bytes, take, ⊤}
use Rattle.hex.specs.Hex.{decode_of, decode_sized}
use Rattle.toml.specs.Data.{Data, Members, no_members, member, string, boolean}
use Rattle.toml.specs.Errors.{span_start}
use Rattle.toml.specs.Parse.{parse_document}
use Rattle.voter_rules.specs.declared.config.Again.{Again}
use Rattle.voter_rules.specs.declared.config.ForwardPolicy.{ForwardPolicy}
use Rattle.cli_settings.specs.Checking.{IsFirst}
use Rattle.cli_toml.specs.declared.fault.FileFault.{FileFault}
use Rattle.cli_toml.specs.declared.fault.FileFault.TheVariants as file
use Rattle.cli_toml.specs.declared.fault.ValueFault.{ValueFault}
use Rattle.cli_toml.specs.declared.fault.ValueFault.TheVariants as value
use Rattle.cli_toml.specs.declared.key.Key.{Key}
use Rattle.cli_toml.specs.declared.key.Key.TheVariants as key
use Rattle.cli_toml.specs.declared.reading.MemberFile.{MemberFile}
use Rattle.cli_toml.specs.Keys.{IsKey}
use Rattle.cli_toml.specs.Saying.{Says, again_word, forward_word, under, whole}

-- each name of a table is a key's
abbrev pub AreKnown : Members → Type 0
AreKnown no_members = ⊤
AreKnown (member name d ms) = IsKey name × AreKnown ms

-- the table has a value of this name
abbrev pub HasName : List ℕ → Members → Type 0
HasName name no_members = ⊥
HasName name (member other d ms) = (other ≡ name) ⊎ HasName name ms

-- nothing stands there, or what this says
abbrev pub MayBe : (Data → Type 0) → Option Data → Type 0
MayBe P found = (found ≡ None) ⊎ ((d : Data) × (found ≡ Some d) × P d)

-- a whole number that isn't negative, and such a one below 2 ^ 32
abbrev pub IsWhole : Data → Type 0
IsWhole d = (n : ℕ) × (d ≡ whole n)

abbrev pub IsCount : Data → Type 0
IsCount d = (n : ℕ) × (n < 2 ^ 32) × (d ≡ whole n)

-- a truth value
abbrev pub IsTruth : Data → Type 0
IsTruth d = (b : Bool) × (d ≡ boolean b)

-- a text
abbrev pub IsText : Data → Type 0
IsText d = (s : List ℕ) × (d ≡ string s)

-- hexadecimal digits, of any number of bytes, and of so many
abbrev pub AreDigits : Data → Type 0
AreDigits d = (s : List ℕ) × (bytes : List ℕ) × (d ≡ string s) × (decode_of s ≡ Ok bytes)

abbrev pub AreDigitsOf : ℕ → Data → Type 0
AreDigitsOf n d = (s : List ℕ) × (bytes : List ℕ) × (d ≡ string s) × (decode_sized s n ≡ Ok bytes)

-- the word of a policy of forwarding
abbrev pub IsPolicy : Data → Type 0
IsPolicy d = (policy : ForwardPolicy) × (d ≡ string (forward_word policy))

-- the word of whether asks go again
abbrev pub IsAgain : Data → Type 0
IsAgain d = (policy : Again) × (d ≡ string (again_word policy))

-- what a key can have
abbrev pub Fits : Key → Data → Type 0
Fits key.Genesis = AreDigitsOf 32
Fits key.Base = IsText
Fits key.Members = IsCount
Fits key.TermLength = IsCount
Fits key.Seed = AreDigits
Fits key.Member = IsCount
Fits key.Record = IsText
Fits key.Skips = IsTruth
Fits key.Forwarding = IsPolicy
Fits key.Repair = IsAgain
Fits key.HistoricalVotes = IsTruth
Fits _ = IsWhole

-- a key that has no default
abbrev pub IsNeeded : Key → Type 0
IsNeeded k = (k ≡ key.Members) ⊎ (k ≡ key.Member)

-- the name is no key's, or memory ran out
abbrev pub IsStranger : List ℕ → FileFault → Type 0
IsStranger name file.Memory = ⊤
IsStranger name (file.Unknown told) = (string_bytes told ≡ name) × ¬ IsKey name
IsStranger name _ = ⊥

-- what is wrong with a table's value
abbrev pub IsFault : Members → ValueFault → Type 0
IsFault t value.Memory = ⊤
IsFault t (value.Missing k) = IsNeeded k × (under k t ≡ None)
IsFault t (value.Unfit k) = ¬ MayBe (Fits k) (under k t)

-- what is wrong with a table: a name that is no key's goes before what is wrong with a value, and that before what is wrong with settings
abbrev pub IsTableFault : Members → FileFault → Type 0
IsTableFault t file.Memory = ⊤
IsTableFault t (file.NoToml why line) = ⊥
IsTableFault t (file.Unknown name) = HasName (string_bytes name) t × ¬ IsKey (string_bytes name)
IsTableFault t (file.Missing k) = AreKnown t × IsFault t (value.Missing k)
IsTableFault t (file.Unfit k) = AreKnown t × IsFault t (value.Unfit k)
IsTableFault t (file.Settings fault) = AreKnown t × ((f : MemberFile) × Says t f × IsFirst f.settings fault)

-- the line of a place of a text, from 1 on: behind so many ends of lines
abbrev pub line_of : ℕ → List ℕ → ℕ
line_of place text = suc (count_by (λ c. c == 10) (take place text))

-- it tells that the text is no TOML, and the line where the reader found that
abbrev pub IsNoToml : List ℕ → FileFault → Type 0
IsNoToml text (file.NoToml why line) = line ≡ line_of (span_start why) text
IsNoToml text _ = ⊥

-- what is wrong with a text
abbrev pub IsRefused : List ℕ → FileFault → Type 0
IsRefused text why =
    (why ≡ file.Memory)
    ⊎ ((IsNoToml text why × (IsUtf8 text → parse_document text ≡ None))
    ⊎ ((t : Members) × (parse_document text ≡ Some t) × IsTableFault t why))
