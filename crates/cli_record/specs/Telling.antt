-- What is said of a record's file that no node is opened over.
use Rattle.std.specs.Prelude.{◌⊎◌, ℕ, List, Option}
use Rattle.types_codec.specs.Front.{AppendsFront}
use Rattle.cli_audit.specs.declared.trouble.Trouble.{Trouble}
use Rattle.cli_audit.specs.Lines.{trouble_line}
use Rattle.cli_opening.specs.declared.looking.Barred.{Barred}
use Rattle.cli_opening.specs.declared.looking.Barred.TheVariants as barred
use Rattle.cli_opening.specs.Saying.{barred_words_by}
use Rattle.simplex_member.specs.declared.fault.OpenFault.{OpenFault}
use Rattle.simplex_member.specs.declared.fault.OpenFault.TheVariants as open_fault
use Rattle.simplex_cli.specs.declared.ending.Ending.TheVariants as ending
use Rattle.simplex_cli.specs.Ending.{ending_line, memory_line}

-- the fault of an opening that a file is left for
abbrev pub fault_of : Barred → OpenFault
fault_of barred.Memory = open_fault.Memory
fault_of barred.Device = open_fault.Device
fault_of barred.NoRecord = open_fault.Device
fault_of (barred.Foreign place) = open_fault.Foreign place
fault_of (barred.Unlawful position) = open_fault.Contradiction position
fault_of (barred.Unclosed place) = open_fault.Device
fault_of (barred.Behind place) = open_fault.Device

-- the line of this trouble was written, and behind it some words, or a front of each
abbrev pub TellsUnopened : Trouble → Option (List ℕ) → Option (List ℕ) → Type 0
TellsUnopened trouble old new = (mid : Option (List ℕ)) × (words : List ℕ) × AppendsFront old mid (trouble_line trouble) × AppendsFront mid new words

-- the line of the fault that a file is left for was written, or that of want of memory, and behind it why it is left, or a front of each
abbrev pub TellsLeft : List ℕ → List ℕ → Barred → Option (List ℕ) → Option (List ℕ) → Type 0
TellsLeft path asked why old new =
    (mid : Option (List ℕ))
    × (AppendsFront old mid (ending_line (ending.Open (fault_of why))) ⊎ AppendsFront old mid memory_line)
    × AppendsFront mid new (barred_words_by path asked why)
