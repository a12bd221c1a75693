-- What is told of a text that is no TOML, and of a file that is none of settings.
use Rattle.std.proofs.Common.{◌≡◌, ◌≢◌, ℕ, List, Option, inr}
use Rattle.std.specs.Prelude.{IfSome}
use Rattle.toml.specs.declared.de.error.Error.{Error}
use Rattle.types_codec.specs.Front.{AppendsFront}
use Rattle.cli_toml.specs.declared.fault.FileFault.{FileFault}
use Rattle.cli_toml.specs.declared.fault.FileFault.TheVariants as file
use Rattle.cli_toml.specs.Refusing.{IsRefused}
use Rattle.cli_file.specs.Filed.{TellsFault, TellsRefused}
use Rattle.cli_file.specs.Lines.{Tells, no_toml_line, told_name}
use Rattle.cli_file.specs.Placing.{IsLineOf}

-- a place that is no TOML, by some words of the reader
pub tells_no_toml : (line : Option ℕ) (error : Error) (at : ℕ) (text words : List ℕ) → text ≡ no_toml_line at words → Tells line (file.NoToml error at) text
tells_no_toml line error at text words is = (words, is)

-- a fault by its line
pub tells_fault : (bytes : List ℕ) (why : FileFault) (line : Option ℕ) (text : List ℕ) (old new : Option (List ℕ))
    → IfSome line (λ n. IsLineOf (told_name why) n bytes) → Tells line why text → AppendsFront old new text → TellsFault bytes why old new
tells_fault bytes why line text old new found told written = (line, text, found, told, written)

-- what is refused by its fault
pub tells_refused : (bytes : List ℕ) (why : FileFault) (old new : Option (List ℕ)) → IsRefused bytes why → why ≢ file.Memory
    → TellsFault bytes why old new → TellsRefused bytes old new
tells_refused bytes why old new refused other told = inr (why, refused, other, told)
