-- What is wrong with a name or a value is wrong with its table, and what is wrong with a table with its text.
use Rattle.std.proofs.Common.{◌≡◌, ◌⊎◌, ◌≤◌, ◌==◌, ℕ, List, None, Some, inl, inr}
use Rattle.std.proofs.lemmas.List.Sums.{count_by-le-length}
use Rattle.std.specs.Prelude.{IsUtf8, count_by, length}
use Rattle.toml.specs.Data.{Members}
use Rattle.toml.specs.Errors.{IsMemory}
use Rattle.toml.specs.Parse.{parse_document}
use Rattle.toml.specs.declared.de.error.Error.{Error}
use Rattle.cli_toml.specs.declared.fault.FileFault.{FileFault}
use Rattle.cli_toml.specs.declared.fault.FileFault.TheVariants as file
use Rattle.cli_toml.specs.declared.fault.ValueFault.{ValueFault}
use Rattle.cli_toml.specs.declared.fault.ValueFault.TheVariants as value
use Rattle.cli_toml.specs.Faults.{file_fault}
use Rattle.cli_toml.specs.Refusing.{AreKnown, HasName, IsFault, IsNoToml, IsRefused, IsStranger, IsTableFault}

-- a name that is no key's
pub unknown_in : (t : Members) (name : List ℕ) (why : FileFault) → IsStranger name why → HasName name t → IsTableFault t why
unknown_in t name file.Memory stranger has = tt
unknown_in t name (file.Unknown told) stranger has = rw stranger.0 (has, stranger.1)
unknown_in t name (file.NoToml why line) stranger has = absurd stranger
unknown_in t name (file.Missing k) stranger has = absurd stranger
unknown_in t name (file.Unfit k) stranger has = absurd stranger
unknown_in t name (file.Settings fault) stranger has = absurd stranger

-- a value
pub fault_in : (t : Members) (why : ValueFault) → AreKnown t → IsFault t why → IsTableFault t (file_fault why)
fault_in t value.Memory known is = tt
fault_in t (value.Missing k) known is = (known, is)
fault_in t (value.Unfit k) known is = (known, is)

-- a table
pub refused_table : (text : List ℕ) (t : Members) (why : FileFault) → parse_document text ≡ Some t → IsTableFault t why → IsRefused text why
refused_table text t why parsed is = inr (inr (t, parsed, is))

-- no table
pub refused_text : (text : List ℕ) (error : Error) (why : FileFault)
    → (why ≡ file.Memory) ⊎ (IsNoToml text why × ¬ IsMemory error) → (¬ IsMemory error → IsUtf8 text → parse_document text ≡ None) → IsRefused text why
refused_text text error why told none = elim told [
  | inl memory ↦ inl memory
  | inr other ↦ inr (inl (other.0, none other.1))
]

-- a text has no more ends of lines than bytes
pub ends_within : (text : List ℕ) → count_by (λ c. c == 10) text ≤ length text
ends_within text = count_by-le-length (λ c. c == 10) text
