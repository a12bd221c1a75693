-- How what is wrong with a value is told of its file.
use Rattle.cli_toml.specs.declared.fault.FileFault.{FileFault}
use Rattle.cli_toml.specs.declared.fault.FileFault.TheVariants as file
use Rattle.cli_toml.specs.declared.fault.ValueFault.{ValueFault}
use Rattle.cli_toml.specs.declared.fault.ValueFault.TheVariants as value

abbrev pub file_fault : ValueFault → FileFault
file_fault value.Memory = file.Memory
file_fault (value.Missing key) = file.Missing key
file_fault (value.Unfit key) = file.Unfit key
