-- What is wrong with how a node is set up.
use Rattle.std.specs.Prelude.{ℕ}
use Rattle.voter_rules.specs.Configuring.{fault_number}
use Rattle.voter_rules.specs.Floor.{floor_fault_number}
use Rattle.simplex_member.specs.declared.fault.SetupFault.{SetupFault}
use Rattle.simplex_member.specs.declared.fault.SetupFault.TheVariants as setup_fault

-- the number of a fault: those of what is started from lie above those of a configuration
abbrev pub setup_fault_number : SetupFault → ℕ
setup_fault_number (setup_fault.Config x) = fault_number x
setup_fault_number (setup_fault.Floor x) = floor_fault_number x
