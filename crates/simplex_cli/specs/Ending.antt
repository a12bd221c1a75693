-- The statuses of a node's program, and its lines on standard error.
use Rattle.std.specs.Prelude.{ℕ, List, [], ◌∷◌, ◌++◌, codes}
use Rattle.std.specs.List.{concat}
use Rattle.std.specs.Fmt.{decimal}
use Rattle.simplex_member.specs.declared.fault.IoFault.{IoFault}
use Rattle.simplex_member.specs.declared.fault.IoFault.TheVariants as io
use Rattle.simplex_member.specs.declared.fault.NodeFault.{NodeFault}
use Rattle.simplex_member.specs.declared.fault.NodeFault.TheVariants as step
use Rattle.simplex_member.specs.declared.fault.OpenFault.{OpenFault}
use Rattle.simplex_member.specs.declared.fault.OpenFault.TheVariants as open_fault
use Rattle.simplex_cli.specs.declared.ending.Ending.{Ending}
use Rattle.simplex_cli.specs.declared.ending.Ending.TheVariants as ending

-- the code of the newline that ends each line
abbrev pub newline : List ℕ
newline = 10 ∷ []

-- the line for an opening's fault: its number, and the place or position that it names, if it names one
unfoldable pub open_line : OpenFault → List ℕ
open_line open_fault.NoKey = codes "error: open 1" ++ newline
open_line (open_fault.Config x) = codes "error: open 2" ++ newline
open_line open_fault.MomentTooLate = codes "error: open 3" ++ newline
open_line (open_fault.Foreign place) = concat (codes "error: open 4 at " ∷ decimal place ∷ newline ∷ [])
open_line (open_fault.Contradiction position) = concat (codes "error: open 5 at " ∷ decimal position ∷ newline ∷ [])
open_line open_fault.Device = codes "error: open 6" ++ newline
open_line open_fault.Memory = codes "error: open 7" ++ newline
open_line open_fault.TooManyOptimistic = codes "error: open 8" ++ newline

-- the line for a step's fault: its number
unfoldable pub step_line : NodeFault → List ℕ
step_line step.Memory = codes "error: step 1" ++ newline
step_line step.Device = codes "error: step 2" ++ newline
step_line step.Failed = codes "error: step 3" ++ newline

-- the line for want of memory
unfoldable pub memory_line : List ℕ
memory_line = codes "error: memory" ++ newline

-- the line for what ended a program before its input
unfoldable pub ending_line : Ending → List ℕ
ending_line ending.Memory = memory_line
ending_line (ending.Open fault) = open_line fault
ending_line ending.Read = codes "error: read" ++ newline
ending_line ending.Write = codes "error: write" ++ newline
ending_line (ending.BadEvent place) = concat (codes "fault at byte " ∷ decimal place ∷ newline ∷ [])
ending_line (ending.Step fault) = step_line fault

-- its status: 3 where a place was named, else 1
abbrev pub ending_status : Ending → ℕ
ending_status (ending.BadEvent place) = 3
ending_status x = 1

-- how a program ends that a run over streams ended so
abbrev pub ending_of : IoFault → Ending
ending_of io.Read = ending.Read
ending_of io.Write = ending.Write
ending_of (io.BadEvent place) = ending.BadEvent place
ending_of (io.Node fault) = ending.Step fault
ending_of io.Memory = ending.Memory
