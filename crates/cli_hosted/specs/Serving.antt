-- How a node's opening and its calls are told.
use Rattle.std.specs.Prelude.{◌⊎◌, nat_eq, not, ℕ, Bool, List, Option, None, Some, Result, Ok, Err, codes}
use Rattle.simplex_record.specs.declared.owner.Owner.{Owner}
use Rattle.cli_tool.specs.ToolAnswers as program
use Rattle.cli_settings.specs.declared.setting.Settings.{Settings}
use Rattle.cli_opening.specs.Looking.{IsBarredBy, IsFoundIn}
use Rattle.cli_opening.specs.declared.looking.Barred.{Barred}
use Rattle.cli_opening.specs.declared.looking.Barred.TheVariants as barred
use Rattle.cli_opening.specs.declared.looking.Found.{Found}
use Rattle.simplex_member.specs.declared.fault.IoFault.{IoFault}
use Rattle.simplex_member.specs.declared.fault.IoFault.TheVariants as io
use Rattle.simplex_member.specs.declared.fault.NodeFault.{NodeFault}
use Rattle.simplex_member.specs.declared.fault.NodeFault.TheVariants as step
use Rattle.simplex_member.specs.declared.fault.OpenFault.{OpenFault}
use Rattle.simplex_member.specs.declared.fault.OpenFault.TheVariants as open_fault
use Rattle.cli_opening.specs.Members.{IsFoundFor, owner_of}
use Rattle.cli_hosted.specs.declared.status.Status.{Status}
use Rattle.cli_hosted.specs.declared.status.Status.TheVariants as status

-- any number but 0 asks for it
abbrev pub asks : ℕ → Bool
asks number = not (nat_eq number 0)

-- these bytes are a lawful record of this member of so many, as a crash may leave one, or are to be cut to one
abbrev pub IsLookedAt : ℕ → ℕ → Bool → List ℕ → Type 0
IsLookedAt member members cuts bytes = (found : Found) × IsFoundIn member members cuts bytes found

-- the same of the member of these settings
abbrev pub IsLookedAtBy : Settings → Bool → List ℕ → Type 0
IsLookedAtBy s cuts bytes = (found : Found) × IsFoundFor s cuts bytes found

-- behind the entries of these bytes, as this owner has them in a committee of so many under this base, stands what no crash leaves: the gate at
-- this place isn't closed, or more stands behind it than that
abbrev pub IsTornIn : List ℕ → ℕ → Owner → List ℕ → ℕ → Type 0
IsTornIn base members owner bytes place = IsBarredBy base members owner bytes (barred.Unclosed place) ⊎ IsBarredBy base members owner bytes (barred.Behind place)

-- the same as this member of so many has them under the program's settings
abbrev pub IsTornAt : ℕ → ℕ → List ℕ → ℕ → Type 0
IsTornAt member members = IsTornIn (codes "simplex") members (program.owner_of member)

-- the same as the member of these settings has them
abbrev pub IsTornBy : Settings → List ℕ → ℕ → Type 0
IsTornBy s = IsTornIn s.committee.base.items s.committee.members (owner_of s)

-- the status of bytes that are left as they are, and the place that is named
abbrev pub barred_status : Barred → Status
barred_status barred.Memory = status.Memory
barred_status barred.Device = status.Device
barred_status barred.NoRecord = status.NoRecord
barred_status (barred.Foreign place) = status.Foreign
barred_status (barred.Unlawful position) = status.Refused
barred_status (barred.Unclosed place) = status.Torn
barred_status (barred.Behind place) = status.Torn

abbrev pub barred_place : Barred → Option ℕ
barred_place (barred.Foreign place) = Some place
barred_place (barred.Unlawful position) = Some position
barred_place (barred.Unclosed place) = Some place
barred_place (barred.Behind place) = Some place
barred_place why = None

-- the status of a record that was not opened, and the place that is named
abbrev pub unopened_status : OpenFault → Status
unopened_status open_fault.NoKey = status.Argument
unopened_status (open_fault.Config x) = status.Argument
unopened_status open_fault.MomentTooLate = status.Argument
unopened_status open_fault.TooManyOptimistic = status.Argument
unopened_status (open_fault.Foreign place) = status.Foreign
unopened_status (open_fault.Contradiction position) = status.Refused
unopened_status open_fault.Device = status.Device
unopened_status open_fault.Memory = status.Memory

abbrev pub unopened_place : OpenFault → Option ℕ
unopened_place (open_fault.Foreign place) = Some place
unopened_place (open_fault.Contradiction position) = Some position
unopened_place x = None

-- of a step that failed
abbrev pub unstepped_status : NodeFault → Status
unstepped_status step.Memory = status.Memory
unstepped_status step.Device = status.Device
unstepped_status step.Failed = status.Failed

-- of a call over events: a writer in memory fails for want of it, and a read of bytes that were handed in only behind 2^32 events
abbrev pub ending_status : IoFault → Status
ending_status io.Read = status.TooLong
ending_status io.Write = status.Memory
ending_status (io.BadEvent place) = status.Invalid
ending_status (io.Node fault) = unstepped_status fault
ending_status io.Memory = status.Memory

abbrev pub run_status : {A : Type 0} → Result A IoFault → Status
run_status (Ok done) = status.Done
run_status (Err why) = ending_status why

abbrev pub run_place : {A : Type 0} → Result A IoFault → Option ℕ
run_place (Err (io.BadEvent place)) = Some place
run_place x = None

-- of a rewrite: the view behind which the record begins is named, where it was rewritten
abbrev pub rewrite_status : Result (Option ℕ) NodeFault → Status
rewrite_status (Ok view) = status.Done
rewrite_status (Err why) = unstepped_status why

abbrev pub rewrite_place : Result (Option ℕ) NodeFault → Option ℕ
rewrite_place (Ok view) = view
rewrite_place (Err why) = None
