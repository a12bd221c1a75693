-- How a member asks for what it lacks, where nothing else is set.
use Rattle.std.specs.Prelude.{None, Some}
use Rattle.voter_rules.specs.declared.config.Again.TheVariants as again
use Rattle.voter_rules.specs.declared.config.RepairPolicy.{RepairPolicy}

-- all at once, and each ask once
abbrev pub asks_once : RepairPolicy
asks_once = record { again = again.Once; window = None }

-- again with each repeated nullify, for 1,024 views at once
abbrev pub usual_repair : RepairPolicy
usual_repair = record { again = again.WithNullify; window = Some 1024 }
