use Rattle.simplex_record.specs.Record.{entry}
use Rattle.messages_certificates.specs.declared.artifact.Artifact.TheVariants as artifact
use Rattle.simplex_record.proofs.Places.{Contains-mapped}
use Rattle.simplex_record.proofs.Openings.{nothing-yet, opens-on, records-on, rewrites-on}
use Rattle.simplex_record.proofs.laws.three_lists_go_on.Goals as goal

pub returns-clause-first : goal.returns-clause-first
returns-clause-first g c = λ scheme owner. nothing-yet

pub returns-clause-opens : goal.returns-clause-opens
returns-clause-opens g c = λ scheme owner ever opened kept are. opens-on ever opened kept are

pub returns-clause-records : goal.returns-clause-records
returns-clause-records g c = λ scheme owner ever opened kept x some are high behind fits. records-on ever opened kept x some are high behind fits

pub returns-clause-rewrites : goal.returns-clause-rewrites
returns-clause-rewrites g c = λ scheme owner ever opened kept f are there last.
    rewrites-on ever opened kept f are there last (are.within _ (Contains-mapped entry kept (artifact.Finalization f) there))
