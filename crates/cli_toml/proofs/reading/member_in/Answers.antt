use Rattle.toml.specs.View.{table_view}
use Rattle.cli_toml.specs.declared.reading.MemberFile.{MemberFile}
use Rattle.cli_toml.specs.Saying.{Says}
use Rattle.cli_toml.proofs.reading.member_in.Goals as goal

pub returns-in-Err-clause-fault : goal.returns-in-Err-clause-fault
returns-in-Err-clause-fault c =
    let file : MemberFile = record { settings = c.in_ok-settings.settings; «record» = c.in_ok-record.record } in
    let says : Says (table_view c.args.table.now) file = record {
      committee = c.in_ok-settings.ensures.committee;
      member = c.in_ok-settings.ensures.member;
      conduct = c.in_ok-settings.ensures.conduct;
      «record» = c.in_ok-record.ensures.path;
    } in
    (c.in_ok-all_known.ensures.known, (file, says, c.in-Err.ensures.first))
