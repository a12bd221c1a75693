use Rattle.simplex_rules.proofs.Surveys.{guilty-contested}
use Rattle.simplex_rules.proofs.auditing.contested.Goals as goal

pub returns : goal.returns
returns g c =
    let counts = c.in_ok-fault.ensures in
    record {
      reports = counts.reports;
      read = counts.read;
      holds = guilty-contested g.S.Scheme.lists (g.S.Scheme.attests c.args.scheme.now) counts.reports c.survey_reports.new.survey c.in_ok-contested.contested counts.holds c.in_ok-contested.ensures.stay c.in_ok-contested.ensures.added;
    }
