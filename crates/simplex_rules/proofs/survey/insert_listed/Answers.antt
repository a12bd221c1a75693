use Rattle.simplex_rules.proofs.Surveys.{OnOk-given_up}
use Rattle.simplex_rules.proofs.survey.insert_listed.Goals as goal

pub returns-clause-given_up : goal.returns-clause-given_up
returns-clause-given_up g c = OnOk-given_up g.S.Scheme.lists c.insert_all.result c.insert_all.new.suspects c.args.made.now (rw c.attestations-listed.ensures.listed at c.insert_all.ensures.added)
