use Rattle.simplex_record.proofs.Checks.{lawful-nil, lawful-push}
use Rattle.simplex_record.proofs.laws.a_lawful_record_grows.Goals as goal

pub returns-clause-first : goal.returns-clause-first
returns-clause-first g c = λ scheme owner. lawful-nil

pub returns-clause-further : goal.returns-clause-further
returns-clause-further g c = λ scheme owner before x lawful fits. lawful-push before x lawful fits
