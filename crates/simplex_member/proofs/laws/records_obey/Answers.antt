use Rattle.simplex_member.proofs.laws.records_obey.Goals as goal

pub returns : goal.returns
returns g c = record {
  first = λ own owner. c.a_lawful_record_grows.ensures.first own owner;
  further = λ own owner before x lawful fits. c.a_lawful_record_grows.ensures.further own owner before x lawful fits;
}
