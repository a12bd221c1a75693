use Rattle.std.specs.Prelude.{⊤}
use Rattle.std.proofs.lemmas.List.{take_all}
use Rattle.simplex_rules.proofs.Gathering.{Gathers-none, Gathers-take}
use Rattle.simplex_rules.proofs.Judging.{suspect_from}
use Rattle.simplex_rules.proofs.survey.insert_all.Goals as goal

pub loop-attestation-init : goal.loop-attestation-init
loop-attestation-init g c = record {
  stay = λ q there. there;
  added = Gathers-none (λ a. suspect_from c.args.round.now a.signer) (λ a. ⊤) c.args.suspects.now;
}

pub loop-attestation-preserved : goal.loop-attestation-preserved
loop-attestation-preserved g c = record {
  stay = λ q before. c.in_ok-insert.ensures.stay q (c.loop-attestation.invariant.stay q before);
  added = Gathers-take (λ a. suspect_from c.args.round.now a.signer) (λ a. ⊤) c.args.listed.now c.loop-attestation.attestation-index c.attestation-item.result c.loop-attestation.suspects c.insert.new.suspects c.loop-attestation-test.true c.attestation-item.is c.loop-attestation.invariant.added c.in_ok-insert.ensures.stay (λ _. c.in_ok-insert.ensures.added);
}

pub returns-clause-added : goal.returns-clause-added
returns-clause-added g c = λ a there. c.loop-attestation.invariant.added a (rw (take_all c.loop-attestation.attestation-index c.args.listed.now c.loop-attestation-test.false) there) tt
