use Rattle.std.specs.Prelude.{⊤}
use Rattle.std.proofs.lemmas.List.{take_all}
use Rattle.std.proofs.lemmas.Map.Views.{btree_set_contains_iff}
use Rattle.simplex_rules.specs.Kept.{set_of}
use Rattle.simplex_rules.proofs.Gathering.{Gathers-none, Gathers-take, inserted_stay, inserted_there}
use Rattle.simplex_rules.proofs.Suspects.{suspects_exact, suspects_total}
use Rattle.simplex_rules.proofs.roster.insert_all.Goals as goal

pub loop-suspect-init : goal.loop-suspect-init
loop-suspect-init c = record {
  stay = λ q there. there;
  added = Gathers-none (λ q. q) (λ q. ⊤) c.args.all.now;
}

pub loop-suspect-preserved : goal.loop-suspect-preserved
loop-suspect-preserved c =
    let stay = inserted_stay c.loop-suspect.all c.insert.new.self c.suspect-item.result c.in_ok-insert.ensures.updates in
    let there = inserted_there c.loop-suspect.all c.insert.new.self c.suspect-item.result c.in_ok-insert.ensures.updates in
    record {
      stay = λ q before. stay q (c.loop-suspect.invariant.stay q before);
      added = Gathers-take (λ q. q) (λ q. ⊤) c.args.suspects.now c.loop-suspect.suspect-index c.suspect-item.result c.loop-suspect.all c.insert.new.self c.loop-suspect-test.true c.suspect-item.is c.loop-suspect.invariant.added stay (λ _. there);
    }

pub returns-clause-added : goal.returns-clause-added
returns-clause-added c = λ q there.
    c.loop-suspect.invariant.added q (rw (take_all c.loop-suspect.suspect-index c.args.suspects.now c.loop-suspect-test.false) ((btree_set_contains_iff suspects_total suspects_exact (set_of c.args.suspects.now) q).0 there)) tt
