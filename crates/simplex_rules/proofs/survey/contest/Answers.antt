use Rattle.std.specs.Prelude.{IsSome}
use Rattle.std.proofs.Common.{◌≡◌, true, false, sym, ◌∙◌}
use Rattle.std.proofs.lemmas.List.{take_all}
use Rattle.simplex_rules.specs.Choices.{choice_in}
use Rattle.simplex_rules.proofs.Gathering.{Gathers-none, Gathers-take}
use Rattle.simplex_rules.specs.declared.cast.Suspect.{Suspect}
use Rattle.simplex_rules.proofs.survey.contest.Goals as goal
use Rattle.simplex_rules.proofs.survey.contest.Goals.{then-contains+in_ok-insert, else-contains}

pub loop-suspect-init : goal.loop-suspect-init
loop-suspect-init g c = record {
  stay = λ q there. there;
  added = Gathers-none (λ q. q) (λ q. IsSome (choice_in c.args.finalized.now q.round)) c.args.contested.now;
}

pub returns-clause-added : goal.returns-clause-added
returns-clause-added g c = λ q nullified finalized. c.loop-suspect.invariant.added q (rw (take_all c.loop-suspect.suspect-index c.args.nullified.now c.loop-suspect-test.false) nullified) finalized

pub loop-suspect-preserved : goal.loop-suspect-preserved
loop-suspect-preserved g c =
    let Finalized : Suspect → Type 0 = λ q. IsSome (choice_in c.args.finalized.now q.round) in
    elim c.if-contains.branch [
      | then-contains+in_ok-insert w ↦ rw w.contested-is (record {
        stay = λ q before. w.in_ok-insert.ensures.stay q (c.loop-suspect.invariant.stay q before);
        added = Gathers-take (λ q. q) Finalized c.args.nullified.now c.loop-suspect.suspect-index c.suspect-item.result c.loop-suspect.contested w.insert.new.self c.loop-suspect-test.true c.suspect-item.is c.loop-suspect.invariant.added w.in_ok-insert.ensures.stay (λ _. w.in_ok-insert.ensures.added);
      })
      | else-contains w ↦ rw w.contested-is (record {
        stay = c.loop-suspect.invariant.stay;
        added = Gathers-take (λ q. q) Finalized c.args.nullified.now c.loop-suspect.suspect-index c.suspect-item.result c.loop-suspect.contested c.loop-suspect.contested c.loop-suspect-test.true c.suspect-item.is c.loop-suspect.invariant.added (λ q there. there)
            (λ some. absurd (let never : false ≡ true = sym w.if-contains.false ∙ c.contains.ensures ∙ some in cc));
      })
    ]
