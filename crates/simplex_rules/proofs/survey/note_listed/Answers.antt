use Rattle.simplex_rules.proofs.Surveys.{Notes-all_chosen, Notes-all_contested}
use Rattle.simplex_rules.proofs.survey.note_listed.Goals as goal

pub returns-in_ok-insert_all : goal.returns-in_ok-insert_all
returns-in_ok-insert_all g c = Notes-all_contested g.S.Scheme.lists c.args.made.now _ _ _ _ c.in_ok-choose.ensures.extends c.in_ok-insert_all.ensures.stay (λ a there. c.in_ok-insert_all.ensures.added a (rw c.attestations-listed.ensures.listed there))

pub returns-else-not-branch : goal.returns-else-not-branch
returns-else-not-branch g c = Notes-all_chosen g.S.Scheme.lists c.args.made.now _ _ _ c.in_ok-choose.ensures.extends (c.in_ok-choose.ensures.own c.if-not-branch.false)
