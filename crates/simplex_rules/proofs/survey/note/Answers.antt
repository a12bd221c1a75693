use Rattle.simplex_rules.proofs.Surveys.{Notes-chosen, Notes-contested}
use Rattle.simplex_rules.proofs.survey.note.Goals as goal

pub returns-in_ok-insert : goal.returns-in_ok-insert
returns-in_ok-insert g c = Notes-contested _ _ _ _ c.args.vote.now c.in_ok-choose.ensures.extends c.in_ok-insert.ensures.stay c.in_ok-insert.ensures.added

pub returns-else-not-branch : goal.returns-else-not-branch
returns-else-not-branch g c = Notes-chosen _ _ _ c.args.vote.now c.in_ok-choose.ensures.extends (c.in_ok-choose.ensures.own c.if-not-branch.false)
