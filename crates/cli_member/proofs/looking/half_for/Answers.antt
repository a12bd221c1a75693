use Rattle.cli_member.proofs.looking.half_for.Goals as goal

-- it is of a record of the member
pub returns-in-Ok-clause-found : goal.returns-in-Ok-clause-found
returns-in-Ok-clause-found g c = record {
  found = c.in-Ok.found;
  is_found = c.in-Ok.ensures.found;
  seen = c.in-Ok.ensures.seen;
  untouched = c.look_for_half.ensures.untouched;
  told = c.say_found.ensures.told;
}

-- it was left
pub returns-in-Err-clause-left : goal.returns-in-Err-clause-left
returns-in-Err-clause-left g c = (
  c.in-Err.barred,
  record {
    barred = c.in-Err.ensures.barred;
    beyond = c.in-Err.ensures.cut;
    untouched = c.look_for_half.ensures.untouched;
    told = c.left.ensures.told;
  },
)
