use Rattle.cli_audit.proofs.running.answer_to.Goals as goal

pub returns : goal.returns
returns c = record {
  evidence = c.in_ok-found.found.evidence.items;
  audit = rw c.deref.ensures.value at c.in_ok-found.ensures;
  text_is = c.in_ok-text.ensures;
}
