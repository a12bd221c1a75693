use Rattle.cli_tool.proofs.answers.evidence_in.Goals as goal

pub returns : goal.returns
returns c = record {
  evidence = c.in_ok-found.found.evidence.items;
  audit = c.in_ok-found.ensures;
  written_is = rw c.deref.ensures.value at c.in_ok-written.ensures;
}
