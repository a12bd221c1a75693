use Rattle.simplex_node.proofs.opening_io.open_on.Goals as goal

-- over one disk
pub returns-in-Ok-clause-opened : goal.returns-in-Ok-clause-opened
returns-in-Ok-clause-opened g c = rw c.in-One.is c.in-Ok.ensures.opened

pub returns-in-Ok-clause-has_opened : goal.returns-in-Ok-clause-has_opened
returns-in-Ok-clause-has_opened g c = rw c.in-One.is c.in-Ok.ensures.has_opened

pub returns-in-Err-clause-unopened : goal.returns-in-Err-clause-unopened
returns-in-Err-clause-unopened g c = rw c.in-One.is c.in-Err.ensures.unopened

-- over two
pub returns-in-Ok-open_pair-clause-opened : goal.returns-in-Ok-open_pair-clause-opened
returns-in-Ok-open_pair-clause-opened g c = rw c.in-Two.is c.in-Ok-open_pair.ensures.opened

pub returns-in-Ok-open_pair-clause-has_opened : goal.returns-in-Ok-open_pair-clause-has_opened
returns-in-Ok-open_pair-clause-has_opened g c = rw c.in-Two.is c.in-Ok-open_pair.ensures.has_opened

pub returns-in-Err-open_pair-clause-unopened : goal.returns-in-Err-open_pair-clause-unopened
returns-in-Err-open_pair-clause-unopened g c = rw c.in-Two.is c.in-Err-open_pair.ensures.unopened
