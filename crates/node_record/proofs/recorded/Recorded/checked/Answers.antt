use Rattle.std.proofs.Common.{refl}
use Rattle.node_record.proofs.recorded.Recorded.checked.Goals as goal

pub returns-clause-holds : goal.returns-clause-holds
returns-clause-holds g c = record {
  length_is = refl;
  artifacts_are = refl;
  standing = rw (c.in-Ok-Ok.field-0-is, c.deref.ensures.value) at c.in-Ok-Ok.ensures.keeps;
  places = rw c.deref-2.ensures.value at c.in-Ok.ensures;
}

pub returns-clause-lawful : goal.returns-clause-lawful
returns-clause-lawful g c = rw (c.in-Ok-Ok.field-0-is, c.deref.ensures.value) at c.in-Ok-Ok.ensures.lawful
