use Rattle.std.proofs.Common.{refl, rules}
use Rattle.batcher_verifier.specs.Keeping.{VerifierKeeps}
use Rattle.batcher_verifier.proofs.verifier.Verifier.open.Goals as goal

pub returns : goal.returns
unfolding VerifierKeeps
returns g c = λ tracks. record {
  round_is = refl;
  scheme_is = refl;
  members_are = refl;
  batchable_is = refl;
  needed_is = search rules;
  enough = search rules;
  some_needed = search rules;
  skipped_is = refl;
  leader_is = refl;
  selection_is = refl;
  rows = record { places = rw (c.participants-members.ensures.value, c.deref.ensures) at c.new.ensures.places; kinds = c.new.ensures.kinds };
  lawful = tt;
}
