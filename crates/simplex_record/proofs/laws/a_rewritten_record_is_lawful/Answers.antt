use Rattle.std.proofs.Common.{◌∙◌, refl, sym, ap, arith}
use Rattle.simplex_record.specs.Record.{entries, last_finalized, current_view}
use Rattle.simplex_record.proofs.Keeping.{left-final, left-current}
use Rattle.simplex_record.proofs.Soundness.{rewritten-lawful, entries-left}
use Rattle.simplex_record.proofs.laws.a_rewritten_record_is_lawful.Goals as goal

pub returns-clause-lawful : goal.returns-clause-lawful
returns-clause-lawful g c = λ scheme owner record_ f some lawful there last. rewritten-lawful some record_ f lawful there last

pub returns-clause-same : goal.returns-clause-same
returns-clause-same g c = λ views record_ f last. (
  ap last_finalized (entries-left views f record_) ∙ left-final views f.proposal (entries record_) (omega (arith, last)) ∙ last,
  ap (current_view views) (entries-left views f record_) ∙ left-current views f.proposal (entries record_) (sym last),
)

pub returns-clause-floor : goal.returns-clause-floor
returns-clause-floor g c = λ views record_ f. refl
