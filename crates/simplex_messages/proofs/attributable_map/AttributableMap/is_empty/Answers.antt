use Rattle.std.proofs.Common.{sym, ap, ◌∙◌}
use Rattle.std.proofs.lemmas.Bool.{eqb-true, eq-eqb}
use Rattle.std.specs.FinMap as finite
use Rattle.std.specs.Ordering.{nat_cmp}
use Rattle.simplex_messages.proofs.attributable_map.AttributableMap.is_empty.Goals as goal

pub returns-clause-empty : goal.returns-clause-empty
returns-clause-empty g c = (
  λ zero_len. finite.empty_of_len c.args.self.now.items (sym c.len.ensures.exact ∙ eqb-true _ _ zero_len),
  λ empty. eq-eqb _ _ (c.len.ensures.exact ∙ ap finite.len empty ∙ finite.len-empty nat_cmp _),
)
