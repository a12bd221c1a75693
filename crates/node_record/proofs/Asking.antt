-- In the order of asks those of a lower view stand first.
use Rattle.std.proofs.Common.{◌≡◌, ◌<◌, false, arith}
use Rattle.std.specs.Ordering.{is_gt}
use Rattle.std.proofs.lemmas.Bool.Decides.{nat_tests}
use Rattle.simplex_member.specs.declared.asked.Asked.{Asked}
use Rattle.node_record.specs.Tables.{asked_cmp}

-- so none of a lower view is there where the first isn't
pub none_ahead : (x y : Asked) → y.view < x.view → is_gt (asked_cmp x y) ≡ false → ⊥
none_ahead x y lower first = grind (arith, nat_tests, lower, first)
