use Rattle.std.proofs.Common.{◌≡◌, ◌∙◌, ℕ, sym, subst}
use Rattle.std.specs.Prelude.{false, is_some}
use Rattle.types_core.specs.LatestFirst.{as_key, stored}
use Rattle.node_record.proofs.Placing.{put_under}
use Rattle.node_record.proofs.places.add_first.Goals as goal

pub returns : goal.returns
returns c = λ v.
    put_under c.args.view v _ _ c.args.place
    (λ same. subst (λ (u : ℕ). is_some (stored c.args.places.now u) ≡ false) same (sym c.contains_key.ensures ∙ c.if-contains_key.false))
    (c.in_ok-insert.ensures.updates.0 (as_key v))
