use Rattle.std.proofs.lemmas.Result.{IfOk-weaker}
use Rattle.node_record.proofs.tables.Tables.pending.Goals as goal

pub returns : goal.returns
returns g c = IfOk-weaker c.pending_of.result _ _ (λ pending exact. λ low h k a. (
  λ there.
      let both = (exact a).0 there in
      let asked = (k.asks a).0 both.0 in
      (asked.0, (both.1, asked.1)),
  λ stands. (exact a).1 ((k.asks a).1 (stands.0, stands.1.1), stands.1.0),
)) c.pending_of.ensures
