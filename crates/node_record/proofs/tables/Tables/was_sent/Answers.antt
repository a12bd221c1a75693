use Rattle.std.proofs.Common.{◌&&◌, ◌∙◌, ap, sym}
use Rattle.voter_rules.specs.declared.config.Again.{Again}
use Rattle.simplex_member.specs.Asked.{goes_again, was_repeated}
use Rattle.node_record.proofs.Pending.{sent_all, sent_now}
use Rattle.node_record.proofs.tables.Tables.was_sent.Goals as goal

-- asks go again, so those since the time was told last count
pub returns-then-asks_again : goal.returns-then-asks_again
returns-then-asks_again g c = λ low h k s again_is above.
    rw c.contains.ensures (sent_now s h c.args.asked.now _ (ap (λ (q : Again). goes_again q && was_repeated h) again_is ∙ (sym (c.asks_again.ensures low h k) ∙ c.if-asks_again.true)) (k.asks_now c.args.asked.now))

-- they don't, so all do
pub returns-else-asks_again : goal.returns-else-asks_again
returns-else-asks_again g c = λ low h k s again_is above.
    rw c.contains-else-asks_again.ensures (sent_all s h c.args.asked.now _ low above (ap (λ (q : Again). goes_again q && was_repeated h) again_is ∙ (sym (c.asks_again.ensures low h k) ∙ c.if-asks_again.false)) (k.asks c.args.asked.now))
