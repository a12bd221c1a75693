use Rattle.std.proofs.Common.{List, sym, subst}
use Rattle.std.specs.Prelude.{Contains}
use Rattle.std.specs.Map.Iter.{deref}
use Rattle.std.proofs.lemmas.Map.Iter.{iter_end}
use Rattle.simplex_member.specs.declared.asked.Asked.{Asked}
use Rattle.node_record.proofs.Pending.{among_keys, kept_more, kept_no_more, none_kept, stands, stands_not}
use Rattle.node_record.proofs.tables.pending_of.Goals as goal

pub loop-asked-init : goal.loop-asked-init
loop-asked-init c = rw c.new-pending.ensures.items none_kept

-- it stands until a finalization
pub loop-asked-preserved-in-Continue-1 : goal.loop-asked-preserved-in-Continue-1
loop-asked-preserved-in-Continue-1 c = rw c.in_ok-push.ensures.items
    (kept_more c.loop-asked.yielded c.in-Some.asked c.loop-asked.pending.items (stands c.in-Some.asked.now.ask.until c.eq.result c.eq.ensures c.if-eq.true) c.loop-asked.invariant)

-- it doesn't
pub loop-asked-preserved : goal.loop-asked-preserved
loop-asked-preserved c =
    kept_no_more c.loop-asked.yielded c.in-Some.asked c.loop-asked.pending.items (stands_not c.in-Some.asked.now.ask.until c.eq.result c.eq.ensures c.if-eq.false) c.loop-asked.invariant

pub returns : goal.returns
returns c =
    let gives = c.into_iter-asked-iterator.ensures.into_iter_gives in
    let end = iter_end deref c.args.asks.now.keys c.loop-asked.yielded c.into_iter-asked-iterator.result c.loop-asked.asked-iterator c.next.new.self c.next.result gives.0 c.loop-asked.yielded_by c.in-None.is c.next.ensures.steps in
    λ a.
    let all = among_keys c.args.asks.now gives.5 a in
    let kept = c.loop-asked.invariant a in (
      λ there. let both = kept.0 there in (all.0 (subst (λ (l : List Asked). Contains l a) end.0 both.0), both.1),
      λ both. kept.1 (subst (λ (l : List Asked). Contains l a) (sym end.0) (all.1 both.0), both.1),
    )
