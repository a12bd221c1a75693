use Rattle.std.specs.BTreeMap.{get}
use Rattle.std.specs.Ordering.{nat_cmp}
use Rattle.voter_history.specs.Past as past
use Rattle.voter_views.proofs.Choices.{found_copy, found_none}
use Rattle.voter_views.proofs.Pruning.{kept-new, unkept-before, unkept-none, unkept-there}
use Rattle.voter_views.proofs.views.pruning.keep_one.Goals as goal

pub returns-then-lt : goal.returns-then-lt
returns-then-lt g c = λ s l h k u. unkept-before c.args.entry.now.0 c.args.first u (get nat_cmp c.args.reaching.now u) (past.nullification h) c.lt.result c.lt.ensures c.if-lt.true

pub returns-then-contains_key : goal.returns-then-contains_key
returns-then-contains_key g c = λ s l h k u.
    unkept-there c.args.entry.now.0 c.args.first u (get nat_cmp c.args.reaching.now) (past.nullification h) c.contains_key.result c.contains_key.ensures c.if-contains_key.true

pub returns-in_ok-insert : goal.returns-in_ok-insert
returns-in_ok-insert g c = λ s l h k u.
    let is = found_copy c.nullification.result c.in-Some.certificate c.in_ok-copy.copy (past.nullification h) c.in-Some.is c.in_ok-copy.ensures (c.nullification.ensures s l h k) in
    let updates = c.in_ok-insert.ensures.updates in
    kept-new c.args.entry.now.0 c.args.first u (get nat_cmp c.args.reaching.now) (get nat_cmp c.insert.new.self) (past.nullification h) c.in_ok-copy.copy c.lt.result c.contains_key.result
    c.lt.ensures c.if-lt.false c.contains_key.ensures c.if-contains_key.false is updates.1 updates.2

pub returns-in_default : goal.returns-in_default
returns-in_default g c = λ s l h k u.
    unkept-none c.args.entry.now.0 c.args.first u (get nat_cmp c.args.reaching.now u) (past.nullification h) (found_none c.nullification.result (past.nullification h) c.in_default.is (c.nullification.ensures s l h k))
