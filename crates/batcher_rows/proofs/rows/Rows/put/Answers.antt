use Rattle.std.proofs.Common.{refl}
use Rattle.batcher_rows.specs.Staying.{stays-kind, places-newest}
use Rattle.batcher_rows.proofs.Holding.{on-err, stays-same, stays-again, was-written, written, written-newest, put-kind, put-newest}
use Rattle.batcher_rows.proofs.rows.Rows.put.Goals as goal

pub returns-in_err-write-clause-err : goal.returns-in_err-write-clause-err
returns-in_err-write-clause-err g c = on-err _ _ (stays-again c.args.self.now c.reach.new.self c.write.new.self c.in_ok-reach.ensures.stays
    (stays-same c.reach.new.self c.write.new.self c.in_err-write.ensures.others.members_stay c.in_err-write.ensures.others.tallies_stay c.in_err-write.ensures.err))

pub returns-then-counts-clause-places : goal.returns-then-counts-clause-places
returns-then-counts-clause-places g c = λ members votes k.
    let v = c.args.vote in
    let before = places-newest members votes c.args.self.now c.reach.new.self c.in_ok-reach.ensures.stays.places k in
    let wrote = was-written v c.new.result c.reach.new.self c.write.new.self c.in_ok-write.ensures.others (rw (← c.in_ok-reach.ensures.stays.places.members_stay) at c.in_ok-reach.ensures.len) c.in_ok-write.ensures.member c.in_ok-write.ensures.stranger in
    put-newest members _ c.write.new.self c.count.new.self (written-newest members votes v c.args.counts c.args.own c.reach.new.self c.write.new.self before c.new.result c.new.ensures wrote) c.count.ensures.rows c.count.ensures.members

pub returns-then-counts-clause-kinds : goal.returns-then-counts-clause-kinds
returns-then-counts-clause-kinds g c = λ members votes k kind complete wait sure is unwaited unknown.
    let v = c.args.vote in
    let before = places-newest members votes c.args.self.now c.reach.new.self c.in_ok-reach.ensures.stays.places k in
    let held = stays-kind kind c.args.self.now c.reach.new.self complete wait sure c.in_ok-reach.ensures.stays is in
    let wrote = was-written v c.new.result c.reach.new.self c.write.new.self c.in_ok-write.ensures.others (rw (← c.in_ok-reach.ensures.stays.places.members_stay) at c.in_ok-reach.ensures.len) c.in_ok-write.ensures.member c.in_ok-write.ensures.stranger in
    let one = written members votes v c.args.counts c.args.own kind complete wait sure c.reach.new.self before held unwaited unknown c.new.result c.write.new.self c.new.ensures wrote in
    let tallies = rw c.kind_of-kind.ensures at c.count.ensures.tallies in
    put-kind members votes v c.args.counts c.args.own kind complete wait sure c.reach.new.self before held unwaited unknown c.write.new.self c.count.new.self one c.count.ensures.rows (λ yes_. tallies kind, λ no. absurd (cc (no, c.if-counts.true)))

pub returns-else-counts-clause-places : goal.returns-else-counts-clause-places
returns-else-counts-clause-places g c = λ members votes k.
    let v = c.args.vote in
    let before = places-newest members votes c.args.self.now c.reach.new.self c.in_ok-reach.ensures.stays.places k in
    let wrote = was-written v c.new.result c.reach.new.self c.write.new.self c.in_ok-write.ensures.others (rw (← c.in_ok-reach.ensures.stays.places.members_stay) at c.in_ok-reach.ensures.len) c.in_ok-write.ensures.member c.in_ok-write.ensures.stranger in
    written-newest members votes v c.args.counts c.args.own c.reach.new.self c.write.new.self before c.new.result c.new.ensures wrote

pub returns-else-counts-clause-kinds : goal.returns-else-counts-clause-kinds
returns-else-counts-clause-kinds g c = λ members votes k kind complete wait sure is unwaited unknown.
    let v = c.args.vote in
    let before = places-newest members votes c.args.self.now c.reach.new.self c.in_ok-reach.ensures.stays.places k in
    let held = stays-kind kind c.args.self.now c.reach.new.self complete wait sure c.in_ok-reach.ensures.stays is in
    let wrote = was-written v c.new.result c.reach.new.self c.write.new.self c.in_ok-write.ensures.others (rw (← c.in_ok-reach.ensures.stays.places.members_stay) at c.in_ok-reach.ensures.len) c.in_ok-write.ensures.member c.in_ok-write.ensures.stranger in
    let one = written members votes v c.args.counts c.args.own kind complete wait sure c.reach.new.self before held unwaited unknown c.new.result c.write.new.self c.new.ensures wrote in
    put-kind members votes v c.args.counts c.args.own kind complete wait sure c.reach.new.self before held unwaited unknown c.write.new.self c.write.new.self one refl (λ yes_. absurd (cc (yes_, c.if-counts.false)), λ no. refl)
