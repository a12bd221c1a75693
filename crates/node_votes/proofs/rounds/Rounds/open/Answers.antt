use Rattle.std.proofs.Common.{[], refl}
use Rattle.std.proofs.lemmas.Result.{IfErr-weaker, IfOk-weaker}
use Rattle.node_votes.specs.Standing.{is_passed}
use Rattle.node_votes.proofs.Changing.{none-from}
use Rattle.node_votes.proofs.Opening.{open-first, open-still, still-none}
use Rattle.node_votes.proofs.rounds.Rounds.open.Goals as goal

pub returns-then-contains_key-clause-opens : goal.returns-then-contains_key-clause-opens
returns-then-contains_key-clause-opens g c = λ s up happened k. open-still g.S.Scheme g.D.PartialEq.eq s c.args.self.now up happened c.args.view (is_passed s c.args.view c.args.current) (rw (← c.if-contains_key.ensures) refl) k

pub returns-clause-opens : goal.returns-clause-opens
returns-clause-opens g c = IfOk-weaker c.seat.result _ _
    (λ a f s up happened k.
    let mid = c.touch.ensures.stands s up happened k in
    open-first g.S.Scheme g.D.PartialEq.eq s c.args.self.now c.touch.new.self c.seat.new.self up happened c.args.view (is_passed s c.args.view c.args.current) (none-from c.if-contains_key.ensures) k mid
    (λ none. f s up happened mid none c.in_ok-touch.ensures.touched (is_passed s c.args.view c.args.current) [] refl (c.in_ok-round.ensures s mid.shared)))
    c.seat.ensures.seated

pub returns-clause-err : goal.returns-clause-err
returns-clause-err g c = IfErr-weaker c.seat.result _ _
    (λ e f s up happened k.
    let mid = c.touch.ensures.stands s up happened k in
    f s up happened mid (still-none g.S.Scheme g.D.PartialEq.eq s c.args.self.now c.touch.new.self up happened c.args.view (none-from c.if-contains_key.ensures) k mid))
    c.seat.ensures.err
