use Rattle.std.proofs.Common.{◌≡◌, sym, refl, true}
use Rattle.batcher_verifier.specs.History.{takes}
use Rattle.simplex_batcher.proofs.Admitting.{taken-new, taken-member}
use Rattle.simplex_batcher.proofs.round.Round.add_network.Goals as goal

pub returns-in-Some-clause-foreign : goal.returns-in-Some-clause-foreign
returns-in-Some-clause-foreign g c = λ s h k differs. absurd (differs ((c.belongs.ensures s h k).0 c.if-not-belongs.false))

pub returns-in-Some-clause-ours : goal.returns-in-Some-clause-ours
returns-in-Some-clause-ours g c = λ s h k. (c.belongs.ensures s h k).0 c.if-not-belongs.false

pub returns-in_err-put-clause-foreign : goal.returns-in_err-put-clause-foreign
returns-in_err-put-clause-foreign g c = λ s h k differs. absurd (differs ((c.belongs.ensures s h k).0 c.if-not-belongs.false))

pub returns-clause-foreign : goal.returns-clause-foreign
returns-clause-foreign g c = λ s h k differs. absurd (differs ((c.belongs.ensures s h k).0 c.if-not-belongs.false))

pub returns-then-not-belongs-clause-refused : goal.returns-then-not-belongs-clause-refused
returns-then-not-belongs-clause-refused g c = λ s h k ours. absurd (cc ((c.belongs.ensures s h k).1 ours, c.if-not-belongs.true))

pub returns-clause-ours : goal.returns-clause-ours
returns-clause-ours g c = λ s h k. (c.belongs.ensures s h k).0 c.if-not-belongs.false

pub returns-clause-ok : goal.returns-clause-ok
returns-clause-ok g c = λ s h k.
    let taken : takes s h c.args.sender c.args.vote ≡ true = sym (rw c.in_default.is at (c.refusal.ensures.takes s h k)) in
    rw taken (c.in_ok-put.ensures.taken s h k refl (taken-member s h c.args.sender c.args.vote taken) (taken-new s h c.args.sender c.args.vote taken ((c.belongs.ensures s h k).0 c.if-not-belongs.false)))
