use Rattle.std.proofs.Common.{◌≡◌, refl}
use Rattle.batcher_verifier.proofs.verifier.Verifier.add.Goals as goal

pub returns-then-not-may_add-clause-added : goal.returns-then-not-may_add-clause-added
returns-then-not-may_add-clause-added g c = λ s h k. (λ no. absurd (cc no), λ may. absurd (cc ((c.may_add.ensures s h k).1 may, c.if-not-may_add.true)))

pub returns-clause-added : goal.returns-clause-added
returns-clause-added g c = λ s h k. (λ yes_. (c.may_add.ensures s h k).0 c.if-not-may_add.false, λ may. refl)

pub returns-clause-waits : goal.returns-clause-waits
returns-clause-waits g c = λ s h k added other. c.in_ok-put.ensures.waits s h k other ((c.may_add.ensures s h k).0 c.if-not-may_add.false)

pub returns-clause-verified : goal.returns-clause-verified
returns-clause-verified g c = λ s h k added own attests. c.in_ok-put.ensures.verified s h k own ((c.may_add.ensures s h k).0 c.if-not-may_add.false, attests)
