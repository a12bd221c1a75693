use Rattle.node_core.specs.Telling.{tells_as_many}
use Rattle.node_steps.proofs.Running.{by_its_journal, no_step_failed, stands}
use Rattle.node_steps.proofs.node.Node.step.Goals as goal

pub returns-in-Ok-clause-ok : goal.returns-in-Ok-clause-ok
returns-in-Ok-clause-ok g c = λ s h k.
    let answered = (c.in-Ok.ensures.answered s h k.core).ok in
    (answered.0, answered.1, stands _ _ _ _ s _ answered.0 (no_step_failed c.args.self.now k.running) answered.2)

pub returns-in-Ok-clause-any_moment : goal.returns-in-Ok-clause-any_moment
returns-in-Ok-clause-any_moment g c = λ s h k.
    (c.in-Ok.ensures.answered s h k.core).any_moment

pub returns-in-Err-clause-any_moment : goal.returns-in-Err-clause-any_moment
returns-in-Err-clause-any_moment g c = λ s h k.
    (c.in-Err.ensures.answered s h k.core).any_moment

pub returns-in-Err-clause-without_memory : goal.returns-in-Err-clause-without_memory
returns-in-Err-clause-without_memory g c = λ s h k.
    (c.in-Err.ensures.answered s h k.core).without_memory

-- the disks are as many as before
pub returns-in-Ok-clause-as_many : goal.returns-in-Ok-clause-as_many
returns-in-Ok-clause-as_many g c = tells_as_many _ _ _ c.in-Ok.ensures.faults

pub returns-in-Err-clause-as_many : goal.returns-in-Err-clause-as_many
returns-in-Err-clause-as_many g c = tells_as_many _ _ _ c.in-Err.ensures.faults

-- that it had failed is told only where its journal had
pub returns-in-Err-clause-failed_before : goal.returns-in-Err-clause-failed_before
returns-in-Err-clause-failed_before g c = λ is. by_its_journal c.args.self.now (c.in-Err.ensures.faults.failed is)
