use Rattle.cli_hosted.proofs.Holding.{of_held}
use Rattle.cli_hosted.proofs.serving.replies_taken.Goals as goal

pub returns-clause-taken : goal.returns-clause-taken
returns-clause-taken c =
    of_held _ _ _ c.in-Some.ensures.held (λ is. (
      c.take_replies-fits.new.self,
      c.of.ensures.held,
      rw c.deref_mut.ensures.value at c.take_replies-fits.ensures.node,
      rw c.deref_mut.ensures.value at c.take_replies-fits.ensures.taken (c.fitted.ensures.done is),
    ))

pub returns-clause-no_room : goal.returns-clause-no_room
returns-clause-no_room c =
    of_held _ _ _ c.in-Some.ensures.held (λ not. (
      c.take_replies-fits.new.self,
      c.of.ensures.held,
      rw c.deref_mut.ensures.value at c.take_replies-fits.ensures.node,
      rw c.deref_mut.ensures.value at c.take_replies-fits.ensures.no_room (c.fitted.ensures.room not).1,
    ))

pub returns-clause-length : goal.returns-clause-length
returns-clause-length c = of_held _ _ _ c.in-Some.ensures.held (rw c.deref_mut.ensures.value at c.take_replies-fits.ensures.length)
