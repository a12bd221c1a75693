use Rattle.std.proofs.Common.{subst, sym}
use Rattle.journal_books.specs.declared.disks.Disks.{Disks}
use Rattle.journal_books.specs.Books.{MayBeRead}
use Rattle.node_steps.proofs.node.Node.close.Goals as goal

-- what is left of the disks is left of them in this form
pub returns-clause-left : goal.returns-clause-left
returns-clause-left g c = λ s h k keeps read may.
    c.into_disks.ensures.left s h k keeps read (subst (λ (on : Disks g.row.K.Denot). MayBeRead g.K.Disk on read) (sym c.one.ensures) may)
