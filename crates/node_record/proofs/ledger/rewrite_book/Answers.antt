use Rattle.node_record.proofs.Rewriting.{may-two}
use Rattle.node_record.proofs.ledger.rewrite_book.Goals as goal

pub returns-in-Ok-clause-any_moment : goal.returns-in-Ok-clause-any_moment
returns-in-Ok-clause-any_moment g c = λ messages keeps is. c.rewrite.ensures.any_moment messages keeps is (may-two c.args.books.now c.requires.may)
