use Rattle.node_record.proofs.laws.a_ledger_at_rest_leaves_its_record.Goals as goal

pub returns : goal.returns
returns g c = λ owner ledger xs k keeps. c.a_book_at_rest_leaves_its_record.ensures ledger.books xs (k.journal keeps)
