use Rattle.types_core.specs.Subject.{statement}
use Rattle.simplex_types.proofs.Signatures.{salt-signature}
use Rattle.simplex_types.proofs.salted.Salted.signature_of.Goals as goal

pub returns-clause-signature : goal.returns-clause-signature
returns-clause-signature g c = salt-signature g.D.Write.spelling c.args.self.now.base c.args.counter c.args.index (statement c.args.subject.now)
    c.to_be_bytes-salt.result c.hash_of-hash.result c.new.result c.new.ensures.parts c.hash_of-hash.ensures c.to_be_bytes-salt.ensures
