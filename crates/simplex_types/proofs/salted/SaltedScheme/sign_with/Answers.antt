use Rattle.simplex_types.proofs.salted.SaltedScheme.sign_with.Goals as goal

pub returns-clause-attests : goal.returns-clause-attests
returns-clause-attests g c = rw c.self.view_is at c.signature_of-signature.ensures.salted
