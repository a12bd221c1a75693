use Rattle.simplex_types.proofs.listed.ListedScheme.verify_attestations.Goals as goal

pub returns : goal.returns
returns g c = rw c.self.view_is at c.failing_signers.ensures
