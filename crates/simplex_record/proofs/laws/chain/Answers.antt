use Rattle.simplex_record.proofs.Worlds.{one_chain}
use Rattle.simplex_record.proofs.laws.chain.Goals as goal

pub returns : goal.returns
returns g c = λ scheme schemes world leader holds ground.
    one_chain (g.S.Scheme.attests scheme) (λ i. g.S.Scheme.size (schemes i)) (λ i. g.S.Scheme.attests (schemes i)) (λ i. g.S.Scheme.certifies (schemes i)) g.S.Scheme.lists world (λ i. g.met.S.Listing.backed (schemes i)) holds leader ground
