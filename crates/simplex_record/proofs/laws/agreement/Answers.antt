use Rattle.simplex_record.proofs.Worlds.{one_proposal, none_nullified, none_skipped}
use Rattle.simplex_record.proofs.laws.agreement.Goals as goal

pub returns-clause-one_proposal_a_view : goal.returns-clause-one_proposal_a_view
returns-clause-one_proposal_a_view g c = λ scheme schemes world holds.
    one_proposal (g.S.Scheme.attests scheme) (λ i. g.S.Scheme.size (schemes i)) (λ i. g.S.Scheme.attests (schemes i)) (λ i. g.S.Scheme.certifies (schemes i)) g.S.Scheme.lists world (λ i. g.met.S.Listing.backed (schemes i)) holds

pub returns-clause-no_finalized_view_nullified : goal.returns-clause-no_finalized_view_nullified
returns-clause-no_finalized_view_nullified g c = λ scheme schemes world holds.
    none_nullified (g.S.Scheme.attests scheme) (λ i. g.S.Scheme.size (schemes i)) (λ i. g.S.Scheme.attests (schemes i)) (λ i. g.S.Scheme.certifies (schemes i)) g.S.Scheme.lists world (λ i. g.met.S.Listing.backed (schemes i)) holds

pub returns-clause-no_finalized_view_skipped : goal.returns-clause-no_finalized_view_skipped
returns-clause-no_finalized_view_skipped g c = λ scheme schemes world holds.
    none_skipped (g.S.Scheme.attests scheme) (λ i. g.S.Scheme.size (schemes i)) (λ i. g.S.Scheme.attests (schemes i)) (λ i. g.S.Scheme.certifies (schemes i)) g.S.Scheme.lists world (λ i. g.met.S.Listing.backed (schemes i)) holds
