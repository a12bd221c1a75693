use Rattle.simplex_member.proofs.Blameless.{none-blamed}
use Rattle.simplex_member.proofs.laws.none_is_blamed.Goals as goal

pub returns : goal.returns
returns g c = λ f exact back scheme m world w faithful alike i j ci cj out.
    none-blamed g.S.Scheme f scheme m world c.lives_obey.ensures (c.rounds_obey.ensures f exact) c.what_is_known_is_recorded.ensures c.what_is_produced_came.ensures back w faithful alike
    (λ own x certificate certifies. g.met.S.Listing.backed own x certificate certifies) (λ own x certificate quorum. g.met.S.Listing.sufficient own x certificate quorum) i j ci cj out
