use Rattle.simplex_member.proofs.Certified.{reported-certifies}
use Rattle.simplex_member.proofs.laws.reported_certificates_certify.Goals as goal

pub returns : goal.returns
returns g c = λ f scheme m world w size i correct a out certificate is.
    reported-certifies g.S.Scheme f scheme m world c.lives_obey.ensures w size
    (λ own x packed certifies. g.met.S.Listing.backed own x packed certifies) (λ own x packed quorum. g.met.S.Listing.sufficient own x packed quorum) i correct a out certificate is
