use Rattle.simplex_member.proofs.Making.{made-sound}
use Rattle.simplex_member.proofs.laws.made_certificates_are_sound.Goals as goal

pub returns : goal.returns
returns g c = λ f exact scheme m world w i correct life h reached view kind batch allowed x made.
    made-sound g.S.Scheme f scheme m world w (c.rounds_obey.ensures f exact) i correct life h reached view kind batch allowed x made (λ own y certificate certifies. g.met.S.Listing.backed own y certificate certifies)
