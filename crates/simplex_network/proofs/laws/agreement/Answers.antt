use Rattle.messages_certificates.specs.declared.certificate.Certificate.TheVariants as certificate
use Rattle.simplex_network.proofs.Sound.{all-sound}
use Rattle.simplex_network.proofs.laws.agreement.Goals as goal

pub returns : goal.returns
returns g c = record {
  sound = λ f exact. all-sound g.S.Scheme f g.met.S.Listing.backed (c.made_certificates_are_sound.ensures f exact);
  one_proposal_a_view = λ f exact scheme m world w most x y p q first second of also same.
      let sound = all-sound g.S.Scheme f g.met.S.Listing.backed (c.made_certificates_are_sound.ensures f exact) scheme m world w in
      (c.agreement_of_lives.ensures.all_agree f exact scheme m world w most).one_proposal_a_view x y p q (sound x first) (sound y second) of also same;
  no_finalized_view_nullified = λ f exact scheme m world w most x y first second covers.
      let sound = all-sound g.S.Scheme f g.met.S.Listing.backed (c.made_certificates_are_sound.ensures f exact) scheme m world w in
      (c.agreement_of_lives.ensures.all_agree f exact scheme m world w most).no_finalized_view_nullified x y (sound (certificate.Finalization x) first) (sound (certificate.Nullification y) second) covers;
  no_finalized_view_skipped = λ f exact scheme m world w most x y first second below above.
      let sound = all-sound g.S.Scheme f g.met.S.Listing.backed (c.made_certificates_are_sound.ensures f exact) scheme m world w in
      (c.agreement_of_lives.ensures.all_agree f exact scheme m world w most).no_finalized_view_skipped x y (sound (certificate.Finalization x) first) (sound (certificate.Notarization y) second) below above;
  one_chain = λ f exact scheme m world w most elector x y first second under.
      let sound = all-sound g.S.Scheme f g.met.S.Listing.backed (c.made_certificates_are_sound.ensures f exact) scheme m world w in
      c.finalized_views_lie_on_one_chain.ensures f exact scheme m world elector.leader w most elector.one x y (sound (certificate.Finalization x) first) (sound (certificate.Finalization y) second) under;
}
