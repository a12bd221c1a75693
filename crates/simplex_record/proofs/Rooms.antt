-- What a lawful record speaks of has room.
use Rattle.std.proofs.Common.{List, ◌∷◌, ◌++◌, refl, ◌∙◌, ap, subst, append_assoc}
use Rattle.types_core.specs.declared.proposal.Proposal.{Proposal}
use Rattle.types_core.specs.Positions.{HasRoom}
use Rattle.types_core.specs.Subject.{notarize}
use Rattle.messages_certificates.specs.declared.artifact.Artifact.{Artifact}
use Rattle.messages_certificates.specs.declared.artifact.Artifact.TheVariants as artifact
use Rattle.messages_certificates.specs.Artifact.{artifact_round}
use Rattle.simplex_record.specs.declared.owner.Owner.{Owner}
use Rattle.simplex_record.specs.Record.{Entry, taken, entry, entries, HasTaken}
use Rattle.simplex_record.specs.Rules.{MayFollow, MayTake}
use Rattle.simplex_record.specs.Lawful.{Fits, IsLawful}
use Rattle.simplex_record.proofs.Places.{Stands, stands}

module _ {S D P G C : Type 0} {attests : _} {certifies : _} {owner : Owner} (before after : List (Artifact S D P G C)) where
  module _ (x : Artifact S D P G C) (lawful : IsLawful {S = S} {D = D} {P = P} {G = G} {C = C} attests certifies owner (before ++ x ∷ after)) where
    -- a proposal whose notarization was taken before has room
    taken_has_room : (p : Proposal D) → HasTaken (entries before) (notarize p) → HasRoom owner.term_length p.round.view
    taken_has_room p here =
        let s : Stands entry before (taken (notarize p)) = stands entry before (taken (notarize p)) here in
        let fits : Fits attests certifies owner s.before s.x = lawful s.before (s.after ++ x ∷ after) s.x
        (ap (λ (l : List (Artifact S D P G C)). l ++ x ∷ after) s.is ∙ append_assoc s.before (s.x ∷ s.after) (x ∷ after)) in
        let may : MayTake owner.term_length (entries s.before) (notarize p) = subst (λ (e : Entry D). MayFollow owner.term_length (entries s.before) e) s.gives fits.follows in
        may.room

  -- so has each artifact
  pub has_room : (x : Artifact S D P G C) → IsLawful {S = S} {D = D} {P = P} {G = G} {C = C} attests certifies owner (before ++ x ∷ after) → HasRoom owner.term_length (artifact_round x).view
  has_room (artifact.Notarize v) lawful = (lawful before after (artifact.Notarize v) refl).follows.room
  has_room (artifact.Notarization c) lawful = (lawful before after (artifact.Notarization c) refl).follows.room
  has_room (artifact.Certification round verdict) lawful =
      let p = (lawful before after (artifact.Certification round verdict) refl).follows.notarized in
      rw p.1 at (taken_has_room (artifact.Certification round verdict) lawful p.0 p.2)
  has_room (artifact.Nullify v) lawful = (lawful before after (artifact.Nullify v) refl).follows.room
  has_room (artifact.Nullification c) lawful = (lawful before after (artifact.Nullification c) refl).follows.room
  has_room (artifact.Finalize v) lawful = taken_has_room (artifact.Finalize v) lawful v.proposal (lawful before after (artifact.Finalize v) refl).follows.notarized
  has_room (artifact.Finalization c) lawful = (lawful before after (artifact.Finalization c) refl).follows.room
