-- A record that is being gone through: what its next artifact asks of the layers holds.
use Rattle.std.proofs.Common.{◌≡◌, ◌≢◌, ◌++◌, ◌∷◌, ◌∙◌, ℕ, Bool, true, List, [], refl, ap, subst}
use Rattle.std.specs.Prelude.{IsSome, is_none}
use Rattle.types_core.specs.declared.position.Round.{Round}
use Rattle.types_core.specs.declared.scheme.Scheme.{Ghosts}
use Rattle.types_core.specs.Positions.{HasRoom}
use Rattle.messages_certificates.specs.declared.artifact.Artifact.{Artifact}
use Rattle.messages_certificates.specs.declared.artifact.Artifact.TheVariants as artifact
use Rattle.messages_certificates.specs.declared.certificate.Certificate.{Certificate}
use Rattle.messages_certificates.specs.Artifact.{artifact_round}
use Rattle.messages_certificates.specs.Certificate.{certificate_statement}
use Rattle.simplex_messages.specs.declared.vote.Vote.{Vote}
use Rattle.simplex_messages.specs.VoteParts.{vote_artifact, vote_round}
use Rattle.simplex_record.specs.Lawful.{Fits}
use Rattle.simplex_record.specs.Record.{entries, entry}
use Rattle.simplex_record.specs.Rules.{MayFollow, MayJudge}
use Rattle.types_terms.specs.declared.elector.Elector as elector
use Rattle.batcher_verifier.specs.History.{recorded}
use Rattle.voter_history.specs.Past as past
use Rattle.voter_history.specs.History.{seen}
use Rattle.voter_laws.specs.StaysKnown.{WhatIsKnownStays}
use Rattle.voter_rounds.specs.Rounds.{Takes}
use Rattle.node_record.specs.declared.recorded.Recorded.{Recorded}
use Rattle.simplex_member.specs.declared.action.Action.{Action}
use Rattle.simplex_member.specs.Allowed.{Allowed, AreAllowed}
use Rattle.simplex_member.specs.Layers.{voter_of, votes_of}
use Rattle.simplex_member.specs.Packet.{Formats}
use Rattle.simplex_member.specs.Point.{Found}
use Rattle.simplex_member.specs.Recorded.{notarization_in, record_of}
use Rattle.simplex_member.specs.Refusals.{HasNoneLike}
use Rattle.simplex_member.specs.Setup.{owner_of}
use Rattle.node_core.specs.declared.layers.Layers.{Layers}
use Rattle.node_core.specs.GoingThrough.{IsRecordOf}
use Rattle.node_core.specs.Learning.{IsNew, IsUnknown, first_of}
use Rattle.node_core.specs.Recalling.{CanBeCounted, GoesThrough, IsOnKnown, IsOnRecorded}
use Rattle.node_core.specs.SaidRounds.{of_vote}
use Rattle.node_core.proofs.Gone.{reading-some, reading-unbegun}
use Rattle.node_core.proofs.Knowing.{notarizations-known}
use Rattle.node_core.proofs.Recalled.{notarization-stays, notarization-there}

module _ {S L D P G C : Type 0} (g : Ghosts S D P G C) (e : elector.Ghosts L S D P G C) (formats : ℕ → Formats S D P G C) (recorded_ : Recorded S D P G C) (layers : Layers S L D P G C)
    (found rest : List (Artifact S D P G C)) (x : Artifact S D P G C) (actions : List (Action S D P G C)) (t : GoesThrough g e formats recorded_ layers found (x ∷ rest) actions) where
  -- all of the record, of which this is the next
  pub whole : IsRecordOf g t.s recorded_ (record_of t.gone.h ++ x ∷ rest)
  whole = subst (λ (xs : List (Artifact S D P G C)). IsRecordOf g t.s recorded_ xs) t.gone.behind t.record_is

  -- it may stand there
  pub fits : Fits (g.attests t.s.voter.scheme) (g.certifies t.s.voter.scheme) (owner_of t.s) (record_of t.gone.h) x
  fits = whole.lawful (record_of t.gone.h) rest x refl

  -- it is new to the voter, where it is a certificate
  pub new : ((c : Certificate S D P G C) → AreAllowed g (formats t.members) t.s t.gone.h → t.gone.h ≢ [] → HasNoneLike g (formats t.members) t.s t.gone.h (certificate_statement c) → IsUnknown t.s.voter (voter_of t.s t.gone.h) c)
      → IsNew t.s.voter (voter_of t.s t.gone.h) x
  new unknown = λ c is. unknown c t.gone.allowed (reading-some t.now t.gone.h t.gone.reading)
      (first_of t.s.voter.length (entries (record_of t.gone.h)) c (subst (λ (y : Artifact S D P G C). MayFollow t.s.voter.length (entries (record_of t.gone.h)) (entry y)) is fits.follows))

  -- where it is a verdict, the notarization of its view is recorded before it
  may-judge : (r : Round) (ok : Bool) → x ≡ artifact.Certification r ok → MayJudge (entries (record_of t.gone.h)) r
  may-judge r ok is = subst (λ (y : Artifact S D P G C). MayFollow t.s.voter.length (entries (record_of t.gone.h)) (entry y)) is fits.follows

  pub known : WhatIsKnownStays S D P G C → IsOnKnown t.s.voter (voter_of t.s t.gone.h) x
  known stays = λ r ok is.
      let n = (may-judge r ok is).notarized in
      subst (λ (q : Round). IsSome (past.notarization (seen t.s.voter (voter_of t.s t.gone.h) q.view))) n.1 (notarizations-known stays t.s t.now t.gone.h t.gone.reading n.0 n.2)

  pub on-recorded : IsOnRecorded recorded_ x
  on-recorded = λ r ok is.
      let n = (may-judge r ok is).notarized in
      let there : IsSome (notarization_in (record_of t.gone.h) r.view) = subst (λ (q : Round). IsSome (notarization_in (record_of t.gone.h) q.view)) n.1 (notarization-there (record_of t.gone.h) n.0 n.2) in
      record {
        owner = owner_of t.s;
        xs = record_of t.gone.h ++ x ∷ rest;
        holds = whole.holds;
        some = rw (notarization-stays (record_of t.gone.h) (x ∷ rest) r.view there) there;
      }

  -- it may come next
  pub allowed : (taken : Bool) → Takes (seen t.s.voter (voter_of t.s t.gone.h)) x taken → Allowed g (formats t.members) t.s t.gone.h (Found x taken)
  allowed taken takes = record { order = (reading-some t.now t.gone.h t.gone.reading, reading-unbegun t.now t.gone.h t.gone.reading); due = takes; fits = fits; readable = tt }

  -- and the votes of its view take it in
  pub counted : (taken : Bool) → Takes (seen t.s.voter (voter_of t.s t.gone.h)) x taken → HasRoom t.s.voter.length (artifact_round x).view
      → ((v : Vote S D P G C) → AreAllowed g (formats t.members) t.s (Found (vote_artifact v) taken ∷ t.gone.h) → HasRoom t.s.voter.length (vote_round v).view → is_none (recorded (votes_of t.s t.gone.h (vote_round v).view) v) ≡ true)
      → CanBeCounted g t.s t.gone.h x
  counted taken takes room free = record {
    room = room;
    verifies = fits.verifies;
    free = λ v is. free v
        (subst (λ (y : Artifact S D P G C). AreAllowed g (formats t.members) t.s (Found y taken ∷ t.gone.h)) is (allowed taken takes, t.gone.allowed))
        (subst (λ (r : Round). HasRoom t.s.voter.length r.view) (ap artifact_round is ∙ of_vote v) room);
  }
