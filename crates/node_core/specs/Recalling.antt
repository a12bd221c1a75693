-- What is asked of the layers of a node that are told of a recorded artifact.
use Rattle.std.specs.Prelude.{◌≡◌, ℕ, Bool, true, List, Option, IsSome, is_none}
use Rattle.types_core.specs.declared.position.Round.{Round}
use Rattle.types_core.specs.declared.scheme.Scheme.{Ghosts}
use Rattle.types_core.specs.Positions.{HasRoom}
use Rattle.messages_certificates.specs.declared.artifact.Artifact.{Artifact}
use Rattle.messages_certificates.specs.declared.artifact.Artifact.TheVariants as artifact
use Rattle.messages_certificates.specs.Artifact.{artifact_round}
use Rattle.simplex_messages.specs.declared.vote.Vote.{Vote}
use Rattle.simplex_messages.specs.VoteParts.{vote_artifact, vote_round}
use Rattle.simplex_record.specs.declared.owner.Owner.{Owner}
use Rattle.simplex_record.specs.Lawful.{Verifies}
use Rattle.types_terms.specs.declared.elector.Elector as elector
use Rattle.batcher_verifier.specs.History.{recorded}
use Rattle.voter_history.specs.Past as past
use Rattle.voter_history.specs.History as views
use Rattle.voter_history.specs.History.{seen}
use Rattle.simplex_state.specs.declared.state.State.{State}
use Rattle.simplex_state.specs.State as voting
use Rattle.node_record.specs.declared.recorded.Recorded.{Recorded}
use Rattle.node_record.specs.Recorded.{HoldsRecord}
use Rattle.simplex_member.specs.declared.action.Action.{Action}
use Rattle.simplex_member.specs.Layers.{votes_of}
use Rattle.simplex_member.specs.Packet.{Formats}
use Rattle.simplex_member.specs.Point.{History}
use Rattle.simplex_member.specs.Recorded.{notarization_in}
use Rattle.simplex_member.specs.Setup.{Setup, IsInTime, owner_of}
use Rattle.node_core.specs.declared.layers.Layers.{Layers}
use Rattle.node_core.specs.GoingThrough.{AreNew, IsGoneThrough, IsRecordOf}
use Rattle.node_core.specs.SettingUp.{IsSetUp}
use Rattle.node_core.specs.declared.settings.Settings.{Settings}

module _ {S D P G C : Type 0} where
  -- where an artifact is a verdict, the voter knows the notarization that it is on
  abbrev pub IsOnKnown : views.Setup S C → List (views.Point S D P G C) → Artifact S D P G C → Type 0
  IsOnKnown s h x = (r : Round) (ok : Bool) → x ≡ artifact.Certification r ok → IsSome (past.notarization (seen s h r.view))

module _ {S D P G C : Type 0} where
  -- the record of some owner has a notarization of the view
  pub record HasNotarization (recorded : Recorded S D P G C) (view : ℕ) : Type 0 where
    pub owner : Owner
    pub xs : List (Artifact S D P G C)
    pub holds : HoldsRecord owner recorded xs
    pub some : IsSome (notarization_in xs view)

  -- where an artifact is a verdict, the record has the notarization that it is on
  abbrev pub IsOnRecorded : Recorded S D P G C → Artifact S D P G C → Type 0
  IsOnRecorded recorded x = (r : Round) (ok : Bool) → x ≡ artifact.Certification r ok → HasNotarization recorded r.view

module _ {S D P G C : Type 0} (g : Ghosts S D P G C) where
  -- the votes of its view take an artifact in: the view has room, it verifies, and no vote that they accepted stands in its way
  pub record CanBeCounted (s : Setup S D C) (h : History S D P G C) (x : Artifact S D P G C) : Type 0 where
    pub room : HasRoom s.voter.length (artifact_round x).view
    pub verifies : Verifies (g.attests s.voter.scheme) (g.certifies s.voter.scheme) (owner_of s) x
    pub free : (v : Vote S D P G C) → x ≡ vote_artifact v → is_none (recorded (votes_of s h (vote_round v).view) v) ≡ true

module _ {S L D P G C : Type 0} (g : Ghosts S D P G C) (e : elector.Ghosts L S D P G C) where
  -- the voter stands at some history of some member, where it can learn of this artifact
  pub record CanLearn (voter : State S L D P G C) (x : Artifact S D P G C) : Type 0 where
    pub s : views.Setup S C
    pub h : List (views.Point S D P G C)
    pub keeps : voting.Keeps g e s voter h
    pub room : HasRoom s.length (artifact_round x).view
    pub known : IsOnKnown s h x

  -- some member's record is being gone through: these are still to come of what was found, and these actions were handed out
  pub record GoesThrough (formats : ℕ → Formats S D P G C) (recorded : Recorded S D P G C) (layers : Layers S L D P G C)
      (found rest : List (Artifact S D P G C)) (actions : List (Action S D P G C)) : Type 0 where
    pub members : ℕ
    pub now : ℕ
    pub s : Setup S D C
    pub record_is : IsRecordOf g s recorded found
    pub gone : IsGoneThrough g e (formats members) s now found rest layers actions

  -- some member's record is at hand, which is opened at this moment, on this payload of view 0 where the opening brings it, and nothing
  -- happened yet to what it keeps above it
  pub record MayBegin (formats : ℕ → Formats S D P G C) (recorded : Recorded S D P G C) (layers : Layers S L D P G C) (now : ℕ)
      (genesis : Option D) : Type 0 where
    pub members : ℕ
    pub s : Setup S D C
    pub found : List (Artifact S D P G C)
    pub genesis_is : genesis ≡ s.genesis
    pub in_time : IsInTime s now
    pub record_is : IsRecordOf g s recorded found
    pub new : AreNew g e (formats members) s now layers

module _ {S D P G C : Type 0} (g : Ghosts S D P G C) where
  -- a member that is set up so may go through this record at this moment
  pub record IsReady (s : Setup S D C) (settings : Settings S) (recorded : Recorded S D P G C) (now : ℕ) : Type 0 where
    pub set_up : IsSetUp s settings
    pub in_time : IsInTime s now
    pub found : List (Artifact S D P G C)
    pub record_is : IsRecordOf g s recorded found
