-- Verdicts that are asked for.
use Rattle.std.specs.Prelude.{◌≢◌, ◌<◌, List, [], All, AllPairs}
use Rattle.types_core.specs.declared.proposal.Proposal.{Proposal}
use Rattle.types_core.specs.declared.scheme.Scheme.{Ghosts}
use Rattle.types_terms.specs.declared.elector.Elector as elector
use Rattle.voter_rules.specs.Requests.{CertifyIsDue}
use Rattle.simplex_state.specs.declared.state.State.{State}
use Rattle.node_record.specs.declared.tables.Tables.{Tables}
use Rattle.simplex_member.specs.declared.action.Action.{Action}
use Rattle.simplex_member.specs.Layers.{known_of}
use Rattle.simplex_member.specs.Packet.{Formats}
use Rattle.simplex_member.specs.Point.{Point, History}
use Rattle.simplex_member.specs.Setup.{Setup, member_of}
use Rattle.node_requests.specs.Asking.{HasAsked}

module _ {S D C : Type 0} (s : Setup S D C) where
  -- the verdicts on these proposals are due, and no two are of one view
  pub record AreDueVerdicts {P G : Type 0} (h : History S D P G C) (ready : List (Proposal D)) : Type 0 where
    pub due : All (λ (p : Proposal D). CertifyIsDue (member_of s) (known_of s h) p.round.view p) ready
    pub ascend : AllPairs (λ (p q : Proposal D). p.round.view < q.round.view) ready

module _ {S L D P G C : Type 0} (g : Ghosts S D P G C) (e : elector.Ghosts L S D P G C) (f : Formats S D P G C) (s : Setup S D C) where
  -- the verdicts on these proposals were asked for
  pub record AsksForEach (voter : State S L D P G C) (tables : Tables S D P G C) (h : History S D P G C) (ready : List (Proposal D)) (before after : List (Action S D P G C)) : Type 0 where
    pub points : List (Point S D P G C)
    pub end : History S D P G C
    pub asked : HasAsked g e f s voter tables h points end before after
    pub some : ready ≢ [] → points ≢ []
