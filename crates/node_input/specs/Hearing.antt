-- What comes of a vote that nothing refuses but other votes.
use Rattle.std.specs.Prelude.{◌∷◌, [], Option, Some, None, ℕ, List, if◌then◌else◌, map, option_to_list}
use Rattle.types_core.specs.declared.scheme.Scheme.{Ghosts}
use Rattle.simplex_messages.specs.declared.vote.Vote.{Vote}
use Rattle.types_terms.specs.declared.elector.Elector as elector
use Rattle.journal_single.specs.declared.disk.Disk as disk
use Rattle.batcher_admission.specs.declared.admission.Admission.{Admission}
use Rattle.simplex_member.specs.declared.action.Action.{Action}
use Rattle.simplex_member.specs.declared.refusal.Refusal.{Refusal}
use Rattle.simplex_member.specs.Deeds.{Deed, Blocks, Reports}
use Rattle.simplex_member.specs.First.{IsFirst}
use Rattle.simplex_member.specs.Packet.{Formats, Packet, of_vote}
use Rattle.simplex_member.specs.Point.{History, Heard}
use Rattle.simplex_member.specs.Setup.{Setup}
use Rattle.node_core.specs.declared.node_state.Core.{Core}
use Rattle.node_outbox.specs.Handing.{AddsDeeds}
use Rattle.node_core.specs.Keeps.{CoreKeeps}
use Rattle.node_input.specs.Refusing.{last_vote_tests, packet_refused_deeds}
use Rattle.node_core.specs.Taking.{IsTaken}

-- what is handed out for a vote of this sender by what the votes of its view answered: the report of one that was added, and for one that
-- blocks its sender that, and the report of the evidence
abbrev pub admission_deeds : {S D P G C : Type 0} → ℕ → Admission S D P G C → List (Deed S D P G C)
admission_deeds sender a = if a.added then map Reports (option_to_list a.report) else (if a.block then Blocks sender ∷ map Reports (option_to_list a.report) else [])

module _ {S L D P G C K : Type 0} (g : Ghosts S D P G C) (e : elector.Ghosts L S D P G C) (k : disk.Ghosts K) (f : Formats S D P G C) (s : Setup S D C) where
  -- a packet was refused for a reason: the node stands where it stood, and what is handed out for that is behind the actions before
  pub record IsRefused (new : Core S L D K P G C) (h : History S D P G C) (sender : ℕ) (x : Option (Packet S D P G C)) (r : Refusal) (before after : List (Action S D P G C)) : Type 0 where
    pub keeps : CoreKeeps g e k f s new h
    pub acts : AddsDeeds f before after (packet_refused_deeds g f s h sender x r)

  -- a vote was taken, or refused for the first reason by other votes
  abbrev pub IsHeard : Core S L D K P G C → History S D P G C → ℕ → Vote S D P G C → Option Refusal → List (Action S D P G C) → List (Action S D P G C) → Type 0
  IsHeard new h sender v None before after = IsFirst (last_vote_tests g f s h sender v) None × IsTaken g e k f s new h (Heard v) before after
  IsHeard new h sender v (Some r) before after = IsFirst (last_vote_tests g f s h sender v) (Some r) × IsRefused new h sender (Some (of_vote v)) r before after
