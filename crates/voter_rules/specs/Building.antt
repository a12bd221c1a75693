-- What a request asks to build on, and what is built.
use Rattle.std.specs.Prelude.{◌≡◌, ℕ, List, Some, ⊤}
use Rattle.types_core.specs.declared.context.Context.{Context}
use Rattle.types_core.specs.declared.proposal.Proposal.{Proposal}
use Rattle.types_core.specs.declared.scheme.Scheme.{Ghosts}
use Rattle.voter_history.specs.History.{Setup, Point}
use Rattle.voter_history.specs.Leaders.{leader}
use Rattle.voter_rules.specs.declared.proposal_request.ProposalRequest.{ProposalRequest}
use Rattle.voter_rules.specs.declared.proposal_request.ProposalRequest.TheVariants as request

-- what a request asks to build on
abbrev pub context_of : {D P : Type 0} → ProposalRequest D P → Context D P
context_of (request.Prepare context) = context
context_of (request.Propose context) = context

-- a request is one for a handoff
abbrev pub IsPrepared : {D P : Type 0} → ProposalRequest D P → Type 0
IsPrepared (request.Prepare context) = ⊤
IsPrepared (request.Propose context) = ⊥

-- the proposal of this payload in a context
abbrev pub proposal_on : {D P : Type 0} → Context D P → D → Proposal D
proposal_on context payload = record { round = context.round; parent = context.parent.0; payload = payload }

-- a context is of this member's epoch, and names this member's key
pub record IsContextOf {S D P G C : Type 0} (g : Ghosts S D P G C) (s : Setup S C) (context : Context D P) : Type 0 where
  pub epoch : context.round.epoch ≡ s.epoch
  pub index : ℕ
  pub me : s.me ≡ Some index
  pub key : context.leader ≡ g.key_of s.scheme index

-- the key of the member that leads the view
pub record IsKeyOfLeader {S D P G C : Type 0} (g : Ghosts S D P G C) (s : Setup S C) (h : List (Point S D P G C)) (view : ℕ) (key : P) : Type 0 where
  pub index : ℕ
  pub known : leader s h view ≡ Some index
  pub names : key ≡ g.key_of s.scheme index
