-- What happens to a node, and what it does. Histories hold the newest first.
use Rattle.std.specs.Prelude.{◌≡◌, ℕ, Bool, true, false, List, All, Option}
use Rattle.types_core.specs.declared.context.Context.{Context}
use Rattle.types_core.specs.declared.position.Round.{Round}
use Rattle.types_core.specs.declared.proposal.Proposal.{Proposal}
use Rattle.messages_certificates.specs.declared.artifact.Artifact.{Artifact}
use Rattle.messages_certificates.specs.declared.certificate.Certificate.{Certificate}
use Rattle.messages_certificates.specs.declared.nullify.Nullify.{Nullify}
use Rattle.messages_certificates.specs.ProposalCertificate.{Finalization}
use Rattle.simplex_messages.specs.declared.vote.Vote.{Vote}
use Rattle.types_terms.specs.declared.kind.Kind.{Kind}
use Rattle.batcher_verifier.specs.declared.batch.Batch.{Batch}
use Rattle.voter_history.specs.declared.timeout_reason.TimeoutReason.{TimeoutReason}
use Rattle.simplex_resolver.specs.declared.ask.Ask.{Ask}
use Rattle.simplex_resolver.specs.declared.ask.Kind as repair

-- what comes of an answer on a proposal: it counts; what the proposal was bound to had fallen; or nothing changes
pub data Outcome : Type 0 where
  Counts : Outcome
  Falls : Outcome
  Passes : Outcome

-- A point stands only where it took effect
pub data Point (S D P G C : Type 0) : Type 0 where
  -- the opening, at this moment; what the record said, of a notarize with whether its proposal was taken; the record was gone through
  Opened : ℕ → Point S D P G C
  Found : Artifact S D P G C → Bool → Point S D P G C
  Began : Point S D P G C
  -- what came: the time; a vote of another member, a certificate, an ask of a member for a view
  Told : ℕ → Point S D P G C
  Heard : Vote S D P G C → Point S D P G C
  Came : Certificate S D P G C → Point S D P G C
  Wanted : ℕ → ℕ → Point S D P G C
  -- the application's answers: to the build of this number, for a handoff or not, in this context, with whether it takes effect; on
  -- the proposal of a view that was to be checked under this number; a verdict on a view
  Built : ℕ → Bool → Context D P → Option D → Bool → Point S D P G C
  Checked : ℕ → ℕ → Option Bool → Outcome → Point S D P G C
  Judged : Round → Bool → Point S D P G C
  -- of the votes of a view: they learn who leads; their proposal is forwarded to the voter; a construction of a kind gave this
  Leads : ℕ → ℕ → Point S D P G C
  Forwards : ℕ → Proposal D → Point S D P G C
  Constructs : ℕ → Kind → Batch (Certificate S D P G C) → Point S D P G C
  -- a reason to give a view up counts; the next timeout was polled
  Latches : ℕ → TimeoutReason → Point S D P G C
  Polls : Point S D P G C
  -- asked of the application: a build under this number, for a handoff or not; a verification; a verdict. A build in a view is given
  -- back, or left behind with its view. A verdict on a view waits for the view before
  AsksBuild : ℕ → Bool → Context D P → Point S D P G C
  AsksVerify : ℕ → Context D P → Proposal D → Point S D P G C
  AsksCertify : Proposal D → Point S D P G C
  GivesBack : ℕ → ℕ → Point S D P G C
  LeavesBehind : ℕ → Point S D P G C
  PutsOff : ℕ → Point S D P G C
  -- asked of other members: a view, of one or of all. What a view's proposal lacks of another view was asked for
  Asks : ℕ → Ask → Option ℕ → Point S D P G C
  Resolves : ℕ → repair.Kind → ℕ → Point S D P G C
  -- an own vote, made now; the recorded nullify once more, with the best certificate to enter its view by
  Votes : Vote S D P G C → Point S D P G C
  Repeats : Nullify S D P G C → Option (Certificate S D P G C) → Point S D P G C
  -- the record was rewritten: it begins with this finalization now. No act of the node's own, since it is asked for it
  Rewrote : Finalization S D P G C → Point S D P G C

abbrev pub History : (S D P G C : Type 0) → Type 0
History S D P G C = List (Point S D P G C)

-- a point is an act of the node's own, neither part of an opening's reading nor something that came
abbrev pub is_act : {S D P G C : Type 0} → Point S D P G C → Bool
is_act (Opened now) = false
is_act (Found x taken) = false
is_act Began = false
is_act (Told now) = false
is_act (Heard v) = false
is_act (Came c) = false
is_act (Wanted member view) = false
is_act (Built number handoff context payload took) = false
is_act (Checked number view answer outcome) = false
is_act (Judged r ok) = false
is_act (Rewrote c) = false
is_act p = true

abbrev pub AreActs : {S D P G C : Type 0} → List (Point S D P G C) → Type 0
AreActs points = All (λ p. is_act p ≡ true) points
