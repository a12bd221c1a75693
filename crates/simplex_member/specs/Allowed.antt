-- What may come next: what was due, or came, by the layers' own words.
use Rattle.std.specs.Prelude.{◌≡◌, ◌≢◌, ◌⊎◌, ◌↔◌, ◌+◌, ◌<◌, ◌≤◌, ℕ, Bool, true, false, [], ◌∷◌, Contains, Option, Some, None, IfSome, IsTrue, ⊤}
use Rattle.types_core.specs.declared.context.Context.{Context}
use Rattle.types_core.specs.declared.proposal.Proposal.{Proposal}
use Rattle.types_core.specs.declared.scheme.Scheme.{Ghosts}
use Rattle.types_core.specs.Positions.{HasRoom}
use Rattle.messages_certificates.specs.declared.artifact.Artifact.{Artifact}
use Rattle.messages_certificates.specs.declared.artifact.Artifact.TheVariants as artifact
use Rattle.messages_certificates.specs.declared.certificate.Certificate.{Certificate}
use Rattle.messages_certificates.specs.declared.nullify.Nullify.{Nullify}
use Rattle.messages_certificates.specs.ProposalCertificate.{Finalization}
use Rattle.simplex_messages.specs.declared.vote.Vote.{Vote}
use Rattle.simplex_messages.specs.declared.vote.Vote.TheVariants as vote
use Rattle.messages_certificates.specs.Certificate.{certificate_round}
use Rattle.simplex_messages.specs.VoteParts.{vote_round, vote_signer}
use Rattle.types_terms.specs.Windows.{Retains}
use Rattle.simplex_record.specs.Lawful.{Fits}
use Rattle.simplex_record.specs.Rules.{HasParentBelow}
use Rattle.voter_history.specs.declared.timeout_reason.TimeoutReason.{TimeoutReason}
use Rattle.voter_history.specs.declared.timeout_reason.TimeoutReason.TheVariants as reason
use Rattle.voter_history.specs.Held.{held, Agrees}
use Rattle.voter_history.specs.Past as past
use Rattle.voter_rounds.specs.Rounds.{Takes}
use Rattle.voter_history.specs.History.{seen}
use Rattle.voter_history.specs.Leaders.{leader}
use Rattle.voter_rules.specs.Ancestry.{held_at, IsSteady}
use Rattle.voter_rules.specs.Answers.{best_certificate}
use Rattle.voter_rules.specs.VotesDue.{NotarizeIsDue, FinalizeIsDue}
use Rattle.voter_rules.specs.GivingUp.{NullifyIsDue, MayLatch, IsTracked}
use Rattle.voter_rules.specs.Requests.{BuildIsDue, IsHandoff, IsCaptured, IsSuperseded, StopsHandoff, VerifyIsDue, IsInvalid, CertifyIsDue, IsPutOff, CertificateIsWanted}
use Rattle.voter_history.specs.declared.handoff_abandoned_reason.HandoffAbandonedReason.{HandoffAbandonedReason}
use Rattle.voter_rules.specs.Building.{IsContextOf, IsKeyOfLeader, proposal_on}
use Rattle.voter_laws.specs.Missing.{IsMissing}
use Rattle.batcher_verifier.specs.Votes.{vote_statement}
use Rattle.batcher_verifier.specs.History.{forwardable, leader_of, next_kind, takes}
use Rattle.batcher_verifier.specs.ConstructionResult.{IsBatch}
use Rattle.simplex_batcher.specs.Queries.{has_nullify}
use Rattle.simplex_resolver.specs.declared.ask.Ask.{Ask}
use Rattle.simplex_resolver.specs.declared.ask.Kind as repair
use Rattle.simplex_resolver.specs.declared.ask.Kind.TheVariants as repair_kind
use Rattle.simplex_resolver.specs.Outstanding.{IsOutstanding}
use Rattle.simplex_member.specs.Asked.{HasNumber, IsAnswered, IsAwaited, IsInWindow, IsPending, IsSent, ancestry, backfill, build_at, check_at, last_heard, next_number}
use Rattle.simplex_member.specs.Layers.{current_of, finalized_of, is_begun, known_of, latest, reason_of, repair_of, stage, voter_of, votes_of, votes_setup, Collected, IsUp}
use Rattle.simplex_member.specs.Packet.{Formats, IsRecordable}
use Rattle.simplex_member.specs.Point.{Outcome, Counts, Falls, Passes, Point, Opened, Found, Began, Told, Heard, Came, Wanted, Built, Checked, Judged, Leads, Forwards, Constructs, Latches, Polls, AsksBuild, AsksVerify, AsksCertify, GivesBack, LeavesBehind, PutsOff, Asks, Resolves, Votes, Repeats, Rewrote, History}
use Rattle.simplex_member.specs.Recorded.{added_by, kept_of, next_floor, record_of, recorded_by}
use Rattle.simplex_member.specs.Refusals.{AdmitsVote}
use Rattle.simplex_member.specs.Setup.{Setup, IsInTime, owner_of, member_of}

module _ {S D P G C : Type 0} (g : Ghosts S D P G C) (f : Formats S D P G C) (s : Setup S D C) where
  -- ---- what came

  -- a vote of another member is accepted
  pub record IsAccepted (h : History S D P G C) (v : Vote S D P G C) : Type 0 where
    pub member : vote_signer v < g.size s.voter.scheme
    pub another : vote_signer v ≢ s.me
    pub epoch : (vote_round v).epoch ≡ s.voter.epoch
    pub window : AdmitsVote g f s h (vote_round v).view
    pub room : HasRoom s.voter.length (vote_round v).view
    pub parent : HasParentBelow (vote_statement v)
    pub free : takes (votes_setup s g h (vote_round v).view) (votes_of s h (vote_round v).view) (vote_signer v) v ≡ true

  -- an ask of another member is answered
  pub record IsHeeded (member view : ℕ) : Type 0 where
    pub some : member < g.size s.voter.scheme
    pub another : member ≢ s.me
    pub from_one : 1 ≤ view

  -- an own build may still be taken: its view is tracked, its parent may be used, and its view was not given up and holds none or the
  -- same
  pub record MayBeBuilt (h : History S D P G C) (context : Context D P) (payload : D) : Type 0 where
    pub tracked : IsTracked s.voter (voter_of s h) context.round.view
    pub captured : IsCaptured (member_of s) (known_of s h) context.round.view context.parent.0 context.parent.1
    pub not_given_up : past.has_nullified (seen s.voter (voter_of s h) context.round.view) ≡ false
    pub agrees : Agrees (held (past.offers (seen s.voter (voter_of s h) context.round.view))) (proposal_on context payload)

  -- an answer to a build takes effect: the payload may be taken, or that there is none counts
  abbrev pub BuildCounts : History S D P G C → Context D P → Option D → Type 0
  BuildCounts h context (Some payload) = MayBeBuilt h context payload
  BuildCounts h context None = MayLatch s.voter (voter_of s h) context.round.view reason.MissingProposal

  -- an answer on a proposal counts: it is good, and its view is tracked; or the reason that it isn't counts
  abbrev pub AnswerCounts : History S D P G C → ℕ → Option Bool → Type 0
  AnswerCounts h view (Some true) = IsTracked s.voter (voter_of s h) view
  AnswerCounts h view answer = MayLatch s.voter (voter_of s h) view (reason_of answer)

  -- what comes of an answer on a proposal
  abbrev pub ComesOf : History S D P G C → ℕ → Option Bool → Outcome → Type 0
  ComesOf h view answer Counts = IsSteady (member_of s) (known_of s h) view × AnswerCounts h view answer
  ComesOf h view answer Falls = ¬ IsSteady (member_of s) (known_of s h) view
  ComesOf h view answer Passes = IsSteady (member_of s) (known_of s h) view × ¬ AnswerCounts h view answer

  -- ---- what is due

  -- the leader of the current view is another member that was silent too long at a moment
  pub record IsSilent (h : History S D P G C) (now : ℕ) : Type 0 where
    pub index : ℕ
    pub known : leader s.voter (voter_of s h) (current_of s h) ≡ Some index
    pub another : index ≢ s.me
    pub time : ℕ
    pub within : s.silence ≡ Some time
    pub reached : last_heard h index + time ≤ now

  -- a nullify of a view's leader, another member, was accepted
  pub record LeaderGaveUp (h : History S D P G C) (view : ℕ) : Type 0 where
    pub index : ℕ
    pub known : leader s.voter (voter_of s h) view ≡ Some index
    pub another : index ≢ s.me
    pub gave_up : has_nullify (votes_of s h view) index ≡ true

  -- there is this reason to give a view up
  abbrev pub HasReason : History S D P G C → ℕ → TimeoutReason → Type 0
  HasReason h view reason.LeaderNullify = LeaderGaveUp h view
  HasReason h view reason.Inactivity = (view ≡ current_of s h) × IsSilent h (latest h)
  HasReason h view reason.InvalidProposal = (p : Proposal D) × IsInvalid (member_of s) (known_of s h) view p
  HasReason h view why = ⊥

  -- a reason to give a view up is due: it is there and counts, and none came before, nor was the view decided
  pub record LatchIsDue (h : History S D P G C) (view : ℕ) (why : TimeoutReason) : Type 0 where
    pub there : HasReason h view why
    pub counts : MayLatch s.voter (voter_of s h) view why
    pub first : past.latch (seen s.voter (voter_of s h) view) ≡ None
    pub undecided : past.is_undecided (seen s.voter (voter_of s h) view) ≡ true

  -- once the current view was given up, it is known when that is due again
  abbrev pub RetryIsKnown : History S D P G C → Type 0
  RetryIsKnown h = past.RetryIsKnown (seen s.voter (voter_of s h) (current_of s h))

  -- a handoff is to stop: the reason why
  abbrev pub IsStopped : History S D P G C → Context D P → Type 0
  IsStopped h context = (why : HandoffAbandonedReason)
      × StopsHandoff (member_of s) (known_of s h) context.round.view context.parent.0 context.parent.1 (Some why)

  -- a build is to be given back: it is superseded, or it is for a handoff that is to stop
  abbrev pub IsGivenBack : History S D P G C → Bool → Context D P → Type 0
  IsGivenBack h handoff context =
      IsSuperseded (member_of s) (known_of s h) context.round.view context.parent.0 context.parent.1 ⊎ ((handoff ≡ true) × IsStopped h context)

  -- a build is asked for
  pub record AsksFor (h : History S D P G C) (number : ℕ) (handoff : Bool) (context : Context D P) : Type 0 where
    pub left : HasNumber h
    pub next : number ≡ next_number h
    pub due : BuildIsDue (member_of s) (known_of s h) context.round.view context.parent.0 context.parent.1
    pub names : IsContextOf g s.voter context
    pub handoff_is : IsTrue handoff ↔ IsHandoff (member_of s) (known_of s h) context.round.view context.parent.0 context.parent.1

  -- a verification is asked for
  pub record AsksToVerify (h : History S D P G C) (number : ℕ) (context : Context D P) (p : Proposal D) : Type 0 where
    pub left : HasNumber h
    pub next : number ≡ next_number h
    pub due : VerifyIsDue (member_of s) (known_of s h) context.round.view p context.parent.1
    pub parent : context.parent.0 ≡ p.parent
    pub epoch : context.round.epoch ≡ s.voter.epoch
    pub leader : IsKeyOfLeader g s.voter (voter_of s h) context.round.view context.leader

  -- why a view is asked for: to leave it behind; since a verdict waits for its notarization; since its certificate is missing to a
  -- proposal, of whose leader it is asked
  abbrev pub IsSought : History S D P G C → ℕ → Ask → Option ℕ → Type 0
  IsSought h view ask None =
      ((ask ≡ backfill) × IsOutstanding s.voter.length (repair_of f h) view)
      ⊎ ((ask ≡ ancestry repair_kind.Notarization) × ((waiting : ℕ) × CertificateIsWanted (member_of s) (known_of s h) waiting view))
  IsSought h view ask (Some target) = (kind : repair.Kind) × (proposal : ℕ)
      × (ask ≡ ancestry kind) × IsMissing (member_of s) (known_of s h) proposal kind view × (leader s.voter (voter_of s h) proposal ≡ Some target)

  -- an ask is due: it is sought, or stands, is not settled, and wasn't sent to the same before, or goes again; and a view to leave behind
  -- is among the first of those. What is put off or resolved waits for none of that: asks for it are in no window
  pub record AskIsDue (h : History S D P G C) (view : ℕ) (ask : Ask) (to : Option ℕ) : Type 0 where
    pub sought : IsSought h view ask to ⊎ IsPending h view ask to
    pub first : ¬ IsSent f s h view ask to
    pub within : ask ≡ backfill → IsInWindow f s h view

  -- a verdict is put off: what it waits for was asked for, where that isn't there
  pub record MayPutOff (h : History S D P G C) (view : ℕ) : Type 0 where
    pub required : ℕ
    pub due : IsPutOff (member_of s) (known_of s h) view required
    pub asked : CertificateIsWanted (member_of s) (known_of s h) view required → IsAnswered f s h required (ancestry repair_kind.Notarization) None

  -- what a view's proposal lacks was asked for, of the view's leader
  pub record MayResolve (h : History S D P G C) (view : ℕ) (kind : repair.Kind) (u : ℕ) : Type 0 where
    pub missing : IsMissing (member_of s) (known_of s h) view kind u
    pub index : ℕ
    pub leads : leader s.voter (voter_of s h) view ≡ Some index
    pub asked : IsAnswered f s h u (ancestry kind) (Some index)

  -- a nullify of the current view is due, and it was not given up before; or it was
  abbrev pub GivesUp : History S D P G C → ℕ → Bool → Type 0
  GivesUp h view again = (view ≡ current_of s h) × NullifyIsDue s.voter (voter_of s h) (latest h)
      × (past.has_nullified (seen s.voter (voter_of s h) view) ≡ again)

  -- an own vote is due
  abbrev pub VoteIsDue : History S D P G C → Vote S D P G C → Type 0
  VoteIsDue h (vote.Notarize v) = NotarizeIsDue (member_of s) (known_of s h) v.proposal.round.view
      × (held_at (member_of s) (known_of s h) v.proposal.round.view ≡ Some v.proposal)
  VoteIsDue h (vote.Nullify v) = GivesUp h v.round.view false
  VoteIsDue h (vote.Finalize v) = FinalizeIsDue (member_of s) (known_of s h) v.proposal.round.view
      × (held_at (member_of s) (known_of s h) v.proposal.round.view ≡ Some v.proposal)

  -- the nullify is due once more: the recorded one, with the best certificate to enter its view by
  pub record RepeatIsDue (h : History S D P G C) (v : Nullify S D P G C) (best : Option (Certificate S D P G C)) : Type 0 where
    pub due : GivesUp h v.round.view true
    pub recorded : Contains (record_of h) (artifact.Nullify v)
    pub best_is : best ≡ best_certificate s.voter (voter_of s h)

  -- the record may be rewritten so that it begins with this finalization, where terms have views
  pub record MayRewrite (h : History S D P G C) (c : Finalization S D P G C) : Type 0 where
    pub terms : 0 < s.voter.length
    pub next : next_floor (kept_of s.voter.length h) ≡ Some c

  -- ---- all together

  -- a point was due, or came, and is taken so
  abbrev pub IsDue : History S D P G C → Point S D P G C → Type 0
  IsDue h (Opened now) = IsInTime s now
  IsDue h (Found x taken) = Takes (seen s.voter (voter_of s h)) x taken
  IsDue h Began = ⊤
  IsDue h (Told now) = (latest h ≤ now) × IsInTime s now
  IsDue h (Heard v) = IsAccepted h v
  IsDue h (Came c) = Retains (finalized_of s h) s.voter.retention (certificate_round c).view
  IsDue h (Wanted member view) = IsHeeded member view
  IsDue h (Built number handoff context payload took) = (build_at h number ≡ Some (handoff, context))
      × (IsTrue took ↔ BuildCounts h context payload)
  IsDue h (Checked number view answer outcome) = (check_at h number ≡ Some view) × ComesOf h view answer outcome
  IsDue h (Judged r ok) = IsAwaited s h r.view
  IsDue h (Leads view index) = IsUp (stage s h view) × (leader_of (votes_of s h view) ≡ None) × (leader s.voter (voter_of s h) view ≡ Some index)
  IsDue h (Forwards view p) = IsUp (stage s h view) × (forwardable (votes_of s h view) s.me ≡ Some p)
  IsDue h (Constructs view kind batch) = (stage s h view ≡ Collected) × (next_kind f.same (votes_setup s g h view) (votes_of s h view) ≡ Some kind)
      × IsBatch g f.same (votes_setup s g h view) kind (votes_of s h view) batch
  IsDue h (Latches view why) = LatchIsDue h view why
  IsDue h Polls = ¬ RetryIsKnown h
  IsDue h (AsksBuild number handoff context) = AsksFor h number handoff context
  IsDue h (AsksVerify number context p) = AsksToVerify h number context p
  IsDue h (AsksCertify p) = CertifyIsDue (member_of s) (known_of s h) p.round.view p
  IsDue h (GivesBack number view) = (handoff : Bool) × (context : Context D P) × (build_at h number ≡ Some (handoff, context))
      × (context.round.view ≡ view) × IsGivenBack h handoff context
  IsDue h (LeavesBehind number) = (handoff : Bool) × (context : Context D P) × (build_at h number ≡ Some (handoff, context))
      × (context.round.view < current_of s h)
  IsDue h (PutsOff view) = MayPutOff h view
  IsDue h (Asks view ask to) = AskIsDue h view ask to
  IsDue h (Resolves view kind u) = MayResolve h view kind u
  IsDue h (Votes v) = VoteIsDue h v
  IsDue h (Repeats v best) = RepeatIsDue h v best
  IsDue h (Rewrote c) = MayRewrite h c

  -- the opening comes first, then what the record said, and all else once that was gone through
  abbrev pub IsInOrder : History S D P G C → Point S D P G C → Type 0
  IsInOrder h (Opened now) = h ≡ []
  IsInOrder h (Found x taken) = (h ≢ []) × (is_begun h ≡ false)
  IsInOrder h Began = (h ≢ []) × (is_begun h ≡ false)
  IsInOrder h p = is_begun h ≡ true

  -- an artifact may stand behind what was recorded
  abbrev pub MayRecord : History S D P G C → Artifact S D P G C → Type 0
  MayRecord h x = Fits (g.attests s.voter.scheme) (g.certifies s.voter.scheme) (owner_of s) (record_of h) x

  -- what may come next: in order, due, what it records may stand behind the record, and what it adds to that can be read again.
  -- Of a vote that is due the rules on records ask nothing more (`due_may_be_recorded`): there the third is about who signed, and
  -- that it attests
  pub record Allowed (h : History S D P G C) (p : Point S D P G C) : Type 0 where
    pub order : IsInOrder h p
    pub due : IsDue h p
    pub fits : IfSome (recorded_by p) (MayRecord h)
    pub readable : IfSome (added_by p) (IsRecordable f)

  -- each point was allowed behind those before it
  abbrev pub AreAllowed : History S D P G C → Type 0
  AreAllowed [] = ⊤
  AreAllowed (p ∷ h) = Allowed h p × AreAllowed h
