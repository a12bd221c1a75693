-- What follows from the member model, as statements. Each is proved where a function without a body has it as a clause (`laws.rt`): what
-- stands in no clause there is not proved.
use Rattle.std.specs.Prelude.{◌≡◌, ◌≢◌, ◌↔◌, IsTrue, ◌⊎◌, ◌≤◌, ◌<◌, ◌+◌, ◌^◌, ◌++◌, ℕ, true, false, List, [], ◌∷◌, Contains, Option, Some, nat_lt, if◌then◌else◌, Bool, None, IfSome, option_map, map, All, ⊤}
use Rattle.types_core.specs.declared.attestation.Attestation.{Attestation}
use Rattle.types_core.specs.declared.context.Context.{Context}
use Rattle.types_core.specs.declared.position.Round.{Round}
use Rattle.types_core.specs.declared.proposal.Proposal.{Proposal}
use Rattle.types_core.specs.declared.scheme.Scheme.{Ghosts}
use Rattle.types_core.specs.Positions.{HasRoom}
use Rattle.types_core.specs.Subject.{Statement}
use Rattle.messages_certificates.specs.declared.artifact.Artifact.{Artifact}
use Rattle.messages_certificates.specs.declared.artifact.Artifact.TheVariants as artifact
use Rattle.messages_certificates.specs.declared.certificate.Certificate.{Certificate}
use Rattle.messages_certificates.specs.declared.certificate.Certificate.TheVariants as certificate
use Rattle.messages_certificates.specs.declared.nullify.Nullify.{Nullify}
use Rattle.messages_certificates.specs.ProposalCertificate.{Finalization, Notarization}
use Rattle.messages_certificates.specs.ProposalVote.{Finalize, Notarize}
use Rattle.simplex_messages.specs.declared.activity.Activity.{Activity}
use Rattle.simplex_messages.specs.declared.activity.Activity.TheVariants as activity
use Rattle.simplex_messages.specs.Guilt.{finalizes_in, notarizes_in, nullifies_in}
use Rattle.simplex_messages.specs.declared.vote.Vote.{Vote}
use Rattle.simplex_messages.specs.declared.vote.Vote.TheVariants as vote
use Rattle.messages_certificates.specs.Artifact.{certificate_artifact}
use Rattle.simplex_messages.specs.VoteParts.{vote_artifact}
use Rattle.messages_certificates.specs.Certificate.{certificate_round, certificate_statement, certified_by}
use Rattle.simplex_messages.specs.VoteParts.{vote_round, vote_signer}
use Rattle.types_terms.specs.declared.kind.Kind.{Kind}
use Rattle.types_terms.specs.Windows.{HasExactly}
use Rattle.simplex_record.specs.Record.{entries, entry, floor, last_finalized, HasVoted}
use Rattle.simplex_record.specs.Kept.{AreOfOneMember, IsBehind, IsFrom, StandsForAll}
use Rattle.simplex_record.specs.Rules.{HasParentBelow, MayFollow, MayJudge, StandsInTheWay}
use Rattle.simplex_record.specs.declared.owner.Owner.{Owner}
use Rattle.simplex_record.specs.Lawful.{Fits, IsEverLawful, IsLawful, IsRecorded, IsRefusedAt, VotesLawfully, rewritten}
use Rattle.simplex_record.specs.Chain.{MayFollowOnGround, OneChain, StandsOnGround}
use Rattle.simplex_record.specs.World.{World, IsCorrect, IsHonest, IsSound}
use Rattle.simplex_record.specs.Agreement.{OneProposalAView, NoFinalizedViewNullified, NoFinalizedViewSkipped}
use Rattle.simplex_batcher.specs.Admission.{IsBlocked}
use Rattle.batcher_verifier.specs.declared.batch.Batch.{Batch}
use Rattle.batcher_verifier.specs.Votes.{vote_attestation, vote_statement}
use Rattle.batcher_verifier.specs.ConstructionResult.{HasFailed, IsBatch, IsFounded}
use Rattle.batcher_verifier.specs.History as votes
use Rattle.batcher_verifier.specs.Lawful as lawful
use Rattle.types_core.specs.Batching.{AreFailing}
use Rattle.batcher_verifier.specs.Quorums.{AllCertified}
use Rattle.voter_history.specs.Past as past
use Rattle.voter_history.specs.History.{later, scheduled_leader, seen}
use Rattle.voter_rules.specs.Ancestry.{held_at}
use Rattle.voter_rules.specs.VotesDue.{NotarizeIsDue}
use Rattle.voter_rules.specs.GivingUp.{IsTracked}
use Rattle.voter_laws.specs.Matching as voter
use Rattle.voter_laws.specs.Matching.{IsOrderly, IsBound, round_of}
use Rattle.voter_laws.specs.Placing.{AreOfTheirViews}
use Rattle.voter_laws.specs.Recording.{EachRecordIsKnown}
use Rattle.journal_single.specs.Record.{IsForeign, Reads}
use Rattle.simplex_member.specs.declared.action.Reply.{Reply}
use Rattle.simplex_member.specs.declared.event.Channel.{Channel}
use Rattle.simplex_member.specs.declared.event.Channel.TheVariants as channel
use Rattle.simplex_member.specs.declared.event.Event.{Event}
use Rattle.simplex_member.specs.declared.event.Event.TheVariants as event
use Rattle.simplex_member.specs.Allowed.{Allowed, AreAllowed, RepeatIsDue, VoteIsDue}
use Rattle.simplex_member.specs.Asked.{IsAwaited, build_at, check_at}
use Rattle.simplex_member.specs.declared.refusal.Refusal.{Refusal}
use Rattle.simplex_member.specs.First.{IsFirst}
use Rattle.simplex_member.specs.Refusals.{refused_deeds, tests}
use Rattle.batcher_admission.specs.Evidence.{as_report}
use Rattle.simplex_resolver.specs.declared.ask.Ask.{Ask}
use Rattle.simplex_resolver.specs.Answers.{produced}
use Rattle.simplex_resolver.specs.RepairHistory as repair
use Rattle.simplex_member.specs.Deeds.{Deed, Sends, Serves, Blocks, Reports, all_deeds, deeds_of}
use Rattle.simplex_member.specs.Layers.{current_of, finalized_of, floor_of, is_begun, known_of, repair_of, stage, voter_of, votes_of, votes_setup, Collected, IsUp}
use Rattle.simplex_member.specs.Lives.{Life, Lives, Members, LiveByNodes, AtMostFLie, AreFaithful, HandedOut, CameIn, IsHonestVote, WasBrought, WasHanded, points_of}
use Rattle.simplex_member.specs.Member.{AreOpening, Goes, NoneDue, Run, AreStep, after}
use Rattle.simplex_member.specs.Packet.{Formats, IsReadable, IsRecordable, Packet, of_vote, of_certificate, of_ask, packet_channel, packet_of}
use Rattle.simplex_member.specs.Point.{Point, Opened, Began, Constructs, Heard, Wanted, Asks, Repeats, Votes, History}
use Rattle.simplex_member.specs.Recorded.{added_by, fresh_of, kept_of, notarization_in, record_of, recorded_by, reported}
use Rattle.simplex_member.specs.Setup.{Setup, DeadlinesLieAhead, GoesByMembers, IsInTime, IsOfOneMember, owner_of, member_of}

-- payloads that are compared as one are one
abbrev pub IsExact : {S D P G C : Type 0} → Formats S D P G C → Type 0
IsExact {D = D} f = (x y : D) → IsTrue (f.same x y) ↔ (x ≡ y)

-- what the model's laws take from those of the votes of a round
pub record RoundLaws {S D P G C : Type 0} (g : Ghosts S D P G C) (same : D → D → Bool) : Type 0 where
  pub verdicts : (s : votes.Setup S) (h : votes.History S D P G C) (kind : Kind) (x : Statement D) (failing : List ℕ) → lawful.IsLawful same g.attests s h → votes.context s kind h ≡ Some x
      → AreFailing (λ i a. g.attests s.scheme i x a) (map vote_attestation (votes.waiting same s kind h)) failing → lawful.IsRight same g.attests s h kind failing
  pub founded : (s : votes.Setup S) (h : votes.History S D P G C) (kind : Kind) (batch : Batch (Certificate S D P G C)) → lawful.IsLawful same g.attests s h → IsBatch g same s kind h batch → IfSome batch.certificate (IsFounded g s kind h)
  pub failed : (s : votes.Setup S) (h : votes.History S D P G C) (kind : Kind) (batch : Batch (Certificate S D P G C)) → lawful.IsLawful same g.attests s h → IsBatch g same s kind h batch → All (HasFailed g.attests s kind h) batch.invalid.items
  pub selected : (s : votes.Setup S) (h : votes.History S D P G C) → lawful.IsLawful same g.attests s h → IfSome (votes.selected h) (λ p. p.round ≡ s.round)
  pub unfinished : (s : votes.Setup S) (h : votes.History S D P G C) (kind : Kind) → 0 < s.needed → votes.is_due same s kind h ≡ true → votes.is_complete kind h ≡ false
  pub waiting : (s : votes.Setup S) (h : votes.History S D P G C) (kind : Kind) (v : Vote S D P G C) → Contains (votes.waiting same s kind h) v → Contains (votes.accepted h) v
  pub verified : (s : votes.Setup S) (h : votes.History S D P G C) (kind : Kind) (v : Vote S D P G C) → Contains (votes.verified same s kind h) v → Contains (votes.accepted h) v
  pub stated : (s : votes.Setup S) (h : votes.History S D P G C) (kind : Kind) (x : Statement D) → lawful.IsLawful same g.attests s h → votes.context s kind h ≡ Some x
      → All (λ v. vote_statement v ≡ x) (votes.waiting same s kind h)
  pub no_quorum_lost : (s : votes.Setup S) (h : votes.History S D P G C) → s.is_skipped ≡ false → lawful.IsLawful same g.attests s h → votes.next_kind same s h ≡ None → AllCertified g.attests s h

-- what they take from the laws of records: an empty one is lawful, and one more artifact that fits keeps a lawful one so
pub record RecordLaws {S D P G C : Type 0} (g : Ghosts S D P G C) : Type 0 where
  pub first : (own : S) (owner : Owner) → IsLawful {S = S} {P = P} (g.attests own) (g.certifies own) owner []
  pub further : (own : S) (owner : Owner) (before : List (Artifact S D P G C)) (x : Artifact S D P G C) → IsLawful (g.attests own) (g.certifies own) owner before → Fits (g.attests own) (g.certifies own) owner before x
      → IsLawful (g.attests own) (g.certifies own) owner (before ++ x ∷ [])

-- and of the three lists of a member: of all that it ever recorded, of what its opening found and recorded since, and of what is kept
pub record ListLaws {S D P G C : Type 0} (g : Ghosts S D P G C) : Type 0 where
  pub first : (own : S) (owner : Owner) → AreOfOneMember {S = S} {P = P} (g.attests own) (g.certifies own) owner [] [] []
  pub opens : (own : S) (owner : Owner) (ever opened kept : List (Artifact S D P G C)) → AreOfOneMember (g.attests own) (g.certifies own) owner ever opened kept
      → AreOfOneMember (g.attests own) (g.certifies own) owner ever kept kept
  pub records : (own : S) (owner : Owner) (ever opened kept : List (Artifact S D P G C)) (x : Artifact S D P G C) → 0 < owner.term_length
      → AreOfOneMember (g.attests own) (g.certifies own) owner ever opened kept → IsFrom (floor (entries opened)) (entry x) → IsBehind (floor (entries kept)) (entry x)
      → Fits (g.attests own) (g.certifies own) owner opened x → AreOfOneMember (g.attests own) (g.certifies own) owner (ever ++ x ∷ []) (opened ++ x ∷ []) (kept ++ x ∷ [])
  pub rewrites : (own : S) (owner : Owner) (ever opened kept : List (Artifact S D P G C)) (c : Finalization S D P G C) → AreOfOneMember (g.attests own) (g.certifies own) owner ever opened kept
      → Contains kept (artifact.Finalization c) → c.proposal.round.view ≡ last_finalized (entries kept)
      → AreOfOneMember (g.attests own) (g.certifies own) owner ever opened (rewritten owner.term_length c kept)
  pub kept : (own : S) (owner : Owner) (ever kept : List (Artifact S D P G C)) → 0 < owner.term_length → IsRecorded (g.attests own) (g.certifies own) owner ever kept
      → IsLawful (g.attests own) (g.certifies own) owner kept × StandsForAll owner.term_length (entries ever) (entries kept)
  pub ever : (own : S) (owner : Owner) (all : List (Artifact S D P G C)) → IsEverLawful (g.attests own) (g.certifies own) owner all
      → VotesLawfully (g.attests own) (g.certifies own) owner all

-- what the laws of lives take: those of records and of a member's lists, and that the voter knows just what its record says
pub record LifeLaws {S D P G C : Type 0} (g : Ghosts S D P G C) : Type 0 where
  pub records : RecordLaws g
  pub lists : ListLaws g
  pub matches : voter.EachHistoryMatches S D P G C
  pub known : EachRecordIsKnown S D P G C

-- no deadline that is counted from a moment is cut at the last one of 64 bits
pub record AreUncut {S D C : Type 0} (s : Setup S D C) (now : ℕ) : Type 0 where
  pub leader : past.deadline now s.voter.leader_timeout ≡ now + s.voter.leader_timeout
  pub certification : past.deadline now s.voter.certification_timeout ≡ now + s.voter.certification_timeout
  pub stall : later now s.voter.stall_timeout ≡ option_map (λ t. now + t) s.voter.stall_timeout
  pub retry : past.deadline now s.voter.timeout_retry ≡ now + s.voter.timeout_retry

-- so it is for a moment early enough
abbrev pub EarlyIsInTime : {S D C : Type 0} → Setup S D C → Type 0
EarlyIsInTime s = (now : ℕ) → IsInTime s now → AreUncut s now

-- the repair has the last finalized view that the voter has
abbrev pub FinalizeAlike : {S D P G C : Type 0} → Formats S D P G C → Setup S D C → Type 0
FinalizeAlike {S} {D} {P} {G} {C} f s = (h : History S D P G C) → repair.finalized (repair_of f h) ≡ finalized_of s h

module _ {S D P G C : Type 0} (g : Ghosts S D P G C) (f : Formats S D P G C) (s : Setup S D C) where
  -- ---- of one opening

  -- points that are allowed keep a record lawful
  abbrev pub RecordsStayLawful : Type 0
  RecordsStayLawful = (h end : History S D P G C) (points : List (Point S D P G C)) → Goes g f s h points end
      → IsLawful (g.attests s.voter.scheme) (g.certifies s.voter.scheme) (owner_of s) (record_of h)
      → IsLawful (g.attests s.voter.scheme) (g.certifies s.voter.scheme) (owner_of s) (record_of end)

  -- the record only grows
  abbrev pub RecordsGrow : Type 0
  RecordsGrow = (h end : History S D P G C) (points : List (Point S D P G C)) → Goes g f s h points end
      → (more : List (Artifact S D P G C)) × (record_of end ≡ record_of h ++ more)

  -- a vote that is handed out stands in the record; so a nullify that is sent again has the recorded bytes
  abbrev pub VotesAreRecorded : Type 0
  VotesAreRecorded = (h end : History S D P G C) (points : List (Point S D P G C)) (to : Option ℕ) (v : Vote S D P G C) → Goes g f s h points end
      → Contains (all_deeds g f s h points) (Sends to (of_vote v)) → Contains (record_of end) (vote_artifact v)

  -- a point casts this vote, which is due; or this vote is the recorded nullify, which is due once more, and the point repeats it
  abbrev pub IsCastDue : History S D P G C → Point S D P G C → Vote S D P G C → Type 0
  IsCastDue h p v = ((p ≡ Votes v) × VoteIsDue g f s h v)
      ⊎ ((w : Nullify S D P G C) × (best : Option (Certificate S D P G C)) × (p ≡ Repeats w best) × (v ≡ vote.Nullify w)
      × RepeatIsDue g f s h w best)

  -- one of these points cast or repeated it, and it was due there
  pub record WasDue (h : History S D P G C) (points : List (Point S D P G C)) (v : Vote S D P G C) : Type 0 where
    pub before : List (Point S D P G C)
    pub p : Point S D P G C
    pub behind : List (Point S D P G C)
    pub split : points ≡ before ++ p ∷ behind
    pub at : History S D P G C
    pub reached : Goes g f s h before at
    pub due : IsCastDue at p v

  -- each vote that is handed out was due at the point at which it was made
  abbrev pub VotesWereDue : Type 0
  VotesWereDue = (h end : History S D P G C) (points : List (Point S D P G C)) (to : Option ℕ) (v : Vote S D P G C) → Goes g f s h points end
      → Contains (all_deeds g f s h points) (Sends to (of_vote v)) → WasDue h points v

  -- why a point hands this out: a vote and a certificate since it records it, or a nullify is repeated, with the best certificate; an ask
  -- since it asks; bytes since they are what the repair has of the view; a report since it records what is reported so, or heard the vote
  abbrev pub IsDeedOf : History S D P G C → Point S D P G C → Deed S D P G C → Type 0
  IsDeedOf h p (Sends to (of_vote v)) = (recorded_by p ≡ Some (vote_artifact v)) ⊎ ((w : Nullify S D P G C) × (best : Option (Certificate S D P G C)) × (p ≡ Repeats w best) × (v ≡ vote.Nullify w))
  IsDeedOf h p (Sends to (of_certificate c)) = (recorded_by p ≡ Some (certificate_artifact c)) ⊎ ((w : Nullify S D P G C) × (p ≡ Repeats w (Some c)))
  IsDeedOf h p (Sends to (of_ask view)) = (ask : Ask) × (p ≡ Asks view ask to)
  IsDeedOf h p (Serves member bytes) = (view : ℕ) × (p ≡ Wanted member view) × (produced s.voter.length (repair_of f h) view ≡ Some bytes)
  IsDeedOf h p (Reports a) = ((x : Artifact S D P G C) × (recorded_by p ≡ Some x) × Contains (reported (record_of h) x) a) ⊎ ((v : Vote S D P G C) × (p ≡ Heard v) × (a ≡ as_report v))
  IsDeedOf h p d = ⊤

  -- each deed of a point is handed out for that
  abbrev pub DeedsAreOfPoints : Type 0
  DeedsAreOfPoints = (h : History S D P G C) (p : Point S D P G C) (d : Deed S D P G C) → Contains (deeds_of g f s h p) d → IsDeedOf h p d

  -- the current view and the last finalized one never fall
  abbrev pub ViewsNeverFall : Type 0
  ViewsNeverFall = (h end : History S D P G C) (points : List (Point S D P G C)) → Goes g f s h points end
      → (current_of s h ≤ current_of s end) × (finalized_of s h ≤ finalized_of s end)

  -- an empty record is gone through at once
  abbrev pub EmptyIsOpened : Type 0
  EmptyIsOpened = (now : ℕ) → IsInTime s now → AreOpening g f s now [] (Opened now ∷ Began ∷ []) × Goes g f s [] (Opened now ∷ Began ∷ []) (Began ∷ Opened now ∷ [])

  -- a run is a stretch of a life
  abbrev pub RunsAreStretches : Type 0
  RunsAreStretches = (h end : History S D P G C) (events : List (Event D)) (replies : List (Reply S D P G C)) → Run g f s h events replies end
      → (points : List (Point S D P G C)) × Goes g f s h points end

  -- how often points raise the current view
  abbrev pub raises : History S D P G C → List (Point S D P G C) → ℕ
  raises h [] = 0
  raises h (p ∷ points) = (if nat_lt (current_of s h) (current_of s (p ∷ h)) then 1 else 0) + raises (p ∷ h) points

  -- a view is kept: its votes came up, or the voter tracks it
  abbrev pub IsKeptView : History S D P G C → ℕ → Type 0
  IsKeptView h view = IsUp (stage s h view) ⊎ IsTracked s.voter (voter_of s h) view

  -- a step raises the current view at most as often as there were views that are kept when it began, plus two, in a committee of any size
  abbrev pub StepsRaiseLittle : Type 0
  StepsRaiseLittle = (h end : History S D P G C) (points more : List (Point S D P G C)) (e : Event D) (rounds : ℕ) → 0 < g.size s.voter.scheme → DeadlinesLieAhead s → GoesByMembers s (g.size s.voter.scheme)
      → Goes g f s [] points h → AreStep g f s h e more → Goes g f s h more end → HasExactly (IsKeptView h) rounds → raises h more ≤ rounds + 2

  -- in one of more than one, as often as there were views whose votes were kept, plus two, whatever deadlines are
  abbrev pub StepsOfSeveralRaiseLittle : Type 0
  StepsOfSeveralRaiseLittle = (h end : History S D P G C) (points more : List (Point S D P G C)) (e : Event D) (rounds : ℕ) → 1 < g.size s.voter.scheme → Goes g f s [] points h
      → AreStep g f s h e more → Goes g f s h more end → HasExactly (λ view. IsUp (stage s h view)) rounds → raises h more ≤ rounds + 2

  -- no quorum is lost: where nothing is due, each kind with a valid quorum has its certificate, in each view whose votes are kept
  abbrev pub NoQuorumIsLost : Type 0
  NoQuorumIsLost = (h : History S D P G C) (points : List (Point S D P G C)) → Goes g f s [] points h → NoneDue g f s h
      → (view : ℕ) → stage s h view ≡ Collected → AllCertified g.attests (votes_setup s g h view) (votes_of s h view)

  -- ---- of certificates that are made

  -- a vote that was heard, or an own one that is recorded
  abbrev pub IsKnownVote : History S D P G C → Vote S D P G C → Type 0
  IsKnownVote h v = Contains h (Heard v) ⊎ ((vote_signer v ≡ s.me) × Contains (record_of h) (vote_artifact v))

  -- each vote that counts in a view, of those that were accepted, is known
  abbrev pub AcceptedAreKnown : Type 0
  AcceptedAreKnown = (h : History S D P G C) (points : List (Point S D P G C)) (view : ℕ) (v : Vote S D P G C) → Goes g f s [] points h
      → Contains (votes.accepted (votes_of s h view)) v → IsKnownVote h v

  -- an attestation is that of a known vote that states this
  pub record IsOfVote (h : History S D P G C) (x : Statement D) (a : Attestation G) : Type 0 where
    pub vote : Vote S D P G C
    pub known : IsKnownVote h vote
    pub attestation_is : vote_attestation vote ≡ a
    pub states : vote_statement vote ≡ x

  -- each attestation that a made certificate lists is that of a known vote that states what the certificate states
  abbrev pub MadeListVotes : Type 0
  MadeListVotes = (h : History S D P G C) (points : List (Point S D P G C)) (view : ℕ) (kind : Kind) (batch : Batch (Certificate S D P G C)) (c : Certificate S D P G C) → Goes g f s [] points h
      → Allowed g f s h (Constructs view kind batch) → batch.certificate ≡ Some c → (a : Attestation G) → Contains (g.lists (certified_by c)) a → IsOfVote h (certificate_statement c) a

  -- what a construction gives that is due may be taken, its certificate recorded where it can be read again: nothing more is asked of it
  abbrev pub MadeIsAllowed : Type 0
  MadeIsAllowed = (h : History S D P G C) (view : ℕ) (kind : Kind) (batch : Batch (Certificate S D P G C)) → 0 < g.size s.voter.scheme → AreAllowed g f s h → is_begun h ≡ true
      → IsUp (stage s h view) → votes.next_kind f.same (votes_setup s g h view) (votes_of s h view) ≡ Some kind → IsBatch g f.same (votes_setup s g h view) kind (votes_of s h view) batch
      → IfSome (added_by (Constructs view kind batch)) (IsRecordable f) → Allowed g f s h (Constructs view kind batch)

  -- ---- how the layers' words meet, of a history that points led to

  -- the voter's history is orderly once the record was gone through, and says what is recorded
  abbrev pub VotersAreOrderly : Type 0
  VotersAreOrderly = (h : History S D P G C) (points : List (Point S D P G C)) → Goes g f s [] points h → h ≢ [] → IsOrderly s.voter (voter_of s h)

  abbrev pub VotersTellTheRecord : Type 0
  VotersTellTheRecord = (h : History S D P G C) (points : List (Point S D P G C)) → Goes g f s [] points h → voter.record_of s.voter (voter_of s h) ≡ entries (record_of h)

  -- each proposal that came to the voter is of the epoch, and of the view for which it came
  abbrev pub ProposalsLieInTheirViews : Type 0
  ProposalsLieInTheirViews = (h : History S D P G C) → AreAllowed g f s h → AreOfTheirViews s.voter (voter_of s h)

  -- an own nullify of the view is recorded
  pub record HasNullified (h : History S D P G C) (view : ℕ) : Type 0 where
    pub nullify : Nullify S D P G C
    pub round_is : nullify.round ≡ round_of s.voter view
    pub recorded : Contains (record_of h) (vote_artifact (vote.Nullify nullify))

  -- so is each that the voter knows
  abbrev pub KnownNullifiesAreRecorded : Type 0
  KnownNullifiesAreRecorded = (h : History S D P G C) (view : ℕ) → AreAllowed g f s h → past.has_nullified (seen s.voter (voter_of s h) view) ≡ true → HasNullified h view

  -- the votes of each view are lawful
  abbrev pub VotesAreLawful : Type 0
  VotesAreLawful = (h : History S D P G C) (points : List (Point S D P G C)) (view : ℕ) → Goes g f s [] points h
      → IsUp (stage s h view) → lawful.IsLawful f.same g.attests (votes_setup s g h view) (votes_of s h view)

  -- a proposal on which a notarize is due was bound to its parent's payload
  abbrev pub DueIsBound : Type 0
  DueIsBound = (h : History S D P G C) (points : List (Point S D P G C)) (view : ℕ) (p : Proposal D) → Goes g f s [] points h
      → NotarizeIsDue (member_of s) (known_of s h) view → held_at (member_of s) (known_of s h) view ≡ Some p → IsBound (member_of s) (known_of s h) view p

  -- what is due may be recorded: so that it may is no condition of its own
  abbrev pub DueMayBeRecorded : Type 0
  DueMayBeRecorded = (h : History S D P G C) (points : List (Point S D P G C)) (v : Vote S D P G C) → Goes g f s [] points h
      → VoteIsDue g f s h v → MayFollow s.voter.length (entries (record_of h)) (entry (vote_artifact v))

  -- of a finalize and of a nullify it is so however payloads are compared; and so it is of a verdict that was asked for
  abbrev pub DueFinalizeMayBeRecorded : Type 0
  DueFinalizeMayBeRecorded = (h : History S D P G C) (points : List (Point S D P G C)) (v : Finalize S D P G C) → Goes g f s [] points h
      → VoteIsDue g f s h (vote.Finalize v) → MayFollow s.voter.length (entries (record_of h)) (entry (vote_artifact (vote.Finalize v)))

  abbrev pub DueNullifyMayBeRecorded : Type 0
  DueNullifyMayBeRecorded = (h : History S D P G C) (points : List (Point S D P G C)) (v : Nullify S D P G C) → Goes g f s [] points h
      → VoteIsDue g f s h (vote.Nullify v) → MayFollow s.voter.length (entries (record_of h)) (entry (vote_artifact (vote.Nullify v)))

  abbrev pub AwaitedMayBeRecorded : Type 0
  AwaitedMayBeRecorded = (h : History S D P G C) (points : List (Point S D P G C)) (r : Round) → Goes g f s [] points h → r.epoch ≡ s.voter.epoch
      → IsAwaited s h r.view → MayJudge (entries (record_of h)) r

  -- a verdict on a round may be taken: it may be recorded, the view has room, and the recorded notarization of it is the voter's
  pub record IsJudgeable (h : History S D P G C) (r : Round) : Type 0 where
    pub follows : MayJudge (entries (record_of h)) r
    pub room : HasRoom s.voter.length r.view
    pub notarization : Notarization S D P G C
    pub at : notarization.proposal.round.view ≡ r.view
    pub recorded : notarization_in (record_of h) r.view ≡ Some notarization
    pub known : past.notarization (seen s.voter (voter_of s h) r.view) ≡ Some notarization

  -- so it may where it is awaited
  abbrev pub AwaitedIsJudgeable : Type 0
  AwaitedIsJudgeable = (h : History S D P G C) (r : Round) → AreAllowed g f s h → r.epoch ≡ s.voter.epoch → IsAwaited s h r.view → IsJudgeable h r

  -- the views of builds and verifications that stand are tracked while they are kept
  pub record AreTracked (h : History S D P G C) : Type 0 where
    pub builds : (number : ℕ) (handoff : Bool) (context : Context D P) → build_at h number ≡ Some (handoff, context) → floor_of s h ≤ context.round.view
        → IsTracked s.voter (voter_of s h) context.round.view
    pub checks : (number view : ℕ) → check_at h number ≡ Some view → floor_of s h ≤ view → IsTracked s.voter (voter_of s h) view

  abbrev pub RequestsAreTracked : Type 0
  RequestsAreTracked = (h : History S D P G C) → AreAllowed g f s h → AreTracked h

  -- what is recorded, once the record was gone through, stands on ground, in a committee of more than one
  abbrev pub RecordsStandOnGround : Type 0
  RecordsStandOnGround = (h : History S D P G C) (points : List (Point S D P G C)) (p : Point S D P G C) (x : Artifact S D P G C) → Goes g f s [] points h
      → g.size s.voter.scheme ≢ 1 → s.voter.me ≡ Some s.me → Allowed g f s h p → is_begun h ≡ true → recorded_by p ≡ Some x
      → MayFollowOnGround (g.size s.voter.scheme) s.voter.length (scheduled_leader s.voter) s.me (entries (record_of h)) (entry x)

  -- ---- of disks and lives

  -- an image reads as one record alone: so what an opening finds is what was left, and lives follow one another as `Lives` says
  abbrev pub OneIsRead : (Artifact S D P G C → Type 0) → Type 0
  OneIsRead Fits = (h : History S D P G C) (image : List ℕ) (found : List (Artifact S D P G C)) → All Fits (kept_of s.voter.length h)
      → All Fits found → Reads image (map f.artifact (kept_of s.voter.length h)) → Reads image (map f.artifact found) → found ≡ kept_of s.voter.length h

  -- what a life leaves is lawful: an opening never answers that it contradicts
  abbrev pub LivesLeaveLawful : Type 0
  LivesLeaveLawful = (lives : List (Life S D P G C)) (all left : List (Artifact S D P G C)) → Lives g f s [] [] lives all left
      → IsLawful (g.attests s.voter.scheme) (g.certifies s.voter.scheme) (owner_of s) left

  -- and each artifact that they ever recorded can be read again
  abbrev pub LivesLeaveReadable : Type 0
  LivesLeaveReadable = (lives : List (Life S D P G C)) (all left : List (Artifact S D P G C)) → Lives g f s [] [] lives all left
      → (x : Artifact S D P G C) → Contains all x → IsRecordable f x

  -- so a disk that reads as what lives left holds no foreign entry, by what the disk takes for an artifact
  abbrev pub NeverForeign : (Artifact S D P G C → Type 0) → Type 0
  NeverForeign Fits = (lives : List (Life S D P G C)) (all left : List (Artifact S D P G C)) (image : List ℕ) (place : ℕ) → Lives g f s [] [] lives all left
      → Reads image (map f.artifact left) → ¬ IsForeign [] Fits f.artifact image place

  -- and it reads as no other artifacts: what an opening finds is what was left
  abbrev pub LeftIsFound : (Artifact S D P G C → Type 0) → Type 0
  LeftIsFound Fits = (lives : List (Life S D P G C)) (all left found : List (Artifact S D P G C)) (image : List ℕ) → Lives g f s [] [] lives all left
      → Reads image (map f.artifact left) → All Fits found → Reads image (map f.artifact found) → found ≡ left

  abbrev pub NeverContradicts : Type 0
  NeverContradicts = (lives : List (Life S D P G C)) (all left : List (Artifact S D P G C)) (position : ℕ) → Lives g f s [] [] lives all left
      → ¬ IsRefusedAt (g.attests s.voter.scheme) (g.certifies s.voter.scheme) (owner_of s) left position

-- the certificate that a report is, or that it says was judged good
abbrev pub reported_certificate : {S D P G C : Type 0} → Activity S D P G C → Option (Certificate S D P G C)
reported_certificate (activity.Notarization c) = Some (certificate.Notarization c)
reported_certificate (activity.Certification c) = Some (certificate.Notarization c)
reported_certificate (activity.Nullification c) = Some (certificate.Nullification c)
reported_certificate (activity.Finalization c) = Some (certificate.Finalization c)
reported_certificate a = None

-- ---- of worlds

-- what bytes are read as goes by their channel; what can be read is read back from its own bytes; a certificate that is served is
-- spelled as one that is sent; a certificate that can be read is of a view of 64 bits, and each ask for such a view can be read; a vote and a
-- certificate that can be recorded can be read as a packet, and a certificate that can be read can be recorded
pub record AreReadBack {S D P G C : Type 0} (f : Formats S D P G C) : Type 0 where
  pub by_channel : (by : Channel) (bytes : List ℕ) (x : Packet S D P G C) → f.packet_in by bytes ≡ Some x → packet_channel x ≡ by
  pub again : (x : Packet S D P G C) → IsReadable f x → f.packet_in (packet_channel x) (f.packet x) ≡ Some x
  pub certificates : (c : Certificate S D P G C) → f.certificate c ≡ f.packet (of_certificate c)
  pub views : (c : Certificate S D P G C) → IsReadable f (of_certificate c) → (certificate_round c).view < 2 ^ 64
  pub asks : (view : ℕ) → view < 2 ^ 64 → IsReadable f (of_ask view)
  pub recorded : (x : Artifact S D P G C) → IsRecordable f x → IfSome (packet_of x) (IsReadable f)
  pub taken : (c : Certificate S D P G C) → IsReadable f (of_certificate c) → IsRecordable f (certificate_artifact c)

-- an artifact of these can be read as the packet that it is sent as
abbrev pub CanBeSent : {S D P G C : Type 0} → (Artifact S D P G C → Type 0) → Formats S D P G C → Type 0
CanBeSent {S} {D} {P} {G} {C} Fits f = (x : Artifact S D P G C) → Fits x → IfSome (packet_of x) (IsReadable f)

-- an event is a packet of this sender that holds no vote
abbrev pub HoldsNoVote : {S D P G C : Type 0} → Formats S D P G C → Event D → ℕ → Type 0
HoldsNoVote {S} {D} {P} {G} {C} f (event.Packet sender by bytes) j = (sender ≡ j) × ((v : Vote S D P G C) → f.packet_in by bytes.items ≢ Some (of_vote v))
HoldsNoVote f e j = ⊥

-- a vote is recorded by this member, in its name, and names a parent below, if it names one
pub record IsOwnAndSound {S D P G C : Type 0} (world : World S D P G C) (j : ℕ) (v : Vote S D P G C) : Type 0 where
  pub recorded : Contains (world.recorded j) (vote_artifact v)
  pub signer : vote_signer v ≡ j
  pub parent_below : HasParentBelow (vote_statement v)

-- this life of a member's led to this history on its way
pub record HasReached {S D P G C : Type 0} (m : Members S D P G C) (i : ℕ) (life : Life S D P G C) (h : History S D P G C) : Type 0 where
  pub among : Contains (m.lives i) life
  pub before : List (Point S D P G C)
  pub behind : List (Point S D P G C)
  pub split : points_of life.course ≡ before ++ behind
  pub is : h ≡ after [] before

module _ {S D P G C : Type 0} (g : Ghosts S D P G C) (f : Formats S D P G C) where
  -- the certificates that members recorded are honest
  abbrev pub RecordedAreHonest : S → Members S D P G C → World S D P G C → Type 0
  RecordedAreHonest scheme m world = (i : ℕ) → IsCorrect world i → (c : Certificate S D P G C) → Contains (world.recorded i) (certificate_artifact c) → IsHonest (g.attests scheme) g.lists world c

  -- a certificate that was made lists only what came in, or own votes: it is honest as they are
  abbrev pub MadeAreHonest : Type 0
  MadeAreHonest = (scheme : S) (m : Members S D P G C) (world : World S D P G C) → LiveByNodes g f scheme m world
      → RecordedAreHonest scheme m world

  -- one proposal a view, no finalized view nullified, none skipped
  pub record DoAgree (scheme : S) (world : World S D P G C) : Type 0 where
    pub one_proposal_a_view : OneProposalAView (g.attests scheme) g.lists world
    pub no_finalized_view_nullified : NoFinalizedViewNullified (g.attests scheme) g.lists world
    pub no_finalized_view_skipped : NoFinalizedViewSkipped (g.attests scheme) g.lists world

  abbrev pub AgreeIfHonest : Type 0
  AgreeIfHonest = (scheme : S) (m : Members S D P G C) (world : World S D P G C) → LiveByNodes g f scheme m world → AtMostFLie world
      → RecordedAreHonest scheme m world → DoAgree scheme world

  abbrev pub Agree : Type 0
  Agree = (scheme : S) (m : Members S D P G C) (world : World S D P G C) → LiveByNodes g f scheme m world → AtMostFLie world
      → DoAgree scheme world

  -- what that speaks of, beside what is recorded: each certificate that came in to a correct member and certifies by its scheme
  abbrev pub HandedCertificatesAreSound : Type 0
  HandedCertificatesAreSound = (scheme : S) (m : Members S D P G C) (world : World S D P G C) → LiveByNodes g f scheme m world
      → (i sender : ℕ) → IsCorrect world i → (c : Certificate S D P G C) → CameIn g f scheme m world i sender (of_certificate c)
      → g.certifies (m.setup i).voter.scheme (certificate_statement c) (certified_by c) → IsSound (g.attests scheme) g.lists world c

  -- and so is the floor that an opening brought, where it certifies
  abbrev pub BroughtFloorsAreSound : Type 0
  BroughtFloorsAreSound = (scheme : S) (m : Members S D P G C) (world : World S D P G C) → LiveByNodes g f scheme m world
      → (i : ℕ) → IsCorrect world i → (c : Certificate S D P G C) → WasBrought g f scheme m world i c
      → g.certifies (m.setup i).voter.scheme (certificate_statement c) (certified_by c) → IsSound (g.attests scheme) g.lists world c

  -- by its own index, one of a committee of its scheme, on disks that were empty at first, a member lived lives, and ever recorded this
  pub record HasLived (m : Members S D P G C) (i : ℕ) (all : List (Artifact S D P G C)) : Type 0 where
    pub me : (m.setup i).voter.me ≡ Some (m.setup i).me
    pub member : (m.setup i).me < g.size (m.setup i).voter.scheme
    pub left : List (Artifact S D P G C)
    pub lives : Lives g f (m.setup i) [] [] (m.lives i) all left

  -- what it ever recorded stands on ground, in a committee of any size
  abbrev pub LeftStandsOnGround : Type 0
  LeftStandsOnGround = (m : Members S D P G C) (i : ℕ) (all : List (Artifact S D P G C)) → HasLived m i all
      → StandsOnGround (g.size (m.setup i).voter.scheme) (m.setup i).voter.length (scheduled_leader (m.setup i).voter) (m.setup i).me (entries all)

  -- of all that a member ever recorded, what it had recorded at a history on a life's way: before that life, and since
  pub record IsEverAt (all : List (Artifact S D P G C)) (life : Life S D P G C) (h : History S D P G C) (ever : List (Artifact S D P G C)) : Type 0 where
    pub before : List (Artifact S D P G C)
    pub behind : List (Artifact S D P G C)
    pub since : ever ≡ before ++ (life.founded ++ fresh_of h)
    pub among : all ≡ ever ++ behind
    pub known : (x : Artifact S D P G C) → Contains (record_of h) x → Contains ever x

  -- and so does what may come next at a history on their way, once the record was gone through, by all that was recorded till then
  abbrev pub NextStandsOnGround : Type 0
  NextStandsOnGround = (m : Members S D P G C) (i : ℕ) (all : List (Artifact S D P G C))
      (life : Life S D P G C) (h : History S D P G C) (p : Point S D P G C) (x : Artifact S D P G C)
      → HasLived m i all → HasReached m i life h → Allowed g f life.setup h p → is_begun h ≡ true → recorded_by p ≡ Some x
      → (ever : List (Artifact S D P G C)) × IsEverAt all life h ever
      × MayFollowOnGround (g.size (m.setup i).voter.scheme) (m.setup i).voter.length (scheduled_leader (m.setup i).voter) (m.setup i).me (entries ever) (entry x)

  -- finalized views lie on one chain, where all go by one schedule
  abbrev pub LieOnOneChain : Type 0
  LieOnOneChain = (scheme : S) (m : Members S D P G C) (world : World S D P G C) (leader : ℕ → Option ℕ) → LiveByNodes g f scheme m world
      → AtMostFLie world
      → ((i : ℕ) → IsCorrect world i → (view : ℕ) → scheduled_leader (m.setup i).voter view ≡ leader view)
      → OneChain (g.attests scheme) g.lists world

  -- each vote that comes in to a correct member by a correct one is its own and sound: it names its signer, is recorded, has its parent below
  abbrev pub CorrectVotesAreSound : Type 0
  CorrectVotesAreSound = (scheme : S) (m : Members S D P G C) (world : World S D P G C) → LiveByNodes g f scheme m world
      → AreFaithful g f scheme m world
      → (i j : ℕ) → IsCorrect world i → IsCorrect world j → (v : Vote S D P G C) → CameIn g f scheme m world i j (of_vote v)
      → IsOwnAndSound world j v

  -- a member's history: each vote that was heard came in by its signer, and what it records the member recorded
  pub record HasHeard (scheme : S) (m : Members S D P G C) (world : World S D P G C) (i : ℕ) (h : History S D P G C) : Type 0 where
    pub came : (v : Vote S D P G C) → Contains h (Heard v) → CameIn g f scheme m world i (vote_signer v) (of_vote v)
    pub recorded : (x : Artifact S D P G C) → Contains (record_of h) x → Contains (world.recorded i) x

  -- no vote that comes in to a correct member by a correct one contradicts what that heard
  abbrev pub CorrectVotesContradictNone : Type 0
  CorrectVotesContradictNone = (scheme : S) (m : Members S D P G C) (world : World S D P G C) → LiveByNodes g f scheme m world
      → AreFaithful g f scheme m world
      → (i j : ℕ) → IsCorrect world i → IsCorrect world j → (s : Setup S D C) → IsOfOneMember (m.setup i) s
      → (h : History S D P G C) (points : List (Point S D P G C)) → Goes g f s [] points h → HasHeard scheme m world i h
      → (v : Vote S D P G C) → CameIn g f scheme m world i j (of_vote v)
      → ¬ IsBlocked (votes_setup s g h (vote_round v).view) (votes_of s h (vote_round v).view) j v

  -- what attests by one correct member's scheme does by the other's
  abbrev pub DoAttestAlike : S → Members S D P G C → World S D P G C → Type 0
  DoAttestAlike scheme m world = (i j : ℕ) → IsCorrect world i → IsCorrect world j → (signer : ℕ) (x : Statement D) (a : G)
      → g.attests (m.setup j).voter.scheme signer x a → g.attests (m.setup i).voter.scheme signer x a

  -- no construction of a correct member blocks a correct one
  abbrev pub ConstructionsBlockNone : Type 0
  ConstructionsBlockNone = (scheme : S) (m : Members S D P G C) (world : World S D P G C) → LiveByNodes g f scheme m world
      → AreFaithful g f scheme m world → DoAttestAlike scheme m world
      → (i j : ℕ) → IsCorrect world i → IsCorrect world j → (s : Setup S D C) → IsOfOneMember (m.setup i) s
      → (h : History S D P G C) (points : List (Point S D P G C)) → Goes g f s [] points h → HasHeard scheme m world i h
      → (view : ℕ) (kind : Kind) (batch : Batch (Certificate S D P G C)) → Allowed g f s h (Constructs view kind batch)
      → ¬ Contains batch.invalid.items j

  -- a member did this at a point of one of its lives
  pub record IsDoneAt (m : Members S D P G C) (i : ℕ) (d : Deed S D P G C) : Type 0 where
    pub life : Life S D P G C
    pub h : History S D P G C
    pub p : Point S D P G C
    pub reached : HasReached m i life h
    pub next : HasReached m i life (p ∷ h)
    pub allowed : Allowed g f life.setup h p
    pub done : Contains (deeds_of g f life.setup h p) d

  -- or it did this when it refused an event that it was handed
  pub record IsDoneRefusing (scheme : S) (m : Members S D P G C) (world : World S D P G C) (i : ℕ) (d : Deed S D P G C) : Type 0 where
    pub life : Life S D P G C
    pub h : History S D P G C
    pub reached : HasReached m i life h
    pub e : Event D
    pub handed : WasHanded g f scheme m world i e
    pub r : Refusal
    pub first : IsFirst (tests g f life.setup h e) (Some r)
    pub done : Contains (refused_deeds g f life.setup h e r) d

  -- what a correct member hands out it did at a point, or when it refused an event
  abbrev pub DeedsAreDone : Type 0
  DeedsAreDone = (scheme : S) (m : Members S D P G C) (world : World S D P G C) → LiveByNodes g f scheme m world → (i : ℕ)
      → IsCorrect world i
      → (d : Deed S D P G C) → HandedOut g f scheme m world i d → IsDoneAt m i d ⊎ IsDoneRefusing scheme m world i d

  -- a history that a correct member's life led to was gone to point by point, heard what came in, and recorded what the member did
  abbrev pub ReachedAreGoneTo : Type 0
  ReachedAreGoneTo = (scheme : S) (m : Members S D P G C) (world : World S D P G C) → LiveByNodes g f scheme m world → (i : ℕ)
      → IsCorrect world i
      → (life : Life S D P G C) (h : History S D P G C) → HasReached m i life h
      → IsOfOneMember (m.setup i) life.setup × ((points : List (Point S D P G C)) × Goes g f life.setup [] points h) × HasHeard scheme m world i h

  -- a certificate that a correct member makes is sound, whether or not it comes to record it
  abbrev pub MadeAreSound : Type 0
  MadeAreSound = (scheme : S) (m : Members S D P G C) (world : World S D P G C) → LiveByNodes g f scheme m world → (i : ℕ)
      → IsCorrect world i
      → (life : Life S D P G C) (h : History S D P G C) → HasReached m i life h
      → (view : ℕ) (kind : Kind) (batch : Batch (Certificate S D P G C)) → Allowed g f life.setup h (Constructs view kind batch)
      → (c : Certificate S D P G C) → batch.certificate ≡ Some c
      → IsSound (g.attests scheme) g.lists world c

  -- a report is honest: each vote that it holds, loose, in a certificate or as evidence, is
  pub record IsHonestReport (scheme : S) (m : Members S D P G C) (world : World S D P G C) (a : Activity S D P G C) : Type 0 where
    pub notarizes : (v : Notarize S D P G C) → Contains (notarizes_in g.lists a) v → IsHonestVote g f scheme m world (vote.Notarize v)
    pub nullifies : (v : Nullify S D P G C) → Contains (nullifies_in g.lists a) v → IsHonestVote g f scheme m world (vote.Nullify v)
    pub finalizes : (v : Finalize S D P G C) → Contains (finalizes_in g.lists a) v → IsHonestVote g f scheme m world (vote.Finalize v)

  -- what correct members report is honest
  abbrev pub ReportsAreHonest : Type 0
  ReportsAreHonest = (scheme : S) (m : Members S D P G C) (world : World S D P G C) → LiveByNodes g f scheme m world → (i : ℕ)
      → IsCorrect world i
      → (a : Activity S D P G C) → HandedOut g f scheme m world i (Reports a) → IsHonestReport scheme m world a

  -- a certificate that a correct member reports certifies, by a scheme of the committee's size
  abbrev pub ReportedCertify : Type 0
  ReportedCertify = (scheme : S) (m : Members S D P G C) (world : World S D P G C) → LiveByNodes g f scheme m world
      → g.size scheme ≡ world.size → (i : ℕ) → IsCorrect world i
      → (a : Activity S D P G C) → HandedOut g f scheme m world i (Reports a) → (c : Certificate S D P G C)
      → reported_certificate a ≡ Some c → g.certifies scheme (certificate_statement c) (certified_by c)

  -- of the votes that a correct member recorded, two of which one stands in the other's way are for one statement
  abbrev pub OwnVotesAgree : Type 0
  OwnVotesAgree = (scheme : S) (m : Members S D P G C) (world : World S D P G C) → LiveByNodes g f scheme m world → (i : ℕ)
      → IsCorrect world i
      → (x y : Statement D) → HasVoted (entries (world.recorded i)) x → HasVoted (entries (world.recorded i)) y → StandsInTheWay x y → x ≡ y

  -- a member refused an event at a history, for which it blocked another
  pub record IsRefusedFor (scheme : S) (m : Members S D P G C) (world : World S D P G C) (i j : ℕ) : Type 0 where
    pub setup : Setup S D C
    pub own : IsOfOneMember (m.setup i) setup
    pub e : Event D
    pub handed : WasHanded g f scheme m world i e
    pub h : History S D P G C
    pub heard : HasHeard scheme m world i h
    pub r : Refusal
    pub first : IsFirst (tests g f setup h e) (Some r)
    pub blocks : Contains (refused_deeds g f setup h e r) (Blocks j)

  -- by a refusal alone a correct member blocks a correct one, of a packet that holds no vote
  abbrev pub BlockedByRefusalAlone : Type 0
  BlockedByRefusalAlone = (scheme : S) (m : Members S D P G C) (world : World S D P G C) → LiveByNodes g f scheme m world
      → AreFaithful g f scheme m world → DoAttestAlike scheme m world
      → (i j : ℕ) → IsCorrect world i → IsCorrect world j → HandedOut g f scheme m world i (Blocks j)
      → (x : IsRefusedFor scheme m world i j) × HoldsNoVote f x.e j

  -- the bytes of a packet that is sent read as that packet, and those that are served as a certificate
  abbrev pub ReadsAsPacket : Deed S D P G C → Type 0
  ReadsAsPacket (Sends to x) = f.packet_in (packet_channel x) (f.packet x) ≡ Some x
  ReadsAsPacket (Serves member bytes) = (c : Certificate S D P G C) × (f.packet_in channel.Certificates bytes ≡ Some (of_certificate c))
  ReadsAsPacket d = ⊤

  -- so it is of all that a correct member hands out
  abbrev pub PacketsAreInGrammar : Type 0
  PacketsAreInGrammar = (scheme : S) (m : Members S D P G C) (world : World S D P G C) → LiveByNodes g f scheme m world → (i : ℕ)
      → IsCorrect world i → (d : Deed S D P G C) → HandedOut g f scheme m world i d → ReadsAsPacket d

  -- no correct member blocks a correct one, neither by a refusal nor by a construction
  abbrev pub NoneIsBlamed : Type 0
  NoneIsBlamed = (scheme : S) (m : Members S D P G C) (world : World S D P G C) → LiveByNodes g f scheme m world
      → AreFaithful g f scheme m world → DoAttestAlike scheme m world
      → (i j : ℕ) → IsCorrect world i → IsCorrect world j → HandedOut g f scheme m world i (Blocks j) → ⊥
