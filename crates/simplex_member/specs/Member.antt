-- The member model: how a node goes from point to point, what a step and an opening are, and a whole run.
use Rattle.std.specs.Prelude.{◌≡◌, ◌≢◌, ◌⊎◌, ◌<◌, ◌++◌, nat_lt, ℕ, Bool, map, List, [], ◌∷◌, Option, Some, None, MatchOption, if◌then◌else◌, ⊤}
use Rattle.types_core.specs.declared.context.Context.{Context}
use Rattle.types_core.specs.declared.proposal.Proposal.{Proposal}
use Rattle.types_core.specs.declared.scheme.Scheme.{Ghosts}
use Rattle.messages_certificates.specs.declared.artifact.Artifact.{Artifact}
use Rattle.messages_certificates.specs.declared.artifact.Artifact.TheVariants as artifact
use Rattle.messages_certificates.specs.ProposalCertificate.{Finalization}
use Rattle.simplex_messages.specs.VoteParts.{vote_signer}
use Rattle.voter_history.specs.declared.timeout_reason.TimeoutReason.{TimeoutReason}
use Rattle.voter_history.specs.declared.timeout_reason.TimeoutReason.TheVariants as reason
use Rattle.voter_history.specs.History.{latched}
use Rattle.voter_history.specs.Leaders.{leader}
use Rattle.voter_rules.specs.VotesDue.{NotarizeIsDue, FinalizeIsDue}
use Rattle.voter_rules.specs.GivingUp.{NullifyIsDue, MayLatch}
use Rattle.voter_rules.specs.Requests.{NoBuildIsDue, VerifyIsDue, CertifyIsDue, IsPutOff}
use Rattle.voter_laws.specs.Missing.{IsMissing}
use Rattle.batcher_verifier.specs.History.{forwardable, leader_of, next_kind}
use Rattle.simplex_resolver.specs.declared.ask.Ask.{Ask}
use Rattle.simplex_resolver.specs.declared.ask.Kind as repair
use Rattle.simplex_member.specs.declared.action.Action.{Action}
use Rattle.simplex_member.specs.declared.action.Reply.{Reply}
use Rattle.simplex_member.specs.declared.event.Event.{Event}
use Rattle.simplex_member.specs.declared.event.Event.TheVariants as event
use Rattle.simplex_member.specs.Allowed.{Allowed, AskIsDue, IsGivenBack, IsSilent, LatchIsDue, RetryIsKnown}
use Rattle.simplex_member.specs.Asked.{HasNumber, IsPending, build_at}
use Rattle.simplex_member.specs.Deeds.{Deed, Wakes, AreActions, all_deeds}
use Rattle.simplex_member.specs.First.{IsFirst}
use Rattle.simplex_member.specs.Layers.{current_of, known_of, latest, stage, voter_of, votes_of, votes_setup, Collected, IsUp}
use Rattle.simplex_member.specs.Packet.{Formats, Packet, of_vote, of_certificate, of_ask}
use Rattle.simplex_record.specs.Record.{entries, last_finalized}
use Rattle.simplex_member.specs.Point.{Point, Opened, Found, Began, Told, Heard, Came, Wanted, Built, Checked, Judged, Rewrote, AreActs, History}
use Rattle.simplex_member.specs.Recorded.{kept_of}
use Rattle.simplex_member.specs.Refusals.{tests, refused_deeds}
use Rattle.simplex_member.specs.Setup.{Setup, member_of}

module _ {S D P G C : Type 0} where
  -- these artifacts were found, one after the other
  abbrev pub AreFound : List (Artifact S D P G C) → List (Point S D P G C) → Type 0
  AreFound [] [] = ⊤
  AreFound (x ∷ xs) (Found y taken ∷ points) = (y ≡ x) × AreFound xs points
  AreFound xs points = ⊥

  -- the floor that an opening brings is recorded behind what it found, where that is of no view as high: then it goes through both, and so
  -- that is reported once, and handed to nobody
  abbrev pub AppendsFloor : Option (Finalization S D P G C) → (found founded : List (Artifact S D P G C)) → Type 0
  AppendsFloor None found founded = founded ≡ []
  AppendsFloor (Some c) found founded =
      founded ≡ (if nat_lt (last_finalized (entries found)) c.proposal.round.view then artifact.Finalization c ∷ [] else [])

  -- the point that a packet of a sender is, where it is taken
  abbrev pub IsPacketPoint : ℕ → Option (Packet S D P G C) → Point S D P G C → Type 0
  IsPacketPoint sender (Some (of_vote v)) (Heard w) = (v ≡ w) × (vote_signer v ≡ sender)
  IsPacketPoint sender (Some (of_certificate c)) (Came d) = c ≡ d
  IsPacketPoint sender (Some (of_ask view)) (Wanted member asked) = (sender ≡ member) × (view ≡ asked)
  IsPacketPoint sender x p = ⊥

  -- from a history points lead here
  abbrev pub after : History S D P G C → List (Point S D P G C) → History S D P G C
  after h [] = h
  after h (p ∷ points) = after (p ∷ h) points

module _ {S D P G C : Type 0} (g : Ghosts S D P G C) (f : Formats S D P G C) (s : Setup S D C) where
  -- the point that an event is, where it is taken
  abbrev pub IsPointOf : Event D → Point S D P G C → Type 0
  IsPointOf (event.Packet sender by bytes) p = IsPacketPoint sender (f.packet_in by bytes.items) p
  IsPointOf (event.Built number payload) (Built n handoff context d took) = (number ≡ n) × (payload ≡ d)
  IsPointOf (event.Checked number answer) (Checked n view a outcome) = (number ≡ n) × (answer ≡ a)
  IsPointOf (event.Verdict view ok) (Judged r verdict) = (r ≡ record { epoch = s.voter.epoch; view = view }) × (ok ≡ verdict)
  IsPointOf (event.Moment now) (Told t) = now ≡ t
  IsPointOf e p = ⊥

  -- ---- from point to point

  -- each of these points, the first of them first, may come after those before it, and they end at this history
  abbrev pub Goes : History S D P G C → List (Point S D P G C) → History S D P G C → Type 0
  Goes h [] end = end ≡ h
  Goes h (p ∷ points) end = Allowed g f s h p × Goes (p ∷ h) points end

  -- ---- that nothing is due

  -- no own vote is due
  pub record NoVoteIsDue (h : History S D P G C) : Type 0 where
    pub no_notarize : (view : ℕ) → ¬ NotarizeIsDue (member_of s) (known_of s h) view
    pub no_nullify : ¬ NullifyIsDue s.voter (voter_of s h) (latest h)
    pub no_finalize : (view : ℕ) → ¬ FinalizeIsDue (member_of s) (known_of s h) view
    pub retry_known : RetryIsKnown g f s h

  -- nothing is to be asked of the application, and no build is to be given back
  pub record NoRequestIsDue (h : History S D P G C) : Type 0 where
    pub no_build : HasNumber h → NoBuildIsDue (member_of s) (known_of s h)
    pub no_verify : HasNumber h → (view : ℕ) (p : Proposal D) (payload : D) → ¬ VerifyIsDue (member_of s) (known_of s h) view p payload
    pub no_certify : (p : Proposal D) → ¬ CertifyIsDue (member_of s) (known_of s h) p.round.view p
    pub no_return : (number : ℕ) (handoff : Bool) (context : Context D P) → build_at h number ≡ Some (handoff, context)
        → ¬ IsGivenBack g f s h handoff context
    pub none_behind : (number : ℕ) (handoff : Bool) (context : Context D P) → build_at h number ≡ Some (handoff, context)
        → ¬ (context.round.view < current_of s h)

  -- nothing is to be asked of other members. Of a proposal's leader nothing is said once all numbers are used up
  pub record NoAskIsDue (h : History S D P G C) : Type 0 where
    pub no_ask : (view : ℕ) (ask : Ask) → ¬ AskIsDue g f s h view ask None
    pub none_again : (view : ℕ) (ask : Ask) (target : ℕ) → IsPending h view ask (Some target) → ¬ AskIsDue g f s h view ask (Some target)
    pub none_put_off : (view required : ℕ) → ¬ IsPutOff (member_of s) (known_of s h) view required
    pub none_missing : HasNumber h → (view u : ℕ) (kind : repair.Kind) → ¬ IsMissing (member_of s) (known_of s h) view kind u

  -- of the votes of no view anything is due: no construction, no leader that they don't know, no proposal to forward
  pub record NoConstructionIsDue (h : History S D P G C) : Type 0 where
    pub no_construction : (view : ℕ) → stage s h view ≡ Collected → next_kind f.same (votes_setup s g h view) (votes_of s h view) ≡ None
    pub no_leader : (view index : ℕ) → IsUp (stage s h view) → leader_of (votes_of s h view) ≡ None
        → leader s.voter (voter_of s h) view ≢ Some index
    pub no_forward : (view : ℕ) → IsUp (stage s h view) → forwardable (votes_of s h view) s.me ≡ None

  -- nothing is due
  pub record NoneDue (h : History S D P G C) : Type 0 where
    pub votes : NoVoteIsDue h
    pub requests : NoRequestIsDue h
    pub asks : NoAskIsDue h
    pub constructions : NoConstructionIsDue h
    pub no_reason : (view : ℕ) (why : TimeoutReason) → ¬ LatchIsDue g f s h view why

  -- ---- when the node wants to be told the time

  -- at this moment the current view would be given up: by a deadline, or since its leader was silent till then
  abbrev pub IsGivenUpAt : History S D P G C → ℕ → Type 0
  IsGivenUpAt h now = NullifyIsDue s.voter (voter_of s h) now
      ⊎ (IsSilent g f s h now × MayLatch s.voter (voter_of s h) (current_of s h) reason.Inactivity
      × NullifyIsDue s.voter (latched now (current_of s h) reason.Inactivity ∷ voter_of s h) now)

  -- the earliest moment ahead at which, with nothing else coming in, that is so
  pub record IsWake (h : History S D P G C) (now : ℕ) : Type 0 where
    pub ahead : latest h < now
    pub due : IsGivenUpAt h now
    pub earliest : (t : ℕ) → latest h < t → t < now → ¬ IsGivenUpAt h t

  -- the last deed of a reply: that moment, where there is one
  abbrev pub EndsWith : History S D P G C → List (Deed S D P G C) → Type 0
  EndsWith h [] = (t : ℕ) → latest h < t → ¬ IsGivenUpAt h t
  EndsWith h (Wakes now ∷ []) = IsWake h now
  EndsWith h deeds = ⊥

  -- ---- a step, an opening, a run

  -- these points are an event that is taken, and acts of the node's own behind it
  pub record AreStep (h : History S D P G C) (e : Event D) (points : List (Point S D P G C)) : Type 0 where
    pub passes : IsFirst (tests g f s h e) None
    pub first : Point S D P G C
    pub acts : List (Point S D P G C)
    pub split : points ≡ first ∷ acts
    pub of_it : IsPointOf e first
    pub own : AreActs acts

  -- these points are an opening at a moment that found these artifacts, went through all of them, and acts behind that
  pub record AreOpening (now : ℕ) (found : List (Artifact S D P G C)) (points : List (Point S D P G C)) : Type 0 where
    pub read : List (Point S D P G C)
    pub acts : List (Point S D P G C)
    pub split : points ≡ Opened now ∷ read ++ Began ∷ acts
    pub are : AreFound found read
    pub own : AreActs acts

  -- points lead to a history where nothing is due
  pub record Rests (h : History S D P G C) (points : List (Point S D P G C)) (end : History S D P G C) : Type 0 where
    pub goes : Goes h points end
    pub none_due : NoneDue end

  -- the record is rewritten behind this finalization, and nothing is due behind that: nothing is handed out
  pub record IsRewritten (h : History S D P G C) (c : Finalization S D P G C) : Type 0 where
    pub allowed : Allowed g f s h (Rewrote c)
    pub none_due : NoneDue (Rewrote c ∷ h)

  -- these actions are what points hand out, with the wake of where they led as the last
  pub record AreActionsOf (h : History S D P G C) (points : List (Point S D P G C)) (end : History S D P G C) (actions : List (Action S D P G C)) : Type 0 where
    pub last : List (Deed S D P G C)
    pub wakes : EndsWith end last
    pub are : AreActions f actions (all_deeds g f s h points ++ last)

  -- an event is taken, and the node goes on until nothing is due
  pub record Takes (h : History S D P G C) (e : Event D) (actions : List (Action S D P G C)) (end : History S D P G C) : Type 0 where
    pub points : List (Point S D P G C)
    pub step : AreStep h e points
    pub rests : Rests h points end
    pub hands_out : AreActionsOf h points end actions

  -- one step: the first test that applies refuses the event, or it is taken
  abbrev pub Steps : History S D P G C → Event D → Reply S D P G C → History S D P G C → Type 0
  Steps h e reply end = IsFirst (tests g f s h e) reply.refused × MatchOption reply.refused
      (Takes h e reply.actions.items end)
      (λ r. (end ≡ h) × AreActions f reply.actions.items (refused_deeds g f s h e r))

  -- a run, one step after another
  abbrev pub Run : History S D P G C → List (Event D) → List (Reply S D P G C) → History S D P G C → Type 0
  Run h [] [] end = end ≡ h
  Run h (e ∷ events) (reply ∷ replies) end = (mid : History S D P G C) × Steps h e reply mid × Run mid events replies end
  Run h events replies end = ⊥

  -- an opening: what was found, then on until nothing is due
  pub record Opens (now : ℕ) (found : List (Artifact S D P G C)) (actions : List (Action S D P G C)) (end : History S D P G C) : Type 0 where
    pub points : List (Point S D P G C)
    pub opening : AreOpening now found points
    pub rests : Rests [] points end
    pub hands_out : AreActionsOf [] points end actions

  -- ---- a crash at any moment

  -- what is read is what is kept, a body for each artifact; and so what a rewrite may leave, the record before it or the one behind it
  abbrev pub ReadsAsKept : List (List ℕ) → History S D P G C → Type 0
  ReadsAsKept read h = read ≡ map f.artifact (kept_of s.voter.length h)

  abbrev pub IsRewriting : History S D P G C → Finalization S D P G C → List (List ℕ) → Type 0
  IsRewriting h c read = ReadsAsKept read h ⊎ (IsRewritten h c × ReadsAsKept read (Rewrote c ∷ h))

  -- what is read is what a step over this event may leave: the record before it, or that at a point of it
  abbrev pub IsReached : History S D P G C → Event D → List (List ℕ) → Type 0
  IsReached h e read = ReadsAsKept read h
      ⊎ ((points : List (Point S D P G C)) × (end : History S D P G C) × AreStep h e points × Goes h points end × ReadsAsKept read end)

  -- what is read is what an opening that found these may leave: the record at a point of it, once it went through what was found
  abbrev pub IsOpened : ℕ → List (Artifact S D P G C) → List (List ℕ) → Type 0
  IsOpened now found read = (points : List (Point S D P G C)) × (end : History S D P G C) × AreOpening now found points × Goes [] points end × ReadsAsKept read end
