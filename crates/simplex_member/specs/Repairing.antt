-- What follows from how a member repairs, as statements. Each is proved where a function without a body has it as a clause (`repairing.rt`).
use Rattle.std.specs.Prelude.{◌≡◌, ◌⊎◌, ◌↔◌, ◌≤◌, ◌++◌, not, is_some, length, ℕ, Bool, true, false, List, [], ◌∷◌, All, Contains, Option, Some, None, if◌then◌else◌}
use Rattle.types_core.specs.declared.scheme.Scheme.{Ghosts}
use Rattle.messages_certificates.specs.declared.certificate.Certificate.{Certificate}
use Rattle.messages_certificates.specs.declared.nullify.Nullify.{Nullify}
use Rattle.messages_certificates.specs.ProposalVote.{Finalize, Notarize}
use Rattle.simplex_messages.specs.declared.vote.Vote.{Vote}
use Rattle.simplex_messages.specs.declared.vote.Vote.TheVariants as vote
use Rattle.simplex_resolver.specs.declared.ask.Ask.{Ask}
use Rattle.simplex_resolver.specs.declared.ask.Until.{Until}
use Rattle.simplex_resolver.specs.declared.ask.Until.TheVariants as until
use Rattle.simplex_resolver.specs.Answers.{is_settled}
use Rattle.simplex_resolver.specs.Outstanding.{IsOutstanding}
use Rattle.voter_history.specs.History.{seen}
use Rattle.voter_history.specs.Past as past
use Rattle.voter_rules.specs.Ancestry.{held_at}
use Rattle.voter_rules.specs.GivingUp.{NullifyIsDue}
use Rattle.voter_rules.specs.VotesDue.{NotarizeIsDue, FinalizeIsDue}
use Rattle.simplex_member.specs.declared.asked.Asked.{Asked}
use Rattle.voter_rules.specs.declared.config.Again.TheVariants as again
use Rattle.voter_rules.specs.declared.config.RepairPolicy.{RepairPolicy}
use Rattle.simplex_member.specs.Allowed.{Allowed, RepeatIsDue, RetryIsKnown, VoteIsDue}
use Rattle.simplex_member.specs.Asked.{IsInWindow, IsPending, asks_now, asks_of, backfill}
use Rattle.simplex_member.specs.Deeds.{deeds_of}
use Rattle.simplex_member.specs.Layers.{current_of, is_begun, known_of, latest, repair_of, voter_of}
use Rattle.simplex_member.specs.Member.{Goes, IsGivenUpAt, NoAskIsDue}
use Rattle.simplex_member.specs.Packet.{Formats}
use Rattle.simplex_member.specs.Point.{Point, Asks, Constructs, PutsOff, Repeats, Resolves, AreActs, History}
use Rattle.simplex_member.specs.Recorded.{kept_of}
use Rattle.simplex_member.specs.Setup.{Setup, member_of}

-- the setup with another policy of repair
abbrev pub repairing : {S D C : Type 0} → RepairPolicy → Setup S D C → Setup S D C
repairing policy s = record s { repair = policy }

-- an ask stands until the floor: it is for what lets a member leave a view behind
abbrev pub is_until_floor : Until → Bool
is_until_floor until.Floor = true
is_until_floor until.Finalization = false

module _ {S D P G C : Type 0} where
  -- the view to leave behind that a point asks for, if it does, and those that points ask for
  abbrev pub backfill_of : Point S D P G C → List ℕ
  backfill_of (Asks view ask to) = if is_until_floor ask.until then view ∷ [] else []
  backfill_of p = []

  abbrev pub backfills : List (Point S D P G C) → List ℕ
  backfills [] = []
  backfills (p ∷ points) = backfill_of p ++ backfills points

  -- a point makes no certificate
  abbrev pub makes_none : Point S D P G C → Bool
  makes_none (Constructs view kind batch) = not (is_some batch.certificate)
  makes_none p = true

  -- a point is an ask, or stands only where something was asked for
  abbrev pub is_of_asks : Point S D P G C → Bool
  is_of_asks (PutsOff view) = true
  is_of_asks (Asks view ask to) = true
  is_of_asks (Resolves view kind u) = true
  is_of_asks p = false

module _ {S D P G C : Type 0} (g : Ghosts S D P G C) (f : Formats S D P G C) (s : Setup S D C) where
  -- ---- asks go again with repeated nullifies alone

  -- this goes out again behind a nullify that was repeated, before which it was asked and since which it was not; and nothing settled it
  pub record WentWithNullify (h : History S D P G C) (x : Asked) : Type 0 where
    pub again_is : s.repair.again ≡ again.WithNullify
    pub vote : Nullify S D P G C
    pub best : Option (Certificate S D P G C)
    pub since : List (Point S D P G C)
    pub before : History S D P G C
    pub split : h ≡ since ++ Repeats vote best ∷ before
    pub asked : Contains (asks_of before) x
    pub not_since : ¬ Contains (asks_of since) x
    pub unsettled : is_settled s.voter.length (repair_of f h) x.view x.ask.kind ≡ false

  -- what is asked a second time since the opening goes so
  abbrev pub AsksGoAgainWithNullifies : Type 0
  AsksGoAgainWithNullifies = (h : History S D P G C) (view : ℕ) (ask : Ask) (to : Option ℕ) → Allowed g f s h (Asks view ask to)
      → Contains (asks_of h) (record { view = view; ask = ask; to = to }) → WentWithNullify h (record { view = view; ask = ask; to = to })

  -- ---- asks do go again

  -- this view is to be left behind, and among the first of those: all are to be asked for what lets a member do so
  pub record IsToBeLeft (h : History S D P G C) (view : ℕ) (ask : Ask) (to : Option ℕ) : Type 0 where
    pub is : ask ≡ backfill
    pub of_all : to ≡ None
    pub outstanding : IsOutstanding s.voter.length (repair_of f h) view
    pub within : IsInWindow f s h view

  -- this still stands at the end: the view is to be left behind, or it was asked until a finalization before; and nothing settled it
  pub record StillStands (before end : History S D P G C) (view : ℕ) (ask : Ask) (to : Option ℕ) : Type 0 where
    pub stands : IsToBeLeft end view ask to ⊎ IsPending before view ask to
    pub unsettled : is_settled s.voter.length (repair_of f end) view ask.kind ≡ false

  -- where asks go again, and acts among which a nullify was repeated left none due, each that still stands was asked in these acts, or
  -- before them since the time was told last
  abbrev pub UnsettledAsksGoAgain : Type 0
  UnsettledAsksGoAgain = (h end : History S D P G C) (acts : List (Point S D P G C)) (vote : Nullify S D P G C) (best : Option (Certificate S D P G C))
      → s.repair.again ≡ again.WithNullify → AreActs acts → Goes g f s h acts end → Contains acts (Repeats vote best) → NoAskIsDue g f s end
      → (view : ℕ) (ask : Ask) (to : Option ℕ) → StillStands h end view ask to
      → Contains (asks_now h) (record { view = view; ask = ask; to = to }) ⊎ Contains acts (Asks view ask to)

  -- ---- asks are in their window

  -- behind one event, while no certificate is made, no more views to leave behind are asked for than may be at once
  abbrev pub AsksAreInTheirWindow : Type 0
  AsksAreInTheirWindow = (h end : History S D P G C) (acts : List (Point S D P G C)) (most : ℕ) → s.repair.window ≡ Some most → AreActs acts
      → All (λ p. makes_none p ≡ true) acts → Goes g f s h acts end → length (backfills acts) ≤ most

  -- ---- nothing else waits for asks

  -- an own vote is due where the voter's rules have it, and so is the recorded nullify once more: whatever was asked, or is to be
  pub record VotesWaitForNoAsk (h : History S D P G C) : Type 0 where
    pub notarizes : (v : Notarize S D P G C) → NotarizeIsDue (member_of s) (known_of s h) v.proposal.round.view
        → held_at (member_of s) (known_of s h) v.proposal.round.view ≡ Some v.proposal → VoteIsDue g f s h (vote.Notarize v)
    pub finalizes : (v : Finalize S D P G C) → FinalizeIsDue (member_of s) (known_of s h) v.proposal.round.view
        → held_at (member_of s) (known_of s h) v.proposal.round.view ≡ Some v.proposal → VoteIsDue g f s h (vote.Finalize v)
    pub nullifies : (v : Nullify S D P G C) → v.round.view ≡ current_of s h → NullifyIsDue s.voter (voter_of s h) (latest h)
        → past.has_nullified (seen s.voter (voter_of s h) v.round.view) ≡ false → VoteIsDue g f s h (vote.Nullify v)

  -- by another policy the voter's history is the same, and so are the votes and repetitions that are due, when the current view is given
  -- up, and that this is known
  pub record IsOfAsksAlone (policy : RepairPolicy) (h : History S D P G C) : Type 0 where
    pub voter : voter_of (repairing policy s) h ≡ voter_of s h
    pub votes : (v : Vote S D P G C) → VoteIsDue g f s h v ↔ VoteIsDue g f (repairing policy s) h v
    pub repeats : (v : Nullify S D P G C) (best : Option (Certificate S D P G C)) → RepeatIsDue g f s h v best ↔ RepeatIsDue g f (repairing policy s) h v best
    pub retries : RetryIsKnown g f s h ↔ RetryIsKnown g f (repairing policy s) h
    pub wakes : (now : ℕ) → IsGivenUpAt g f s h now ↔ IsGivenUpAt g f (repairing policy s) h now

  abbrev pub NothingElseWaitsForAsks : Type 0
  NothingElseWaitsForAsks = (h : History S D P G C) → VotesWaitForNoAsk h × ((policy : RepairPolicy) → IsOfAsksAlone policy h)

  -- ---- an ask changes nothing else

  -- behind this point all that is not of asks may come that might before it, and no more, and hands out the same; the same is kept, and
  -- the current view would be given up at the same moments
  pub record ChangesAsksAlone (h : History S D P G C) (p : Point S D P G C) : Type 0 where
    pub comes : (q : Point S D P G C) → is_of_asks q ≡ false → Allowed g f s h q ↔ Allowed g f s (p ∷ h) q
    pub hands_out : (q : Point S D P G C) → deeds_of g f s (p ∷ h) q ≡ deeds_of g f s h q
    pub keeps : kept_of s.voter.length (p ∷ h) ≡ kept_of s.voter.length h
    pub wakes : (now : ℕ) → IsGivenUpAt g f s h now ↔ IsGivenUpAt g f s (p ∷ h) now

  abbrev pub AsksChangeNothingElse : Type 0
  AsksChangeNothingElse = (h : History S D P G C) (view : ℕ) (ask : Ask) (to : Option ℕ) → is_begun h ≡ true → ChangesAsksAlone h (Asks view ask to)
