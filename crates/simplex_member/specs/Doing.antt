-- What acts do, and how many of them stand behind one event.
use Rattle.std.specs.Prelude.{◌≢◌, ◌<◌, ◌≤◌, ◌+◌, ◌*◌, ◌/◌, ◌^◌, ℕ, List, [], ◌∷◌, length, All, AllPairs, Option, is_some, IfSome, if◌then◌else◌, ⊤}
use Rattle.types_core.specs.declared.scheme.Scheme.{Ghosts}
use Rattle.simplex_messages.specs.VoteParts.{vote_round}
use Rattle.types_terms.specs.declared.kind.Kind.{Kind}
use Rattle.batcher_verifier.specs.Votes.{vote_kind}
use Rattle.simplex_resolver.specs.declared.ask.Ask.{Ask}
use Rattle.simplex_member.specs.Allowed.{AreAllowed}
use Rattle.simplex_member.specs.Layers.{current_of}
use Rattle.simplex_member.specs.Member.{Goes}
use Rattle.simplex_member.specs.Packet.{Formats}
use Rattle.simplex_member.specs.Point.{Point, Leads, Forwards, Constructs, Latches, Polls, AsksBuild, AsksVerify, AsksCertify, GivesBack, LeavesBehind, PutsOff, Asks, Resolves, Votes, Repeats, AreActs, History}
use Rattle.simplex_member.specs.Setup.{Setup, GoesByMembers}

-- what is done of one view
pub data Once : Type 0 where
  -- its votes learn who leads; their proposal goes to the voter; a construction of a kind makes a certificate, or makes none
  leads : Once
  forwards : Once
  makes : Kind → Once
  judges : Kind → Once
  -- a reason to give it up counts; its next timeout is polled; its nullify is sent once more
  latches : Once
  polls : Once
  repeats : Once
  -- a vote of a kind; a verdict is asked for, or put off
  votes : Kind → Once
  certifies : Once
  puts_off : Once

-- what an act does
pub data Doing : Type 0 where
  of_view : Once → ℕ → Doing
  -- under this number a build or a verification is asked for; the build of this number is given back, or left behind
  numbers : ℕ → Doing
  returns : ℕ → Doing
  -- a view is asked for, of one or of all; what a view lacks of another one was asked for
  seeks : ℕ → Ask → Option ℕ → Doing
  resolves : ℕ → ℕ → Doing
  -- nothing: something came
  takes_in : Doing

module _ {S D P G C : Type 0} (s : Setup S D C) where
  -- what a point does
  abbrev pub doing : History S D P G C → Point S D P G C → Doing
  doing h (Leads view index) = of_view leads view
  doing h (Forwards view p) = of_view forwards view
  doing h (Constructs view kind batch) = of_view (if is_some batch.certificate then makes kind else judges kind) view
  doing h (Latches view why) = of_view latches view
  doing h Polls = of_view polls (current_of s h)
  doing h (AsksBuild number handoff context) = numbers number
  doing h (AsksVerify number context p) = numbers number
  doing h (AsksCertify p) = of_view certifies p.round.view
  doing h (GivesBack number view) = returns number
  doing h (LeavesBehind number) = returns number
  doing h (PutsOff view) = of_view puts_off view
  doing h (Asks view ask to) = seeks view ask to
  doing h (Resolves view kind u) = resolves view u
  doing h (Votes v) = of_view (votes (vote_kind v)) (vote_round v).view
  doing h (Repeats v best) = of_view repeats v.round.view
  doing h p = takes_in

  -- what points do, each behind those before it
  abbrev pub doings : History S D P G C → List (Point S D P G C) → List Doing
  doings h [] = []
  doings h (p ∷ points) = doing h p ∷ doings (p ∷ h) points

-- what is done is about views below the first number, and asked of members below the second
abbrev pub IsAmong : ℕ → ℕ → Doing → Type 0
IsAmong views members (of_view once view) = view < views
IsAmong views members (seeks view ask to) = (view < views) × IfSome to (λ i. i < members)
IsAmong views members (resolves view u) = view < views
IsAmong views members d = ⊤

-- how much can be done, each once: of each view 16 things; each view asked for in four ways, of each member or of all; of each view each
-- earlier one resolved; each number of 64 bits taken, and given back
abbrev pub most_acts : ℕ → ℕ → ℕ
most_acts views members = 16 * views + 4 * ((members + 1) * views) + views * views / 2 + 2 * 2 ^ 64

-- A setup by which acts end: the member and whoever leads is one of so many, terms have views, and a nullify is sent again only after some
-- time
pub record LetsActsEnd {S D C : Type 0} (s : Setup S D C) (members : ℕ) : Type 0 where
  pub member : s.me < members
  pub by_members : GoesByMembers s members
  pub terms : 0 < s.voter.length
  pub retries : 0 < s.voter.timeout_retry

module _ {S D P G C : Type 0} (g : Ghosts S D P G C) (f : Formats S D P G C) (s : Setup S D C) where
  -- behind one event nothing is done twice, where a nullify is sent again only after some time
  abbrev pub NothingIsDoneTwice : Type 0
  NothingIsDoneTwice = (h end : History S D P G C) (acts : List (Point S D P G C)) → 0 < g.size s.voter.scheme → 0 < s.voter.timeout_retry
      → AreAllowed g f s h → AreActs acts → Goes g f s h acts end → AllPairs (λ a b. a ≢ b) (doings s h acts)

  -- so acts end: there are no more of them than can be done of the views and members that they are about
  abbrev pub ActsEnd : Type 0
  ActsEnd = (h end : History S D P G C) (acts : List (Point S D P G C)) (views members : ℕ) → 0 < g.size s.voter.scheme
      → 0 < s.voter.timeout_retry → AreAllowed g f s h → AreActs acts → Goes g f s h acts end
      → All (IsAmong views members) (doings s h acts) → length acts ≤ most_acts views members

  -- so many whatever happened before: views have 64 bits
  abbrev pub ActsEndAnyhow : Type 0
  ActsEndAnyhow = (h end : History S D P G C) (acts : List (Point S D P G C)) (members : ℕ) → 0 < g.size s.voter.scheme
      → LetsActsEnd s members → AreAllowed g f s h → AreActs acts → Goes g f s h acts end → length acts ≤ most_acts (2 ^ 64) members
