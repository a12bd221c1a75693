-- At which history of its node the votes of all views stand.
use Rattle.std.specs.Prelude.{◌≡◌, ◌≢◌, ◌⊎◌, ◌<◌, ◌≤◌, ◌&&◌, nat_lt, ℕ, Bool, [], ◌∷◌, Some, None, MatchOption, if◌then◌else◌, is_none, true, false}
use Rattle.types_core.specs.declared.position.Round.{Round}
use Rattle.types_core.specs.declared.scheme.Scheme.{Ghosts}
use Rattle.types_core.specs.Positions.{HasRoom}
use Rattle.batcher_verifier.specs.History as votes
use Rattle.simplex_messages.specs.declared.vote.Vote.{Vote}
use Rattle.simplex_messages.specs.VoteParts.{vote_round, vote_signer}
use Rattle.batcher_verifier.specs.ConstructionResult.{IsBatch}
use Rattle.batcher_verifier.specs.History.{forwardable, next_kind, recorded}
use Rattle.batcher_verifier.specs.Votes.{vote_attestation, vote_statement}
use Rattle.simplex_member.specs.Layers.{add_point, all_votes, concerns, current_of, floor_of, has_room, may_enter, opened, passes_over, stage, votes_of, votes_setup, Stage, Unopened, IsUp, first_up}
use Rattle.simplex_member.specs.Point.{History, Point, Constructs, Forwards}
use Rattle.simplex_member.specs.Setup.{Setup}
use Rattle.node_votes.specs.declared.acceptance.Acceptance.{Acceptance}
use Rattle.node_votes.specs.declared.due.Due.{Due}
use Rattle.node_votes.specs.declared.due.Due.TheVariants as due
use Rattle.node_votes.specs.Standing.{Common, Stand}

-- what stays the same of a member's votes
abbrev pub common_part : {S D C : Type 0} → Setup S D C → Common S
common_part s = record { scheme = s.voter.scheme; epoch = s.voter.epoch; me = s.me; tracks = s.tracks }

module _ {S D C : Type 0} where
  -- votes are kept so
  pub record IsSetUp (s : Setup S D C) (scheme : S) (epoch length me : ℕ) (tracks : Bool) : Type 0 where
    pub scheme_is : scheme ≡ s.voter.scheme
    pub epoch_is : epoch ≡ s.voter.epoch
    pub length_is : length ≡ s.voter.length
    pub me_is : me ≡ s.me
    pub tracks_is : tracks ≡ s.tracks

module _ {S D P G C : Type 0} where
  -- the votes of a round may be kept: it is of the epoch, not below the floor, and its view has room
  pub record IsOpenTo (s : Setup S D C) (h : History S D P G C) (r : Round) : Type 0 where
    pub epoch : r.epoch ≡ s.voter.epoch
    pub kept : floor_of s h ≤ r.view
    pub room : HasRoom s.voter.length r.view

  -- nothing is kept of the votes of a view: it is below the floor, or has no room
  abbrev pub IsShut : Setup S D C → History S D P G C → ℕ → Type 0
  IsShut s h view = (view < floor_of s h) ⊎ ¬ HasRoom s.voter.length view

  -- an own vote attests what it states, is of the epoch, has room, and no accepted vote stands in its way
  pub record IsNewVote (g : Ghosts S D P G C) (s : Setup S D C) (h : History S D P G C) (v : Vote S D P G C) : Type 0 where
    pub epoch : (vote_round v).epoch ≡ s.voter.epoch
    pub room : HasRoom s.voter.length (vote_round v).view
    pub attests : g.attests s.voter.scheme (vote_signer v) (vote_statement v) (vote_attestation v).signature
    pub free : is_none (recorded (votes_of s h (vote_round v).view) v) ≡ true

  -- whether the votes of a view came up, a point ahead: what the point brings is taken, and the view that it enters is not entered yet
  abbrev pub stage_ahead : Setup S D C → History S D P G C → Point S D P G C → ℕ → Stage
  stage_ahead s h p view = if nat_lt view (floor_of s h) then Unopened else (if concerns view p && has_room s.voter.length view then first_up (opened s h view) (passes_over s h view) else opened s h view)

  -- what happened to the votes of a view, a point ahead
  abbrev pub votes_ahead : Setup S D C → History S D P G C → Point S D P G C → ℕ → votes.History S D P G C
  votes_ahead s h p view = if nat_lt view (floor_of s h) then [] else add_point view p (all_votes view h)

module _ {S D P G C : Type 0} (g : Ghosts S D P G C) (same : D → D → Bool) where
  pub record IsAt (s : Setup S D C) (a : Acceptance S D P G C) (current floor : ℕ) (up : ℕ → Stage) (happened : ℕ → votes.History S D P G C) : Type 0 where
    pub length_is : a.length ≡ s.voter.length
    pub current_is : a.current ≡ current
    pub floor_is : a.floor ≡ floor
    pub rounds : Stand g same (common_part s) a.rounds up happened

  -- the votes of all views stand where the node's history leads: closed for those who stand above
  unfoldable pub Keeps : Setup S D C → Acceptance S D P G C → History S D P G C → Type 0
  Keeps s a h = IsAt s a (current_of s h) (floor_of s h) (stage s h) (votes_of s h)

  -- they are a point ahead: what the point brings of votes is taken, but the view that it enters is not entered yet, and nothing is
  -- dropped yet
  unfoldable pub KeepsAhead : Setup S D C → Acceptance S D P G C → History S D P G C → Point S D P G C → Type 0
  KeepsAhead s a h p = IsAt s a (current_of s h) (floor_of s h) (stage_ahead s h p) (votes_ahead s h p)

  -- what holds of each history that leads here
  abbrev pub AtEach : Acceptance S D P G C → (Setup S D C → History S D P G C → Type 0) → Type 0
  AtEach a Holds = (s : Setup S D C) (h : History S D P G C) → Keeps s a h → Holds s h

  -- of the votes of no view a construction is due, nor a proposal to forward
  pub record NoneIsDue (s : Setup S D C) (h : History S D P G C) : Type 0 where
    pub no_construction : (view : ℕ) → IsUp (stage s h view) → next_kind same (votes_setup s g h view) (votes_of s h view) ≡ None
    pub no_forward : (view : ℕ) → IsUp (stage s h view) → forwardable (votes_of s h view) s.me ≡ None

  -- what was due of the votes of a view is done: their proposal is forwarded; or a construction was made, by which a view may be entered
  abbrev pub Does : Setup S D C → History S D P G C → Acceptance S D P G C → ℕ → Due S D P G C → Type 0
  Does s h new view (due.Forwards p) = IsUp (stage s h view) × (forwardable (votes_of s h view) s.me ≡ Some p) × Keeps s new (Forwards view p ∷ h)
  Does s h new view (due.Made batch) = IsUp (stage s h view) × MatchOption (next_kind same (votes_setup s g h view) (votes_of s h view)) ⊥
      (λ kind. IsBatch g same (votes_setup s g h view) kind (votes_of s h view) batch × KeepsAhead s new h (Constructs view kind batch))

module _ {S D P G C : Type 0} where
  -- a point says nothing of the votes of any view
  abbrev pub SaysNothing : Point S D P G C → Type 0
  SaysNothing p = (view : ℕ) → (concerns view p ≡ false) × ((r : votes.History S D P G C) → add_point view p r ≡ r)

module _ {S D P G C : Type 0} (g : Ghosts S D P G C) (same : D → D → Bool) where
  -- behind a point that says nothing of votes, and by which no view is entered, they stand where they did
  abbrev pub QuietStays : Type 0
  QuietStays = (s : Setup S D C) (a : Acceptance S D P G C) (h : History S D P G C) (p : Point S D P G C) → SaysNothing p → may_enter p ≡ false → Keeps g same s a h → Keeps g same s a (p ∷ h)

  -- a point ahead they do for any point that says nothing of them
  abbrev pub SilentStays : Type 0
  SilentStays = (s : Setup S D C) (a : Acceptance S D P G C) (h : History S D P G C) (p : Point S D P G C) → SaysNothing p → Keeps g same s a h → KeepsAhead g same s a h p

  -- something happened to the votes of those views alone whose votes came up
  abbrev pub KeptCameUp : Type 0
  KeptCameUp = (s : Setup S D C) (a : Acceptance S D P G C) (h : History S D P G C) (view : ℕ) → Keeps g same s a h → votes_of s h view ≢ [] → IsUp (stage s h view)
