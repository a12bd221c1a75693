-- At which history the views of a voter stand.
use Rattle.std.specs.Prelude.{◌≡◌, ◌≢◌, ◌↔◌, ◌⊎◌, ◌+◌, ◌<◌, ◌≤◌, ◌^◌, ℕ, Bool, true, List, [], AllPairs, Contains, Option, IsSome, Some, None, is_some, nat_lt, if◌then◌else◌}
use Rattle.std.specs.Option.{option_or}
use Rattle.std.specs.BTreeMap.{get}
use Rattle.std.specs.Ordering.{nat_cmp}
use Rattle.types_core.specs.Positions.{InCoveringRange}
use Rattle.types_core.specs.declared.scheme.Scheme.{Ghosts}
use Rattle.messages_certificates.specs.declared.nullification.Nullification.{Nullification}
use Rattle.messages_certificates.specs.declared.artifact.Artifact.{Artifact}
use Rattle.messages_certificates.specs.declared.artifact.Artifact.TheVariants as artifact
use Rattle.types_terms.specs.declared.elector.Elector as elector
use Rattle.types_terms.specs.declared.kind.Kind.TheVariants as kind
use Rattle.simplex_record.specs.Coverage as spans
use Rattle.voter_history.specs.Past.{Item}
use Rattle.voter_history.specs.Past as past
use Rattle.simplex_round.specs.Round as one
use Rattle.voter_rounds.specs.declared.notice.Notice.{Notice}
use Rattle.voter_rounds.specs.declared.notice.Notice.TheVariants as notice
use Rattle.voter_rules.specs.declared.config.Config.{Config}
use Rattle.voter_rules.specs.Configuring.{skip_budget}
use Rattle.voter_views.specs.declared.views.Views.{Views}
use Rattle.voter_views.specs.Beginning.{IsBegun}
use Rattle.voter_history.specs.History as History
use Rattle.voter_history.specs.History.{Setup, Point, unbound, build_released, ancestry_asked, certify_asked, recalled_notarize, recalled_nullify, recalled_finalize, recalled_verdict, sent, current, last_finalized, min_active, genesis, is_marked, seen, was_nullified, nullification}
use Rattle.voter_history.specs.Known.{backs, waits}
use Rattle.voter_history.specs.Leaders.{leader}
use Rattle.voter_rounds.specs.Marks.{Shows}
use Rattle.voter_views.specs.Progress.{IsAt, frame_of, tables}
use Rattle.voter_rounds.specs.Rounds as tracking
use Rattle.voter_rounds.specs.Rounds.{setup_of}
use Rattle.voter_rounds.specs.Tracked.{Tables}

-- what stays the same of a view's round
abbrev pub round_of : {S C : Type 0} → Setup S C → ℕ → one.Setup S
round_of s view = setup_of (frame_of s).common view

module _ {S D P G C : Type 0} where
  -- a view is covered: it was nullified, or an earlier view of its term was
  abbrev pub IsCovered : Setup S C → List (Point S D P G C) → ℕ → Type 0
  IsCovered s h view = (u : ℕ) × InCoveringRange s.length view u × (was_nullified h u ≡ true)

  -- each view strictly between is covered
  abbrev pub AreCoveredBetween : Setup S C → List (Point S D P G C) → ℕ → ℕ → Type 0
  AreCoveredBetween s h parent view = (u : ℕ) → parent < u → u < view → IsCovered s h u

  -- the least view strictly between that isn't covered
  pub record IsFirstUncovered (s : Setup S C) (h : List (Point S D P G C)) (parent view first : ℕ) : Type 0 where
    pub after : parent < first
    pub before : first < view
    pub bare : ¬ IsCovered s h first
    pub least : AreCoveredBetween s h parent first

  -- this is the highest nullification that covers the view, of those that are kept
  pub record IsHighestCovering (s : Setup S C) (h : List (Point S D P G C)) (view : ℕ) (c : Nullification S D P G C) : Type 0 where
    pub at : ℕ
    pub covers : InCoveringRange s.length view at
    pub there : nullification s h at ≡ Some c
    pub highest : (u : ℕ) → at < u → u ≤ view → nullification s h u ≡ None

  -- these are the views below the floor that are tracked
  pub record AreTrackedBelow (t : Tables S D P G C) (floor : ℕ) (views : List ℕ) : Type 0 where
    pub exact : (view : ℕ) → Contains views view ↔ ((view < floor) × tracking.IsTracked (t.past view) (t.led view))
    pub ascend : AllPairs (λ (u w : ℕ). u < w) views

  -- the point that an artifact of the member's record is; of a notarize, with whether its proposal is taken
  abbrev pub recalls : Bool → Artifact S D P G C → Point S D P G C
  recalls taken (artifact.Notarize v) = recalled_notarize v.proposal taken
  recalls taken (artifact.Notarization c) = sent kind.Notarization c.proposal.round.view
  recalls taken (artifact.Certification round ok) = recalled_verdict round.view ok
  recalls taken (artifact.Nullify v) = recalled_nullify v.round.view
  recalls taken (artifact.Nullification c) = sent kind.Nullification c.round.view
  recalls taken (artifact.Finalize v) = recalled_finalize v.proposal
  recalls taken (artifact.Finalization c) = sent kind.Finalization c.proposal.round.view

  -- the point that a notice of a view is
  abbrev pub noticed : ℕ → Notice → Point S D P G C
  noticed view notice.Unbound = unbound view
  noticed view notice.BuildReleased = build_released view
  noticed view (notice.AncestryAsked missing) = ancestry_asked view missing
  noticed view (notice.CertifyAsked handle) = certify_asked view handle

  -- what is kept of a view's nullification where the views below the floor are dropped: what was kept, or of one of these from the
  -- first on its own
  abbrev pub kept_from : ℕ → ℕ → Option (Nullification S D P G C) → List (Item S D P G C) → ℕ → Option (Nullification S D P G C)
  kept_from first floor kept x view = if nat_lt view floor then option_or kept (if nat_lt view first then None else past.nullification x) else kept

module _ {S L D P G C : Type 0} where
  -- the setup of a voter that was built so, whatever it starts from
  abbrev pub built : {F : Type 0} → Ghosts S D P G C → elector.Ghosts L S D P G C → S → L → Config F → Setup S C
  built g e scheme l c = record {
    scheme = scheme;
    me = g.own scheme;
    epoch = c.epoch;
    length = (e.terms_of l).length;
    optimistic_views = (e.terms_of l).optimistic_views;
    stall_timeout = (e.terms_of l).stall_timeout;
    mode = e.mode_of l;
    elect = λ view certificate. e.leader l (record { epoch = c.epoch; view = view }) certificate;
    retention = c.view_retention;
    leader_timeout = c.leader_timeout;
    certification_timeout = c.certification_timeout;
    timeout_retry = c.timeout_retry;
    skip_budget = skip_budget c.skip (g.size scheme);
  }

  pub record IsKept (g : Ghosts S D P G C) (e : elector.Ghosts L S D P G C) (s : Setup S C) (v : Views S L D P G C) (h : List (Point S D P G C)) : Type 0 where
    pub scheme : v.scheme.value ≡ s.scheme
    pub me : g.own s.scheme ≡ s.me
    pub epoch : v.epoch ≡ s.epoch
    pub length : v.lookahead.length ≡ s.length
    pub optimistic_views : v.lookahead.optimistic_views ≡ s.optimistic_views
    pub retention : v.retention ≡ s.retention
    pub mode : e.mode_of v.elector ≡ s.mode
    pub elects : (view : ℕ) (c : Option C) → e.leader v.elector (record { epoch = s.epoch; view = view }) c ≡ s.elect view c
    pub members : (view : ℕ) (c : Option C) → s.elect view c < g.size s.scheme
    pub progress : IsAt g s v.progress (current s h) (tables s h)
    pub last_finalized : v.last_finalized ≡ last_finalized h
    pub behind : History.last_finalized h + 1 < 2 ^ 64
    pub begun : IsBegun s v.beginning h
    pub genesis : v.genesis ≡ genesis h
    pub coverage : (view : ℕ) → spans.IsCovered v.coverage view ↔ IsCovered s h view
    pub backed : Shows v.backed (is_marked s backs h)
    pub waiting : Shows v.waiting (is_marked s waits h)
    pub nullified : Shows v.nullified (λ view. is_some (nullification s h view))
    pub nullifications : (view : ℕ) → nullification s h view ≡ option_or (get nat_cmp v.reaching view) (past.nullification (seen s h view))

  -- the views stand where this history leads, closed for those who stand above
  unfoldable pub Keeps : Ghosts S D P G C → elector.Ghosts L S D P G C → Setup S C → Views S L D P G C → List (Point S D P G C) → Type 0
  Keeps g e s v h = IsKept g e s v h

  -- what holds of each history that leads here
  abbrev pub AtEach : Ghosts S D P G C → elector.Ghosts L S D P G C → Views S L D P G C → (Setup S C → List (Point S D P G C) → Type 0) → Type 0
  AtEach g e v Q = (s : Setup S C) (h : List (Point S D P G C)) → Keeps g e s v h → Q s h
