-- What is kept of the votes of all views.
use Rattle.std.specs.Prelude.{◌≡◌, ◌≢◌, ◌↔◌, ◌≤◌, ◌<◌, ◌==◌, ◌&&◌, nat_lt, not, ℕ, Bool, true, false, [], ◌∷◌, Option, Some, None, IfSome, IsTrue, MatchOption, if◌then◌else◌, is_none, ⊤}
use Rattle.std.specs.BTreeSet.{contains}
use Rattle.std.specs.Ordering.{nat_cmp}
use Rattle.types_quorum.specs.Committee.{quorum}
use Rattle.types_core.specs.LatestFirst.{stored}
use Rattle.types_core.specs.declared.scheme.Scheme.{Ghosts}
use Rattle.messages_certificates.specs.declared.certificate.Certificate.{Certificate}
use Rattle.simplex_messages.specs.declared.vote.Vote.{Vote}
use Rattle.simplex_messages.specs.declared.activity.Activity.{Activity}
use Rattle.simplex_messages.specs.VoteParts.{vote_round, vote_signer}
use Rattle.batcher_admission.specs.declared.admission.Admission.{Admission}
use Rattle.batcher_admission.specs.Evidence.{as_report}
use Rattle.batcher_verifier.specs.ConstructionResult.{IsBatch, IsReadable, after}
use Rattle.batcher_verifier.specs.History.{Event, Taken, Cast, Forwarded, History, Setup, forwardable, leader_of, next_kind, recorded, takes}
use Rattle.batcher_verifier.specs.Votes.{vote_attestation, vote_statement}
use Rattle.simplex_batcher.specs.Admission.{IsBlocked, contradicts, report_of}
use Rattle.simplex_batcher.specs.declared.round.Round.{Round}
use Rattle.simplex_batcher.specs.Rounds.{RoundKeeps}
use Rattle.node_votes.specs.declared.due.Due.{Due}
use Rattle.node_votes.specs.declared.due.Due.TheVariants as due
use Rattle.node_votes.specs.declared.rounds.Rounds.{Rounds}
use Rattle.simplex_member.specs.Layers.{Stage, Unopened, Collected, PassedOver, IsUp, first_up, skips}

-- what stays the same of the votes of all views
pub record Common (S : Type 0) : Type 0 where
  -- the scheme and the epoch
  pub scheme : S
  pub epoch : ℕ
  -- the member's own index
  pub me : ℕ
  -- votes are kept in full for good
  pub tracks : Bool

-- where votes came up, this holds of whether their view is passed over; the same, and they did
abbrev pub IfUp : Stage → (Bool → Type 0) → Type 0
IfUp Unopened Holds = ⊤
IfUp Collected Holds = Holds false
IfUp PassedOver Holds = Holds true

abbrev pub WhereUp : Stage → (Bool → Type 0) → Type 0
WhereUp Unopened Holds = ⊥
WhereUp Collected Holds = Holds false
WhereUp PassedOver Holds = Holds true

-- a view whose votes come up at this current view is passed over: it is behind, and votes of such views are not kept
abbrev pub is_passed : {S : Type 0} → Common S → ℕ → ℕ → Bool
is_passed s view current = nat_lt view current && not s.tracks

-- the votes of a view come up, where they didn't before, and are passed over or not; those of other views do as before
abbrev pub come_up : ℕ → Bool → (ℕ → Stage) → ℕ → Stage
come_up at passed up view = if at == view then first_up (up view) passed else up view

-- of the views from the floor on the same came up
abbrev pub up_from : ℕ → (ℕ → Stage) → ℕ → Stage
up_from floor up view = if nat_lt view floor then Unopened else up view

module _ {S D P G C : Type 0} where
  -- one more thing happened to the votes of a view
  abbrev pub put : ℕ → Event (Vote S D P G C) (Certificate S D P G C) → (ℕ → History S D P G C) → ℕ → History S D P G C
  put at e happened view = if at == view then e ∷ happened view else happened view

  -- this is what happened to the votes of a view, and to those of others the same as before
  abbrev pub set_at : ℕ → History S D P G C → (ℕ → History S D P G C) → ℕ → History S D P G C
  set_at at new happened view = if at == view then new else happened view

  -- to the votes of the views from the floor on the same happened
  abbrev pub happened_from : ℕ → (ℕ → History S D P G C) → ℕ → History S D P G C
  happened_from floor happened view = if nat_lt view floor then [] else happened view

  -- what stays the same, as the rounds have it
  abbrev pub common_of : Rounds S D P G C → Common S
  common_of r = record { scheme = r.scheme.value; epoch = r.epoch; me = r.me; tracks = r.tracks }

  -- of a view the rounds have what others had
  pub record AreAlike (old new : Rounds S D P G C) (view : ℕ) : Type 0 where
    pub rounds : stored new.by_view view ≡ stored old.by_view view
    pub touched : contains nat_cmp new.touched view ≡ contains nat_cmp old.touched view
    pub unled : contains nat_cmp new.unled view ≡ contains nat_cmp old.unled view

module _ {S D P G C : Type 0} where
  -- where a certificate was made, it can be read in a committee of so many
  abbrev pub CanBeRead : (ℕ → C → Type 0) → ℕ → Option (Due S D P G C) → Type 0
  CanBeRead within members (Some (due.Made batch)) = IfSome batch.certificate (IsReadable within members)
  CanBeRead within members due = ⊤

  -- of each view from this one on whose votes came up they know who leads
  abbrev pub AreLedFrom : (ℕ → Stage) → (ℕ → History S D P G C) → ℕ → Type 0
  AreLedFrom up happened from = (view : ℕ) → from ≤ view → IsUp (up view) → leader_of (happened view) ≢ None

  -- this is the first view from that one on whose votes came up and don't know who leads
  pub record IsFirstUnled (up : ℕ → Stage) (happened : ℕ → History S D P G C) (from view : ℕ) : Type 0 where
    pub behind : from ≤ view
    pub there : IsUp (up view)
    pub waits : leader_of (happened view) ≡ None
    pub first : (u : ℕ) → from ≤ u → u < view → IsUp (up u) → leader_of (happened u) ≢ None

module _ {S D P G C : Type 0} (g : Ghosts S D P G C) where
  -- what stays the same of the votes of one view, passed over or not
  abbrev pub setup_at : Common S → ℕ → Bool → Setup S
  setup_at s view is_skipped = record {
    round = record { epoch = s.epoch; view = view };
    scheme = s.scheme;
    members = g.size s.scheme;
    needed = quorum (g.size s.scheme);
    batchable = g.batchable s.scheme;
    tracks = s.tracks;
    is_skipped = is_skipped;
  }

  -- the same at this current view: where its votes didn't come up, as if they did now
  abbrev pub setup_now : Common S → (ℕ → Stage) → ℕ → ℕ → Setup S
  setup_now s up view current = setup_at s view (skips (up view) (is_passed s view current))

module _ {S D P G C : Type 0} (g : Ghosts S D P G C) (same : D → D → Bool) where
  -- the votes of a view stand in its round where this history leads; there is a round exactly where they came up
  abbrev pub IsKept : Common S → ℕ → Option (Round S D P G C) → Stage → History S D P G C → Type 0
  IsKept s view round up happened = MatchOption round ((up ≡ Unopened) × (happened ≡ [])) (λ r. WhereUp up (λ skipped. RoundKeeps same g g.batchable (setup_at g s view skipped) r happened))

  -- nothing is due of the votes of a view: no construction, and no proposal to forward
  pub record IsAtRest (s : Common S) (view : ℕ) (skipped : Bool) (happened : History S D P G C) : Type 0 where
    pub no_construction : next_kind same (setup_at g s view skipped) happened ≡ None
    pub no_forward : forwardable happened s.me ≡ None

  -- nothing is due of the votes of any view
  abbrev pub AreAtRest : Common S → (ℕ → Stage) → (ℕ → History S D P G C) → Type 0
  AreAtRest s up happened = (view : ℕ) → IfUp (up view) (λ skipped. IsAtRest s view skipped (happened view))

  -- The votes of each view stand where this happened to them, those of which came up. Nothing is due of a view that is not touched,
  -- and the leader of a view is named exactly where it doesn't wait for that.
  pub record Stand (s : Common S) (r : Rounds S D P G C) (up : ℕ → Stage) (happened : ℕ → History S D P G C) : Type 0 where
    pub shared : common_of r ≡ s
    pub kept : (view : ℕ) → IsKept s view (stored r.by_view view) (up view) (happened view)
    pub at_rest : (view : ℕ) → contains nat_cmp r.touched view ≡ false → IfUp (up view) (λ skipped. IsAtRest s view skipped (happened view))
    pub named : (view : ℕ) → contains nat_cmp r.unled view ≡ false → IsUp (up view) → leader_of (happened view) ≢ None
    pub waits : (view : ℕ) → contains nat_cmp r.unled view ≡ true → leader_of (happened view) ≡ None

  -- what holds of whatever led here
  abbrev pub AtEach : Rounds S D P G C → (Common S → (ℕ → Stage) → (ℕ → History S D P G C) → Type 0) → Type 0
  AtEach r Holds = (s : Common S) (up : ℕ → Stage) (happened : ℕ → History S D P G C) → Stand s r up happened → Holds s up happened

  -- what is answered to a vote from the network, and where the votes stand then, by what is kept of its view
  pub record IsAdmitted (s : Common S) (up : ℕ → Stage) (happened : ℕ → History S D P G C) (new : Rounds S D P G C) (current sender : ℕ) (v : Vote S D P G C) (a : Admission S D P G C) : Type 0 where
    pub added : a.added ≡ takes (setup_now g s up (vote_round v).view current) (happened (vote_round v).view) sender v
    pub block : IsTrue a.block ↔ IsBlocked (setup_now g s up (vote_round v).view current) (happened (vote_round v).view) sender v
    pub report : a.report ≡ report_of same (setup_now g s up (vote_round v).view current) (happened (vote_round v).view) sender v
    pub taken : a.added ≡ true → Stand s new (come_up (vote_round v).view (is_passed s (vote_round v).view current) up) (put (vote_round v).view (Taken v) happened)
    pub passed : a.added ≡ false → Stand s new up happened

  -- an own vote was told to its round, and contradicts no recorded one: where it is new, it is cast
  pub record IsCast (s : Common S) (up : ℕ → Stage) (happened : ℕ → History S D P G C) (new : Rounds S D P G C) (current : ℕ) (v : Vote S D P G C) (report : Option (Activity S D P G C)) : Type 0 where
    pub report_is : report ≡ (if is_none (recorded (happened (vote_round v).view) v) then Some (as_report v) else None)
    pub cast : g.attests s.scheme (vote_signer v) (vote_statement v) (vote_attestation v).signature → is_none (recorded (happened (vote_round v).view) v) ≡ true
        → Stand s new (come_up (vote_round v).view (is_passed s (vote_round v).view current) up) (put (vote_round v).view (Cast v) happened)
    pub again : is_none (recorded (happened (vote_round v).view) v) ≡ false → Stand s new up happened
    pub agrees : contradicts same (happened (vote_round v).view) v ≡ false

  -- what was due of the votes of one round is done: the proposal is forwarded; or a construction of the kind that is due was made; or
  -- nothing was due
  abbrev pub IsRoundDone : Setup S → History S D P G C → ℕ → Round S D P G C → Option (Due S D P G C) → Type 0
  IsRoundDone s h me new (Some (due.Forwards p)) = (forwardable h me ≡ Some p) × RoundKeeps same g g.batchable s new (Forwarded ∷ h)
  IsRoundDone s h me new (Some (due.Made batch)) = MatchOption (next_kind same s h) ⊥ (λ kind. IsBatch g same s kind h batch × RoundKeeps same g g.batchable s new (after kind (Some batch) h))
  IsRoundDone s h me new None = (forwardable h me ≡ None) × (next_kind same s h ≡ None) × RoundKeeps same g g.batchable s new h

  -- what was due of the votes of a view is done
  abbrev pub IsDone : Common S → (ℕ → Stage) → (ℕ → History S D P G C) → Rounds S D P G C → ℕ → Option (Due S D P G C) → Type 0
  IsDone s up happened new view (Some (due.Forwards p)) = IsUp (up view) × (forwardable (happened view) s.me ≡ Some p) × Stand s new up (put view Forwarded happened)
  IsDone s up happened new view (Some (due.Made batch)) = WhereUp (up view) (λ skipped. MatchOption (next_kind same (setup_at g s view skipped) (happened view)) ⊥
      (λ kind. IsBatch g same (setup_at g s view skipped) kind (happened view) batch × Stand s new up (set_at view (after kind (Some batch) (happened view)) happened)))
  IsDone s up happened new view None = Stand s new up happened
