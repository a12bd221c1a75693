-- What is kept of all views together: their rounds, who leads them, and what that rests on.
use Rattle.std.specs.Prelude.{◌≡◌, ◌≢◌, ◌⊎◌, ◌<◌, ◌≤◌, ◌+◌, ◌-◌, ◌^◌, ◌==◌, ◌&&◌, ◌||◌, not, nat_lt, nat_le, ℕ, suc, Bool, true, false, List, Option, Some, None, if◌then◌else◌}
use Rattle.std.specs.Option.{option_or}
use Rattle.std.specs.BTreeMap.{btree_map_len}
use Rattle.types_core.specs.Positions.{term_start}
use Rattle.types_core.specs.declared.proposal.Proposal.{Proposal}
use Rattle.types_core.specs.declared.scheme.Scheme.{Ghosts}
use Rattle.types_terms.specs.Windows.{issuance_floor}
use Rattle.voter_history.specs.Held as offer
use Rattle.voter_history.specs.Past as past
use Rattle.voter_history.specs.Past.{Item}
use Rattle.voter_rounds.specs.declared.marks.Marks.{Marks}
use Rattle.voter_history.specs.declared.sign.Sign.TheVariants as sign
use Rattle.voter_rounds.specs.declared.tracked.Tracked.{Tracked}
use Rattle.voter_history.specs.Pasts.{bears, forget, is_direct, put}
use Rattle.voter_history.specs.Leaders.{any_from, extend}
use Rattle.voter_rounds.specs.Marks.{Shows, IsMarkedWithin}
use Rattle.voter_rounds.specs.Rounds.{Common, Keep, unled}

-- what stays the same of all views
pub record Frame (S : Type 0) : Type 0 where
  pub common : Common S
  pub length : ℕ
  pub optimistic_views : ℕ

-- the leader of each view as far as it is handed on: those of the views before this one
abbrev pub handed_on : (ℕ → Option ℕ) → (ℕ → Bool) → (ℕ → Option ℕ) → ℕ → ℕ → Option ℕ
handed_on here from_before known end view = if nat_lt view end then extend here from_before known view else known view

-- nothing is left to be handed on to the view behind this one
abbrev pub IsClosedAt : (ℕ → Bool) → (ℕ → Option ℕ) → ℕ → Type 0
IsClosedAt from_before known view = from_before (suc view) ≡ true → option_or (known (suc view)) (known view) ≡ known (suc view)

-- each known leader is a member
abbrev pub AreMembers : ℕ → (ℕ → Option ℕ) → Type 0
AreMembers size led = (view i : ℕ) → view < 2 ^ 64 → led view ≡ Some i → i < size

-- a view has the leader of the view before, where these views have a certificate, and of the proposals of these is known
abbrev pub inherits_of : {S : Type 0} → Frame S → (ℕ → Bool) → (ℕ → Bool) → ℕ → Bool
inherits_of f certified spoken view =
    let low : ℕ = issuance_floor f.optimistic_views view in
    (not (f.optimistic_views == 0) && any_from (λ u. nat_le (term_start f.length view) u && certified u) low (view - low))
    || ((not (f.optimistic_views == 0) && not (view == term_start f.length view) && ((low == 0) || any_from certified low (view - low)))
    && spoken (view - 1))

-- what is known of each view: who leads it, what happened to it, and whether its leader's proposal was forwarded
pub record Tables (S D P G C : Type 0) : Type 0 where
  pub led : ℕ → Option ℕ
  pub past : ℕ → List (Item S D P G C)
  pub noted : ℕ → Bool

module _ {S D P G C : Type 0} where
  -- which views have a notarization or finalization
  abbrev pub direct : Tables S D P G C → ℕ → Bool
  direct t view = is_direct (t.past view)

  -- a view's proposal is known of: it was forwarded, or this member voted to notarize it
  abbrev pub is_spoken : Tables S D P G C → ℕ → Bool
  is_spoken t view = t.noted view || past.has_notarized (t.past view)

  -- a view has the leader of the view before
  abbrev pub inherits_by : Frame S → Tables S D P G C → ℕ → Bool
  inherits_by f t view = inherits_of f (direct t) (is_spoken t) view

  -- behind a proposal of the view that its leader forwarded; behind an own nullify that is not taken
  abbrev pub proposed : Frame S → Tables S D P G C → ℕ → Proposal D → Tables S D P G C
  proposed f t view p =
      let grown : ℕ → List (Item S D P G C) = if past.has_nullified (t.past view) then t.past else put view (past.offered (offer.forwarded p)) t.past in
      let known : ℕ → Bool = λ u. (view == u) || t.noted u in
      record { led = extend (λ u. None) (inherits_by f (record { led = t.led; past = grown; noted = known })) t.led; past = grown; noted = known }

  -- where of the views below the floor nothing is known any more
  abbrev pub forgotten : ℕ → Tables S D P G C → Tables S D P G C
  forgotten floor t = record {
    led = unled floor t.led;
    past = forget floor t.past;
    noted = λ view. if nat_lt view floor then false else t.noted view;
  }

  -- the same in words: the view starts no term, views are optimistic, and its window has a certificate in its term, or else it
  -- reaches the start or a certificate, and the proposal of the view before is known of
  pub record Inherits (f : Frame S) (t : Tables S D P G C) (view : ℕ) : Type 0 where
    pub optimism : f.optimistic_views ≢ 0
    pub inside : view ≢ term_start f.length view
    pub why : ((u : ℕ) × (term_start f.length view ≤ u) × (issuance_floor f.optimistic_views view ≤ u) × (u < view) × (direct t u ≡ true))
        ⊎ ((is_spoken t (view - 1) ≡ true) × ((issuance_floor f.optimistic_views view ≡ 0) ⊎ IsMarkedWithin (direct t) (issuance_floor f.optimistic_views view) view))

  -- where leaders are handed on from the first view on: those before it have them, none from it on is named, and from the last on
  -- nothing is left to be handed on
  pub record IsBegun (f : Frame S) (t : Tables S D P G C) (here known : ℕ → Option ℕ) (first last : ℕ) : Type 0 where
    pub led : (u : ℕ) → t.led u ≡ handed_on here (inherits_by f t) known first u
    pub unnamed : (u : ℕ) → first ≤ u → here u ≡ None
    pub closed : (u : ℕ) → last ≤ u → u + 1 < 2 ^ 64 → IsClosedAt (inherits_by f t) known u

module _ {S D P G C : Type 0} where
  -- these marks show which views bear each sign
  pub record AreShown (on_direct on_certified on_failed on_given_up : Marks) (past : ℕ → List (Item S D P G C)) : Type 0 where
    pub direct : Shows on_direct (λ view. bears sign.Direct (past view))
    pub certified : Shows on_certified (λ view. bears sign.Certified (past view))
    pub failed : Shows on_failed (λ view. bears sign.Failed (past view))
    pub given_up : Shows on_given_up (λ view. bears sign.GivenUp (past view))

  -- what is kept is this
  pub record IsKept (g : Ghosts S D P G C) (f : Frame S) (x : Tracked S D P G C) (t : Tables S D P G C) : Type 0 where
    pub length : x.lookahead.length ≡ f.length
    pub optimistic_views : x.lookahead.optimistic_views ≡ f.optimistic_views
    pub rounds : Keep g.key_of f.common x.rounds t.led t.past
    pub signs : AreShown x.direct x.certified x.failed x.given_up t.past
    pub noted : Shows x.noted t.noted
    pub members : AreMembers (g.size f.common.scheme) t.led

  -- how many views are tracked
  unfoldable pub count : Tracked S D P G C → ℕ
  count x = btree_map_len x.rounds.by_view

  -- what is kept, closed for those who stand above
  unfoldable pub Holds : Ghosts S D P G C → Frame S → Tracked S D P G C → Tables S D P G C → Type 0
  Holds g f x t = IsKept g f x t

  abbrev pub AtEach : Ghosts S D P G C → Tracked S D P G C → (Frame S → Tables S D P G C → Type 0) → Type 0
  AtEach g x Q = (f : Frame S) (t : Tables S D P G C) → Holds g f x t → Q f t
