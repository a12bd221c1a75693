-- What a look at the proposals that wait passes.
use Rattle.std.proofs.Common.{◌≡◌, ◌≤◌, ◌<◌, ◌+◌, ◌-◌, ◌^◌, ℕ, zero, suc, Bool, true, false, max, inl, inr, refl, subst, ⊎_elim, arith}
use Rattle.std.specs.Prelude.{◌∷◌, List, None}
use Rattle.std.proofs.lemmas.Bool.{cases_lt}
use Rattle.types_core.specs.declared.proposal.Proposal.{Proposal}
use Rattle.types_core.specs.Positions.{term_end}
use Rattle.types_core.specs.declared.scheme.Scheme.{Ghosts}
use Rattle.types_terms.specs.Spans.{term_end-above}
use Rattle.types_terms.specs.declared.elector.Elector as elector
use Rattle.types_terms.specs.Windows.{AdmitsOutbound}
use Rattle.voter_history.specs.declared.timeout_reason.TimeoutReason.TheVariants as reason
use Rattle.voter_history.specs.Past as past
use Rattle.voter_rounds.specs.Rounds.{AreUntracked}
use Rattle.voter_history.specs.History.{Setup, Point, current, latched, seen}
use Rattle.voter_history.specs.Known.{Known, known}
use Rattle.voter_history.specs.Leaders.{leader}
use Rattle.voter_rules.specs.Ancestry.{Member, member}
use Rattle.voter_rules.specs.Requests.{AsksNothing, IsOpen, IsPassed, Scanned, WaitsForParent, begun, passed, given_up, left_so}
use Rattle.voter_laws.specs.Matching.{ScanLeavesNothing}
use Rattle.simplex_state.specs.declared.state.State.{State}
use Rattle.simplex_state.specs.State.{Keeps}
use Rattle.simplex_state.specs.Resuming.{BehindLookFrom, PassesFrom, first_looked}
use Rattle.simplex_state.specs.Verifying.{GivesUp, Passes}
use Rattle.simplex_state.proofs.Lowest.{outbound_below}

-- a view is passed where no proposal waits in it
pub unwaiting : {D : Type 0} (m : Member) (k : Known D) (view : ℕ) → ((p : Proposal D) → ¬ WaitsForParent m k view p) → IsPassed m k view
unwaiting m k view none = record {
  asks = record { no_verify = λ p x due. none p due.waits; no_nullification = λ p u wanted. none p wanted.waits; no_notarization = λ p wanted. none p wanted.waits };
  not_invalid = λ p bad. none p bad.waits;
}

module _ {S D P G C : Type 0} (s : Setup S C) where
  -- none waits where no leader is known
  unled : (h : List (Point S D P G C)) (view : ℕ) → leader s h view ≡ None → IsPassed (member s) (known s h) view
  unled h view none = unwaiting (member s) (known s h) view (λ p waits. let led = waits.led.0 in absurd (cc (rw none at led)))

  -- nor where the view has no room
  roomless : (h : List (Point S D P G C)) (view : ℕ) → 0 < s.length → 2 ^ 64 ≤ view → IsPassed (member s) (known s h) view
  roomless h view some far = unwaiting (member s) (known s h) view (λ p waits.
      let room = waits.opens.room in
      let end = term_end-above s.length view some in
      absurd (omega (arith, room, end, far)))

  module _ (now : ℕ) (h : List (Point S D P G C)) (start : ℕ) where
    -- a look came so far
    abbrev pub Looked : ℕ → List (Point S D P G C) → Type 0
    Looked view end = Scanned s now start h view end

    -- it changes no current view
    pub looked_from : {view : ℕ} {end : List (Point S D P G C)} → Looked view end → current s end ≡ current s h
    looked_from begun = refl
    looked_from (passed looked is) = looked_from looked
    looked_from (given_up looked bad is_first) = looked_from looked
    looked_from (left_so looked bad isnt) = looked_from looked

    -- it goes on over views that are passed
    pub looked_over : (end : List (Point S D P G C)) (view n : ℕ) → Looked view end → ((u : ℕ) → view ≤ u → u < view + n → IsPassed (member s) (known s end) u) → Looked (view + n) end
    looked_over end view zero looked are = let e : view ≡ view + 0 = omega arith in subst (λ (w : ℕ). Looked w end) e looked
    looked_over end view (suc n) looked are =
        let e : view + n + 1 ≡ view + suc n = omega arith in
        subst (λ (w : ℕ). Looked w end) e (passed (looked_over end view n looked (λ u from below. are u from (omega (arith, below)))) (are (view + n) (omega arith) (omega arith)))

    pub looked_up : (end : List (Point S D P G C)) (view first : ℕ) → view ≤ first → Looked view end → ((u : ℕ) → view ≤ u → u < first → IsPassed (member s) (known s end) u) → Looked first end
    looked_up end view first le looked are =
        let e : view + (first - view) ≡ first = omega (arith, le) in
        subst (λ (n : ℕ). Looked n end) e (looked_over end view (first - view) looked (λ u from below. are u from (omega (arith, below, le))))

    -- over untracked ones to the first tracked one
    pub looked_to : (end : List (Point S D P G C)) (next first : ℕ) → next ≤ first → Looked next end → AreUntracked (leader s end) (seen s end) next first → Looked first end
    looked_to end next first le looked untracked = looked_up end next first le looked (λ u from below. unled end u (untracked u from below).1)

    -- a look that came so far passed all that may be spoken of
    abbrev pub IsWhole : List (Point S D P G C) → Type 0
    IsWhole end = (last : ℕ) × Looked last end × ((u : ℕ) → AdmitsOutbound s.length s.optimistic_views (current s h) u → u < last)

    -- so does one that came to a view that may not be spoken of
    pub whole_before : (end : List (Point S D P G C)) (view : ℕ) → current s h ≤ view → Looked view end → ¬ AdmitsOutbound s.length s.optimistic_views (current s h) view → IsWhole end
    whole_before end view from looked silent = (
      view,
      looked,
      λ u out. ⊎_elim (λ before. before) (λ behind. absurd (silent (outbound_below (term_end s.length (current s h)) (current s h) s.optimistic_views view u from behind out))) (cases_lt u view),
    )

    -- or behind the last view with a number of 64 bits
    pub whole_past : (end : List (Point S D P G C)) (view : ℕ) → 0 < s.length → 2 ^ 64 ≤ view → Looked view end → IsWhole end
    whole_past end view some far looked =
        let c = current s h in
        let top : ℕ = max view (max (c + 1) (term_end s.length c + 2)) in (
          top,
          looked_up end view top (omega arith) looked (λ u from below. roomless end u some (omega (arith, from, far))),
          λ u out. ⊎_elim (λ at. omega (arith, at)) (λ ahead. ⊎_elim (λ near. omega (arith, near)) (λ start. let e = start.0 in omega (arith, e)) ahead) out,
        )

-- nothing is asked for a view that isn't open
closed_asks : {D : Type 0} (m : Member) (k : Known D) (view : ℕ) → ¬ IsOpen m k view → AsksNothing m k view
closed_asks m k view closed = record {
  no_verify = λ p x due. closed due.waits.opens;
  no_nullification = λ p u wanted. closed wanted.waits.opens;
  no_notarization = λ p wanted. closed wanted.waits.opens;
}

module _ {S L D P G C : Type 0} (g : Ghosts S D P G C) (e : elector.Ghosts L S D P G C) (s : Setup S C) (state : State S L D P G C) (now : ℕ) (h : List (Point S D P G C)) where
  -- where a view's proposal can never stand, it is given up exactly where that is the first reason
  pub gives_up : (view : ℕ) (first : Bool) → first ≡ past.is_unlatched (seen s h view) → Keeps g e s state (latched now view reason.InvalidProposal ∷ h) → (first ≡ false → Keeps g e s state h)
      → GivesUp g e s state now h view (past.is_unlatched (seen s h view))
  gives_up view first is taken stays = subst (λ (b : Bool). GivesUp g e s state now h view b) is (by first taken stays)
    where
      by : (b : Bool) → Keeps g e s state (latched now view reason.InvalidProposal ∷ h) → (b ≡ false → Keeps g e s state h) → GivesUp g e s state now h view b
      by true taken stays = taken
      by false taken stays = stays refl

module _ {S L D P G C : Type 0} (g : Ghosts S D P G C) (e : elector.Ghosts L S D P G C) (s : Setup S C) (state : State S L D P G C) (now : ℕ) (h : List (Point S D P G C)) (from : ℕ) where
  -- a look that passed all leaves nothing to ask
  pub passes_all : ScanLeavesNothing S D P G C → (end : List (Point S D P G C)) → IsWhole s now h (first_looked s h from) end → Keeps g e s state end → (last : ℕ) × BehindLookFrom s h now from last (PassesFrom g e s state from last)
  passes_all law end (last, looked, whole) k = (
    last,
    record {
      end = end;
      looked = looked;
      holds = record {
        whole = all;
        idle = λ u at. ⊎_elim
            (λ behind. closed_asks (member s) (known s end) u (λ opens. let le = opens.from in absurd (omega (arith, le, behind))))
            (λ ahead. ⊎_elim
            (λ below. law s now (first_looked s h from) h last end looked u (omega (arith, at, ahead, same)) below)
            (λ past. closed_asks (member s) (known s end) u (λ opens. let under = all u opens.outbound in absurd (omega (arith, under, past))))
            (cases_lt u last))
            (cases_lt u (current s end));
        keeps = k;
      };
    },
  )
    where
      same : current s end ≡ current s h
      same = looked_from s now h (first_looked s h from) looked

      all : (u : ℕ) → AdmitsOutbound s.length s.optimistic_views (current s end) u → u < last
      all u out = whole u (subst (λ (c : ℕ). AdmitsOutbound s.length s.optimistic_views c u) same out)

  -- a look goes one view further over one that is passed
  passes_one : (end : List (Point S D P G C)) (view : ℕ) → Looked s now h (first_looked s h from) view end → Passes g e s state now end view
      → (more : List (Point S D P G C)) × Looked s now h (first_looked s h from) (view + 1) more × Keeps g e s state more
  passes_one end view to (inl (passes, k)) = (end, passed to passes, k)
  passes_one end view to (inr (bad, up)) = by (past.is_unlatched (seen s end view)) refl up
    where
      by : (b : Bool) → past.is_unlatched (seen s end view) ≡ b → GivesUp g e s state now end view b → (more : List (Point S D P G C)) × Looked s now h (first_looked s h from) (view + 1) more × Keeps g e s state more
      by true is k = (latched now view reason.InvalidProposal ∷ end, given_up to bad is, k)
      by false isnt k = (end, left_so to bad isnt, k)

  pub looks_on : (end : List (Point S D P G C)) (next view after : ℕ) → current s h ≤ next → next ≤ view → after ≡ view + 1 → Looked s now h (first_looked s h from) view end → Passes g e s state now end view
      → (end : List (Point S D P G C)) × (current s h ≤ after) × Looked s now h (first_looked s h from) after end × Keeps g e s state end
  looks_on end next view after at behind is to passes =
      let (more, looked, k) = passes_one end view to passes in
      (more, omega (arith, at, behind, is), rw is looked, k)

  -- it passed all behind the last view with a number
  pub passes_last : ScanLeavesNothing S D P G C → (end : List (Point S D P G C)) (view : ℕ) → 0 < s.length → view + 1 ≡ 2 ^ 64 → Looked s now h (first_looked s h from) view end → Passes g e s state now end view
      → (last : ℕ) × BehindLookFrom s h now from last (PassesFrom g e s state from last)
  passes_last law end view some last to passes =
      let (more, looked, k) = passes_one end view to passes in
      passes_all law more (whole_past s now h (first_looked s h from) more (view + 1) some (omega (arith, last)) looked) k

  -- and where none behind is tracked
  pub passes_rest : ScanLeavesNothing S D P G C → (end : List (Point S D P G C)) (next : ℕ) → 0 < s.length → Looked s now h (first_looked s h from) next end → AreUntracked (leader s end) (seen s end) next (2 ^ 64) → Keeps g e s state end
      → (last : ℕ) × BehindLookFrom s h now from last (PassesFrom g e s state from last)
  passes_rest law end next some looked untracked k = passes_all law end
      (⊎_elim
      (λ below. whole_past s now h (first_looked s h from) end (2 ^ 64) some (omega arith) (looked_to s now h (first_looked s h from) end next (2 ^ 64) (omega (arith, below)) looked untracked))
      (λ past. whole_past s now h (first_looked s h from) end next some past looked)
      (cases_lt next (2 ^ 64)))
      k
