-- What the start and certificates leave of the voter.
use Rattle.std.proofs.Common.{◌≡◌, false, if◌then◌else◌, ◌⊎◌, ◌↔◌, ◌<◌, ◌≤◌, ◌+◌, ◌^◌, ◌==◌, ℕ, suc, List, ◌∷◌, max, inl, inr, ⊎_elim, refl, sym, ap, subst, ◌∙◌, arith}
use Rattle.std.specs.Prelude.{Option, Some, None, ◌||◌, is_some}
use Rattle.std.specs.Option.{option_or}
use Rattle.std.specs.Ordering.{nat_cmp}
use Rattle.std.specs.BTreeMap.{get}
use Rattle.types_core.specs.Positions.{HasRoom, next_term_start, term_end}
use Rattle.types_core.specs.declared.position.Round.{Round}
use Rattle.types_core.specs.declared.scheme.Scheme.{Ghosts}
use Rattle.messages_certificates.specs.declared.nullification.Nullification.{Nullification}
use Rattle.messages_certificates.specs.ProposalCertificate.{Notarization, Finalization}
use Rattle.types_terms.specs.declared.elector.Elector as elector
use Rattle.simplex_record.specs.declared.coverage.Coverage.{Coverage}
use Rattle.simplex_record.specs.Coverage as spans
use Rattle.simplex_record.specs.Coverage.{LiesIn}
use Rattle.voter_history.specs.Past as past
use Rattle.voter_history.specs.Past.{Item, has_notarized}
use Rattle.voter_rounds.specs.declared.marks.Marks.{Marks}
use Rattle.voter_rounds.specs.declared.tracked.Tracked.{Tracked}
use Rattle.voter_rounds.specs.Laws.{Shows-same, inherits-same, put-fact}
use Rattle.voter_rounds.specs.Marks.{Shows}
use Rattle.voter_history.specs.Pasts.{is_direct, put}
use Rattle.voter_rounds.specs.Tracked.{Tables, Holds, IsClosedAt, inherits_by}
use Rattle.voter_views.specs.declared.beginning.Beginning.{Beginning}
use Rattle.voter_views.specs.declared.progress.Progress.{Progress}
use Rattle.voter_views.specs.declared.views.Views.{Views}
use Rattle.voter_history.specs.History as History
use Rattle.voter_history.specs.History.{Setup, Point, current, enter, seen}
use Rattle.voter_history.specs.Leaders.{leader, was_forwarded}
use Rattle.voter_views.specs.Progress.{IsAt, frame_of, tables}
use Rattle.voter_views.specs.Views.{IsKept}
use Rattle.voter_views.proofs.Advancing.{IsAt-tracked, grown-tables}
use Rattle.voter_views.proofs.Choices.{later-max}
use Rattle.voter_views.proofs.Entering.{enter-fact, is_some-next, nullification-next}
use Rattle.voter_views.proofs.Following.{finalized-at, finalized-tables, leader-closed, notarized-at, notarized-tables, nullified-at, nullified-tables, started-at, started-tables}
use Rattle.voter_views.proofs.Stepping.{based-unled, reached-closed, still-kept, unled-progress}
use Rattle.voter_views.proofs.Uncovering.{covered-next}

-- the view behind another is none of the first
pub behind-one : (next at : ℕ) → next ≡ at + 1 → 0 < next
behind-one next at e = omega (arith, e)

-- no term but the first starts at 0
pub next_term-some : (views view next : ℕ) → next ≡ next_term_start views view → 0 < next
next_term-some views view next e = omega (arith, e)

-- what lies outside of where leaders are handed on lies outside of the window
outside : (u next last view at optimistic : ℕ) → next ≡ at + 1 → view ≡ at → (u + 1 < next) ⊎ (last ≤ u) → (last ≤ u → view + optimistic < u) → (u < at) ⊎ (at + optimistic < u)
outside u next last view at optimistic e same far behind = ⊎_elim (λ lt. inl (omega (arith, lt, e))) (λ le. let beyond = behind le in inr (omega (arith, beyond, same))) far

max-fits : (a b : ℕ) → a + 1 < 2 ^ 64 → b + 1 < 2 ^ 64 → max a b + 1 < 2 ^ 64
max-fits a b one other = omega (arith, one, other)

-- a term's start and end, and whether a view has room, by equal numbers
pub start_at : (length views view at start : ℕ) → length ≡ views → view ≡ at → start ≡ next_term_start length view → start ≡ next_term_start views at
start_at length views view at start e same is = is ∙ (λ i. next_term_start (e i) (same i))

pub end_at : (length views view end : ℕ) → length ≡ views → end ≡ term_end length view → end ≡ term_end views view
end_at length views view end e is = is ∙ ap (λ n. term_end n view) e

pub room_at : (length views view at : ℕ) → length ≡ views → view ≡ at → HasRoom length view → HasRoom views at
room_at length views view at e same room = subst (λ n. HasRoom n at) e (subst (λ u. HasRoom length u) same room)

module _ {S D P G C : Type 0} (s : Setup S C) (h : List (Point S D P G C)) where
  -- what is known of each view behind a view that is entered
  abbrev pub inside : ℕ → ℕ → ℕ → List (Item S D P G C)
  inside now next = enter s (current s h) now next (seen s h)

  inside-direct : (now next u : ℕ) → is_direct (inside now next u) ≡ is_direct (seen s h u)
  inside-direct now next u = enter-fact is_direct (λ m l. refl) (λ a b o l. refl) s (current s h) now next (seen s h) u

  inside-votes : (now next u : ℕ) → has_notarized (inside now next u) ≡ has_notarized (seen s h u)
  inside-votes now next u = enter-fact has_notarized (λ m l. refl) (λ a b o l. refl) s (current s h) now next (seen s h) u

  pub inside-nullification : (now next u : ℕ) → past.nullification (inside now next u) ≡ past.nullification (seen s h u)
  inside-nullification now next u = enter-fact past.nullification (λ m l. refl) (λ a b o l. refl) s (current s h) now next (seen s h) u

  pub inside-finalization : (now next u : ℕ) → past.finalization (inside now next u) ≡ past.finalization (seen s h u)
  inside-finalization now next u = enter-fact past.finalization (λ m l. refl) (λ a b o l. refl) s (current s h) now next (seen s h) u

  pub inside-offers : (now next u : ℕ) → past.offers (inside now next u) ≡ past.offers (seen s h u)
  inside-offers now next u = enter-fact past.offers (λ m l. refl) (λ a b o l. refl) s (current s h) now next (seen s h) u

  -- nothing is left to be handed on but where a certificate reaches
  like-closed : (grown : ℕ → List (Item S D P G C)) → ((w : ℕ) → is_direct (grown w) ≡ is_direct (seen s h w)) → ((w : ℕ) → has_notarized (grown w) ≡ has_notarized (seen s h w)) → (u : ℕ)
      → IsClosedAt (inherits_by (frame_of s) (grown-tables s h grown)) (leader s h) u
  like-closed grown certificates votes u so = leader-closed s h u
      (inherits-same (frame_of s) (tables s h) (grown-tables s h grown) (λ w. sym (certificates w)) (λ w. ap (λ b. was_forwarded s h w || b) (sym (votes w))) (suc u) ∙ so)

  pub started-closed : (now first u : ℕ) → IsClosedAt (inherits_by (frame_of s) (grown-tables s h (inside now first))) (leader s h) u
  started-closed now first = like-closed (inside now first) (inside-direct now first) (inside-votes now first)

  pub nullified-closed : (now : ℕ) (c : Nullification S D P G C) (next u : ℕ)
      → IsClosedAt (inherits_by (frame_of s) (grown-tables s h (put c.round.view (past.nullified c) (inside now next)))) (leader s h) u
  nullified-closed now c next = like-closed (put c.round.view (past.nullified c) (inside now next))
      (λ w. put-fact is_direct (past.nullified c) (λ l. refl) c.round.view (inside now next) w ∙ inside-direct now next w)
      (λ w. put-fact has_notarized (past.nullified c) (λ l. refl) c.round.view (inside now next) w ∙ inside-votes now next w)

  pub notarized-closed : (c : Notarization S D P G C) (next view last u : ℕ) → next ≡ c.proposal.round.view + 1 → view ≡ c.proposal.round.view → (u + 1 < next) ⊎ (last ≤ u) → (last ≤ u → view + s.optimistic_views < u)
      → IsClosedAt (inherits_by (frame_of s) (grown-tables s h (put c.proposal.round.view (past.notarized c) (seen s h)))) (leader s h) u
  notarized-closed c next view last u e same far behind =
      let at : ℕ = c.proposal.round.view in
      reached-closed s h (put at (past.notarized c) (seen s h)) at (λ w apart. rw apart refl) (λ w. put-fact has_notarized (past.notarized c) (λ l. refl) at (seen s h) w) u
      (outside u next last view at s.optimistic_views e same far behind)

  pub finalized-closed : (now : ℕ) (c : Finalization S D P G C) (next view last u : ℕ) → next ≡ c.proposal.round.view + 1 → view ≡ c.proposal.round.view → (u + 1 < next) ⊎ (last ≤ u)
      → (last ≤ u → view + s.optimistic_views < u) → IsClosedAt (inherits_by (frame_of s) (grown-tables s h (put c.proposal.round.view (past.finalized c) (inside now next)))) (leader s h) u
  finalized-closed now c next view last u e same far behind =
      let at : ℕ = c.proposal.round.view in
      reached-closed s h (put at (past.finalized c) (inside now next)) at (λ w apart. rw apart (inside-direct now next w))
      (λ w. put-fact has_notarized (past.finalized c) (λ l. refl) at (inside now next) w ∙ inside-votes now next w) u
      (outside u next last view at s.optimistic_views e same far behind)

module _ {S L D P G C : Type 0} {g : Ghosts S D P G C} {leads : elector.Ghosts L S D P G C} {s : Setup S C} {v : Views S L D P G C} {h : List (Point S D P G C)} (k : IsKept g leads s v h) where
  -- whom the elector names leads, and is of the committee
  pub elected : (round : Round) (view : ℕ) (by : Option C) (named : ℕ) → round.epoch ≡ v.epoch → round.view ≡ view → named ≡ leads.leader v.elector round by → named ≡ s.elect view by
  elected round view by named epoch at is =
      let same : round ≡ record { epoch = s.epoch; view = view } = λ i. record { epoch = (epoch ∙ k.epoch) i; view = at i } in
      is ∙ ap (λ r. leads.leader v.elector r by) same ∙ k.elects view by

  pub elected-member : (view : ℕ) (by : Option C) (named : ℕ) → named ≡ s.elect view by → named < g.size s.scheme
  elected-member view by named is = subst (λ n. n < g.size s.scheme) (sym is) (k.members view by)

  pub started-kept : (now : ℕ) (payload : Option D) (p : Progress S D P G C) (x : Tracked S D P G C) (first named : ℕ) (t : Tables S D P G C) → first ≡ 1 → named ≡ s.elect 1 None
      → IsAt g s p (max first (current s h)) t → Holds g (frame_of s) x (started-tables s h now named first)
      → IsKept g leads s (record v { progress = record p { tracked = x }; genesis = payload }) (History.started now payload ∷ h)
  started-kept now payload p x first named t e f entered holds = record {
    scheme = k.scheme;
    me = k.me;
    epoch = k.epoch;
    length = k.length;
    optimistic_views = k.optimistic_views;
    retention = k.retention;
    mode = k.mode;
    elects = k.elects;
    members = k.members;
    progress = IsAt-tracked {t' = tables s (History.started now payload ∷ h)} (subst (λ n. IsAt g s p (max n (current s h)) t) e entered) (started-at g x s h now payload first named e f holds);
    last_finalized = k.last_finalized;
    behind = k.behind;
    begun = k.begun;
    genesis = refl;
    coverage = k.coverage;
    backed = k.backed;
    waiting = k.waiting;
    nullified = k.nullified;
    nullifications = λ w. k.nullifications w ∙ ap (λ n. option_or (get nat_cmp v.reaching w) n) (sym (inside-nullification s h now 1 w));
  }

  -- the voter stands where a floor leads that is named
  pub based-kept : (view : ℕ) (first : Beginning) → first.floor ≡ max view v.beginning.floor → first.is_blank ≡ v.beginning.is_blank → IsKept g leads s (record v { beginning = first }) (History.based view ∷ h)
  based-kept view first floor_is blank_is = record {
    scheme = k.scheme;
    me = k.me;
    epoch = k.epoch;
    length = k.length;
    optimistic_views = k.optimistic_views;
    retention = k.retention;
    mode = k.mode;
    elects = k.elects;
    members = k.members;
    progress = unled-progress (History.based view) v.progress (current s h) (based-unled s h view) k.progress;
    last_finalized = k.last_finalized;
    behind = k.behind;
    begun = (floor_is ∙ (λ i. max view (k.begun.0 i)), blank_is ∙ k.begun.1);
    genesis = k.genesis;
    coverage = k.coverage;
    backed = k.backed;
    waiting = k.waiting;
    nullified = k.nullified;
    nullifications = k.nullifications;
  }

  pub notarized-kept : (c : Notarization S D P G C) (x : Tracked S D P G C) (first : Beginning) (next named : ℕ) → first.floor ≡ v.beginning.floor → first.is_blank ≡ false → next ≡ c.proposal.round.view + 1 → named ≡ s.elect next (Some c.certificate)
      → Holds g (frame_of s) x (notarized-tables s h c named next) → IsKept g leads s (record v { progress = record v.progress { tracked = x }; beginning = first }) (History.notarized c ∷ h)
  notarized-kept c x first next named floor_is blank_is e f holds = still-kept (History.notarized c) (record v.progress { tracked = x }) v.backed v.waiting first k
      (record { finalizes = refl; begins = refl; covers = λ u. refl; nullifies = λ u. refl; kept_nullification = put-fact past.nullification (past.notarized c) (λ l. refl) c.proposal.round.view (seen s h) })
      (IsAt-tracked {t' = tables s (History.notarized c ∷ h)} k.progress (notarized-at g x s h c next named e f holds)) k.backed k.waiting (floor_is ∙ k.begun.0, blank_is)

  pub nullified-kept : (now : ℕ) (c : Nullification S D P G C) (p : Progress S D P G C) (x : Tracked S D P G C) (coverage : Coverage) (marks : Marks) (first : Beginning) (next named view last : ℕ) (t : Tables S D P G C) → first.floor ≡ v.beginning.floor → first.is_blank ≡ false
      → next ≡ next_term_start s.length c.round.view → named ≡ s.elect next (Some c.certificate) → IsAt g s p (max next (current s h)) t → Holds g (frame_of s) x (nullified-tables s h now c named next)
      → 0 < s.length → view ≡ c.round.view → last ≡ term_end s.length view → ((w : ℕ) → spans.IsCovered coverage w ↔ (spans.IsCovered v.coverage w ⊎ LiesIn (view, last) w))
      → Shows marks (λ u. (view == u) || is_some (History.nullification s h u))
      → IsKept g leads s (record v { progress = record p { tracked = x }; coverage = coverage; nullified = marks; beginning = first }) (History.nullified now c ∷ h)
  nullified-kept now c p x coverage marks first next named view last t floor_is blank_is e f entered holds some at ends covers shows =
      let end : last ≡ term_end s.length c.round.view = ends ∙ ap (term_end s.length) at in
      record {
        scheme = k.scheme;
        me = k.me;
        epoch = k.epoch;
        length = k.length;
        optimistic_views = k.optimistic_views;
        retention = k.retention;
        mode = k.mode;
        elects = k.elects;
        members = k.members;
        progress = IsAt-tracked {t' = tables s (History.nullified now c ∷ h)} (subst (λ n. IsAt g s p (max n (current s h)) t) e entered) (nullified-at g x s h now c next named e f holds);
        last_finalized = k.last_finalized;
        behind = k.behind;
        begun = (floor_is ∙ k.begun.0, blank_is);
        genesis = k.genesis;
        coverage = λ w. covered-next s h now c (spans.IsCovered v.coverage w) (spans.IsCovered coverage w) w some
            (subst (λ span. spans.IsCovered coverage w ↔ (spans.IsCovered v.coverage w ⊎ LiesIn span w)) (λ i. (at i, end i)) (covers w)) (k.coverage w);
        backed = k.backed;
        waiting = k.waiting;
        nullified = Shows-same marks (λ u. (view == u) || is_some (History.nullification s h u)) (λ u. is_some (History.nullification s (History.nullified now c ∷ h) u)) shows
            (λ u. is_some-next (c.round.view == u) (History.nullification s h u) c ∙ ap (λ n. (n == u) || is_some (History.nullification s h u)) (sym at));
        nullifications = λ w. nullification-next s (current s h) now (next_term_start s.length c.round.view) c c.round.view (seen s h) (History.nullification s h) (λ u. get nat_cmp v.reaching u) w (k.nullifications w);
      }

  pub finalized-kept : (now : ℕ) (c : Finalization S D P G C) (p : Progress S D P G C) (x : Tracked S D P G C) (first : Beginning) (next named view last : ℕ) (t : Tables S D P G C)
      → first.floor ≡ (if v.beginning.is_blank then max view v.beginning.floor else v.beginning.floor) → first.is_blank ≡ false
      → next ≡ c.proposal.round.view + 1 → named ≡ s.elect next (Some c.certificate) → IsAt g s p (max next (current s h)) t → Holds g (frame_of s) x (finalized-tables s h now c named next)
      → next < 2 ^ 64 → view ≡ c.proposal.round.view → v.last_finalized ≤ last → view ≤ last → ((u : ℕ) → v.last_finalized ≤ u → view ≤ u → last ≤ u)
      → IsKept g leads s (record v { progress = record p { tracked = x }; last_finalized = last; beginning = first }) (History.finalized now c ∷ h)
  finalized-kept now c p x first next named view last t floor_is blank_is e f entered holds fits at one other least =
      let seen_at : ℕ = c.proposal.round.view in
      record {
        scheme = k.scheme;
        me = k.me;
        epoch = k.epoch;
        length = k.length;
        optimistic_views = k.optimistic_views;
        retention = k.retention;
        mode = k.mode;
        elects = k.elects;
        members = k.members;
        progress = IsAt-tracked {t' = tables s (History.finalized now c ∷ h)} (subst (λ n. IsAt g s p (max n (current s h)) t) e entered) (finalized-at g x s h now c next named e f holds);
        last_finalized = later-max v.last_finalized view last one other least ∙ (λ i. max (at i) (k.last_finalized i));
        behind = max-fits seen_at (History.last_finalized h) (subst (λ n. n < 2 ^ 64) e fits) k.behind;
        begun = (floor_is ∙ (λ i. if k.begun.1 i then max (at i) (k.begun.0 i) else k.begun.0 i), blank_is);
        genesis = k.genesis;
        coverage = k.coverage;
        backed = k.backed;
        waiting = k.waiting;
        nullified = k.nullified;
        nullifications = λ w. k.nullifications w ∙ ap (λ n. option_or (get nat_cmp v.reaching w) n)
            (sym (put-fact past.nullification (past.finalized c) (λ l. refl) seen_at (inside s h now (seen_at + 1)) w ∙ inside-nullification s h now (seen_at + 1) w));
      }
