-- What comes of opening a view, and of what is done of one.
use Rattle.std.proofs.Common.{◌≡◌, ◌≢◌, ℕ, ◌==◌, Bool, true, false, [], ◌∷◌, ⊎_elim, refl, sym, ◌∙◌, subst, arith}
use Rattle.std.specs.Prelude.{◌↔◌, IsTrue, Option, Some, None, IsSome, MatchOption, if◌then◌else◌, is_none, is_some}
use Rattle.std.specs.BTreeMap.{BTreeMap}
use Rattle.std.specs.BTreeSet.{BTreeSet, contains}
use Rattle.std.specs.BTreeSet as sorted
use Rattle.std.specs.Ordering.{nat_cmp}
use Rattle.std.specs.declared.cmp.Reverse.{Reverse}
use Rattle.std.proofs.lemmas.Bool.{cases_eq, eq-eqb}
use Rattle.std.proofs.lemmas.Bool.Decides.{nat_tests}
use Rattle.types_core.specs.LatestFirst.{as_key, stored, Stores}
use Rattle.types_core.specs.declared.scheme.Scheme.{Ghosts}
use Rattle.messages_certificates.specs.declared.certificate.Certificate.{Certificate}
use Rattle.types_terms.specs.declared.kind.Kind.{Kind}
use Rattle.batcher_verifier.specs.declared.batch.Batch.{Batch}
use Rattle.batcher_verifier.specs.ConstructionResult.{IsBatch, after}
use Rattle.batcher_verifier.specs.History.{Forwarded, History, Led, forwardable, leader_of, next_kind}
use Rattle.simplex_batcher.specs.declared.round.Round.{Round}
use Rattle.simplex_batcher.specs.Rounds.{RoundKeeps}
use Rattle.simplex_batcher.specs.Rounds as one
use Rattle.node_votes.specs.declared.due.Due.{Due}
use Rattle.node_votes.specs.declared.due.Due.TheVariants as due
use Rattle.node_votes.specs.declared.rounds.Rounds.{Rounds}
use Rattle.node_votes.specs.Standing.{Common, IsAtRest, IsDone, IsKept, IsRoundDone, Stand, come_up, is_passed, put, set_at, setup_at, setup_now, IfUp, WhereUp}
use Rattle.node_votes.proofs.Changing.{alike, apart-at, changed, itself, kept-still, keys-apart, unknown}
use Rattle.node_votes.proofs.Known.{came-up, kept-here, moved, moved-set, moved-still, still-up, rested, stands-here}
use Rattle.simplex_member.specs.Layers.{Stage, Unopened, Collected, PassedOver, IsUp, skips}

not-none : {A : Type 0} (o : Option A) → o ≢ None → is_none o ≡ false
not-none None known = absurd (known refl)
not-none (Some x) known = refl

module _ {S D P G C : Type 0} (g : Ghosts S D P G C) (same : D → D → Bool) where
  -- a round is there exactly where votes came up
  pub there-up : (s : Common S) (view : ℕ) (o : Option (Round S D P G C)) (up : Stage) (h : History S D P G C) → IsSome o → IsKept g same s view o up h → IsUp up
  there-up s view None up h some k = absurd (cc some)
  there-up s view (Some r) Unopened h some k = absurd k
  there-up s view (Some r) Collected h some k = refl
  there-up s view (Some r) PassedOver h some k = refl

  -- and the other way round
  pub both-there : (s : Common S) (view : ℕ) (o : Option (Round S D P G C)) (up : Stage) (h : History S D P G C) → IsKept g same s view o up h → IsTrue (is_some o) ↔ IsUp up
  both-there s view None up h k = (λ some. absurd (cc some), λ some. absurd (cc (k.0, some)))
  both-there s view (Some r) Unopened h k = absurd k
  both-there s view (Some r) Collected h k = (λ some. refl, λ some. refl)
  both-there s view (Some r) PassedOver h k = (λ some. refl, λ some. refl)

  -- something happened to those votes alone that came up
  pub came-where-kept : (s : Common S) (view : ℕ) (o : Option (Round S D P G C)) (up : Stage) (h : History S D P G C) → IsKept g same s view o up h → h ≢ [] → IsUp up
  came-where-kept s view None up h k some = absurd (some k.1)
  came-where-kept s view (Some r) Unopened h k some = absurd k
  came-where-kept s view (Some r) Collected h k some = refl
  came-where-kept s view (Some r) PassedOver h k some = refl

  pub kept-none : (s : Common S) (view : ℕ) (o : Option (Round S D P G C)) (up : Stage) (h : History S D P G C) → up ≡ Unopened → IsKept g same s view o up h → o ≡ None
  kept-none s view None up h none k = refl
  kept-none s view (Some r) Unopened h none k = absurd k
  kept-none s view (Some r) Collected h none k = absurd (cc none)
  kept-none s view (Some r) PassedOver h none k = absurd (cc none)

  -- the votes of a view come up that did before
  pub open-still : (s : Common S) (r : Rounds S D P G C) (up : ℕ → Stage) (happened : ℕ → History S D P G C) (view : ℕ) (b : Bool) → IsSome (stored r.by_view view) → Stand g same s r up happened
      → Stand g same s r (come_up view b up) happened
  open-still s r up happened view b some k =
      let came : IsUp (up view) = there-up s view (stored r.by_view view) (up view) (happened view) some (k.kept view) in
      alike g same s r up (come_up view b up) happened happened
      (λ u. ⊎_elim
      (λ e. let here : (view == u) ≡ true = eq-eqb view u e in let up_u : IsUp (up u) = subst (λ (w : ℕ). IsUp (up w)) e came in rw here (still-up (up u) b up_u))
      (λ ne. let other : (view == u) ≡ false = grind (arith, nat_tests) in rw other refl)
      (cases_eq view u))
      (λ u. refl) k

  -- a view without a round has none where the same stands
  pub still-none : (s : Common S) (old mid : Rounds S D P G C) (up : ℕ → Stage) (happened : ℕ → History S D P G C) (view : ℕ) → stored old.by_view view ≡ None → Stand g same s old up happened → Stand g same s mid up happened
      → stored mid.by_view view ≡ None
  still-none s old mid up happened view none k k' =
      let bare = unknown g same s view (stored old.by_view view) (up view) (happened view) none (k.kept view) in
      kept-none s view (stored mid.by_view view) (up view) (happened view) bare.0 (k'.kept view)

  -- they come up, and nothing happened to them
  pub open-first : (s : Common S) (old mid new : Rounds S D P G C) (up : ℕ → Stage) (happened : ℕ → History S D P G C) (view : ℕ) (b : Bool) → stored old.by_view view ≡ None → Stand g same s old up happened → Stand g same s mid up happened
      → (stored mid.by_view view ≡ None → Stand g same s new (come_up view b up) (set_at view [] happened)) → Stand g same s new (come_up view b up) happened
  open-first s old mid new up happened view b none k k' seats =
      let bare = unknown g same s view (stored old.by_view view) (up view) (happened view) none (k.kept view) in
      let still : stored mid.by_view view ≡ None = still-none s old mid up happened view none k k' in
      alike g same s new (come_up view b up) (come_up view b up) (set_at view [] happened) happened (λ u. refl)
      (λ u. ⊎_elim
      (λ e. let here : (view == u) ≡ true = eq-eqb view u e in rw here (subst (λ (w : ℕ). happened w ≡ []) e bare.1))
      (λ ne. let other : (view == u) ≡ false = grind (arith, nat_tests) in rw other refl)
      (cases_eq view u))
      (seats still)

  -- the leader is named
  pub known-led : (s : Common S) (mid : Rounds S D P G C) (up : ℕ → Stage) (happened : ℕ → History S D P G C) (view leader : ℕ) (round round' : Round S D P G C) (m : BTreeMap (Reverse ℕ) (Round S D P G C)) (t : BTreeSet ℕ)
      → Some round ≡ stored mid.by_view view → Stores mid.by_view m view (Some round') → contains nat_cmp mid.touched view ≡ true → sorted.UpdatesBy nat_cmp (nat_cmp view) mid.unled t false
      → one.AtEach same g g.batchable round (λ st h. RoundKeeps same g g.batchable st round' (if is_none (leader_of h) then Led leader ∷ h else h)) → leader_of (happened view) ≡ None → Stand g same s mid up happened
      → Stand g same s (record mid { by_view = m; unled = t }) up (put view (Led leader) happened)
  known-led s mid up happened view leader round round' m t there updates touched led ok none k =
      let here = stands-here g same s mid up happened view k 0 round there in
      let stands = ok (setup_now g s up view 0) (happened view) here in
      changed g same s mid (record mid { by_view = m; unled = t }) view up up happened (put view (Led leader) happened) k refl
      (λ u ne. updates.2 (as_key u) (keys-apart view u ne)) (λ u ne. (refl, rw ne refl)) (λ u ne no. no)
      (λ u ne. led.2 u (apart-at view u ne))
      (subst (λ (o : Option (Round S D P G C)). IsKept g same s view o (up view) (put view (Led leader) happened view)) (sym updates.1)
      (rw (itself view) (kept-still g same s view round round' (up view) (is_passed s view 0) (happened view) (Led leader ∷ happened view) (kept-here g same s mid up happened view k 0 round there)
      (subst (λ (o : Option ℕ). RoundKeeps same g g.batchable (setup_now g s up view 0) round' (if is_none o then Led leader ∷ happened view else happened view)) none stands))))
      (λ no. absurd (cc (touched, no)))
      (λ no some. rw (itself view) (λ never. absurd (cc never)))
      (λ unnamed. absurd (cc (led.1, unnamed)))

  -- or it is named again
  pub known-again : (s : Common S) (mid : Rounds S D P G C) (up : ℕ → Stage) (happened : ℕ → History S D P G C) (view leader : ℕ) (round round' : Round S D P G C) (m : BTreeMap (Reverse ℕ) (Round S D P G C)) (t : BTreeSet ℕ)
      → Some round ≡ stored mid.by_view view → Stores mid.by_view m view (Some round') → contains nat_cmp mid.touched view ≡ true → sorted.UpdatesBy nat_cmp (nat_cmp view) mid.unled t false
      → one.AtEach same g g.batchable round (λ st h. RoundKeeps same g g.batchable st round' (if is_none (leader_of h) then Led leader ∷ h else h)) → leader_of (happened view) ≢ None → Stand g same s mid up happened
      → Stand g same s (record mid { by_view = m; unled = t }) up happened
  known-again s mid up happened view leader round round' m t there updates touched led ok known k =
      let stands = ok (setup_now g s up view 0) (happened view) (stands-here g same s mid up happened view k 0 round there) in
      changed g same s mid (record mid { by_view = m; unled = t }) view up up happened happened k refl
      (λ u ne. updates.2 (as_key u) (keys-apart view u ne)) (λ u ne. (refl, refl)) (λ u ne no. no)
      (λ u ne. led.2 u (apart-at view u ne))
      (subst (λ (o : Option (Round S D P G C)). IsKept g same s view o (up view) (happened view)) (sym updates.1)
      (kept-still g same s view round round' (up view) (is_passed s view 0) (happened view) (happened view) (kept-here g same s mid up happened view k 0 round there)
      (subst (λ (b : Bool). RoundKeeps same g g.batchable (setup_now g s up view 0) round' (if b then Led leader ∷ happened view else happened view)) (not-none (leader_of (happened view)) known) stands)))
      (λ no. absurd (cc (touched, no)))
      (λ no some. known)
      (λ unnamed. absurd (cc (led.1, unnamed)))

  -- what follows of the kind that is due
  pub at-due : {P Q : Kind → Type 0} (next : Option Kind) → ((kind : Kind) → P kind → Q kind) → MatchOption next ⊥ P → MatchOption next ⊥ Q
  at-due None f p = p
  at-due (Some kind) f p = f kind p

  -- a construction names no leader
  pub after-led : (kind : Kind) (batch : Batch (Certificate S D P G C)) (h : History S D P G C) → leader_of (after kind (Some batch) h) ≡ leader_of h
  after-led kind batch h = go batch.certificate refl
    where
      go : (o : Option (Certificate S D P G C)) → batch.certificate ≡ o → leader_of (after kind (Some batch) h) ≡ leader_of h
      go None e = rw e refl
      go (Some c) e = rw e refl

  module _ (s : Common S) (old : Rounds S D P G C) (up : ℕ → Stage) (happened : ℕ → History S D P G C) (view : ℕ) (k : Stand g same s old up happened) (round round' : Round S D P G C) (there : Some round ≡ stored old.by_view view) where
    kept-at : (Q : Bool → Type 0) (o : Stage) (b : Bool) → IsKept g same s view (Some round) o (happened view) → Q (skips o b) → WhereUp o Q
    kept-at Q Unopened b kept q = absurd kept
    kept-at Q Collected b kept q = q
    kept-at Q PassedOver b kept q = q

    -- nothing happened
    pub same-still : (m : BTreeMap (Reverse ℕ) (Round S D P G C)) → Stores old.by_view m view (Some round') → RoundKeeps same g g.batchable (setup_now g s up view 0) round' (happened view) → Stand g same s (record old { by_view = m }) up happened
    same-still m updates stands = changed g same s old (record old { by_view = m }) view up up happened happened k refl
        (λ u ne. updates.2 (as_key u) (keys-apart view u ne)) (λ u ne. (refl, refl)) (λ u ne no. no) (λ u ne. refl)
        (subst (λ (o : Option (Round S D P G C)). IsKept g same s view o (up view) (happened view)) (sym updates.1)
        (kept-still g same s view round round' (up view) (is_passed s view 0) (happened view) (happened view) (kept-here g same s old up happened view k 0 round there) stands))
        (k.at_rest view) (k.named view) (k.waits view)

    module _ (m : BTreeMap (Reverse ℕ) (Round S D P G C)) (updates : Stores old.by_view m view (Some round')) (touched : contains nat_cmp old.touched view ≡ true) where
      -- something was due
      pub known-done : (me : ℕ) (d : Due S D P G C) → me ≡ s.me → IsRoundDone g same (setup_now g s up view 0) (happened view) me round' (Some d) → IsDone g same s up happened (record old { by_view = m }) view (Some d)
      known-done me (due.Forwards p) is done = (
        came-up g same s old up happened view k 0 round there (up view) (kept-here g same s old up happened view k 0 round there),
        subst (λ (i : ℕ). forwardable (happened view) i ≡ Some p) is done.0,
        moved g same s old up happened view k 0 round there round' m updates touched up (put view Forwarded happened)
            (rw (itself view) (kept-still g same s view round round' (up view) (is_passed s view 0) (happened view) (Forwarded ∷ happened view) (kept-here g same s old up happened view k 0 round there) done.1))
            (λ u ne. (refl, rw ne refl)) (rw (itself view) refl),
      )
      known-done me (due.Made batch) is done = kept-at
          (λ skipped. MatchOption (next_kind same (setup_at g s view skipped) (happened view)) ⊥ (λ kind. IsBatch g same (setup_at g s view skipped) kind (happened view) batch × Stand g same s (record old { by_view = m }) up (set_at view (after kind (Some batch) (happened view)) happened)))
          (up view) (is_passed s view 0) (kept-here g same s old up happened view k 0 round there)
          (at-due {P = λ kind. IsBatch g same (setup_now g s up view 0) kind (happened view) batch × RoundKeeps same g g.batchable (setup_now g s up view 0) round' (after kind (Some batch) (happened view))}
          {Q = λ kind. IsBatch g same (setup_now g s up view 0) kind (happened view) batch × Stand g same s (record old { by_view = m }) up (set_at view (after kind (Some batch) (happened view)) happened)}
          (next_kind same (setup_now g s up view 0) (happened view))
          (λ kind p. (p.0, moved-set g same s old up happened view k 0 round there round' m updates touched (after kind (Some batch) (happened view)) (after-led kind batch (happened view)) p.1)) done)

      rest-at : (Q : Bool → Type 0) (o : Stage) (b : Bool) → Q (skips o b) → IfUp o Q
      rest-at Q Unopened b q = tt
      rest-at Q Collected b q = q
      rest-at Q PassedOver b q = q

      -- nothing was
      pub known-rests : (me : ℕ) (t : BTreeSet ℕ) → me ≡ s.me → sorted.UpdatesBy nat_cmp (nat_cmp view) old.touched t false → IsRoundDone g same (setup_now g s up view 0) (happened view) me round' None → Stand g same s (record old { by_view = m; touched = t }) up happened
      known-rests me t is gone done = rested g same s (record old { by_view = m }) up happened view (moved-still g same s old up happened view k 0 round there round' m updates touched done.2) t gone
          (rest-at (λ skipped. IsAtRest g same s view skipped (happened view)) (up view) (is_passed s view 0) (record { no_construction = done.1; no_forward = subst (λ (i : ℕ). forwardable (happened view) i ≡ None) is done.0 }))

  -- a view without a round rests
  pub none-rests : (s : Common S) (old : Rounds S D P G C) (up : ℕ → Stage) (happened : ℕ → History S D P G C) (view : ℕ) (t : BTreeSet ℕ) → stored old.by_view view ≡ None → sorted.UpdatesBy nat_cmp (nat_cmp view) old.touched t false
      → Stand g same s old up happened → Stand g same s (record old { touched = t }) up happened
  none-rests s old up happened view t none gone k =
      let bare = unknown g same s view (stored old.by_view view) (up view) (happened view) none (k.kept view) in
      rested g same s old up happened view k t gone (rw bare.0 tt)
