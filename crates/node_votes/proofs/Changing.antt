-- A change of the votes of one view among those of all.
use Rattle.std.proofs.Common.{◌≡◌, ◌≢◌, ◌≤◌, ◌<◌, ℕ, ◌==◌, Bool, true, false, [], ⊎_elim, refl, sym, ◌∙◌, subst, arith, ◌⊎◌, inl, inr}
use Rattle.std.specs.Prelude.{Option, Some, None, IsSome, OnErr, Result, Ok, Err, is_some, nat_lt, IfSome, unwrap_or}
use Rattle.std.specs.BTreeMap.{BTreeMap, is_at}
use Rattle.std.specs.BTreeSet.{BTreeSet, Updates, contains}
use Rattle.std.specs.Ordering.{nat_cmp}
use Rattle.std.specs.declared.cmp.Reverse.{Reverse}
use Rattle.std.proofs.lemmas.Bool.{and_right, cases_eq, cases_lt, eq-eqb, le-ltb, lt-ltb}
use Rattle.std.proofs.lemmas.Bool.Decides.{nat_tests}
use Rattle.std.proofs.lemmas.Grind.{common_steps}
use Rattle.types_quorum.specs.Committee.{quorum}
use Rattle.types_core.specs.LatestFirst.{as_key, latest_first, stored, Stores}
use Rattle.types_core.specs.declared.position.Round as position
use Rattle.types_core.specs.declared.scheme.Scheme.{Ghosts}
use Rattle.batcher_verifier.specs.History.{History, Setup, leader_of}
use Rattle.simplex_batcher.specs.declared.round.Round.{Round}
use Rattle.simplex_batcher.specs.Rounds.{RoundKeeps}
use Rattle.node_votes.specs.declared.rounds.Rounds.{Rounds}
use Rattle.node_votes.specs.Standing.{Common, IsAtRest, IsKept, Stand, common_of, happened_from, come_up, is_passed, set_at, setup_at, up_from, IfUp}
use Rattle.simplex_member.specs.Layers.{Stage, Unopened, Collected, PassedOver, IsUp, first_up, skips}

-- a number is itself; two that are not one are apart in a set, and as keys of a map
pub itself : (n : ℕ) → (n == n) ≡ true
itself n = eq-eqb n n refl

pub apart-at : (at view : ℕ) → (at == view) ≡ false → is_at (nat_cmp at) view ≡ false
apart-at at view ne = grind (arith, nat_tests, ne)

pub keys-apart : (at view : ℕ) → (at == view) ≡ false → is_at (latest_first (as_key at)) (as_key view) ≡ false
keys-apart at view ne = grind (arith, nat_tests, ne)

pub some-is : {A : Type 0} {o : Option A} {x : A} → Some x ≡ o → IsSome o
some-is e = subst (λ found. is_some found ≡ true) e refl

module _ {S D P G C : Type 0} (g : Ghosts S D P G C) (same : D → D → Bool) where
  -- of one view the votes changed, those of the others stand as before
  pub changed : (s : Common S) (old new : Rounds S D P G C) (at : ℕ) (up up' : ℕ → Stage) (happened happened' : ℕ → History S D P G C)
      → Stand g same s old up happened → common_of new ≡ common_of old
      → ((u : ℕ) → (at == u) ≡ false → stored new.by_view u ≡ stored old.by_view u)
      → ((u : ℕ) → (at == u) ≡ false → (up' u ≡ up u) × (happened' u ≡ happened u))
      → ((u : ℕ) → (at == u) ≡ false → contains nat_cmp new.touched u ≡ false → contains nat_cmp old.touched u ≡ false)
      → ((u : ℕ) → (at == u) ≡ false → contains nat_cmp new.unled u ≡ contains nat_cmp old.unled u)
      → IsKept g same s at (stored new.by_view at) (up' at) (happened' at)
      → (contains nat_cmp new.touched at ≡ false → IfUp (up' at) (λ skipped. IsAtRest g same s at skipped (happened' at)))
      → (contains nat_cmp new.unled at ≡ false → IsUp (up' at) → leader_of (happened' at) ≢ None)
      → (contains nat_cmp new.unled at ≡ true → leader_of (happened' at) ≡ None)
      → Stand g same s new up' happened'
  changed s old new at up up' happened happened' k shared rounds others touched unled here rest named waits = record {
    shared = shared ∙ k.shared;
    kept = λ u. ⊎_elim
        (λ e. subst (λ (w : ℕ). IsKept g same s w (stored new.by_view w) (up' w) (happened' w)) e here)
        (λ ne. let apart : (at == u) ≡ false = grind (arith, nat_tests) in let o = others u apart in rw (rounds u apart, o.0, o.1) (k.kept u))
        (cases_eq at u);
    at_rest = λ u. ⊎_elim
        (λ e. subst (λ (w : ℕ). contains nat_cmp new.touched w ≡ false → IfUp (up' w) (λ skipped. IsAtRest g same s w skipped (happened' w))) e rest)
        (λ ne untouched. let apart : (at == u) ≡ false = grind (arith, nat_tests) in let o = others u apart in rw (o.0, o.1) (k.at_rest u (touched u apart untouched)))
        (cases_eq at u);
    named = λ u. ⊎_elim
        (λ e. subst (λ (w : ℕ). contains nat_cmp new.unled w ≡ false → IsUp (up' w) → leader_of (happened' w) ≢ None) e named)
        (λ ne led. let apart : (at == u) ≡ false = grind (arith, nat_tests) in let o = others u apart in rw (o.0, o.1) (k.named u (sym (unled u apart) ∙ led)))
        (cases_eq at u);
    waits = λ u. ⊎_elim
        (λ e. subst (λ (w : ℕ). contains nat_cmp new.unled w ≡ true → leader_of (happened' w) ≡ None) e waits)
        (λ ne unnamed. let apart : (at == u) ≡ false = grind (arith, nat_tests) in let o = others u apart in rw o.1 (k.waits u (sym (unled u apart) ∙ unnamed)))
        (cases_eq at u);
  }

  -- the same came up, and the same happened
  pub alike : (s : Common S) (r : Rounds S D P G C) (up up' : ℕ → Stage) (happened happened' : ℕ → History S D P G C)
      → ((u : ℕ) → up' u ≡ up u) → ((u : ℕ) → happened' u ≡ happened u) → Stand g same s r up happened → Stand g same s r up' happened'
  alike s r up up' happened happened' ups events k = record {
    shared = k.shared;
    kept = λ u. rw (ups u, events u) (k.kept u);
    at_rest = λ u untouched. rw (ups u, events u) (k.at_rest u untouched);
    named = λ u led. rw (ups u, events u) (k.named u led);
    waits = λ u unnamed. rw (events u) (k.waits u unnamed);
  }

  -- of a round that is there the votes came up
  pub known : (s : Common S) (at : ℕ) (r : Round S D P G C) (o : Stage) (b : Bool) (h : History S D P G C) → IsKept g same s at (Some r) o h
      → RoundKeeps same g g.batchable (setup_at g s at (skips o b)) r h
  known s at r Unopened b h k = absurd k
  known s at r Collected b h k = k
  known s at r PassedOver b h k = k

  -- once the votes of a view come up its round is there
  pub kept-up : (s : Common S) (at : ℕ) (r : Round S D P G C) (o : Stage) (b : Bool) (h : History S D P G C) → RoundKeeps same g g.batchable (setup_at g s at (skips o b)) r h
      → IsKept g same s at (Some r) (first_up o b) h
  kept-up s at r Unopened true h k = k
  kept-up s at r Unopened false h k = k
  kept-up s at r Collected b h k = k
  kept-up s at r PassedOver b h k = k

  -- the round of votes that came up changed
  pub kept-still : (s : Common S) (at : ℕ) (r r' : Round S D P G C) (o : Stage) (b : Bool) (h h' : History S D P G C) → IsKept g same s at (Some r) o h
      → RoundKeeps same g g.batchable (setup_at g s at (skips o b)) r' h' → IsKept g same s at (Some r') o h'
  kept-still s at r r' Unopened b h h' k k' = absurd k
  kept-still s at r r' Collected b h h' k k' = k'
  kept-still s at r r' PassedOver b h h' k k' = k'

module _ {S D P G C : Type 0} where
  -- of the views from the floor on nothing changed
  pub record IsDropping (floor : ℕ) (old new : Rounds S D P G C) : Type 0 where
    pub shared : common_of new ≡ common_of old
    pub rounds : (u : ℕ) → floor ≤ u → stored new.by_view u ≡ stored old.by_view u
    pub touched : (u : ℕ) → floor ≤ u → contains nat_cmp new.touched u ≡ contains nat_cmp old.touched u
    pub unled : (u : ℕ) → floor ≤ u → contains nat_cmp new.unled u ≡ contains nat_cmp old.unled u

module _ {S D P G C : Type 0} (g : Ghosts S D P G C) (same : D → D → Bool) where
  -- the votes of the views below the floor are gone
  pub dropped : (s : Common S) (floor : ℕ) (old new : Rounds S D P G C) (up : ℕ → Stage) (happened : ℕ → History S D P G C) → IsDropping floor old new → ((u : ℕ) → u < floor → stored new.by_view u ≡ None)
      → Stand g same s old up happened → Stand g same s new (up_from floor up) (happened_from floor happened)
  dropped s floor old new up happened d none k = record {
    shared = d.shared ∙ k.shared;
    kept = λ u. ⊎_elim
        (λ lt. let below : nat_lt u floor ≡ true = lt-ltb u floor lt in rw (below, none u lt) (refl, refl))
        (λ ge. let above : nat_lt u floor ≡ false = le-ltb u floor ge in rw (above, d.rounds u ge) (k.kept u))
        (cases_lt u floor);
    at_rest = λ u. ⊎_elim
        (λ lt untouched. let below : nat_lt u floor ≡ true = lt-ltb u floor lt in rw below tt)
        (λ ge untouched. let above : nat_lt u floor ≡ false = le-ltb u floor ge in rw above (k.at_rest u (sym (d.touched u ge) ∙ untouched)))
        (cases_lt u floor);
    named = λ u. ⊎_elim
        (λ lt led. let below : nat_lt u floor ≡ true = lt-ltb u floor lt in rw below (λ never. absurd (cc never)))
        (λ ge led. let above : nat_lt u floor ≡ false = le-ltb u floor ge in rw above (k.named u (sym (d.unled u ge) ∙ led)))
        (cases_lt u floor);
    waits = λ u. ⊎_elim
        (λ lt unnamed. let below : nat_lt u floor ≡ true = lt-ltb u floor lt in rw below refl)
        (λ ge unnamed. let above : nat_lt u floor ≡ false = le-ltb u floor ge in rw above (k.waits u (sym (d.unled u ge) ∙ unnamed)))
        (cases_lt u floor);
  }

  -- a view without a round is one whose votes didn't come up
  pub unknown : (s : Common S) (at : ℕ) (o : Option (Round S D P G C)) (up : Stage) (h : History S D P G C) → o ≡ None → IsKept g same s at o up h → (up ≡ Unopened) × (h ≡ [])
  unknown s at o up h none k = rw none at k

module _ {S D P G C : Type 0} (g : Ghosts S D P G C) (same : D → D → Bool) where
  -- more views are looked at again, and nothing else changed
  pub widened : (s : Common S) (old new : Rounds S D P G C) (up : ℕ → Stage) (happened : ℕ → History S D P G C) → common_of new ≡ common_of old
      → ((u : ℕ) → stored new.by_view u ≡ stored old.by_view u)
      → ((u : ℕ) → contains nat_cmp new.touched u ≡ false → contains nat_cmp old.touched u ≡ false)
      → ((u : ℕ) → contains nat_cmp new.unled u ≡ false → contains nat_cmp old.unled u ≡ false)
      → ((u : ℕ) → contains nat_cmp new.unled u ≡ true → (contains nat_cmp old.unled u ≡ true) ⊎ (leader_of (happened u) ≡ None))
      → Stand g same s old up happened → Stand g same s new up happened
  widened s old new up happened shared rounds touched unled more k = record {
    shared = shared ∙ k.shared;
    kept = λ u. rw (rounds u) (k.kept u);
    at_rest = λ u untouched. k.at_rest u (touched u untouched);
    named = λ u led. k.named u (unled u led);
    waits = λ u unnamed. ⊎_elim (λ before. k.waits u before) (λ none. none) (more u unnamed);
  }

-- what holds however a call ended holds where it was refused
pub on-err : {T E : Type 0} (r : Result T E) (Q : Type 0) → Q → OnErr r Q
on-err (Ok x) Q q = tt
on-err (Err e) Q q = q

-- a set that got a view lacks those alone that it lacked
pub lacking : (old new : BTreeSet ℕ) (view : ℕ) → Updates nat_cmp old new view true → (u : ℕ) → contains nat_cmp new u ≡ false → contains nat_cmp old u ≡ false
lacking old new view up u lacks = grind (arith, common_steps, up.0 u, lacks)

pub lacks-not : (old new : BTreeSet ℕ) (view : ℕ) → Updates nat_cmp old new view true → contains nat_cmp new view ≡ false → ⊥
lacks-not old new view up lacks = absurd (cc (up.1, lacks))

module _ {S D P G C : Type 0} (g : Ghosts S D P G C) (same : D → D → Bool) where
  -- where a view without a round came to a set, each other one was there before, and nothing happened to its votes
  pub unled_more : (s : Common S) (old : Rounds S D P G C) (up : ℕ → Stage) (happened : ℕ → History S D P G C) (new : BTreeSet ℕ) (view : ℕ) → Updates nat_cmp old.unled new view true → stored old.by_view view ≡ None
      → Stand g same s old up happened → (u : ℕ) → contains nat_cmp new u ≡ true → (contains nat_cmp old.unled u ≡ true) ⊎ (leader_of (happened u) ≡ None)
  unled_more s old up happened new view updates none k u more = ⊎_elim
      (λ e. let bare = unknown g same s view (stored old.by_view view) (up view) (happened view) none (k.kept view) in inr (subst (λ (w : ℕ). leader_of (happened w) ≡ None) e (rw bare.1 refl)))
      (λ ne. let apart : (view == u) ≡ false = grind (arith, nat_tests) in inl (sym (updates.2 u (apart-at view u apart)) ∙ more))
      (cases_eq view u)

-- a map with the same entries has the same at each view
pub same-get : {X : Type 0} (old new : BTreeMap (Reverse ℕ) X) → new.entries ≡ old.entries → (u : ℕ) → stored new u ≡ stored old u
same-get old new e u = rw e refl

module _ {S D P G C : Type 0} (g : Ghosts S D P G C) (same : D → D → Bool) where
  -- the round of a view that had none is among the others
  pub seated : (s : Common S) (old new : Rounds S D P G C) (up : ℕ → Stage) (happened : ℕ → History S D P G C) (view : ℕ) (round : Round S D P G C) (passed : Bool) (h : History S D P G C)
      → Stand g same s old up happened → common_of new ≡ common_of old → Stores old.by_view new.by_view view (Some round) → new.touched ≡ old.touched → Updates nat_cmp old.unled new.unled view true
      → stored old.by_view view ≡ None → contains nat_cmp old.touched view ≡ true → leader_of h ≡ None → RoundKeeps same g g.batchable (setup_at g s view passed) round h
      → Stand g same s new (come_up view passed up) (set_at view h happened)
  seated s old new up happened view round passed h k shared rounds same_touched unled none touched nobody kept =
      let bare = unknown g same s view (stored old.by_view view) (up view) (happened view) none (k.kept view) in
      let put_in : stored new.by_view view ≡ Some round = rounds.1 in
      let still : contains nat_cmp new.touched view ≡ true = subst (λ (t : BTreeSet ℕ). contains nat_cmp t view ≡ true) (sym same_touched) touched in
      changed g same s old new view up (come_up view passed up) happened (set_at view h happened) k shared
      (λ u ne. rounds.2 (as_key u) (keys-apart view u ne))
      (λ u ne. (rw ne refl, rw ne refl))
      (λ u ne. subst (λ (t : BTreeSet ℕ). contains nat_cmp t u ≡ false → contains nat_cmp old.touched u ≡ false) (sym same_touched) (λ no. no))
      (λ u ne. unled.2 u (apart-at view u ne))
      (rw (put_in, itself view, bare.0) (kept-up g same s view round Unopened passed h kept))
      (λ no. absurd (cc (still, no)))
      (λ no. absurd (lacks-not old.unled new.unled view unled no))
      (λ unnamed. rw (itself view) nobody)

-- a view that is behind is passed over, but where votes are kept for good
pub passed-by : {S : Type 0} (s : Common S) (view current : ℕ) → nat_lt view current ≡ true → s.tracks ≡ false → is_passed s view current ≡ true
passed-by s view current behind tracks = rw (behind, tracks) refl

pub passed-tracked : {S : Type 0} (s : Common S) (view current : ℕ) → s.tracks ≡ true → is_passed s view current ≡ false
passed-tracked s view current tracks = rw tracks (and_right (nat_lt view current) false refl)

pub passed-late : {S : Type 0} (s : Common S) (view current : ℕ) → nat_lt view current ≡ false → is_passed s view current ≡ false
passed-late s view current late = rw late refl

-- what stays the same of a fresh round is what its view says
pub same-setup : {S D P G C : Type 0} (g : Ghosts S D P G C) (s : Common S) (view current : ℕ) (x : S) (r : position.Round) (tracks passed : Bool)
    → x ≡ s.scheme → r.epoch ≡ s.epoch → r.view ≡ view → tracks ≡ s.tracks → passed ≡ is_passed s view current
    → (let made : Setup S = record { round = r; scheme = x; members = g.size x; needed = quorum (g.size x); batchable = g.batchable x; tracks = tracks; is_skipped = passed } in made) ≡ setup_at g s view (is_passed s view current)
same-setup g s view current x r tracks passed a e v t p = λ i. record {
  round = record { epoch = e i; view = v i };
  scheme = a i;
  members = g.size (a i);
  needed = quorum (g.size (a i));
  batchable = g.batchable (a i);
  tracks = t i;
  is_skipped = p i;
}

-- what isn't there is not there
pub none-from : {A : Type 0} {o : Option A} → false ≡ is_some o → o ≡ None
none-from {o = None} test = refl
none-from {o = Some x} test = absurd (cc test)

pub no-some : {A : Type 0} {o : Option A} → o ≡ None → IsSome o → ⊥
no-some {o = None} none some = absurd (cc some)
no-some {o = Some x} none some = absurd (cc none)
