-- The views that a member has to repair, asked for one after the other.
use Rattle.std.proofs.Common.{◌≡◌, ◌⊎◌, ◌+◌, ◌<◌, ◌∷◌, ◌++◌, ◌∙◌, [], inl, ⊎_elim, ℕ, Bool, true, false, List, length, Option, Some, None, refl, sym, ap, subst, append_assoc, length-append, arith}
use Rattle.std.specs.Prelude.{All, AllPairs, Contains, IfSome, option_map, ◌↔◌, ⊤}
use Rattle.std.specs.List.{AllByRecursion}
use Rattle.std.specs.List.Sorted.{IsStrictlySortedBy}
use Rattle.std.specs.Ordering.{nat_cmp}
use Rattle.std.specs.declared.cmp.Ordering.TheVariants.{Less}
use Rattle.std.proofs.lemmas.Bool.Decides.{nat_tests}
use Rattle.std.proofs.lemmas.List.Elements.{All-cons, All-nil, Contains-append_cases, Contains-append_left, Contains-append_right}
use Rattle.std.proofs.lemmas.List.Kept.{AllPairs-cons}
use Rattle.types_quorum.specs.Counting.{Contains-cases, Contains-head, Contains-nil, Contains-rest, NoneTwice, no_longer}
use Rattle.types_core.specs.declared.scheme.Scheme.{Ghosts}
use Rattle.simplex_resolver.specs.declared.ask.Ask.{Ask}
use Rattle.simplex_resolver.specs.declared.ask.Kind.{Kind}
use Rattle.simplex_resolver.specs.declared.ask.Kind.TheVariants as kind
use Rattle.simplex_resolver.specs.declared.ask.Until.{Until}
use Rattle.simplex_resolver.specs.declared.ask.Until.TheVariants as until
use Rattle.simplex_resolver.specs.Keeps as repairing
use Rattle.simplex_resolver.specs.Outstanding.{IsOutstanding}
use Rattle.simplex_resolver.specs.declared.state.State.{State as Repair}
use Rattle.node_record.specs.declared.tables.Tables.{Tables}
use Rattle.node_record.specs.Tables.{KeepsTables}
use Rattle.simplex_member.specs.declared.action.Action.{Action}
use Rattle.voter_rules.specs.declared.config.RepairPolicy.{RepairPolicy}
use Rattle.simplex_member.specs.Asked.{AreLower, IsInWindow, IsSent, backfill}
use Rattle.simplex_member.specs.Layers.{finalized_of, repair_of}
use Rattle.simplex_member.specs.Packet.{Formats}
use Rattle.simplex_member.specs.Point.{History}
use Rattle.simplex_member.specs.Setup.{Setup}
use Rattle.node_requests.specs.declared.acted.Acted.{Acted}
use Rattle.node_requests.specs.declared.acted.Acted.TheVariants as came
use Rattle.node_requests.specs.Fetching.{ComesToFetch, Fetches, RepairerKeeps}
use Rattle.node_requests.specs.NoneDue.{NoViewToAsk}
use Rattle.node_requests.proofs.Seeking.{AsksBut, none_asked, one_fewer, stays_first}

-- each number is below those behind it
abbrev pub Rises : List ℕ → Type 0
Rises [] = ⊤
Rises (x ∷ xs) = ((y : ℕ) → Contains xs y → x < y) × Rises xs

above_first : (x : ℕ) (xs : List ℕ) → AllByRecursion (λ y. nat_cmp x y ≡ Less) xs → (y : ℕ) → Contains xs y → x < y
above_first x [] all y there = absurd (Contains-nil y there)
above_first x (z ∷ xs) all y there = ⊎_elim
    (λ is. subst (λ (n : ℕ). x < n) is (less x z all.0))
    (λ later. above_first x xs all.1 y later)
    (Contains-cases z xs y there)
  where
    less : (a b : ℕ) → nat_cmp a b ≡ Less → a < b
    less a b is = grind (arith, nat_tests, is)

pub sorted_rises : (xs : List ℕ) → IsStrictlySortedBy nat_cmp xs → Rises xs
unfolding IsStrictlySortedBy
sorted_rises [] sorted = tt
sorted_rises (x ∷ xs) sorted = (above_first x xs sorted.0, sorted_rises xs sorted.1)

-- those before one are below it, those behind it above
before_one : (seen : List ℕ) (x : ℕ) (left : List ℕ) → Rises (seen ++ x ∷ left) → (u : ℕ) → Contains seen u → u < x
before_one [] x left rises u there = absurd (Contains-nil u there)
before_one (y ∷ seen) x left rises u there = ⊎_elim
    (λ is. subst (λ (n : ℕ). n < x) is (rises.0 x (Contains-append_right seen (x ∷ left) x (Contains-head x left))))
    (λ later. before_one seen x left rises.1 u later)
    (Contains-cases y seen u there)

behind_one : (seen : List ℕ) (x : ℕ) (left : List ℕ) → Rises (seen ++ x ∷ left) → (u : ℕ) → Contains left u → x < u
behind_one [] x left rises u there = rises.0 u there
behind_one (y ∷ seen) x left rises u there = behind_one seen x left rises.1 u there

first_rise : (seen left : List ℕ) → Rises (seen ++ left) → Rises seen
first_rise [] left rises = tt
first_rise (y ∷ seen) left rises = (λ u there. rises.0 u (Contains-append_left seen left u there), first_rise seen left rises.1)

all_above : (x : ℕ) (xs : List ℕ) → ((y : ℕ) → Contains xs y → x < y) → All (λ y. x < y) xs
all_above x [] above = All-nil (λ y. x < y)
all_above x (z ∷ xs) above = All-cons (λ y. x < y) z xs (above z (Contains-head z xs)) (all_above x xs (λ y later. above y (Contains-rest z xs y later)))

pairs_rise : (xs : List ℕ) → Rises xs → AllPairs (λ (a b : ℕ). a < b) xs
pairs_rise [] rises = λ i j d below within. absurd (omega (arith, within))
pairs_rise (x ∷ xs) rises = AllPairs-cons (λ (a b : ℕ). a < b) x xs (all_above x xs rises.0) (pairs_rise xs rises.1)

none_twice : (xs : List ℕ) → Rises xs → NoneTwice xs
none_twice xs rises = λ i j d below within is. let less = pairs_rise xs rises i j d below within in omega (arith, less, is)

module _ {S D P G C : Type 0} (g : Ghosts S D P G C) (f : Formats S D P G C) (s : Setup S D C) where
  -- so many were gone over, and are left; and so many more may be asked for
  pub record IsGoneOver (h : History S D P G C) (seen left : List ℕ) (more : Option ℕ) : Type 0 where
    pub exact : (view : ℕ) → Contains (seen ++ left) view ↔ IsOutstanding s.voter.length (repair_of f h) view
    pub rises : Rises (seen ++ left)
    pub count : option_map (λ (n : ℕ). length seen + n) more ≡ s.repair.window

  -- all views that are to be repaired were asked for but those that are left
  pub record RepairsBut (left : List ℕ) (more : Option ℕ) (tables : Tables S D P G C) (h : History S D P G C) (before after : List (Action S D P G C)) (acted : Acted) : Type 0 where
    pub seen : List ℕ
    pub over : IsGoneOver h seen left more
    pub asks : AsksBut g f s backfill (IsOutstanding s.voter.length (repair_of f h)) left tables h before after acted

  -- at first all are left
  pub none_repaired : (left : List ℕ) (policy : RepairPolicy) (repair : Repair) (tables : Tables S D P G C) (h : History S D P G C) (actions : List (Action S D P G C)) → RepairerKeeps g f s repair tables h → s.repair ≡ policy
      → ((view : ℕ) → Contains left view ↔ IsOutstanding s.voter.length (repair_of f h) view) → IsStrictlySortedBy nat_cmp left → RepairsBut left policy.window tables h actions actions came.Nothing
  none_repaired left policy repair tables h actions k is exact sorted = record {
    seen = [];
    over = record { exact = exact; rises = sorted_rises left sorted; count = none_seen policy.window ∙ sym (ap (λ (p : RepairPolicy). p.window) is) };
    asks = none_asked g f s backfill (IsOutstanding s.voter.length (repair_of f h)) left tables h actions k.tables_are
        (λ view there. inl (refl, (exact view).0 there)) (λ view. (exact view).1);
  }
    where
      none_seen : (o : Option ℕ) → option_map (λ (n : ℕ). 0 + n) o ≡ o
      none_seen None = refl
      none_seen (Some n) = let same : 0 + n ≡ n = omega arith in ap Some same

  one_more_seen : (h : History S D P G C) (seen : List ℕ) (view : ℕ) (left : List ℕ) (more rest : Option ℕ) → more ≡ option_map (λ (n : ℕ). n + 1) rest → IsGoneOver h seen (view ∷ left) more → IsGoneOver h (seen ++ view ∷ []) left rest
  one_more_seen h seen view left more rest is over = record {
    exact = λ u. subst (λ (l : List ℕ). Contains l u ↔ IsOutstanding s.voter.length (repair_of f h) u) (sym (append_assoc seen (view ∷ []) left)) (over.exact u);
    rises = subst (λ (l : List ℕ). Rises l) (sym (append_assoc seen (view ∷ []) left)) over.rises;
    count = go rest is;
  }
    where
      go : (o : Option ℕ) → more ≡ option_map (λ (n : ℕ). n + 1) o → option_map (λ (n : ℕ). length (seen ++ view ∷ []) + n) o ≡ s.repair.window
      go None none = sym (ap (λ (o : Option ℕ). option_map (λ (n : ℕ). length seen + n) o) none) ∙ over.count
      go (Some n) some =
          let longer = length-append seen (view ∷ []) in
          let same : length (seen ++ view ∷ []) + n ≡ length seen + (n + 1) = omega (arith, longer) in
          ap Some same ∙ (sym (ap (λ (o : Option ℕ). option_map (λ (n : ℕ). length seen + n) o) some) ∙ over.count)

  -- the next one is among the first to repair
  next_within : (h : History S D P G C) (seen : List ℕ) (view : ℕ) (left : List ℕ) (more rest : Option ℕ) → more ≡ option_map (λ (n : ℕ). n + 1) rest → IsGoneOver h seen (view ∷ left) more → IsInWindow f s h view
  next_within h seen view left more rest is over = go rest is
    where
      lower : AreLower s.voter.length (repair_of f h) view seen
      lower = record {
        exact = λ u. (
          λ there. ((over.exact u).0 (Contains-append_left seen (view ∷ left) u there), before_one seen view left over.rises u there),
          λ both. ⊎_elim
              (λ early. early)
              (λ late. ⊎_elim
              (λ same. let low = both.1 in absurd (omega (arith, same, low)))
              (λ later. let above = behind_one seen view left over.rises u later in let low = both.1 in absurd (omega (arith, above, low)))
              (Contains-cases view left u late))
              (Contains-append_cases seen (view ∷ left) u ((over.exact u).1 both.0)),
        );
        ascend = pairs_rise seen (first_rise seen (view ∷ left) over.rises);
      }

      go : (o : Option ℕ) → more ≡ option_map (λ (n : ℕ). n + 1) o → IsInWindow f s h view
      go None none = subst (λ (o : Option ℕ). IfSome o (λ most. (l : List ℕ) × AreLower s.voter.length (repair_of f h) view l × (length l < most))) (sym (ap (λ (o : Option ℕ). option_map (λ (n : ℕ). length seen + n) o) none) ∙ over.count) tt
      go (Some n) some = subst (λ (o : Option ℕ). IfSome o (λ most. (l : List ℕ) × AreLower s.voter.length (repair_of f h) view l × (length l < most)))
          (sym (ap (λ (o : Option ℕ). option_map (λ (n : ℕ). length seen + n) o) some) ∙ over.count) (seen, lower, omega arith)

  -- one more was asked for, or it was answered before
  pub one_repaired : (view : ℕ) (left : List ℕ) (more rest : Option ℕ) (asks : Ask) (repair : Repair) (first tables now_tables : Tables S D P G C) (h : History S D P G C) (before mid after : List (Action S D P G C)) (acted now : Acted) (sent : Bool) → asks.kind ≡ kind.Nullification → asks.until ≡ until.Floor
      → more ≡ option_map (λ (n : ℕ). n + 1) rest → RepairerKeeps g f s repair first h → (now ≡ came.Nothing → (acted ≡ came.Nothing) × (sent ≡ false)) → (now ≡ came.Did → (acted ≡ came.Did) ⊎ (sent ≡ true)) → RepairsBut (view ∷ left) more tables h before mid acted
      → ((end : History S D P G C) → repairing.Keeps s.voter.length repair (repair_of f end) → KeepsTables (finalized_of s end) tables end → Fetches f s now_tables end (record { view = view; ask = asks; to = None }) mid after sent)
      → RepairsBut left rest now_tables h before after now
  one_repaired view left more rest asks repair first tables now_tables h before mid after acted now sent kind_is until_is fewer stands came_of did_of k fetches =
      let is : asks ≡ backfill =
      ap (λ (x : Kind). record { kind = x; until = asks.until }) kind_is ∙ ap (λ (x : Until). record { kind = kind.Nullification; until = x }) until_is in
      record {
        seen = k.seen ++ view ∷ [];
        over = one_more_seen h k.seen view left more rest fewer k.over;
        asks = one_fewer g f s backfill (IsOutstanding s.voter.length (repair_of f h)) view left tables now_tables h before mid after acted now sent stands.begun came_of did_of k.asks
            (λ end aside back. stays_first g f s h end view aside (next_within h k.seen view left more rest fewer k.over))
            (λ end aside there.
            subst (λ (a : Ask). Fetches f s now_tables end (record { view = view; ask = a; to = None }) mid after sent) is
            (fetches end (subst (λ r. repairing.Keeps s.voter.length repair r) (sym aside.repair) stands.repair_is) there));
      }

  -- a view that is to be repaired and within the window, though so many were gone over as it has, was gone over
  gone_over : (h : History S D P G C) (seen left : List ℕ) → IsGoneOver h seen left (Some 0) → (view : ℕ) → IsInWindow f s h view → IsOutstanding s.voter.length (repair_of f h) view → Contains left view → ⊥
  gone_over h seen left over view within bare there =
      let w : (lower : List ℕ) × AreLower s.voter.length (repair_of f h) view lower × (length lower < length seen + 0) =
      subst (λ (o : Option ℕ). IfSome o (λ most. (l : List ℕ) × AreLower s.voter.length (repair_of f h) view l × (length l < most))) (sym over.count) within in
      let long = no_longer seen w.0 (none_twice seen (first_rise seen left over.rises))
      (λ u early. (w.1.exact u).1 ((over.exact u).0 (Contains-append_left seen left u early), early_below seen left over.rises view there u early)) in
      let short = w.2 in
      omega (arith, long, short)
    where
      early_below : (xs ys : List ℕ) → Rises (xs ++ ys) → (v : ℕ) → Contains ys v → (u : ℕ) → Contains xs u → u < v
      early_below [] ys rises v late u early = absurd (Contains-nil u early)
      early_below (x ∷ xs) ys rises v late u early = ⊎_elim
          (λ same. subst (λ (n : ℕ). n < v) same (rises.0 v (Contains-append_right xs ys v late)))
          (λ later. early_below xs ys rises.1 v late u later)
          (Contains-cases x xs u early)

  -- when none is left, or the window is full, that comes of it
  none_to_ask : (left : List ℕ) (more : Option ℕ) (tables : Tables S D P G C) (h : History S D P G C) (before after : List (Action S D P G C)) → ((view : ℕ) → IsInWindow f s h view → IsOutstanding s.voter.length (repair_of f h) view → Contains left view → ⊥)
      → RepairsBut left more tables h before after came.Nothing → NoViewToAsk g f s h
  none_to_ask left more tables h before after none_left k view due = ⊎_elim
      (λ sought. ⊎_elim
      (λ backfills. ⊎_elim
      (λ there. none_left view (due.within refl) backfills.1 there)
      (λ sent. due.first (subst (λ (e : History S D P G C). IsSent f s e view backfill None) (k.asks.idle refl).0 sent))
      (k.asks.rest view backfills.1))
      (λ ancestral. absurd (cc (ap (λ (a : Ask). a.kind) ancestral.0)))
      sought)
      (λ pending. absurd (cc pending.0))
      due.sought

  repaired_so : (left : List ℕ) (more : Option ℕ) (tables : Tables S D P G C) (h : History S D P G C) (before after : List (Action S D P G C)) (acted : Acted) → ((view : ℕ) → IsInWindow f s h view → IsOutstanding s.voter.length (repair_of f h) view → Contains left view → ⊥)
      → RepairsBut left more tables h before after acted → ComesToFetch g f s (NoViewToAsk g f s) tables h before after acted
  repaired_so left more tables h before after came.Did none_left k = record { points = k.asks.points; end = k.asks.end; fetched = k.asks.fetched; some = k.asks.some refl }
  repaired_so left more tables h before after came.Nothing none_left k =
      let same = k.asks.idle refl in (
        none_to_ask left more tables h before after none_left k,
        subst (λ (e : History S D P G C). KeepsTables (finalized_of s e) tables e) same.0 k.asks.fetched.tables_are,
        same.1,
      )

  pub all_repaired : (more : Option ℕ) (tables : Tables S D P G C) (h : History S D P G C) (before after : List (Action S D P G C)) (acted : Acted) → RepairsBut [] more tables h before after acted
      → ComesToFetch g f s (NoViewToAsk g f s) tables h before after acted
  all_repaired more tables h before after acted k = repaired_so [] more tables h before after acted (λ view within bare there. Contains-nil view there) k

  pub window_is_full : (left : List ℕ) (tables : Tables S D P G C) (h : History S D P G C) (before after : List (Action S D P G C)) (acted : Acted) → RepairsBut left (Some 0) tables h before after acted
      → ComesToFetch g f s (NoViewToAsk g f s) tables h before after acted
  window_is_full left tables h before after acted k = repaired_so left (Some 0) tables h before after acted (gone_over h k.seen left k.over) k
