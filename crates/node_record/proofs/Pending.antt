-- The asks that stand until a finalization, gone over one after the other.
use Rattle.std.proofs.Common.{◌≡◌, ◌↔◌, ◌⊎◌, ◌&&◌, ◌<◌, ◌∷◌, ◌++◌, [], ⊎_elim, ℕ, Bool, true, false, List, map, refl, sym, ap, subst, ◌∙◌, arith}
use Rattle.std.specs.Prelude.{All, Contains, IsTrue, if◌then◌else◌}
use Rattle.std.specs.Ordering.{is_eq}
use Rattle.std.specs.BTreeSet.{BTreeSet, contains}
use Rattle.std.specs.Map.Iter.{deref}
use Rattle.std.proofs.lemmas.Bool.Decides.{nat_tests}
use Rattle.std.proofs.lemmas.List.{map-append}
use Rattle.std.proofs.lemmas.List.Elements.{All-contains, Contains-append_left, Contains-push, Contains-push_cases}
use Rattle.std.proofs.lemmas.Map.Views.{Contains-from_any}
use Rattle.types_quorum.specs.Counting.{Contains-nil}
use denote.Enum.Bare.{sameb}
use denote.Ref.{Bor}
use Rattle.simplex_resolver.specs.declared.ask.Until.{Until}
use Rattle.simplex_resolver.specs.declared.ask.Until.TheVariants as until
use Rattle.simplex_resolver.specs.contracts.ask.Until.{the_type}
use Rattle.simplex_member.specs.declared.asked.Asked.{Asked}
use Rattle.simplex_member.specs.Asked.{asks_now, asks_of, goes_again, sent_of, was_repeated}
use Rattle.simplex_member.specs.Point.{History}
use Rattle.simplex_member.specs.Setup.{Setup}
use Rattle.node_record.specs.Tables.{asked_cmp}

-- what was gone over and stands is kept, and nothing else
abbrev pub AreKept : List (Bor Asked) → List Asked → Type 0
AreKept over kept = (a : Asked) → Contains kept a ↔ (Contains (map deref over) a × (a.ask.until ≡ until.Finalization))

over_more : (over : List (Bor Asked)) (x : Bor Asked) (a : Asked) → Contains (map deref (over ++ x ∷ [])) a → Contains (map deref over) a ⊎ (x.now ≡ a)
over_more over x a there = Contains-push_cases (map deref over) x.now a (subst (λ (l : List Asked). Contains l a) (map-append deref over (x ∷ [])) there)

over_before : (over : List (Bor Asked)) (x : Bor Asked) (a : Asked) → Contains (map deref over) a → Contains (map deref (over ++ x ∷ [])) a
over_before over x a there = subst (λ (l : List Asked). Contains l a) (sym (map-append deref over (x ∷ []))) (Contains-append_left (map deref over) (x.now ∷ []) a there)

over_last : (over : List (Bor Asked)) (x : Bor Asked) → Contains (map deref (over ++ x ∷ [])) x.now
over_last over x = subst (λ (l : List Asked). Contains l x.now) (sym (map-append deref over (x ∷ []))) (Contains-push (map deref over) x.now)

-- nothing was gone over at first
pub none_kept : AreKept [] []
none_kept = λ a. (λ there. absurd (Contains-nil a there), λ both. absurd (Contains-nil a both.0))

-- one more that stands
pub kept_more : (over : List (Bor Asked)) (x : Bor Asked) (kept : List Asked) → x.now.ask.until ≡ until.Finalization → AreKept over kept → AreKept (over ++ x ∷ []) (kept ++ x.now ∷ [])
kept_more over x kept stands are = λ a. (
  λ there. ⊎_elim
      (λ before. let both = (are a).0 before in (over_before over x a both.0, both.1))
      (λ is. (subst (λ (b : Asked). Contains (map deref (over ++ x ∷ [])) b) is (over_last over x), subst (λ (b : Asked). b.ask.until ≡ until.Finalization) is stands))
      (Contains-push_cases kept x.now a there),
  λ both. ⊎_elim
      (λ before. Contains-append_left kept (x.now ∷ []) a ((are a).1 (before, both.1)))
      (λ is. subst (λ (b : Asked). Contains (kept ++ x.now ∷ []) b) is (Contains-push kept x.now))
      (over_more over x a both.0),
)

-- one more that doesn't
pub kept_no_more : (over : List (Bor Asked)) (x : Bor Asked) (kept : List Asked) → (x.now.ask.until ≡ until.Finalization → ⊥) → AreKept over kept → AreKept (over ++ x ∷ []) kept
kept_no_more over x kept never are = λ a. (
  λ there. let both = (are a).0 there in (over_before over x a both.0, both.1),
  λ both. ⊎_elim
      (λ before. (are a).1 (before, both.1))
      (λ is. absurd (never (subst (λ (b : Asked). b.ask.until ≡ until.Finalization) (sym is) both.1)))
      (over_more over x a both.0),
)

-- whether an ask stands until a finalization, by a test
pub stands : (u : Until) (b : Bool) → b ≡ sameb the_type u until.Finalization → b ≡ true → u ≡ until.Finalization
stands until.Finalization b is on = refl
stands until.Floor b is on = absurd (cc (sym is ∙ on))

pub stands_not : (u : Until) (b : Bool) → b ≡ sameb the_type u until.Finalization → b ≡ false → u ≡ until.Finalization → ⊥
stands_not u b is off same = absurd (cc (sym off ∙ is ∙ ap (λ (w : Until). sameb the_type w until.Finalization) same))

-- asks that compare equal are one
one_ask : (x y : Asked) → is_eq (asked_cmp x y) ≡ true → x ≡ y
one_ask x y is = grind (arith, nat_tests, is)

-- the set has what its list has
pub among_keys : (s : BTreeSet Asked) → All (λ a. IsTrue (contains asked_cmp s a)) s.keys → (a : Asked) → Contains s.keys a ↔ IsTrue (contains asked_cmp s a)
among_keys s found a = (
  λ there. All-contains (λ (b : Asked). IsTrue (contains asked_cmp s b)) s.keys a found there,
  λ there. Contains-from_any {eq = λ (x y : Asked). is_eq (asked_cmp x y)} one_ask a s.keys there,
)

-- ---- what went out for now

module _ {S D P G C : Type 0} (s : Setup S D C) (h : History S D P G C) (a : Asked) where
  -- where asks go again it is what was asked since the time was told last
  pub sent_now : (b : Bool) → (goes_again s.repair.again && was_repeated h) ≡ true → IsTrue b ↔ Contains (asks_now h) a → IsTrue b ↔ Contains (sent_of s h) a
  sent_now b is told = subst (λ (q : Bool). IsTrue b ↔ Contains (if q then asks_now h else asks_of h) a) (sym is) told

  -- where they don't it is all
  pub sent_all : (b : Bool) (low : ℕ) → low < a.view → (goes_again s.repair.again && was_repeated h) ≡ false → IsTrue b ↔ ((low < a.view) × Contains (asks_of h) a) → IsTrue b ↔ Contains (sent_of s h) a
  sent_all b low above is told = subst (λ (q : Bool). IsTrue b ↔ Contains (if q then asks_now h else asks_of h) a) (sym is) (λ there. (told.0 there).1, λ here. told.1 (above, here))
