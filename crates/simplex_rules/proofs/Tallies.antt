-- One more vote in the count.
use Rattle.std.proofs.Common.{◌≡◌, cond, List, [], ◌∷◌, ◌++◌, Option, Some, None, refl, sym, ap, ◌∙◌, subst, inl, inr, map}
use Rattle.std.specs.Prelude.{MatchOption, IsTrue}
use Rattle.std.specs.Ordering.{is_eq}
use Rattle.std.specs.BTreeSet.{BTreeSet, contains}
use Rattle.std.proofs.lemmas.Bool.{cases_Bool}
use Rattle.std.proofs.lemmas.List.{map-append}
use Rattle.simplex_rules.specs.declared.cast.Suspect.{Suspect}
use Rattle.simplex_rules.specs.Kept.{suspect_cmp, casts_of, kept_of, set_of, Tallies, Holds}
use Rattle.simplex_rules.proofs.Standing.{kept_push}
use Rattle.simplex_rules.proofs.Suspects.{suspect_cmp-exact}

module _ {X : Type 0} where
  casts_of-push : (q : Suspect) (counted : List (Suspect × X)) (p : Suspect × X) → casts_of q (counted ++ p ∷ []) ≡ cond (is_eq (suspect_cmp p.0 q)) (casts_of q counted ++ p.1 ∷ []) (casts_of q counted)
  casts_of-push q [] p = refl
  casts_of-push q (r ∷ counted) p = elim (cases_Bool (is_eq (suspect_cmp r.0 q))) [
    | inl own ↦ rw own (elim (cases_Bool (is_eq (suspect_cmp p.0 q))) [
      | inl new ↦ rw new (ap (λ (t : List X). r.1 ∷ t) (casts_of-push q counted p ∙ rw new refl))
      | inr other ↦ rw other (ap (λ (t : List X). r.1 ∷ t) (casts_of-push q counted p ∙ rw other refl))
    ])
    | inr other ↦ rw other (casts_of-push q counted p)
  ]

module _ {X Y : Type 0} (contested : BTreeSet Suspect) (Keeps : Suspect → List X → Y → Type 0) where
  -- what is kept of a suspect after one more vote, where old was kept before
  abbrev pub Follows : Suspect → Option Y → X → Y → Type 0
  Follows q old c new = MatchOption old (Keeps q (c ∷ []) new) (λ kept. (casts : List X) → Keeps q casts kept → Keeps q (casts ++ c ∷ []) new)

  -- of a suspect the map keeps what there is to keep, if the suspect is in the set
  abbrev KeepsAt : Suspect → List X → Option Y → Type 0
  KeepsAt q casts found = MatchOption found (IsTrue (contains suspect_cmp contested q) → casts ≡ []) (λ y. IsTrue (contains suspect_cmp contested q) × Keeps q casts y)

  own_push : (q : Suspect) (old : Option Y) (casts : List X) (c : X) (new : Y) → IsTrue (contains suspect_cmp contested q) → Follows q old c new → KeepsAt q casts old → Keeps q (casts ++ c ∷ []) new
  own_push q None casts c new there alone none = subst (λ (xs : List X). Keeps q (xs ++ c ∷ []) new) (sym (none there)) alone
  own_push q (Some kept) casts c new there follows s = follows casts s.1

  pub Tallies-push : (counted : List (Suspect × X)) (m n : List Y) (k : Suspect) (c : X) (new : Y)
      → IsTrue (contains suspect_cmp contested k)
      → Tallies contested Keeps counted m → Follows k (kept_of contested m k) c new
      → ((q : Suspect) → kept_of contested n q ≡ cond (is_eq (suspect_cmp k q)) (Some new) (kept_of contested m q))
      → Tallies contested Keeps (counted ++ (k, c) ∷ []) n
  Tallies-push counted m n k c new there t follows updates q = elim (cases_Bool (is_eq (suspect_cmp k q))) [
    | inl own ↦
        let same : k ≡ q = suspect_cmp-exact k q own in
        let found : kept_of contested n q ≡ Some new = updates q ∙ rw own refl in
        let casts : casts_of q (counted ++ (k, c) ∷ []) ≡ casts_of q counted ++ c ∷ [] = casts_of-push q counted (k, c) ∙ rw own refl in
        let here : Keeps q (casts_of q counted ++ c ∷ []) new = subst (λ (x : Suspect). Keeps x (casts_of x counted ++ c ∷ []) new) same (own_push k (kept_of contested m k) (casts_of k counted) c new there follows (t k)) in
        rw (found, casts) (subst (λ (x : Suspect). IsTrue (contains suspect_cmp contested x)) same there, here)
    | inr other ↦
        let found : kept_of contested n q ≡ kept_of contested m q = updates q ∙ rw other refl in
        let casts : casts_of q (counted ++ (k, c) ∷ []) ≡ casts_of q counted = casts_of-push q counted (k, c) ∙ rw other refl in
        rw (found, casts) (t q)
  ]

  -- where nothing was counted, nothing is kept
  pub Tallies-none : Tallies contested Keeps [] []
  Tallies-none q = rw (nothing_of contested.keys q) (λ there. refl)
    where
      nothing_of : (ks : List Suspect) (p : Suspect) → kept_of {Y = Y} (set_of ks) [] p ≡ None
      nothing_of [] p = refl
      nothing_of (k ∷ ks) p = refl

  -- one more place, at which what stands for nothing is kept
  pub Tallies-reach : (filler : Y) → ((q : Suspect) → Keeps q [] filler) → (counted : List (Suspect × X)) (kept : List Y) → Tallies contested Keeps counted kept → Tallies contested Keeps counted (kept ++ filler ∷ [])
  Tallies-reach filler nothing counted kept t q = elim (kept_push contested.keys kept filler q) [
    | inl same ↦ rw same (t q)
    | inr new ↦
        let none = rw new.0 at (t q) in
        rw new.1 (new.2, subst (λ (casts : List X). Keeps q casts filler) (sym (none new.2)) (nothing q))
  ]

  -- nothing is kept of a suspect that is not in the set
  not_kept : (q : Suspect) (old : Option Y) (casts more : List X) → (IsTrue (contains suspect_cmp contested q) → ⊥) → KeepsAt q casts old → KeepsAt q more old
  not_kept q None casts more strange none = λ there. absurd (strange there)
  not_kept q (Some kept) casts more strange s = absurd (strange s.0)

  -- a vote of a suspect that is not in the set changes nothing
  pub Tallies-skip : (counted : List (Suspect × X)) (m : List Y) (k : Suspect) (c : X) → (IsTrue (contains suspect_cmp contested k) → ⊥) → Tallies contested Keeps counted m → Tallies contested Keeps (counted ++ (k, c) ∷ []) m
  Tallies-skip counted m k c strange t q = elim (cases_Bool (is_eq (suspect_cmp k q))) [
    | inl own ↦
        let same : k ≡ q = suspect_cmp-exact k q own in
        not_kept q (kept_of contested m q) (casts_of q counted) (casts_of q (counted ++ (k, c) ∷ [])) (λ there. strange (subst (λ (x : Suspect). IsTrue (contains suspect_cmp contested x)) (sym same) there)) (t q)
    | inr other ↦
        let casts : casts_of q (counted ++ (k, c) ∷ []) ≡ casts_of q counted = casts_of-push q counted (k, c) ∙ rw other refl in
        rw casts (t q)
  ]

  module _ {V : Type 0} (parts : V → Suspect × X) (votes : List V) where
    -- what is kept of the votes
    pub tallied : (m : List Y) → Holds parts contested Keeps votes m → Tallies contested Keeps (map parts votes) m
    tallied m h = subst (λ (counted : List (Suspect × X)). Tallies contested Keeps counted m) h.all_counted h.tallies

    -- one more vote
    pub Holds-counted : (v : V) (m n : List Y) → ((counted : List (Suspect × X)) → Tallies contested Keeps counted m → Tallies contested Keeps (counted ++ parts v ∷ []) n) → Holds parts contested Keeps votes m → Holds parts contested Keeps (votes ++ v ∷ []) n
    Holds-counted v m n keeps h = record {
      counted = h.counted ++ parts v ∷ [];
      all_counted = ap (λ (counted : List (Suspect × X)). counted ++ parts v ∷ []) h.all_counted ∙ sym (map-append parts votes (v ∷ []));
      tallies = keeps h.counted h.tallies;
    }
