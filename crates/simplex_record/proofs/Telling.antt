-- What the first of a list that something is given of says of the whole list.
use Rattle.std.specs.Prelude.{is_some}
use Rattle.std.specs.Option.{option_or, unwrap_or}
use Rattle.std.proofs.Common.{◌≡◌, ◌⊎◌, inl, inr, ⊎_elim, ℕ, ◌==◌, true, false, List, [], ◌∷◌, ◌++◌, Option, Some, None, refl, sym, ◌∙◌, ap, arith, if◌then◌else◌}
use Rattle.std.specs.List.{Contains}
use Rattle.std.proofs.lemmas.Bool.{cases_eq}
use Rattle.std.proofs.lemmas.Bool.Decides.{nat_tests}
use Rattle.std.proofs.lemmas.Option.{none-some}
use Rattle.types_quorum.specs.Counting.{Contains-cases, Contains-head, Contains-rest}
use Rattle.types_core.specs.declared.position.Round.{Round}
use Rattle.types_core.specs.declared.proposal.Proposal.{Proposal}
use Rattle.types_core.specs.Subject.{Statement, notarize, nullify, finalize}
use Rattle.simplex_record.specs.Record.{Entry, voted, taken, judged, HasVoted, HasTaken}
use Rattle.simplex_record.specs.Rules.{AreAlike}
use Rattle.simplex_record.specs.Told.{told, notarized_at, nullified_at, finalized_at, vote_in, certificate_in}

module _ {Y : Type 0} where
  -- an option has a value or none
  pub cases_option : (o : Option Y) → (o ≡ None) ⊎ ((y : Y) × (o ≡ Some y))
  cases_option None = inl refl
  cases_option (Some y) = inr (y, refl)

  pub is_some-false : (o : Option Y) → is_some o ≡ false → o ≡ None
  is_some-false None none = refl
  is_some-false (Some y) none = absurd (grind (arith, none))

  pub is_some-true : (o : Option Y) → is_some o ≡ true → (y : Y) × (o ≡ Some y)
  is_some-true None some = absurd (grind (arith, some))
  is_some-true (Some y) some = (y, refl)

  or-none : (o : Option Y) → option_or o None ≡ o
  or-none None = refl
  or-none (Some y) = refl

  or-again : (a b c : Option Y) → option_or a (option_or b c) ≡ option_or (option_or a b) c
  or-again None b c = refl
  or-again (Some y) b c = refl

  -- where the first is none the second stands for both
  pub or-else : (a b c : Option Y) → a ≡ None → option_or a b ≡ c → b ≡ c
  or-else None b c none is = is
  or-else (Some y) b c none is = absurd (none-some y (sym none))

  -- and the first where it is some
  pub or-first : (a b : Option Y) (y : Y) → a ≡ Some y → option_or a b ≡ Some y
  or-first a b y some = ap (λ (o : Option Y). option_or o b) some

module _ {X Y : Type 0} where
  -- an element and what is given of it
  pub record Gives (f : X → Option Y) (xs : List X) (y : Y) : Type 0 where
    pub x : X
    pub there : Contains xs x
    pub gives : f x ≡ Some y

  -- what is told is given of an element
  pub told-some : (f : X → Option Y) (xs : List X) (y : Y) → told f xs ≡ Some y → Gives f xs y
  told-some f [] y is = absurd (none-some y is)
  told-some f (x ∷ xs) y is = elim (cases_option (f x)) [
    | inl none ↦
        let rest = told-some f xs y (or-else (f x) (told f xs) (Some y) none is) in
        record { x = rest.x; there = Contains-rest x xs rest.x rest.there; gives = rest.gives }
    | inr some ↦ record { x = x; there = Contains-head x xs; gives = some.1 ∙ sym (or-first (f x) (told f xs) some.0 some.1) ∙ is }
  ]

  -- where nothing is told, nothing is given of any element
  pub told-none : (f : X → Option Y) (xs : List X) → told f xs ≡ None → (x : X) → Contains xs x → f x ≡ None
  told-none f [] none x there = absurd (omega (arith, there.1))
  told-none f (z ∷ xs) none x there = elim (cases_option (f z)) [
    | inl here ↦ ⊎_elim (λ same. sym (ap f same) ∙ here) (λ later. told-none f xs (or-else (f z) (told f xs) None here none) x later) (Contains-cases z xs x there)
    | inr some ↦ absurd (none-some some.0 (sym none ∙ or-first (f z) (told f xs) some.0 some.1))
  ]

  -- one more element
  pub told-push : (f : X → Option Y) (xs : List X) (x : X) → told f (xs ++ x ∷ []) ≡ option_or (told f xs) (f x)
  told-push f [] x = or-none (f x)
  told-push f (z ∷ xs) x = ap (option_or (f z)) (told-push f xs x) ∙ or-again (f z) (told f xs) (f x)

  -- nothing is told where nothing is given
  pub told-nothing : (f : X → Option Y) (xs : List X) → ((y : Y) → Gives f xs y → ⊥) → told f xs ≡ None
  told-nothing f xs never = elim (cases_option (told f xs)) [
    | inl none ↦ none
    | inr some ↦ absurd (never some.0 (told-some f xs some.0 some.1))
  ]

-- ---- by view and kind

module _ {Y : Type 0} where
  pub some-once : (a b : Y) → Some a ≡ Some b → a ≡ b
  some-once a b same = ap (λ (o : Option Y). unwrap_or o a) same

  -- where the views are one the value is given
  pub at_same : (view other : ℕ) (y : Y) → other ≡ view → (if other == view then Some y else None) ≡ Some y
  at_same view other y same = grind (arith, nat_tests, same)

  -- where they are not, nothing is
  pub at_other : (view other : ℕ) (y : Y) → (other ≡ view → ⊥) → (if other == view then Some y else None) ≡ None
  at_other view other y apart = elim (cases_eq other view) [
    | inl same ↦ absurd (apart same)
    | inr other_view ↦ grind (arith, nat_tests, other_view)
  ]

  -- what is given of a view is of it
  pub of_view : (view other : ℕ) (y z : Y) → (if other == view then Some y else None) ≡ Some z → (other ≡ view) × (y ≡ z)
  of_view view other y z is = elim (cases_eq other view) [
    | inl same ↦ (same, some-once y z (sym (at_same view other y same) ∙ is))
    | inr apart ↦ absurd (none-some z (sym (at_other view other y apart) ∙ is))
  ]

module _ {D : Type 0} where
  module _ {Y : Type 0} (f : Statement D → Option Y) (before : List (Entry D)) where
    -- nothing is told of votes where nothing is given of any
    pub votes-none : told (vote_in f) before ≡ None → (s : Statement D) → HasVoted before s → f s ≡ None
    votes-none none s here = told-none (vote_in f) before none (voted s) here

    pub votes-nothing : ((s : Statement D) → HasVoted before s → f s ≡ None) → told (vote_in f) before ≡ None
    votes-nothing never = told-nothing (vote_in f) before (λ y g. of_entry y g.x g.there g.gives)
      where
        of_entry : (y : Y) (e : Entry D) → Contains before e → vote_in f e ≡ Some y → ⊥
        of_entry y (voted s) here is = none-some y (sym (never s here) ∙ is)
        of_entry y (taken s) here is = none-some y is
        of_entry y (judged r verdict) here is = none-some y is

    -- a vote of which something is told
    pub votes-some : (y : Y) → told (vote_in f) before ≡ Some y → (s : Statement D) × HasVoted before s × (f s ≡ Some y)
    votes-some y is = let g = told-some (vote_in f) before y is in of_entry y g.x g.there g.gives
      where
        of_entry : (y : Y) (e : Entry D) → Contains before e → vote_in f e ≡ Some y → (s : Statement D) × HasVoted before s × (f s ≡ Some y)
        of_entry y (voted s) here gives = (s, here, gives)
        of_entry y (taken s) here gives = absurd (none-some y gives)
        of_entry y (judged r verdict) here gives = absurd (none-some y gives)

    -- the same of certificates
    pub certificates-none : told (certificate_in f) before ≡ None → (s : Statement D) → HasTaken before s → f s ≡ None
    certificates-none none s here = told-none (certificate_in f) before none (taken s) here

    pub certificates-nothing : ((s : Statement D) → HasTaken before s → f s ≡ None) → told (certificate_in f) before ≡ None
    certificates-nothing never = told-nothing (certificate_in f) before (λ y g. of_entry y g.x g.there g.gives)
      where
        of_entry : (y : Y) (e : Entry D) → Contains before e → certificate_in f e ≡ Some y → ⊥
        of_entry y (voted s) here is = none-some y is
        of_entry y (taken s) here is = none-some y (sym (never s here) ∙ is)
        of_entry y (judged r verdict) here is = none-some y is

    -- a certificate of which something is told
    pub certificates-some : (y : Y) → told (certificate_in f) before ≡ Some y → (s : Statement D) × HasTaken before s × (f s ≡ Some y)
    certificates-some y is = let g = told-some (certificate_in f) before y is in of_entry g.x g.there g.gives
      where
        of_entry : (e : Entry D) → Contains before e → certificate_in f e ≡ Some y → (s : Statement D) × HasTaken before s × (f s ≡ Some y)
        of_entry (voted s) here gives = absurd (none-some y gives)
        of_entry (taken s) here gives = (s, here, gives)
        of_entry (judged r verdict) here gives = absurd (none-some y gives)

  -- of statements with Has, none is alike s just where nothing is given of any at its view
  module _ (Has : Statement D → Type 0) where
    pub notarize-alike : (p : Proposal D) → ((s : Statement D) → Has s → notarized_at p.round.view s ≡ None) → (t : Statement D) → AreAlike (notarize p) t → Has t → ⊥
    notarize-alike p none (notarize q) alike here = none-some q (sym (none (notarize q) here) ∙ at_same p.round.view q.round.view q (sym alike))
    notarize-alike p none (nullify r) alike here = alike
    notarize-alike p none (finalize q) alike here = alike

    pub notarize-none : (p : Proposal D) → ((t : Statement D) → AreAlike (notarize p) t → Has t → ⊥) → (s : Statement D) → Has s → notarized_at p.round.view s ≡ None
    notarize-none p never (notarize q) here = at_other p.round.view q.round.view q (λ same. never (notarize q) (sym same) here)
    notarize-none p never (nullify r) here = refl
    notarize-none p never (finalize q) here = refl

    pub nullify-alike : (r : Round) → ((s : Statement D) → Has s → nullified_at r.view s ≡ None) → (t : Statement D) → AreAlike (nullify r) t → Has t → ⊥
    nullify-alike r none (notarize q) alike here = alike
    nullify-alike r none (nullify t) alike here = none-some t (sym (none (nullify t) here) ∙ at_same r.view t.view t (sym alike))
    nullify-alike r none (finalize q) alike here = alike

    pub nullify-none : (r : Round) → ((t : Statement D) → AreAlike (nullify r) t → Has t → ⊥) → (s : Statement D) → Has s → nullified_at r.view s ≡ None
    nullify-none r never (notarize q) here = refl
    nullify-none r never (nullify t) here = at_other r.view t.view t (λ same. never (nullify t) (sym same) here)
    nullify-none r never (finalize q) here = refl

    pub finalize-alike : (p : Proposal D) → ((s : Statement D) → Has s → finalized_at p.round.view s ≡ None) → (t : Statement D) → AreAlike (finalize p) t → Has t → ⊥
    finalize-alike p none (notarize q) alike here = alike
    finalize-alike p none (nullify r) alike here = alike
    finalize-alike p none (finalize q) alike here = none-some q (sym (none (finalize q) here) ∙ at_same p.round.view q.round.view q (sym alike))

    pub finalize-none : (p : Proposal D) → ((t : Statement D) → AreAlike (finalize p) t → Has t → ⊥) → (s : Statement D) → Has s → finalized_at p.round.view s ≡ None
    finalize-none p never (notarize q) here = refl
    finalize-none p never (nullify r) here = refl
    finalize-none p never (finalize q) here = at_other p.round.view q.round.view q (λ same. never (finalize q) (sym same) here)
