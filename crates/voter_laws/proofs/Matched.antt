-- What is known at the end of an orderly history is what its record says.
use Rattle.std.proofs.Common.{◌≡◌, ◌≢◌, ◌⊎◌, inl, inr, true, false, ℕ, List, [], ◌∷◌, ◌++◌, length, sym, ◌∙◌, ap, subst, refl, ◌+◌, ◌≤◌, max, arith, if◌then◌else◌}
use mathlib.Core.Bool.{true≢false}
use mathlib.Core.List.{reverse, reverse-cons}
use Rattle.std.proofs.lemmas.Bool.{cases_eq, or_left, or_right}
use Rattle.std.proofs.lemmas.Bool.Decides.{Decides-eqb}
use Rattle.std.proofs.lemmas.List.Sorted.{Contains-permutation, IsPermutation-reverse, IsPermutation-sym}
use Rattle.std.proofs.lemmas.Option.{none-some, same_Some}
use Rattle.std.specs.Prelude.{◌==◌, nat_lt, nat_le, Bool, Option, Some, None, IsSome, ◌&&◌, ◌||◌, Contains, option_map, ⊤}
use Rattle.std.specs.List.{cons_option}
use Rattle.std.specs.Option.{option_or}
use Rattle.types_quorum.specs.Counting.{Contains-cases, Contains-head, Contains-rest}
use Rattle.types_core.specs.declared.position.Round.{Round}
use Rattle.types_core.specs.declared.proposal.Proposal.{Proposal}
use Rattle.types_core.specs.Positions.{InCoveringRange}
use Rattle.types_core.specs.Subject.{notarize, nullify, finalize, statement_round}
use Rattle.messages_certificates.specs.ProposalCertificate.{Notarization, Finalization}
use Rattle.simplex_record.specs.Record as recorded
use Rattle.simplex_record.specs.Record.{Entry, greatest, finalizes, enters, HasTaken}
use Rattle.voter_history.specs.Held as offer
use Rattle.voter_history.specs.Held.{Offer, Agrees, IsTainted, held}
use Rattle.voter_history.specs.Past as past
use Rattle.voter_history.specs.Past.{Item, offers}
use Rattle.voter_history.specs.Pasts.{put, bind}
use Rattle.voter_history.specs.History.{Setup, Point, started, based, notarized, nullified, finalized, judged, voted_notarize, voted_nullify, voted_finalize, recalled_notarize, recalled_nullify, recalled_finalize, recalled_verdict, pruned, enter, undecided_payload, was_nullified, current, floor, is_blank, last_finalized, min_active, seen}
use Rattle.voter_laws.specs.Matching.{round_of, told, record_of, OwnWereTaken, EachHistoryMatches}
use Rattle.voter_laws.specs.Recording.{EachRecordIsKnown}
use Rattle.voter_laws.specs.Steps.{choose_holds, put_holds, enter_holds}
use Rattle.voter_laws.proofs.Growing.{told_still, IsRecordedWell, IsFounded, founded_still, Grows, still, more, stays_kept, grows, finalized_rises, grown}

-- the greatest number that a list gives is that of the list turned round
greatest_push : {X : Type 0} (least : ℕ) (f : X → ℕ) (xs : List X) (x : X) → greatest least f (xs ++ x ∷ []) ≡ max (f x) (greatest least f xs)
greatest_push least f [] x = refl
greatest_push least f (y ∷ xs) x = omega (arith, greatest_push least f xs x)

greatest_reverse : {X : Type 0} (least : ℕ) (f : X → ℕ) (xs : List X) → greatest least f (reverse xs) ≡ greatest least f xs
greatest_reverse least f [] = refl
greatest_reverse least f (x ∷ xs) =
    ap (λ (l : List _). greatest least f l) (reverse-cons x xs) ∙ (greatest_push least f (reverse xs) x ∙ ap (λ (n : ℕ). max (f x) n) (greatest_reverse least f xs))

-- the floor of a list that is turned round is bounded, where it was so before the newest, and the newest is if it is the only one
floor_nonempty : {D : Type 0} (l : List (Entry D)) (e f : Entry D) → recorded.floor ((l ++ f ∷ []) ++ e ∷ []) ≡ recorded.floor (l ++ f ∷ [])
floor_nonempty [] e f = refl
floor_nonempty (y ∷ l) e f = refl

floor_next : {D : Type 0} (es : List (Entry D)) (e : Entry D) (m n : ℕ) → recorded.floor (reverse es) ≤ m → m ≤ n → (es ≡ [] → finalizes e ≤ n) → recorded.floor (reverse (e ∷ es)) ≤ n
floor_next [] e m n low up first = subst (λ (l : List _). recorded.floor l ≤ n) (sym (reverse-cons e [])) (first refl)
floor_next (x ∷ es) e m n low up first =
    let turned : reverse (e ∷ x ∷ es) ≡ (reverse es ++ x ∷ []) ++ e ∷ [] = reverse-cons e (x ∷ es) ∙ ap (λ (l : List _). l ++ e ∷ []) (reverse-cons x es) in
    let same : recorded.floor (reverse (e ∷ x ∷ es)) ≡ recorded.floor (reverse (x ∷ es)) =
    ap recorded.floor turned ∙ floor_nonempty (reverse es) e x ∙ ap recorded.floor (sym (reverse-cons x es)) in
    omega (arith, same, low, up)

-- so are its elements
in_reverse : {X : Type 0} (xs : List X) (x : X) → Contains xs x → Contains (reverse xs) x
in_reverse xs x here = Contains-permutation xs (reverse xs) x (IsPermutation-reverse xs) here

from_reverse : {X : Type 0} (xs : List X) (x : X) → Contains (reverse xs) x → Contains xs x
from_reverse xs x here = Contains-permutation (reverse xs) xs x (IsPermutation-sym xs (reverse xs) (IsPermutation-reverse xs)) here

-- the first that is given, or else this one
given_first : {A : Type 0} {Q : A → Type 0} (o : Option A) (d c : A) → ((x : A) → o ≡ Some x → Q x) → Q d → option_or o (Some d) ≡ Some c → Q c
given_first {Q = Q} None d c before own is = subst Q (same_Some d c is) own
given_first {Q = Q} (Some x) d c before own is = subst Q (same_Some x c is) (before x refl)

-- with one more to give something is given
some_with : {A : Type 0} (o : Option A) (x : A) → IsSome (option_or o (Some x))
some_with None x = refl
some_with (Some y) x = refl

-- of which view an entry is
abbrev entry_view : {D : Type 0} → Entry D → ℕ
entry_view (recorded.voted x) = (statement_round x).view
entry_view (recorded.taken x) = (statement_round x).view
entry_view (recorded.judged r ok) = r.view

-- nothing but certificates brings another proposal
abbrev AreRecordedWell : {D : Type 0} → List (Offer D) → Type 0
AreRecordedWell [] = ⊤
AreRecordedWell (o ∷ l) = IsRecordedWell o l × AreRecordedWell l

module _ {S D P G C : Type 0} where
  -- each item of a list stands there for a reason
  abbrev IsSound : Setup S C → List (Point S D P G C) → ℕ → List (Item S D P G C) → Type 0
  IsSound s h view [] = ⊤
  IsSound s h view (x ∷ l) = IsFounded s h view x l × IsSound s h view l

  sound_still : (s : Setup S C) (x : Point S D P G C) (h : List (Point S D P G C)) (view : ℕ) (l : List (Item S D P G C)) → IsSound s h view l → IsSound s (x ∷ h) view l
  sound_still s x h view [] so = tt
  sound_still s x h view (y ∷ l) so = (founded_still s x h view y l so.0, sound_still s x h view l so.1)

  sound_more : {s : Setup S C} {h : List (Point S D P G C)} {view : ℕ} {old new : List (Item S D P G C)} → Grows s h view old new → IsSound s h view old → IsSound s h view new
  sound_more still so = so
  sound_more (more x why g) so = (why, sound_more g so)

  sound_unless : (s : Setup S C) (h : List (Point S D P G C)) (view : ℕ) (b : Bool) (l : List (Item S D P G C)) → IsSound s h view l → IsSound s h view (if b then [] else l)
  sound_unless s h view true l so = tt
  sound_unless s h view false l so = so

  sound : (s : Setup S C) (h : List (Point S D P G C)) (view : ℕ) → IsSound s h view (seen s h view)
  sound s [] view = tt
  sound s (pruned ∷ h) view = sound_unless s (pruned ∷ h) view (nat_lt view (min_active s h)) (seen s h view) (sound_still s pruned h view (seen s h view) (sound s h view))
  sound s (x ∷ h) view = sound_more (grows s h view x tt) (sound_still s x h view (seen s h view) (sound s h view))

  -- so what is found there was told
  notarization_told : (s : Setup S C) (h : List (Point S D P G C)) (view : ℕ) (l : List (Item S D P G C)) (c : Notarization S D P G C) → IsSound s h view l
      → past.notarization l ≡ Some c → (c.proposal.round.view ≡ view) × Contains (told s h) (recorded.taken (notarize c.proposal))
  notarization_told s h view [] c so is = absurd (none-some c is)
  notarization_told s h view (past.notarized d ∷ l) c so is =
      given_first {Q = λ (x : Notarization S D P G C). (x.proposal.round.view ≡ view) × Contains (told s h) (recorded.taken (notarize x.proposal))} (past.notarization l) d c
      (λ x there. notarization_told s h view l x so.1 there) so.0 is
  notarization_told s h view (x ∷ l) c so is = notarization_told s h view l c so.1 is

  finalization_told : (s : Setup S C) (h : List (Point S D P G C)) (view : ℕ) (l : List (Item S D P G C)) (c : Finalization S D P G C) → IsSound s h view l
      → past.finalization l ≡ Some c → (c.proposal.round.view ≡ view) × Contains (told s h) (recorded.taken (finalize c.proposal))
  finalization_told s h view [] c so is = absurd (none-some c is)
  finalization_told s h view (past.finalized d ∷ l) c so is =
      given_first {Q = λ (x : Finalization S D P G C). (x.proposal.round.view ≡ view) × Contains (told s h) (recorded.taken (finalize x.proposal))} (past.finalization l) d c
      (λ x there. finalization_told s h view l x so.1 there) so.0 is
  finalization_told s h view (x ∷ l) c so is = finalization_told s h view l c so.1 is

  verdict_told : (s : Setup S C) (h : List (Point S D P G C)) (view : ℕ) (l : List (Item S D P G C)) (ok : Bool) → IsSound s h view l
      → past.verdict l ≡ Some ok → Contains (told s h) (recorded.judged (round_of s view) ok) ⊎ Contains h (recalled_verdict view ok)
  verdict_told s h view [] ok so is = absurd (none-some ok is)
  verdict_told s h view (past.judged v ∷ l) ok so is =
      given_first {Q = λ (x : Bool). Contains (told s h) (recorded.judged (round_of s view) x) ⊎ Contains h (recalled_verdict view x)} (past.verdict l) v ok
      (λ x there. verdict_told s h view l x so.1 there) so.0 is
  verdict_told s h view (x ∷ l) ok so is = verdict_told s h view l ok so.1 is

  -- a verdict that was given is told
  judged_told : (s : Setup S C) (h : List (Point S D P G C)) (now view : ℕ) (ok : Bool) → Contains h (judged now view ok) → Contains (told s h) (recorded.judged (round_of s view) ok)
  judged_told s [] now view ok here = absurd (omega (arith, here.1))
  judged_told s (x ∷ h) now view ok here = elim (Contains-cases x h (judged now view ok) here) [
    | inl is ↦ subst (λ (y : Point S D P G C). Contains (told s (y ∷ h)) (recorded.judged (round_of s view) ok)) (sym is) (Contains-head _ (told s h))
    | inr there ↦ told_still s x h (recorded.judged (round_of s view) ok) (judged_told s h now view ok there)
  ]

  -- and so is a nullification
  nullified_told : (s : Setup S C) (h : List (Point S D P G C)) (view : ℕ) → was_nullified h view ≡ true → (r : Round) × (r.view ≡ view) × Contains (told s h) (recorded.taken (nullify r))
  nullified_told s [] view is = absurd (true≢false (sym is))
  nullified_told s (nullified now c ∷ h) view is = this_or_before (c.round.view == view) (was_nullified h view) (λ here. (Decides-eqb c.round.view view).0 here) (λ before. nullified_told s h view before) is
    where
      this_or_before : (b before : Bool) → (b ≡ true → c.round.view ≡ view) → (before ≡ true → (r : Round) × (r.view ≡ view) × Contains (told s h) (recorded.taken (nullify r)))
          → (b || before) ≡ true → (r : Round) × (r.view ≡ view) × Contains (told s (nullified now c ∷ h)) (recorded.taken (nullify r))
      this_or_before true before here earlier passes = (c.round, here refl, Contains-head _ (told s h))
      this_or_before false before here earlier passes = let e = earlier passes in (e.0, e.1, Contains-rest _ (told s h) (recorded.taken (nullify e.0)) e.2)
  nullified_told s (x ∷ h) view is = let e = nullified_told s h view is in (e.0, e.1, told_still s x h (recorded.taken (nullify e.0)) e.2)

  -- what is seen of an entry in its view
  abbrev Shows : Entry D → List (Item S D P G C) → Type 0
  Shows (recorded.voted (notarize p)) l = past.has_notarized l ≡ true
  Shows (recorded.voted (nullify r)) l = past.has_nullified l ≡ true
  Shows (recorded.voted (finalize p)) l = past.has_finalized l ≡ true
  Shows (recorded.taken (notarize p)) l = Contains (offers l) (offer.certified p) × IsSome (past.notarization l)
  Shows (recorded.taken (nullify r)) l = ⊤
  Shows (recorded.taken (finalize p)) l = Contains (offers l) (offer.certified p) × IsSome (past.finalization l)
  Shows (recorded.judged r ok) l = IsSome (past.verdict l)

  notarized_more : (x : Item S D P G C) (l : List (Item S D P G C)) → past.has_notarized l ≡ true → past.has_notarized (x ∷ l) ≡ true
  notarized_more past.voted_notarize l is = refl
  notarized_more x l is = is

  nullified_more : (x : Item S D P G C) (l : List (Item S D P G C)) → past.has_nullified l ≡ true → past.has_nullified (x ∷ l) ≡ true
  nullified_more past.voted_nullify l is = refl
  nullified_more x l is = is

  finalized_more : (x : Item S D P G C) (l : List (Item S D P G C)) → past.has_finalized l ≡ true → past.has_finalized (x ∷ l) ≡ true
  finalized_more past.voted_finalize l is = refl
  finalized_more x l is = is

  offered_more : (o : Offer D) (x : Item S D P G C) (l : List (Item S D P G C)) → Contains (offers l) o → Contains (offers (x ∷ l)) o
  offered_more o x l here = by (past.offer_in x)
    where
      by : (y : Option (Offer D)) → Contains (cons_option y (offers l)) o
      by None = here
      by (Some y) = Contains-rest y (offers l) o here

  notarization_more : (x : Item S D P G C) (l : List (Item S D P G C)) → IsSome (past.notarization l) → IsSome (past.notarization (x ∷ l))
  notarization_more (past.notarized c) l some = some_with (past.notarization l) c
  notarization_more x l some = some

  finalization_more : (x : Item S D P G C) (l : List (Item S D P G C)) → IsSome (past.finalization l) → IsSome (past.finalization (x ∷ l))
  finalization_more (past.finalized c) l some = some_with (past.finalization l) c
  finalization_more x l some = some

  verdict_more : (x : Item S D P G C) (l : List (Item S D P G C)) → IsSome (past.verdict l) → IsSome (past.verdict (x ∷ l))
  verdict_more (past.judged ok) l some = some_with (past.verdict l) ok
  verdict_more x l some = some

  shows_more : (e : Entry D) (x : Item S D P G C) (l : List (Item S D P G C)) → Shows e l → Shows e (x ∷ l)
  shows_more (recorded.voted (notarize p)) x l shows = notarized_more x l shows
  shows_more (recorded.voted (nullify r)) x l shows = nullified_more x l shows
  shows_more (recorded.voted (finalize p)) x l shows = finalized_more x l shows
  shows_more (recorded.taken (notarize p)) x l shows = (offered_more (offer.certified p) x l shows.0, notarization_more x l shows.1)
  shows_more (recorded.taken (nullify r)) x l shows = tt
  shows_more (recorded.taken (finalize p)) x l shows = (offered_more (offer.certified p) x l shows.0, finalization_more x l shows.1)
  shows_more (recorded.judged r ok) x l shows = verdict_more x l shows

  -- what a point says is seen
  put_at : (at : ℕ) (x : Item S D P G C) (t : ℕ → List (Item S D P G C)) → put at x t at ≡ x ∷ t at
  put_at at x t = let same : (at == at) ≡ true = (Decides-eqb at at).1 refl in rw same refl

  bind_more : (o : Option D) (p : Proposal D) (t : ℕ → List (Item S D P G C)) (view : ℕ) → past.has_notarized (t view) ≡ true → past.has_notarized (bind o p t view) ≡ true
  bind_more None p t view is = is
  bind_more (Some payload) p t view is = by (p.round.view == view)
    where
      by : (b : Bool) → past.has_notarized (if b then past.bound p payload ∷ t view else t view) ≡ true
      by true = is
      by false = is

  certified_here : (at : ℕ) (x : Item S D P G C) (p : Proposal D) (t : ℕ → List (Item S D P G C)) → past.offer_in x ≡ Some (offer.certified p) → Contains (offers (put at x t at)) (offer.certified p)
  certified_here at x p t is = subst (λ (l : List (Item S D P G C)). Contains (offers l) (offer.certified p)) (sym (put_at at x t))
      (subst (λ (o : Option (Offer D)). Contains (cons_option o (offers (t at))) (offer.certified p)) (sym is) (Contains-head (offer.certified p) (offers (t at))))

  -- votes stand on proposals of their views
  pub record AreOfTheirViews (h : List (Point S D P G C)) : Type 0 where
    pub notarizes : (view : ℕ) (p : Proposal D) → Contains h (voted_notarize view p) → p.round.view ≡ view
    pub finalizes : (view : ℕ) (p : Proposal D) → Contains h (voted_finalize view p) → p.round.view ≡ view

  views_before : (x : Point S D P G C) (h : List (Point S D P G C)) → AreOfTheirViews (x ∷ h) → AreOfTheirViews h
  views_before x h views = record {
    notarizes = λ view p here. views.notarizes view p (Contains-rest x h (voted_notarize view p) here);
    finalizes = λ view p here. views.finalizes view p (Contains-rest x h (voted_finalize view p) here);
  }

  judged_here : (s : Setup S C) (h : List (Point S D P G C)) (now view : ℕ) (ok : Bool) → IsSome (past.verdict (seen s (judged now view ok ∷ h) view))
  judged_here s h now view true =
      enter_holds (λ l. IsSome (past.verdict l)) view s (current s h) now (view + 1) (put view (past.judged true) (seen s h)) (λ moment leader certification stall l some. some)
      (subst (λ (l : List (Item S D P G C)). IsSome (past.verdict l)) (sym (put_at view (past.judged true) (seen s h))) (some_with (past.verdict (seen s h view)) true))
  judged_here s h now view false =
      choose_holds (λ l. IsSome (past.verdict l)) view (nat_le (current s h) view) (put view (past.latched now _) (put view (past.judged false) (seen s h))) (put view (past.judged false) (seen s h))
      (put_holds (λ l. IsSome (past.verdict l)) view view (past.latched now _) (put view (past.judged false) (seen s h)) (λ here some. some) (once view)) (once view)
    where
      once : (u : ℕ) → IsSome (past.verdict (put u (past.judged false) (seen s h) u))
      once u = subst (λ (l : List (Item S D P G C)). IsSome (past.verdict l)) (sym (put_at u (past.judged false) (seen s h))) (some_with (past.verdict (seen s h u)) false)

  -- what a point says was said before, or is seen now
  said : (s : Setup S C) (x : Point S D P G C) (h : List (Point S D P G C)) (e : Entry D) → AreOfTheirViews (x ∷ h) → Contains (told s (x ∷ h)) e
      → Contains (told s h) e ⊎ Shows e (seen s (x ∷ h) (entry_view e))
  said s (notarized c) h e views here = elim (Contains-cases (recorded.taken (notarize c.proposal)) (told s h) e here) [
    | inl is ↦ inr (subst (λ (y : Entry D). Shows y (seen s (notarized c ∷ h) (entry_view y))) is (
      certified_here c.proposal.round.view (past.notarized c) c.proposal (seen s h) refl,
      subst (λ (l : List (Item S D P G C)). IsSome (past.notarization l)) (sym (put_at c.proposal.round.view (past.notarized c) (seen s h))) (some_with (past.notarization (seen s h c.proposal.round.view)) c),
    ))
    | inr there ↦ inl there
  ]
  said s (nullified now c) h e views here = elim (Contains-cases (recorded.taken (nullify c.round)) (told s h) e here) [
    | inl is ↦ inr (subst (λ (y : Entry D). Shows y (seen s (nullified now c ∷ h) (entry_view y))) is tt)
    | inr there ↦ inl there
  ]
  said s (finalized now c) h e views here = elim (Contains-cases (recorded.taken (finalize c.proposal)) (told s h) e here) [
    | inl is ↦ inr (subst (λ (y : Entry D). Shows y (seen s (finalized now c ∷ h) (entry_view y))) is (
      certified_here c.proposal.round.view (past.finalized c) c.proposal (enter s (current s h) now (c.proposal.round.view + 1) (seen s h)) refl,
      subst (λ (l : List (Item S D P G C)). IsSome (past.finalization l)) (sym (put_at c.proposal.round.view (past.finalized c) (enter s (current s h) now (c.proposal.round.view + 1) (seen s h))))
          (some_with (past.finalization (enter s (current s h) now (c.proposal.round.view + 1) (seen s h) c.proposal.round.view)) c),
    ))
    | inr there ↦ inl there
  ]
  said s (judged now view ok) h e views here = elim (Contains-cases (recorded.judged (round_of s view) ok) (told s h) e here) [
    | inl is ↦ inr (subst (λ (y : Entry D). Shows y (seen s (judged now view ok ∷ h) (entry_view y))) is (judged_here s h now view ok))
    | inr there ↦ inl there
  ]
  said s (voted_notarize view p) h e views here = elim (Contains-cases (recorded.voted (notarize p)) (told s h) e here) [
    | inl is ↦
        let at : p.round.view ≡ view = views.notarizes view p (Contains-head (voted_notarize view p) h) in
        inr (subst (λ (y : Entry D). Shows y (seen s (voted_notarize view p ∷ h) (entry_view y))) is
        (subst (λ (v : ℕ). past.has_notarized (put view past.voted_notarize (seen s h) v) ≡ true) (sym at) (ap (λ (l : List (Item S D P G C)). past.has_notarized l) (put_at view past.voted_notarize (seen s h)))))
    | inr there ↦ inl there
  ]
  said s (voted_nullify view) h e views here = repeated (past.has_nullified (seen s h view)) here
    where
      repeated : (b : Bool) → Contains (if b then told s h else recorded.voted (nullify (round_of s view)) ∷ told s h) e
          → Contains (told s h) e ⊎ Shows e (seen s (voted_nullify view ∷ h) (entry_view e))
      repeated true there = inl there
      repeated false there = elim (Contains-cases (recorded.voted (nullify (round_of s view))) (told s h) e there) [
        | inl is ↦ inr (subst (λ (y : Entry D). Shows y (seen s (voted_nullify view ∷ h) (entry_view y))) is
            (ap (λ (l : List (Item S D P G C)). past.has_nullified l) (put_at view past.voted_nullify (seen s h))))
        | inr before ↦ inl before
      ]
  said s (voted_finalize view p) h e views here = elim (Contains-cases (recorded.voted (finalize p)) (told s h) e here) [
    | inl is ↦
        let at : p.round.view ≡ view = views.finalizes view p (Contains-head (voted_finalize view p) h) in
        inr (subst (λ (y : Entry D). Shows y (seen s (voted_finalize view p ∷ h) (entry_view y))) is
        (subst (λ (v : ℕ). past.has_finalized (put view past.voted_finalize (seen s h) v) ≡ true) (sym at) (ap (λ (l : List (Item S D P G C)). past.has_finalized l) (put_at view past.voted_finalize (seen s h)))))
    | inr there ↦ inl there
  ]
  said s (recalled_notarize p taken) h e views here = elim (Contains-cases (recorded.voted (notarize p)) (told s h) e here) [
    | inl is ↦
        let before : ℕ → List (Item S D P G C) = if taken then put p.round.view (past.offered (offer.recorded p)) (seen s h) else seen s h in
        inr (subst (λ (y : Entry D). Shows y (seen s (recalled_notarize p taken ∷ h) (entry_view y))) is
        (bind_more (undecided_payload (seen s h p.parent)) p (put p.round.view past.voted_notarize before) p.round.view
        (ap (λ (l : List (Item S D P G C)). past.has_notarized l) (put_at p.round.view past.voted_notarize before))))
    | inr there ↦ inl there
  ]
  said s (recalled_nullify view) h e views here = elim (Contains-cases (recorded.voted (nullify (round_of s view))) (told s h) e here) [
    | inl is ↦ inr (subst (λ (y : Entry D). Shows y (seen s (recalled_nullify view ∷ h) (entry_view y))) is
        (ap (λ (l : List (Item S D P G C)). past.has_nullified l) (put_at view past.voted_nullify (seen s h))))
    | inr there ↦ inl there
  ]
  said s (recalled_finalize p) h e views here = elim (Contains-cases (recorded.voted (finalize p)) (told s h) e here) [
    | inl is ↦ inr (subst (λ (y : Entry D). Shows y (seen s (recalled_finalize p ∷ h) (entry_view y))) is
        (ap (λ (l : List (Item S D P G C)). past.has_finalized l) (put_at p.round.view past.voted_finalize (seen s h))))
    | inr there ↦ inl there
  ]
  said s x h e views here = inl here

  -- so each entry is seen, where its view is kept
  shown : (s : Setup S C) (h : List (Point S D P G C)) (e : Entry D) → AreOfTheirViews h → Contains (told s h) e → min_active s h ≤ entry_view e → Shows e (seen s h (entry_view e))
  shown s [] e views here kept = absurd (omega (arith, here.1))
  shown s (x ∷ h) e views here kept = elim (said s x h e views here) [
    | inl there ↦
        let kept_before : min_active s h ≤ entry_view e = omega (arith, kept, finalized_rises x h) in
        grown {Q = λ (l : List (Item S D P G C)). Shows e l} (shows_more e) (grows s h (entry_view e) x (stays_kept s h (entry_view e) x kept_before))
        (shown s h e (views_before x h views) there kept_before)
    | inr now ↦ now
  ]

  recorded_well : (s : Setup S C) (h : List (Point S D P G C)) (view : ℕ) → OwnWereTaken s h → (l : List (Item S D P G C)) → IsSound s h view l → AreRecordedWell (offers l)
  recorded_well s h view own [] so = tt
  recorded_well s h view own (past.offered o ∷ l) so = (so.0 own, recorded_well s h view own l so.1)
  recorded_well s h view own (past.built moment p ∷ l) so = (so.0 own, recorded_well s h view own l so.1)
  recorded_well s h view own (past.notarized c ∷ l) so = (tt, recorded_well s h view own l so.1)
  recorded_well s h view own (past.finalized c ∷ l) so = (tt, recorded_well s h view own l so.1)
  recorded_well s h view own (x ∷ l) so = recorded_well s h view own l so.1

  -- the current view and the last finalized one are the record's
  current_told : (s : Setup S C) (h : List (Point S D P G C)) → greatest 1 (enters s.length) (told s h) ≡ max 1 (current s h)
  current_told s [] = refl
  current_told s (started now payload ∷ h) = omega (arith, current_told s h)
  current_told s (notarized c ∷ h) = omega (arith, current_told s h)
  current_told s (nullified now c ∷ h) = omega (arith, current_told s h)
  current_told s (finalized now c ∷ h) = omega (arith, current_told s h)
  current_told s (judged now view true ∷ h) = omega (arith, current_told s h)
  current_told s (judged now view false ∷ h) = omega (arith, current_told s h)
  current_told s (voted_notarize view p ∷ h) = omega (arith, current_told s h)
  current_told s (voted_nullify view ∷ h) = repeated (past.has_nullified (seen s h view)) (current_told s h)
    where
      repeated : (b : Bool) → greatest 1 (enters s.length) (told s h) ≡ max 1 (current s h) → greatest 1 (enters s.length) (if b then told s h else recorded.voted (nullify (round_of s view)) ∷ told s h) ≡ max 1 (current s h)
      repeated true before = before
      repeated false before = omega (arith, before)
  current_told s (voted_finalize view p ∷ h) = omega (arith, current_told s h)
  current_told s (recalled_notarize p taken ∷ h) = omega (arith, current_told s h)
  current_told s (recalled_nullify view ∷ h) = omega (arith, current_told s h)
  current_told s (recalled_finalize p ∷ h) = omega (arith, current_told s h)
  current_told s (x ∷ h) = current_told s h

  finalized_told : (s : Setup S C) (h : List (Point S D P G C)) → greatest 0 finalizes (told s h) ≡ last_finalized h
  finalized_told s [] = refl
  finalized_told s (notarized c ∷ h) = omega (arith, finalized_told s h)
  finalized_told s (nullified now c ∷ h) = omega (arith, finalized_told s h)
  finalized_told s (finalized now c ∷ h) = omega (arith, finalized_told s h)
  finalized_told s (judged now view ok ∷ h) = omega (arith, finalized_told s h)
  finalized_told s (voted_notarize view p ∷ h) = omega (arith, finalized_told s h)
  finalized_told s (voted_nullify view ∷ h) = repeated (past.has_nullified (seen s h view)) (finalized_told s h)
    where
      repeated : (b : Bool) → greatest 0 finalizes (told s h) ≡ last_finalized h → greatest 0 finalizes (if b then told s h else recorded.voted (nullify (round_of s view)) ∷ told s h) ≡ last_finalized h
      repeated true before = before
      repeated false before = omega (arith, before)
  finalized_told s (voted_finalize view p ∷ h) = omega (arith, finalized_told s h)
  finalized_told s (recalled_notarize p taken ∷ h) = omega (arith, finalized_told s h)
  finalized_told s (recalled_nullify view ∷ h) = omega (arith, finalized_told s h)
  finalized_told s (recalled_finalize p ∷ h) = omega (arith, finalized_told s h)
  finalized_told s (x ∷ h) = finalized_told s h

  -- where nothing is told, nothing happened that is
  blank_told : (s : Setup S C) (h : List (Point S D P G C)) → told s h ≡ [] → is_blank s h ≡ true
  blank_told s [] none = refl
  blank_told s (notarized c ∷ h) none = absurd (omega (arith, ap length none))
  blank_told s (nullified now c ∷ h) none = absurd (omega (arith, ap length none))
  blank_told s (finalized now c ∷ h) none = absurd (omega (arith, ap length none))
  blank_told s (judged now view ok ∷ h) none = absurd (omega (arith, ap length none))
  blank_told s (voted_notarize view p ∷ h) none = absurd (omega (arith, ap length none))
  blank_told s (voted_nullify view ∷ h) none = by (past.has_nullified (seen s h view)) none (blank_told s h)
    where
      by : (b : Bool) → (if b then told s h else recorded.voted (nullify (round_of s view)) ∷ told s h) ≡ [] → (told s h ≡ [] → is_blank s h ≡ true) → (b && is_blank s h) ≡ true
      by true none before = before none
      by false none before = absurd (omega (arith, ap length none))
  blank_told s (voted_finalize view p ∷ h) none = absurd (omega (arith, ap length none))
  blank_told s (recalled_notarize p taken ∷ h) none = absurd (omega (arith, ap length none))
  blank_told s (recalled_nullify view ∷ h) none = absurd (omega (arith, ap length none))
  blank_told s (recalled_finalize p ∷ h) none = absurd (omega (arith, ap length none))
  blank_told s (x ∷ h) none = blank_told s h none

  -- the record begins behind no view above the known one
  floor_told : (s : Setup S C) (h : List (Point S D P G C)) → recorded.floor (record_of s h) ≤ floor s h
  floor_told s [] = omega arith
  floor_told s (based view ∷ h) = omega (arith, floor_told s h)
  floor_told s (notarized c ∷ h) = floor_next (told s h) (recorded.taken (notarize c.proposal)) (floor s h) (floor s h) (floor_told s h) (omega arith) (λ none. omega arith)
  floor_told s (nullified now c ∷ h) = floor_next (told s h) (recorded.taken (nullify c.round)) (floor s h) (floor s h) (floor_told s h) (omega arith) (λ none. omega arith)
  floor_told s (finalized now c ∷ h) = by (is_blank s h) refl (floor_told s h)
    where
      e : Entry D
      e = recorded.taken (finalize c.proposal)

      by : (b : Bool) → is_blank s h ≡ b → recorded.floor (reverse (told s h)) ≤ floor s h → recorded.floor (reverse (e ∷ told s h)) ≤ (if b then max c.proposal.round.view (floor s h) else floor s h)
      by true is before = floor_next (told s h) e (floor s h) (max c.proposal.round.view (floor s h)) before (omega arith) (λ none. omega arith)
      by false is before = floor_next (told s h) e (floor s h) (floor s h) before (omega arith) (λ none. absurd (true≢false (sym (blank_told s h none) ∙ is)))
  floor_told s (judged now view ok ∷ h) = floor_next (told s h) (recorded.judged (round_of s view) ok) (floor s h) (floor s h) (floor_told s h) (omega arith) (λ none. omega arith)
  floor_told s (voted_notarize view p ∷ h) = floor_next (told s h) (recorded.voted (notarize p)) (floor s h) (floor s h) (floor_told s h) (omega arith) (λ none. omega arith)
  floor_told s (voted_nullify view ∷ h) = by (past.has_nullified (seen s h view)) (floor_told s h)
    where
      e : Entry D
      e = recorded.voted (nullify (round_of s view))

      by : (b : Bool) → recorded.floor (reverse (told s h)) ≤ floor s h → recorded.floor (reverse (if b then told s h else e ∷ told s h)) ≤ floor s h
      by true before = before
      by false before = floor_next (told s h) e (floor s h) (floor s h) before (omega arith) (λ none. omega arith)
  floor_told s (voted_finalize view p ∷ h) = floor_next (told s h) (recorded.voted (finalize p)) (floor s h) (floor s h) (floor_told s h) (omega arith) (λ none. omega arith)
  floor_told s (recalled_notarize p taken ∷ h) = floor_next (told s h) (recorded.voted (notarize p)) (floor s h) (floor s h) (floor_told s h) (omega arith) (λ none. omega arith)
  floor_told s (recalled_nullify view ∷ h) = floor_next (told s h) (recorded.voted (nullify (round_of s view))) (floor s h) (floor s h) (floor_told s h) (omega arith) (λ none. omega arith)
  floor_told s (recalled_finalize p ∷ h) = floor_next (told s h) (recorded.voted (finalize p)) (floor s h) (floor s h) (floor_told s h) (omega arith) (λ none. omega arith)
  floor_told s (x ∷ h) = floor_told s h

module _ {D : Type 0} (same : (x y : D) → (x ≡ y) ⊎ (x ≢ y)) where
  -- two proposals are one or differ, where payloads do
  pub same_proposal : (p q : Proposal D) → (p ≡ q) ⊎ (p ≢ q)
  same_proposal p q = by (cases_eq p.round.epoch q.round.epoch) (cases_eq p.round.view q.round.view) (cases_eq p.parent q.parent) (same p.payload q.payload)
    where
      by : (p.round.epoch ≡ q.round.epoch) ⊎ (p.round.epoch ≢ q.round.epoch) → (p.round.view ≡ q.round.view) ⊎ (p.round.view ≢ q.round.view)
          → (p.parent ≡ q.parent) ⊎ (p.parent ≢ q.parent) → (p.payload ≡ q.payload) ⊎ (p.payload ≢ q.payload) → (p ≡ q) ⊎ (p ≢ q)
      by (inl epoch) (inl view) (inl parent) (inl payload) = inl (λ i. record { round = record { epoch = epoch i; view = view i }; parent = parent i; payload = payload i })
      by (inr apart) view parent payload = inr (λ e. apart (ap (λ (x : Proposal D). x.round.epoch) e))
      by (inl epoch) (inr apart) parent payload = inr (λ e. apart (ap (λ (x : Proposal D). x.round.view) e))
      by (inl epoch) (inl view) (inr apart) payload = inr (λ e. apart (ap (λ (x : Proposal D). x.parent) e))
      by (inl epoch) (inl view) (inl parent) (inr apart) = inr (λ e. apart (ap (λ (x : Proposal D). x.payload) e))

  -- where nothing contradicts the held proposal, it is that of each certificate
  stays_held : (l : List (Offer D)) (o : Offer D) (p : Proposal D) → held l ≡ Some p → IsRecordedWell o l → ¬ IsTainted (o ∷ l) → held (o ∷ l) ≡ Some p
  stays_held l (offer.forwarded q) p is well untainted = rw is refl
  stays_held l (offer.certified q) p is well untainted = elim (same_proposal p q) [
    | inl one ↦ ap (λ (x : Proposal D). Some x) (sym one)
    | inr apart ↦ absurd (untainted (inr (rw is apart)))
  ]
  stays_held l (offer.recorded q) p is well untainted =
      let one : p ≡ q = subst (λ (x : Option (Proposal D)). Agrees x q) is well in
      ap (λ (x : Proposal D). Some x) (sym one)
  stays_held l o p is well untainted = is

  untainted_before : (l : List (Offer D)) (o : Offer D) → ¬ IsTainted (o ∷ l) → ¬ IsTainted l
  untainted_before l (offer.forwarded q) untainted = λ tainted. untainted (inl tainted)
  untainted_before l (offer.certified q) untainted = λ tainted. untainted (inl tainted)
  untainted_before l o untainted = untainted

  certified_held : (l : List (Offer D)) (p : Proposal D) → AreRecordedWell l → ¬ IsTainted l → Contains l (offer.certified p) → held l ≡ Some p
  certified_held [] p well untainted here = absurd (omega (arith, here.1))
  certified_held (o ∷ l) p well untainted here = elim (Contains-cases o l (offer.certified p) here) [
    | inl is ↦ ap (λ (x : Offer D). held (x ∷ l)) is
    | inr there ↦ stays_held l o p (certified_held l p well.1 (untainted_before l o untainted) there) well.0 untainted
  ]

-- what is there in place of another
pub mapped : {A B : Type 0} (f : A → B) (o : Option A) (y : B) → option_map f o ≡ Some y → (x : A) × (o ≡ Some x) × (f x ≡ y)
mapped f None y is = absurd (none-some y is)
mapped f (Some x) y is = (x, refl, same_Some (f x) y is)

pub each_history_matches : {S D P G C : Type 0} → ((x y : D) → (x ≡ y) ⊎ (x ≢ y)) → EachHistoryMatches S D P G C
each_history_matches {S} {D} {P} {G} {C} same s h orderly = record {
  current = sym (greatest_reverse 1 (enters s.length) (told s h) ∙ (current_told s h ∙ omega (arith, orderly.began)));
  last_finalized = sym last_is;
  floor = floor_told s h;
  covered = λ view c. let r = nullified_told s h c.0 c.2 in (r.0, subst (λ (u : ℕ). InCoveringRange s.length view u) (sym r.1) c.1, in_reverse (told s h) (recorded.taken (nullify r.0)) r.2);
  own_notarize = λ p voted kept. seen_of (recorded.voted (notarize p)) voted kept;
  own_nullify = λ x voted kept. seen_of (recorded.voted (nullify x)) voted kept;
  own_finalize = λ p voted kept. seen_of (recorded.voted (finalize p)) voted kept;
  notarized = λ view p is.
      let c = mapped (λ (x : Notarization S D P G C). x.proposal) (past.notarization (seen s h view)) p is in
      let t = notarization_told s h view (seen s h view) c.0 (sound s h view) c.1 in
      subst (λ (q : Proposal D). (q.round.view ≡ view) × HasTaken (record_of s h) (notarize q)) c.2 (t.0, in_reverse (told s h) (recorded.taken (notarize c.0.proposal)) t.1);
  finalized = λ view p is.
      let c = mapped (λ (x : Finalization S D P G C). x.proposal) (past.finalization (seen s h view)) p is in
      let t = finalization_told s h view (seen s h view) c.0 (sound s h view) c.1 in
      subst (λ (q : Proposal D). (q.round.view ≡ view) × HasTaken (record_of s h) (finalize q)) c.2 (t.0, in_reverse (told s h) (recorded.taken (finalize c.0.proposal)) t.1);
  certified = λ view is. (round_of s view, refl, in_reverse (told s h) (recorded.judged (round_of s view) true) (verdict_is view is));
  supported = λ p taken kept untainted.
      certified_held same (offers (seen s h p.round.view)) p (recorded_well s h p.round.view orderly.taken (seen s h p.round.view) (sound s h p.round.view)) untainted (certificate p taken kept);
}
  where
    last_is : recorded.last_finalized (record_of s h) ≡ last_finalized h
    last_is = greatest_reverse 0 finalizes (told s h) ∙ finalized_told s h

    views : AreOfTheirViews h
    views = record { notarizes = orderly.notarizes; finalizes = orderly.finalizes }

    seen_of : (e : Entry D) → Contains (record_of s h) e → recorded.IsKept s.retention (record_of s h) (entry_view e) → Shows e (seen s h (entry_view e))
    seen_of e here kept = shown s h e views (from_reverse (told s h) e here) (omega (arith, kept, last_is))

    verdict_is : (view : ℕ) → past.verdict (seen s h view) ≡ Some true → Contains (told s h) (recorded.judged (round_of s view) true)
    verdict_is view is = elim (verdict_told s h view (seen s h view) true (sound s h view) is) [
      | inl here ↦ here
      | inr recalled ↦ let given = orderly.verdicts view true recalled in judged_told s h given.0 view true given.1
    ]

    certificate : (p : Proposal D) → HasTaken (record_of s h) (notarize p) ⊎ HasTaken (record_of s h) (finalize p) → recorded.IsKept s.retention (record_of s h) p.round.view
        → Contains (offers (seen s h p.round.view)) (offer.certified p)
    certificate p (inl taken) kept = (seen_of (recorded.taken (notarize p)) taken kept).0
    certificate p (inr taken) kept = (seen_of (recorded.taken (finalize p)) taken kept).0

some_mapped : {A B : Type 0} (f : A → B) (o : Option A) → IsSome o → IsSome (option_map f o)
some_mapped f None some = some
some_mapped f (Some x) some = refl

module _ {S D P G C : Type 0} where
  -- an entry that tells a nullification tells one that was learnt
  abbrev IsLearnt : List (Point S D P G C) → Entry D → Type 0
  IsLearnt h (recorded.taken (nullify r)) = was_nullified h r.view ≡ true
  IsLearnt h e = ⊤

  learnt_still : (x : Point S D P G C) (h : List (Point S D P G C)) (e : Entry D) → IsLearnt h e → IsLearnt (x ∷ h) e
  learnt_still (nullified now c) h (recorded.taken (nullify r)) is = or_right (c.round.view == r.view) (was_nullified h r.view) is
  learnt_still x h (recorded.taken (nullify r)) is = is
  learnt_still x h (recorded.taken (notarize p)) is = tt
  learnt_still x h (recorded.taken (finalize p)) is = tt
  learnt_still x h (recorded.voted v) is = tt
  learnt_still x h (recorded.judged r ok) is = tt

  -- each entry is the last point's, or an earlier one's
  learnt_or : (x : Point S D P G C) (h : List (Point S D P G C)) (d e : Entry D) (t : List (Entry D)) → IsLearnt (x ∷ h) d → (Contains t e → IsLearnt h e) → Contains (d ∷ t) e → IsLearnt (x ∷ h) e
  learnt_or x h d e t now before here = elim (Contains-cases d t e here) [
    | inl is ↦ subst (λ (y : Entry D). IsLearnt (x ∷ h) y) is now
    | inr there ↦ learnt_still x h e (before there)
  ]

  learnt : (s : Setup S C) (h : List (Point S D P G C)) (e : Entry D) → Contains (told s h) e → IsLearnt h e
  learnt s [] e here = absurd (omega (arith, here.1))
  learnt s (notarized c ∷ h) e here = learnt_or (notarized c) h (recorded.taken (notarize c.proposal)) e (told s h) tt (learnt s h e) here
  learnt s (nullified now c ∷ h) e here =
      learnt_or (nullified now c) h (recorded.taken (nullify c.round)) e (told s h) (or_left (c.round.view == c.round.view) (was_nullified h c.round.view) ((Decides-eqb c.round.view c.round.view).1 refl)) (learnt s h e) here
  learnt s (finalized now c ∷ h) e here = learnt_or (finalized now c) h (recorded.taken (finalize c.proposal)) e (told s h) tt (learnt s h e) here
  learnt s (judged now view ok ∷ h) e here = learnt_or (judged now view ok) h (recorded.judged (round_of s view) ok) e (told s h) tt (learnt s h e) here
  learnt s (voted_notarize view p ∷ h) e here = learnt_or (voted_notarize view p) h (recorded.voted (notarize p)) e (told s h) tt (learnt s h e) here
  learnt s (voted_nullify view ∷ h) e here = by (past.has_nullified (seen s h view)) here (learnt s h e)
    where
      by : (b : Bool) → Contains (if b then told s h else recorded.voted (nullify (round_of s view)) ∷ told s h) e → (Contains (told s h) e → IsLearnt h e) → IsLearnt (voted_nullify view ∷ h) e
      by true there before = learnt_still (voted_nullify view) h e (before there)
      by false there before = learnt_or (voted_nullify view) h (recorded.voted (nullify (round_of s view))) e (told s h) tt before there
  learnt s (voted_finalize view p ∷ h) e here = learnt_or (voted_finalize view p) h (recorded.voted (finalize p)) e (told s h) tt (learnt s h e) here
  learnt s (recalled_notarize p taken ∷ h) e here = learnt_or (recalled_notarize p taken) h (recorded.voted (notarize p)) e (told s h) tt (learnt s h e) here
  learnt s (recalled_nullify view ∷ h) e here = learnt_or (recalled_nullify view) h (recorded.voted (nullify (round_of s view))) e (told s h) tt (learnt s h e) here
  learnt s (recalled_finalize p ∷ h) e here = learnt_or (recalled_finalize p) h (recorded.voted (finalize p)) e (told s h) tt (learnt s h e) here
  learnt s (x ∷ h) e here = learnt_still x h e (learnt s h e here)

  -- what the record says is known, while it is kept
  pub each_record_is_known : EachRecordIsKnown S D P G C
  each_record_is_known s h orderly = record {
    nullified = λ view. (
      λ is. let r = nullified_told s h view is in (r.0, r.1, in_reverse (told s h) (recorded.taken (nullify r.0)) r.2),
      λ taken. subst (λ (v : ℕ). was_nullified h v ≡ true) taken.1 (learnt s h (recorded.taken (nullify taken.0)) (from_reverse (told s h) (recorded.taken (nullify taken.0)) taken.2)),
    );
    notarized = λ p taken kept. some_mapped (λ (c : Notarization S D P G C). c.proposal) (past.notarization (seen s h p.round.view)) (shown_of (recorded.taken (notarize p)) taken kept).1;
    finalized = λ p taken kept. some_mapped (λ (c : Finalization S D P G C). c.proposal) (past.finalization (seen s h p.round.view)) (shown_of (recorded.taken (finalize p)) taken kept).1;
    judged = λ x ok given kept. shown_of (recorded.judged x ok) given kept;
  }
    where
      last_is : recorded.last_finalized (record_of s h) ≡ last_finalized h
      last_is = greatest_reverse 0 finalizes (told s h) ∙ finalized_told s h

      shown_of : (e : Entry D) → Contains (record_of s h) e → recorded.IsKept s.retention (record_of s h) (entry_view e) → Shows e (seen s h (entry_view e))
      shown_of e here kept = shown s h e (record { notarizes = orderly.notarizes; finalizes = orderly.finalizes }) (from_reverse (told s h) e here) (omega (arith, kept, last_is))
