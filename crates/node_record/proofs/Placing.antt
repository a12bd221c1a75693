-- Where what is found of a view stands in a list that has one element more.
use Rattle.std.proofs.Common.{◌≡◌, ◌∙◌, ℕ, Bool, true, false, List, [], ◌∷◌, ◌++◌, length, Option, Some, None, refl, sym, ap, subst, append_assoc, if◌then◌else◌, arith}
use Rattle.std.specs.Prelude.{◌==◌, MatchOption, cond, is_some, slice_get}
use Rattle.std.specs.BTreeMap.{BTreeMap, is_at}
use Rattle.std.specs.Option.{option_or}
use Rattle.std.specs.declared.cmp.Reverse.{Reverse}
use Rattle.std.proofs.lemmas.Bool.{false≢true}
use Rattle.std.proofs.lemmas.Bool.Decides.{nat_tests}
use Rattle.types_core.specs.LatestFirst.{as_key, latest_first, stored}
use Rattle.messages_certificates.specs.declared.artifact.Artifact.{Artifact}
use Rattle.messages_certificates.specs.declared.artifact.Artifact.TheVariants as artifact
use Rattle.messages_certificates.specs.ProposalCertificate.{Notarization, Finalization}
use Rattle.simplex_member.specs.Recorded.{finalization_in, notarization_in}
use Rattle.node_record.specs.declared.places.Places.{Places}
use Rattle.node_record.specs.Places.{KeepsPlaces, StandsBehind, IsFoundAt, as_finalization, as_notarization, at_place}

-- the key of a view is that of another just where they are one
same_view : (view v : ℕ) → is_at (latest_first (as_key view)) (as_key v) ≡ (view == v)
same_view view v = grind (arith, nat_tests)

put_first : {X : Type 0} (b : Bool) (old new : Option X) (x : X) → (b ≡ true → is_some old ≡ false) → new ≡ cond b (Some x) old → new ≡ option_or old (if b then Some x else None)
put_first true None new x bare is = is
put_first true (Some y) new x bare is = absurd (false≢true (sym (bare refl)))
put_first false None new x bare is = is
put_first false (Some y) new x bare is = is

-- under each view stands what stood there, or else what was put
pub put_under : {X : Type 0} (view v : ℕ) (old new : Option X) (x : X) → (view ≡ v → is_some old ≡ false) → new ≡ cond (is_at (latest_first (as_key view)) (as_key v)) (Some x) old → new ≡ option_or old (if view == v then Some x else None)
put_under view v old new x bare is =
    put_first (view == v) old new x (λ same. let one : view ≡ v = grind (arith, nat_tests, same) in bare one) (is ∙ ap (λ (b : Bool). cond b (Some x) old) (same_view view v))

module _ {A : Type 0} where
  at_front : (front back : List A) (x : A) → slice_get (front ++ x ∷ back) (length front) ≡ Some x
  at_front [] back x = refl
  at_front (y ∷ front) back x = at_front front back x

  -- behind so many stands what is found at that place
  pub found_behind : (xs : List A) (place : ℕ) (x : A) → StandsBehind xs place x → slice_get xs place ≡ Some x
  found_behind xs place x s =
      subst (λ (l : List A). slice_get l place ≡ Some x) (sym s.is)
      (subst (λ (k : ℕ). slice_get (s.before ++ x ∷ s.after) k ≡ Some x) (sym s.place_is) (at_front s.before s.after x))

  -- and it stands there when one more is behind
  stands_still : (xs : List A) (place : ℕ) (x y : A) → StandsBehind xs place x → StandsBehind (xs ++ y ∷ []) place x
  stands_still xs place x y s = record {
    before = s.before;
    after = s.after ++ y ∷ [];
    is = ap (λ (l : List A). l ++ y ∷ []) s.is ∙ append_assoc s.before (x ∷ s.after) (y ∷ []);
    place_is = s.place_is;
  }

-- what is found of a longer list is what was found, or else what the new element brings
abbrev pub FindsFirst : {A X : Type 0} → (List A → ℕ → Option X) → Type 0
FindsFirst {A} found = (xs : List A) (x : A) (view : ℕ) → found (xs ++ x ∷ []) view ≡ option_or (found xs view) (found (x ∷ []) view)

module _ {A X : Type 0} (found : List A → ℕ → Option X) (wrap : X → A) (push : FindsFirst found) where
  -- what is known of a view stays so, behind an element that brings nothing of it
  pub stays_known : (xs : List A) (x : A) (view : ℕ) (o : Option ℕ) → found (x ∷ []) view ≡ None
      → MatchOption o (found xs view ≡ None) (IsFoundAt found wrap xs view) → MatchOption o (found (xs ++ x ∷ []) view ≡ None) (IsFoundAt found wrap (xs ++ x ∷ []) view)
  stays_known xs x view None none is = push xs x view ∙ ap (λ (p : Option X). option_or p (found (x ∷ []) view)) is ∙ none
  stays_known xs x view (Some place) none is =
      (is.0, push xs x view ∙ ap (λ (p : Option X). option_or p (found (x ∷ []) view)) is.1, stands_still xs place (wrap is.0) x is.2)

  brings : (xs : List A) (c : X) (view place : ℕ) (b : Bool) (o : Option ℕ) → found (wrap c ∷ []) view ≡ (if b then Some c else None) → place ≡ length xs
      → MatchOption o (found xs view ≡ None) (IsFoundAt found wrap xs view)
      → MatchOption (option_or o (if b then Some place else None)) (found (xs ++ wrap c ∷ []) view ≡ None) (IsFoundAt found wrap (xs ++ wrap c ∷ []) view)
  brings xs c view place true None same at is =
      (c, push xs (wrap c) view ∙ ap (λ (p : Option X). option_or p (found (wrap c ∷ []) view)) is ∙ same, record { before = xs; after = []; is = refl; place_is = at })
  brings xs c view place false None same at is = stays_known xs (wrap c) view None same is
  brings xs c view place b (Some old) same at is =
      (is.0, push xs (wrap c) view ∙ ap (λ (p : Option X). option_or p (found (wrap c ∷ []) view)) is.1, stands_still xs old (wrap is.0) (wrap c) is.2)

  -- and behind one that brings something, where the place was put down unless one was there
  pub is_known : (xs : List A) (c : X) (view place : ℕ) (b : Bool) (o p : Option ℕ) → found (wrap c ∷ []) view ≡ (if b then Some c else None) → place ≡ length xs
      → p ≡ option_or o (if b then Some place else None)
      → MatchOption o (found xs view ≡ None) (IsFoundAt found wrap xs view) → MatchOption p (found (xs ++ wrap c ∷ []) view ≡ None) (IsFoundAt found wrap (xs ++ wrap c ∷ []) view)
  is_known xs c view place b o p same at is known =
      subst (λ (q : Option ℕ). MatchOption q (found (xs ++ wrap c ∷ []) view ≡ None) (IsFoundAt found wrap (xs ++ wrap c ∷ []) view)) (sym is) (brings xs c view place b o same at known)

module _ {A X : Type 0} (found : List A → ℕ → Option X) (wrap : X → A) (pick : A → Option X) (picked : (c : X) → pick (wrap c) ≡ Some c) where
  -- where nothing stands at the known place of a view, nothing is found of it
  pub none_picked : (items xs : List A) (view : ℕ) (m o : Option ℕ) → items ≡ xs → o ≡ m → MatchOption m (found xs view ≡ None) (IsFoundAt found wrap xs view) → None ≡ at_place items o → None ≡ found xs view
  none_picked items xs view None o same at known none = sym known
  none_picked items xs view (Some place) o same at known none =
      let there : slice_get items place ≡ Some (wrap known.0) = subst (λ (l : List A). slice_get l place ≡ Some (wrap known.0)) (sym same) (found_behind xs place (wrap known.0) known.2) in
      let gone : None ≡ slice_get items place = subst (λ (p : Option ℕ). None ≡ at_place items p) at none in
      absurd (cc (gone, there))

  -- and where something does, that is found
  pub one_picked : (items xs : List A) (view : ℕ) (m o : Option ℕ) (x : A) → items ≡ xs → o ≡ m → MatchOption m (found xs view ≡ None) (IsFoundAt found wrap xs view) → Some x ≡ at_place items o → pick x ≡ found xs view
  one_picked items xs view None o x same at known is =
      let gone : Some x ≡ None = subst (λ (p : Option ℕ). Some x ≡ at_place items p) at is in
      absurd (cc gone)
  one_picked items xs view (Some place) o x same at known is =
      let there : slice_get items place ≡ Some (wrap known.0) = subst (λ (l : List A). slice_get l place ≡ Some (wrap known.0)) (sym same) (found_behind xs place (wrap known.0) known.2) in
      let here : Some x ≡ slice_get items place = subst (λ (p : Option ℕ). Some x ≡ at_place items p) at is in
      let own : x ≡ wrap known.0 = cc (here, there) in
      ap pick own ∙ picked known.0 ∙ sym known.1

first_if : {X : Type 0} (b : Bool) (c : X) (more before new : Option X) → more ≡ option_or before new → (if b then Some c else more) ≡ option_or (if b then Some c else before) new
first_if true c more before new is = refl
first_if false c more before new is = is

module _ {S D P G C : Type 0} where
  pub notarized-push : FindsFirst {A = Artifact S D P G C} notarization_in
  notarized-push [] x view = refl
  notarized-push (artifact.Notarize v ∷ xs) x view = notarized-push xs x view
  notarized-push (artifact.Notarization c ∷ xs) x view = first_if (c.proposal.round.view == view) c _ _ _ (notarized-push xs x view)
  notarized-push (artifact.Certification round ok ∷ xs) x view = notarized-push xs x view
  notarized-push (artifact.Nullify v ∷ xs) x view = notarized-push xs x view
  notarized-push (artifact.Nullification c ∷ xs) x view = notarized-push xs x view
  notarized-push (artifact.Finalize v ∷ xs) x view = notarized-push xs x view
  notarized-push (artifact.Finalization c ∷ xs) x view = notarized-push xs x view

  pub finalized-push : FindsFirst {A = Artifact S D P G C} finalization_in
  finalized-push [] x view = refl
  finalized-push (artifact.Notarize v ∷ xs) x view = finalized-push xs x view
  finalized-push (artifact.Notarization c ∷ xs) x view = finalized-push xs x view
  finalized-push (artifact.Certification round ok ∷ xs) x view = finalized-push xs x view
  finalized-push (artifact.Nullify v ∷ xs) x view = finalized-push xs x view
  finalized-push (artifact.Nullification c ∷ xs) x view = finalized-push xs x view
  finalized-push (artifact.Finalize v ∷ xs) x view = finalized-push xs x view
  finalized-push (artifact.Finalization c ∷ xs) x view = first_if (c.proposal.round.view == view) c _ _ _ (finalized-push xs x view)

  -- an artifact that brings no notarization of any view
  pub no_notarization : (x : Artifact S D P G C) (view : ℕ) → None ≡ as_notarization x → notarization_in (x ∷ []) view ≡ None
  no_notarization (artifact.Notarize v) view none = refl
  no_notarization (artifact.Notarization c) view none = absurd (cc none)
  no_notarization (artifact.Certification round ok) view none = refl
  no_notarization (artifact.Nullify v) view none = refl
  no_notarization (artifact.Nullification c) view none = refl
  no_notarization (artifact.Finalize v) view none = refl
  no_notarization (artifact.Finalization c) view none = refl

  pub no_finalization : (x : Artifact S D P G C) (view : ℕ) → None ≡ as_finalization x → finalization_in (x ∷ []) view ≡ None
  no_finalization (artifact.Notarize v) view none = refl
  no_finalization (artifact.Notarization c) view none = refl
  no_finalization (artifact.Certification round ok) view none = refl
  no_finalization (artifact.Nullify v) view none = refl
  no_finalization (artifact.Nullification c) view none = refl
  no_finalization (artifact.Finalize v) view none = refl
  no_finalization (artifact.Finalization c) view none = absurd (cc none)

  -- one that is a notarization, or a finalization
  is_notarization : (x : Artifact S D P G C) (c : Notarization S D P G C) → Some c ≡ as_notarization x → artifact.Notarization c ≡ x
  is_notarization (artifact.Notarize v) c is = absurd (cc is)
  is_notarization (artifact.Notarization d) c is = cc is
  is_notarization (artifact.Certification round ok) c is = absurd (cc is)
  is_notarization (artifact.Nullify v) c is = absurd (cc is)
  is_notarization (artifact.Nullification d) c is = absurd (cc is)
  is_notarization (artifact.Finalize v) c is = absurd (cc is)
  is_notarization (artifact.Finalization d) c is = absurd (cc is)

  is_finalization : (x : Artifact S D P G C) (c : Finalization S D P G C) → Some c ≡ as_finalization x → artifact.Finalization c ≡ x
  is_finalization (artifact.Notarize v) c is = absurd (cc is)
  is_finalization (artifact.Notarization d) c is = absurd (cc is)
  is_finalization (artifact.Certification round ok) c is = absurd (cc is)
  is_finalization (artifact.Nullify v) c is = absurd (cc is)
  is_finalization (artifact.Nullification d) c is = absurd (cc is)
  is_finalization (artifact.Finalize v) c is = absurd (cc is)
  is_finalization (artifact.Finalization d) c is = cc is

  -- the places behind one artifact more: a notarization, a finalization, or another
  pub behind_notarization : (places : Places) (new : BTreeMap (Reverse ℕ) ℕ) (xs : List (Artifact S D P G C)) (x : Artifact S D P G C) (c : Notarization S D P G C) (place view : ℕ) → Some c ≡ as_notarization x → view ≡ c.proposal.round.view → place ≡ length xs
      → ((v : ℕ) → stored new v ≡ option_or (stored places.notarizations v) (if view == v then Some place else None))
      → KeepsPlaces places xs → KeepsPlaces (record { notarizations = new; finalizations = places.finalizations }) (xs ++ x ∷ [])
  behind_notarization places new xs x c place view is of at put k =
      let put_there : (v : ℕ) → stored new v ≡ option_or (stored places.notarizations v) (if c.proposal.round.view == v then Some place else None) =
      λ v. put v ∙ ap (λ (u : ℕ). option_or (stored places.notarizations v) (if u == v then Some place else None)) of in
      subst (λ (y : Artifact S D P G C). KeepsPlaces (record { notarizations = new; finalizations = places.finalizations }) (xs ++ y ∷ [])) (is_notarization x c is) (record {
        notarizations = λ v. is_known notarization_in artifact.Notarization notarized-push xs c v place (c.proposal.round.view == v) _ _ refl at (put_there v) (k.notarizations v);
        finalizations = λ v. stays_known finalization_in artifact.Finalization finalized-push xs (artifact.Notarization c) v _ refl (k.finalizations v);
      })

  pub behind_finalization : (places : Places) (new : BTreeMap (Reverse ℕ) ℕ) (xs : List (Artifact S D P G C)) (x : Artifact S D P G C) (c : Finalization S D P G C) (place view : ℕ) → Some c ≡ as_finalization x → view ≡ c.proposal.round.view → place ≡ length xs
      → ((v : ℕ) → stored new v ≡ option_or (stored places.finalizations v) (if view == v then Some place else None))
      → KeepsPlaces places xs → KeepsPlaces (record { notarizations = places.notarizations; finalizations = new }) (xs ++ x ∷ [])
  behind_finalization places new xs x c place view is of at put k =
      let put_there : (v : ℕ) → stored new v ≡ option_or (stored places.finalizations v) (if c.proposal.round.view == v then Some place else None) =
      λ v. put v ∙ ap (λ (u : ℕ). option_or (stored places.finalizations v) (if u == v then Some place else None)) of in
      subst (λ (y : Artifact S D P G C). KeepsPlaces (record { notarizations = places.notarizations; finalizations = new }) (xs ++ y ∷ [])) (is_finalization x c is) (record {
        notarizations = λ v. stays_known notarization_in artifact.Notarization notarized-push xs (artifact.Finalization c) v _ refl (k.notarizations v);
        finalizations = λ v. is_known finalization_in artifact.Finalization finalized-push xs c v place (c.proposal.round.view == v) _ _ refl at (put_there v) (k.finalizations v);
      })

  pub behind_other : (places : Places) (xs : List (Artifact S D P G C)) (x : Artifact S D P G C) → None ≡ as_notarization x → None ≡ as_finalization x → KeepsPlaces places xs → KeepsPlaces places (xs ++ x ∷ [])
  behind_other places xs x not_notarized not_finalized k = record {
    notarizations = λ v. stays_known notarization_in artifact.Notarization notarized-push xs x v _ (no_notarization x v not_notarized) (k.notarizations v);
    finalizations = λ v. stays_known finalization_in artifact.Finalization finalized-push xs x v _ (no_finalization x v not_finalized) (k.finalizations v);
  }
