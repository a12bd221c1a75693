-- What stays, of what acts do: that a verdict was put off, that a view was given up or voted for, that something was asked for.
use Rattle.std.proofs.Common.{◌≡◌, ◌⊎◌, inl, inr, ⊎_elim, ℕ, ◌≤◌, ◌<◌, ◌||◌, ◌&&◌, Bool, true, false, List, [], ◌∷◌, ◌++◌, Option, Some, None, refl, sym, ◌∙◌, ap, subst, arith}
use Rattle.std.specs.Prelude.{Contains, IsSome, if◌then◌else◌, is_some}
use Rattle.std.specs.Option.{option_or}
use Rattle.std.proofs.lemmas.Bool.{cases_lt, le-ltb, lt-ltb}
use Rattle.types_quorum.specs.Counting.{Contains-cases, Contains-head, Contains-nil, Contains-rest}
use Rattle.voter_history.specs.declared.timeout_reason.TimeoutReason.{TimeoutReason}
use Rattle.voter_history.specs.Known.{waits}
use Rattle.voter_history.specs.Past as past
use Rattle.voter_history.specs.Past.{Item}
use Rattle.voter_history.specs.Pasts.{put}
use Rattle.voter_history.specs.History as views
use Rattle.voter_history.specs.History.{current, is_marked, last_finalized, min_active, pruned, seen}
use Rattle.simplex_member.specs.declared.asked.Asked.{Asked}
use Rattle.simplex_member.specs.Asked.{asks_now, asks_of, goes_again, next_number, sent_of, was_repeated}
use Rattle.simplex_member.specs.Point.{Point, Opened, Told, AsksBuild, AsksVerify, Asks, History, is_act}
use Rattle.simplex_member.specs.Setup.{Setup}
use Rattle.simplex_member.proofs.Lists.{same-number}
use Rattle.simplex_member.proofs.Staying.{low-stays}
use Rattle.simplex_member.proofs.Telling.{apart}

or-right : (b c : Bool) → c ≡ true → (b || c) ≡ true
or-right true c is = refl
or-right false c is = is

-- ---- of the voter's history

module _ {S D P G C : Type 0} (s : views.Setup S C) where
  -- the last finalized view is no later than the current one
  pub final-low : (h : List (views.Point S D P G C)) → last_finalized h ≤ current s h
  final-low [] = omega arith
  final-low (views.started now payload ∷ h) = let low = final-low h in omega (arith, low)
  final-low (views.nullified now c ∷ h) = let low = final-low h in omega (arith, low)
  final-low (views.finalized now c ∷ h) = let low = final-low h in omega (arith, low)
  final-low (views.judged now view true ∷ h) = let low = final-low h in omega (arith, low)
  final-low (views.judged now view false ∷ h) = final-low h
  final-low (x ∷ h) = final-low h

  -- that a verdict was put off stays marked, while the view is kept
  mark-stays : (x : views.Point S D P G C) (h : List (views.Point S D P G C)) (view : ℕ) → (view < min_active s h) ⊎ (is_marked s waits h view ≡ true) → (view < min_active s (x ∷ h)) ⊎ (is_marked s waits (x ∷ h) view ≡ true)
  mark-stays pruned h view is = ⊎_elim
      (λ low. inl (low-stays s (pruned ∷ []) h view low))
      (λ mark. ⊎_elim
      (λ low. inl (low-stays s (pruned ∷ []) h view low))
      (λ kept. inr (ap (λ (b : Bool). if b then false else is_marked s waits h view) (le-ltb view (min_active s h) kept) ∙ mark))
      (cases_lt view (min_active s h)))
      is
  mark-stays x h view is = ⊎_elim
      (λ low. inl (low-stays s (x ∷ []) h view low))
      (λ mark. inr (or-right (waits x view) (is_marked s waits h view) mark))
      is

  pub marks-stay : (xs h : List (views.Point S D P G C)) (view : ℕ) → (view < min_active s h) ⊎ (is_marked s waits h view ≡ true) → (view < min_active s (xs ++ h)) ⊎ (is_marked s waits (xs ++ h) view ≡ true)
  marks-stay [] h view is = is
  marks-stay (x ∷ xs) h view is = mark-stays x (xs ++ h) view (marks-stay xs h view is)

  pub put-here : (view : ℕ) (y : Item S D P G C) (t : ℕ → List (Item S D P G C)) → put view y t view ≡ y ∷ t view
  put-here view y t = ap (λ (b : Bool). if b then y ∷ t view else t view) (same-number view view refl)

  pub polled-here : (h : List (views.Point S D P G C)) (now : ℕ) → 1 ≤ current s h → seen s (views.polled now ∷ h) (current s h) ≡ past.polled (past.deadline now s.timeout_retry) ∷ seen s h (current s h)
  polled-here h now begun =
      ap (λ (b : Bool). (if b then put (current s h) (past.polled (past.deadline now s.timeout_retry)) (seen s h) else seen s h) (current s h)) (lt-ltb 0 (current s h) (omega (arith, begun)))
      ∙ put-here (current s h) (past.polled (past.deadline now s.timeout_retry)) (seen s h)

pub vacant : {X : Type 0} (b : Bool) (o : Option X) → o ≡ None → (if b then None else o) ≡ None
vacant true o none = refl
vacant false o none = none

or-some : {X : Type 0} (o p : Option X) → IsSome o → IsSome (option_or o p)
or-some None p some = absurd (apart some)
or-some (Some x) p some = refl

either-some : {X : Type 0} (b : Bool) (o p : Option X) → IsSome o → IsSome (if b then option_or o p else o)
either-some true o p some = or-some o p some
either-some false o p some = some

pub some-apart : {X : Type 0} (o : Option X) → o ≡ None → IsSome o → ⊥
some-apart {X} o none some = apart (subst (λ (x : Option X). is_some x ≡ true) none some)

module _ {S D P G C : Type 0} where
  -- a reason to give the view up counts
  abbrev pub IsLatched : List (Item S D P G C) → Type 0
  IsLatched l = IsSome (past.latch l)

  pub latched-still : (y : Item S D P G C) (l : List (Item S D P G C)) → IsLatched l → IsLatched (y ∷ l)
  latched-still (past.latched moment why) l some = either-some (past.is_undecided l) (past.latch l) (Some (moment, why)) some
  latched-still y l some = some

  pub latched-new : (moment : ℕ) (why : TimeoutReason) (l : List (Item S D P G C)) → past.is_undecided l ≡ true → IsLatched (past.latched moment why ∷ l)
  latched-new moment why l undecided = subst (λ (b : Bool). IsSome (if b then option_or (past.latch l) (Some (moment, why)) else past.latch l)) (sym undecided) (go (past.latch l))
    where
      go : (o : Option (ℕ × TimeoutReason)) → IsSome (option_or o (Some (moment, why)))
      go None = refl
      go (Some t) = refl

  pub notarized-still : (y : Item S D P G C) (l : List (Item S D P G C)) → past.has_notarized l ≡ true → past.has_notarized (y ∷ l) ≡ true
  notarized-still past.voted_notarize l is = refl
  notarized-still y l is = is

  pub nullified-still : (y : Item S D P G C) (l : List (Item S D P G C)) → past.has_nullified l ≡ true → past.has_nullified (y ∷ l) ≡ true
  nullified-still past.voted_nullify l is = refl
  nullified-still y l is = is

  pub finalized-still : (y : Item S D P G C) (l : List (Item S D P G C)) → past.has_finalized l ≡ true → past.has_finalized (y ∷ l) ≡ true
  finalized-still past.voted_finalize l is = refl
  finalized-still y l is = is

  pub asked-still : (y : Item S D P G C) (l : List (Item S D P G C)) → past.is_certify_asked l ≡ true → past.is_certify_asked (y ∷ l) ≡ true
  asked-still (past.certifying handle) l is = refl
  asked-still past.aborted l is = refl
  asked-still y l is = is

  -- numbers of builds and verifications only rise
  pub number-rises : (p : Point S D P G C) (h : History S D P G C) → next_number h ≤ next_number (p ∷ h)
  number-rises (AsksBuild number handoff context) h = omega arith
  number-rises (AsksVerify number context p) h = omega arith
  number-rises p h = omega arith

  -- what was asked since the time was told last stays so through acts, and went out for now
  pub asks-stay : (p : Point S D P G C) (h : History S D P G C) (x : Asked) → is_act p ≡ true → Contains (asks_now h) x → Contains (asks_now (p ∷ h)) x
  asks-stay (Opened now) h x own here = absurd (apart own)
  asks-stay (Told now) h x own here = absurd (apart own)
  asks-stay (Asks view ask to) h x own here = Contains-rest {X = Asked} (record { view = view; ask = ask; to = to }) (asks_now h) x here
  asks-stay p h x own here = here

  now-asked : (h : History S D P G C) (x : Asked) → Contains (asks_now h) x → Contains (asks_of h) x
  now-asked [] x here = here
  now-asked (Opened now ∷ h) x here = absurd (Contains-nil x here)
  now-asked (Told now ∷ h) x here = absurd (Contains-nil x here)
  now-asked (Asks view ask to ∷ h) x here = ⊎_elim
      (λ is. subst (λ (y : Asked). Contains (asks_of (Asks view ask to ∷ h)) y) is (Contains-head {X = Asked} (record { view = view; ask = ask; to = to }) (asks_of h)))
      (λ before. Contains-rest {X = Asked} (record { view = view; ask = ask; to = to }) (asks_of h) x (now-asked h x before))
      (Contains-cases {X = Asked} (record { view = view; ask = ask; to = to }) (asks_now h) x here)
  now-asked (p ∷ h) x here = now-asked h x here

  pub now-sent : (s : Setup S D C) (h : History S D P G C) (x : Asked) → Contains (asks_now h) x → Contains (sent_of s h) x
  now-sent s h x here = go (goes_again s.repair.again && was_repeated h)
    where
      go : (b : Bool) → Contains (if b then asks_now h else asks_of h) x
      go true = here
      go false = now-asked h x here
