-- What the rounds keep once one of them that was lent is given back.
use Rattle.std.proofs.Common.{◌≡◌, ℕ, true, false, ◌<◌, ◌^◌, List, ◌∷◌, inr, refl, if◌then◌else◌}
use Rattle.std.specs.Borrow.{MutBor}
use Rattle.std.specs.Option.{option_copied_mut, option_or}
use Rattle.std.specs.Prelude.{Option, Some, None, Bool, IsSome, OnSome}
use Rattle.std.specs.declared.cmp.Reverse.{Reverse}
use Rattle.std.specs.BTreeMap.{BTreeMap}
use Rattle.types_core.specs.LatestFirst.{stored, Stores}
use Rattle.simplex_round.specs.declared.round.Round.{Round}
use Rattle.voter_history.specs.Past.{Item}
use Rattle.simplex_round.specs.Round as one
use Rattle.voter_rounds.specs.declared.rounds.Rounds.{Rounds}
use Rattle.voter_rounds.specs.Lending.{Follows}
use Rattle.voter_history.specs.Pasts.{put}
use Rattle.voter_rounds.specs.Rounds.{AtEach, Common, IsOpen, IsTracked, Keep, learn, setup_of}
use Rattle.voter_rounds.proofs.Choices.{is_itself, some-is}
use Rattle.voter_rounds.proofs.Tables.{AreKept-step, AreOpen-there, happened}

-- a round that is open was lent
pub Follows-open : {S D P G C : Type 0} {key_of : S → ℕ → P} {before now : Rounds S D P G C} {m : BTreeMap (Reverse ℕ) (Round S D P G C)} (view : ℕ) (left : Round S D P G C)
    → AtEach key_of before (λ s led past. IsOpen key_of s now led past view) → Stores now.by_view m view (Some left) → Follows key_of before view (record now { by_view = m }) left
unfolding Keep
Follows-open view left opens up = record {
  keeps = λ s led led' past past' k elsewhere here tracked.
      let now = opens s led past k in
      record { scheme = now.scheme; epoch = now.epoch; rounds = AreKept-step led' past' view now.rounds up here tracked elsewhere.at };
}

-- one that stands there was lent, where there is one
pub Follows-known : {S D P G C : Type 0} (key_of : S → ℕ → P) (rounds : Rounds S D P G C) (m : BTreeMap (Reverse ℕ) (Round S D P G C)) (view : ℕ) (left : Round S D P G C)
    (found : Option (MutBor (Round S D P G C))) → option_copied_mut found ≡ stored rounds.by_view view → view < 2 ^ 64
    → (IsSome (stored rounds.by_view view) → Stores rounds.by_view m view (Some left)) → OnSome found (Follows key_of rounds view (record rounds { by_view = m }) left)
unfolding Keep
Follows-known key_of rounds m view left None is fits up = tt
Follows-known key_of rounds m view left (Some x) is fits up = record {
  keeps = λ s led led' past past' k elsewhere here tracked. record {
    scheme = k.scheme;
    epoch = k.epoch;
    rounds = AreKept-step led' past' view (AreOpen-there view k.rounds fits (some-is is)) (up (some-is is)) here tracked elsewhere.at;
  };
}

module _ {S D P G C : Type 0} {key_of : S → ℕ → P} {before after : Rounds S D P G C} {view : ℕ} {left : Round S D P G C} (s : Common S) (led : ℕ → Option ℕ) (past : ℕ → List (Item S D P G C)) where
  -- nothing happened to a view of which something is known
  pub lent-same : Follows key_of before view after left → Keep key_of s before led past → one.Keeps key_of (setup_of s view) left (led view) (past view) → IsTracked (past view) (led view)
      → Keep key_of s after led past
  lent-same f k here known = f.keeps s led led past past k (record { at = λ u apart. (refl, refl) }) here known

  -- one more thing happened to the view
  pub lent-put : (x : Item S D P G C) → Follows key_of before view after left → Keep key_of s before led past → one.Keeps key_of (setup_of s view) left (led view) (x ∷ past view)
      → Keep key_of s after led (put view x past)
  lent-put x f k here = f.keeps s led led past (put view x past) k (record { at = λ u apart. (refl, rw apart refl) })
      (rw (is_itself view) here) (rw (is_itself view) (happened x (past view) (led view)))

  -- two things happened to it
  pub lent-put_two : (x y : Item S D P G C) → Follows key_of before view after left → Keep key_of s before led past → one.Keeps key_of (setup_of s view) left (led view) (x ∷ y ∷ past view)
      → Keep key_of s after led (put view x (put view y past))
  lent-put_two x y f k here = f.keeps s led led past (put view x (put view y past)) k (record { at = λ u apart. (refl, rw apart refl) })
      (rw (is_itself view) here) (rw (is_itself view) (happened x (y ∷ past view) (led view)))

  -- its leader is known now
  pub lent-learn : (i : ℕ) → Follows key_of before view after left → Keep key_of s before led past → one.Keeps key_of (setup_of s view) left (option_or (led view) (Some i)) (past view)
      → IsSome (option_or (led view) (Some i)) → Keep key_of s after (learn view i led) past
  lent-learn i f k here known = f.keeps s led (learn view i led) past past k (record { at = λ u apart. (rw apart refl, refl) }) (rw (is_itself view) here) (inr (rw (is_itself view) known))

  -- one more thing happened to it, or nothing did where something is known of it
  pub lent-when : (x : Item S D P G C) (b : Bool) → Follows key_of before view after left → Keep key_of s before led past
      → one.Keeps key_of (setup_of s view) left (led view) (if b then x ∷ past view else past view) → (b ≡ false → IsTracked (past view) (led view)) → Keep key_of s after led (if b then put view x past else past)
  lent-when x true f k here known = lent-put x f k here
  lent-when x false f k here known = lent-same f k here (known refl)

  pub lent-unless : (x : Item S D P G C) (b : Bool) → Follows key_of before view after left → Keep key_of s before led past
      → one.Keeps key_of (setup_of s view) left (led view) (if b then past view else x ∷ past view) → (b ≡ true → IsTracked (past view) (led view)) → Keep key_of s after led (if b then past else put view x past)
  lent-unless x false f k here known = lent-put x f k here
  lent-unless x true f k here known = lent-same f k here (known refl)

  pub lent-when_two : (x y : Item S D P G C) (b : Bool) → Follows key_of before view after left → Keep key_of s before led past
      → one.Keeps key_of (setup_of s view) left (led view) (if b then x ∷ y ∷ past view else past view) → (b ≡ false → IsTracked (past view) (led view))
      → Keep key_of s after led (if b then put view x (put view y past) else past)
  lent-when_two x y true f k here known = lent-put_two x y f k here
  lent-when_two x y false f k here known = lent-same f k here (known refl)

  -- the first certificate of its kind came to it
  pub lent-first : (x : Item S D P G C) (b : Bool) → b ≡ true → Follows key_of before view after left → Keep key_of s before led past
      → one.Keeps key_of (setup_of s view) left (led view) (if b then x ∷ past view else past view) → Keep key_of s after led (put view x past)
  lent-first x b is f k here = lent-put x f k (rw is at here)
