-- A change of one round among many.
use Rattle.std.proofs.Common.{◌≡◌, ℕ, true, false, ◌==◌, ◌<◌, ◌^◌, ⊎_elim, inl, List, [], ◌∷◌, refl, sym, ap, arith, Bor, if◌then◌else◌}
use Rattle.std.specs.Borrow.{MutBor}
use Rattle.std.specs.Option.{option_copied_mut, option_or}
use Rattle.std.specs.Prelude.{Option, Some, None, Bool, MatchOption, IsSome, is_some, option_copied}
use Rattle.types_core.specs.LatestFirst.{as_key, stored, Stores}
use Rattle.types_core.specs.declared.position.Round as position
use Rattle.types_core.specs.declared.proposal.Proposal.{Proposal}
use Rattle.std.specs.declared.cmp.Reverse.{Reverse}
use Rattle.std.specs.BTreeMap.{BTreeMap}
use Rattle.std.proofs.lemmas.Grind.{common_steps}
use Rattle.std.proofs.lemmas.Bool.{cases_eq}
use Rattle.simplex_round.specs.declared.round.Round.{Round}
use Rattle.simplex_round.specs.Round as one
use Rattle.voter_history.specs.Held.{held, Agrees}
use Rattle.voter_history.specs.Past.{Item, has_finalized, has_nullified, is_unlatched, offers}
use Rattle.voter_rounds.specs.Rounds.{Common, setup_of, learn, IsTracked, IsRight, AreKept, AreOpen}
use Rattle.voter_rounds.specs.Tracked.{AreMembers}

-- what stays the same of a round is what its view and what all rounds share say
pub same_setup : {S : Type 0} {s : Common S} {x : S} {r : position.Round} {view : ℕ} → x ≡ s.scheme → r.epoch ≡ s.epoch → r.view ≡ view
    → (let made : one.Setup S = record { scheme = x; round = r } in made) ≡ setup_of s view
same_setup a b c = λ i. record { scheme = a i; round = record { epoch = b i; view = c i } }

module _ {S D P G C : Type 0} where
  -- something happened
  pub happened : (x : Item S D P G C) (past : List (Item S D P G C)) (led : Option ℕ) → IsTracked (x ∷ past) led
  happened x past led = inl (λ never. absurd (cc never))

  -- a view that was given up by a vote is one of which something is known
  pub nullified_tracked : (past : List (Item S D P G C)) (led : Option ℕ) → has_nullified past ≡ true → IsTracked past led
  nullified_tracked [] led never = absurd (cc never)
  nullified_tracked (x ∷ past) led given_up = happened x past led

  -- nor is one in which a proposal was refused, or a finalize voted
  pub refused_tracked : (past : List (Item S D P G C)) (led : Option ℕ) (p : Proposal D) → ¬ ((has_nullified past ≡ false) × Agrees (held (offers past)) p) → IsTracked past led
  refused_tracked [] led p refused = absurd (refused (refl, tt))
  refused_tracked (x ∷ past) led p refused = happened x past led

  pub finalized_tracked : (past : List (Item S D P G C)) (led : Option ℕ) (o : Option Bool) → o ≡ (if has_finalized past then None else Some (has_nullified past)) → is_some o ≡ false → IsTracked past led
  finalized_tracked [] led o voted none = absurd (cc (voted, none))
  finalized_tracked (x ∷ past) led o voted none = happened x past led

  -- nor is one in which a reason to give the view up is none that is first
  pub latched_tracked : (past : List (Item S D P G C)) (led : Option ℕ) (b : Bool) → b ≡ is_unlatched past → b ≡ false → IsTracked past led
  latched_tracked [] led b is isnt = absurd (cc (is, isnt))
  latched_tracked (x ∷ past) led b is isnt = happened x past led

  -- a round that is there stands where it should
  is_there : (key_of : S → ℕ → P) (s : Common S) (view : ℕ) (o : Option (Round S D P G C)) (l : Option ℕ) (h : List (Item S D P G C)) → IsSome o → IsRight key_of s view o l h
      → MatchOption o ⊥ (λ r. one.Keeps key_of (setup_of s view) r l h)
  is_there key_of s view None l h some right = absurd (cc some)
  is_there key_of s view (Some r) l h some right = right.1

module _ {S D P G C : Type 0} (key_of : S → ℕ → P) (s : Common S) (view : ℕ) (led : Option ℕ) (past : List (Item S D P G C)) where
  -- what is said of a round that may be read, or lent
  pub read-stands : (found : Option (Bor (Round S D P G C))) → IsRight key_of s view (option_copied found) led past
      → MatchOption found ((past ≡ []) × (led ≡ None)) (λ x. IsTracked past led × one.Keeps key_of (setup_of s view) x.now led past)
  read-stands None h = h
  read-stands (Some x) h = h

  pub known-stands : (found : Option (MutBor (Round S D P G C))) → IsRight key_of s view (option_copied_mut found) led past
      → MatchOption found ((past ≡ []) × (led ≡ None)) (λ x. IsTracked past led × one.Keeps key_of (setup_of s view) x.now led past)
  known-stands None h = h
  known-stands (Some x) h = h

module _ {S D P G C : Type 0} {key_of : S → ℕ → P} {s : Common S} {m : BTreeMap (Reverse ℕ) (Round S D P G C)} {led : ℕ → Option ℕ} {past : ℕ → List (Item S D P G C)} where
  -- an open round stands where its leader and its past say
  pub AreOpen-at : {view : ℕ} {round : Round S D P G C} → AreOpen key_of s m led past view → Some round ≡ stored m view → one.Keeps key_of (setup_of s view) round (led view) (past view)
  AreOpen-at k e = rw (sym e) at k.here

  -- so does the round of a view that has one, and something is known of it
  pub AreKept-at : {view : ℕ} {round : Round S D P G C} → AreKept key_of s m led past → view < 2 ^ 64 → Some round ≡ stored m view → one.Keeps key_of (setup_of s view) round (led view) (past view)
  AreKept-at {view} k fits e = (rw (sym e) at (k.at view fits)).1

  pub AreKept-tracked : (view : ℕ) {round : Round S D P G C} → AreKept key_of s m led past → view < 2 ^ 64 → Some round ≡ stored m view → IsTracked (past view) (led view)
  AreKept-tracked view k fits e = (rw (sym e) at (k.at view fits)).0

  -- the round of a view that has one is open
  pub AreOpen-there : (view : ℕ) → AreKept key_of s m led past → view < 2 ^ 64 → IsSome (stored m view) → AreOpen key_of s m led past view
  AreOpen-there view k fits there = record { here = is_there key_of s view (stored m view) (led view) (past view) there (k.at view fits); others = λ u small apart. k.at u small }

module _ {S D P G C : Type 0} {key_of : S → ℕ → P} {s : Common S} {m m' : BTreeMap (Reverse ℕ) (Round S D P G C)} {led : ℕ → Option ℕ} {past : ℕ → List (Item S D P G C)} where
  -- one round was changed, and what is known of the others is as it was
  pub AreKept-step : (led' : ℕ → Option ℕ) (past' : ℕ → List (Item S D P G C)) (view : ℕ) {round : Round S D P G C}
      → AreOpen key_of s m led past view → Stores m m' view (Some round) → one.Keeps key_of (setup_of s view) round (led' view) (past' view)
      → IsTracked (past' view) (led' view) → ((u : ℕ) → (view == u) ≡ false → (led' u ≡ led u) × (past' u ≡ past u)) → AreKept key_of s m' led' past'
  AreKept-step led' past' view k up here tracked others = record {
    at = λ u fits.
        ⊎_elim
        (λ e. rw (← e) (rw up.1 (tracked, here)))
        (λ ne.
        let apart : (view == u) ≡ false = grind (arith, common_steps) in
        let same = others u apart in
        rw (up.2 (as_key u) (grind (arith, common_steps)), same.0, same.1) (k.others u fits apart))
        (cases_eq view u);
  }

  -- a round was opened of which nothing is known
  pub AreOpen-new : (view : ℕ) {round : Round S D P G C}
      → AreKept key_of s m led past → view < 2 ^ 64 → stored m view ≡ None → Stores m m' view (Some round) → one.Keeps key_of (setup_of s view) round None []
      → AreOpen key_of s m' led past view
  AreOpen-new view k fits none up here =
      let untouched : (past view ≡ []) × (led view ≡ None) = rw none at (k.at view fits) in
      record {
        here = rw (up.1, untouched.1, untouched.0) here;
        others = λ u small apart. rw (up.2 (as_key u) (grind (arith, common_steps))) (k.at u small);
      }

-- a leader is known where one was named
pub is-named : (l : Option ℕ) (i : ℕ) → IsSome (option_or l (Some i))
is-named None i = refl
is-named (Some x) i = refl

-- what an option holds is one thing
abbrev held_by : ℕ → Option ℕ → ℕ
held_by least None = least
held_by least (Some x) = x

-- who is learnt to lead is a member
first_or : (size leader i : ℕ) → leader < size → (o : Option ℕ) → (o ≡ Some i → i < size) → option_or o (Some leader) ≡ Some i → i < size
first_or size leader i member None old new = let same : leader ≡ i = ap (held_by 0) new in omega (arith, same, member)
first_or size leader i member (Some x) old new = old new

pub learn-members : (size : ℕ) (led : ℕ → Option ℕ) (view leader : ℕ) → AreMembers size led → leader < size → AreMembers size (learn view leader led)
learn-members size led view leader members member u i fits is = ⊎_elim
    (λ e. let here : (view == u) ≡ true = grind (arith, common_steps) in first_or size leader i member (led view) (λ known. members u i fits (rw (← e) known)) (rw here at is))
    (λ ne. let apart : (view == u) ≡ false = grind (arith, common_steps) in members u i fits (rw apart at is))
    (cases_eq view u)
