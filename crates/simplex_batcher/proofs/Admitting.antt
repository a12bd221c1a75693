-- What is accepted is not blocked.
use Rattle.std.proofs.Common.{◌≡◌, ◌<◌, inl, inr, ℕ, zero, Bool, true, false, ◌==◌, ◌&&◌, List, [], ◌∷◌, arith, refl, nat_lt}
use Rattle.std.specs.Prelude.{Option, None, Some, IfSome, MatchOption, is_none, is_some, find, if◌then◌else◌}
use Rattle.std.specs.List.{Contains}
use Rattle.std.specs.Option.{option_and_then}
use Rattle.std.proofs.lemmas.List.Elements.{Contains-append_right}
use Rattle.types_core.specs.declared.proposal.Proposal.{Proposal}
use Rattle.simplex_messages.specs.declared.vote.Vote.{Vote}
use Rattle.simplex_messages.specs.declared.vote.Vote.TheVariants as vote
use Rattle.simplex_messages.specs.VoteParts.{vote_signer, vote_round}
use Rattle.batcher_verifier.specs.History.{History, Setup, accepted, takes, recorded, is_kept_in_full, forwardable, has_forwarded}
use Rattle.batcher_verifier.specs.Lawful.{IsNew}
use Rattle.batcher_admission.specs.Evidence.{evidence}
use Rattle.batcher_admission.specs.Blocking.{Offends}
use Rattle.simplex_batcher.specs.Admission.{IsBlocked, contradicts, AgreesWithOwn}
use Rattle.batcher_verifier.specs.Votes.{is_in_way, vote_kind}

-- nothing is there
pub none-there : {X : Type 0} (P : X → Type 0) (o : Option X) → is_none o ≡ true → MatchOption o ⊥ P → ⊥
none-there P None e here = here
none-there P (Some x) e here = absurd (cc e)

pub nothing : {X : Type 0} (o : Option X) → is_none o ≡ true → o ≡ None
nothing None e = refl
nothing (Some x) e = absurd (cc e)

-- what is said of one that is there, of this one
pub some-at : {B : Type 0} (P : B → Type 0) (made : Option B) (b : B) → IfSome made P → made ≡ Some b → P b
some-at P made b all e = rw e at all

-- three tests that all passed
all-three : (a b c : Bool) → a && (b && c) ≡ true → (a ≡ true) × (b ≡ true) × (c ≡ true)
all-three true true true e = (refl, refl, refl)
all-three true true false e = absurd (cc e)
all-three true false c e = absurd (cc e)
all-three false b c e = absurd (cc e)

module _ {S D P G C : Type 0} where
  pub taken-not-blocked : (s : Setup S) (h : History S D P G C) (sender : ℕ) (v : Vote S D P G C) → takes s h sender v ≡ true → IsBlocked s h sender v → ⊥
  taken-not-blocked s h sender v taken (inl differs) = differs (grind (arith, (all-three (sender == vote_signer v) (nat_lt sender s.members) (is_none (recorded h v)) taken).0))
  taken-not-blocked s h sender v taken (inr b) = none-there (λ u. Offends (is_kept_in_full s (vote_kind u) h) u v) (recorded h v) (all-three (sender == vote_signer v) (nat_lt sender s.members) (is_none (recorded h v)) taken).2 b.2

  -- what is accepted is a member's
  pub taken-member : (s : Setup S) (h : History S D P G C) (sender : ℕ) (v : Vote S D P G C) → takes s h sender v ≡ true → vote_signer v < s.members
  taken-member s h sender v taken =
      let all = all-three (sender == vote_signer v) (nat_lt sender s.members) (is_none (recorded h v)) taken in
      grind (arith, all.0, all.1)

  -- what is accepted is new
  pub taken-new : (s : Setup S) (h : History S D P G C) (sender : ℕ) (v : Vote S D P G C) → takes s h sender v ≡ true → vote_round v ≡ s.round → IsNew s h v
  taken-new s h sender v taken ours = record { ours = ours; free = nothing (recorded h v) (all-three (sender == vote_signer v) (nat_lt sender s.members) (is_none (recorded h v)) taken).2 }

  -- a vote that nothing stands in the way of is new
  pub free-new : (s : Setup S) (h : History S D P G C) (v : Vote S D P G C) → recorded h v ≡ None → vote_round v ≡ s.round → IsNew s h v
  free-new s h v free ours = record { ours = ours; free = free }

-- what is found is there, and passes
pub found-there : {X : Type 0} (p : X → Bool) (xs : List X) (x : X) → find p xs ≡ Some x → Contains xs x × (p x ≡ true)
found-there p [] x e = absurd (cc e)
found-there p (y ∷ ys) x e = go (p y) refl e (found-there p ys x)
  where
    go : (b : Bool) → p y ≡ b → (if b then Some y else find p ys) ≡ Some x → (find p ys ≡ Some x → Contains ys x × (p x ≡ true)) → Contains (y ∷ ys) x × (p x ≡ true)
    go true is e rest = let one : y ≡ x = cc e in ((zero, omega arith, one), rw (← one) is)
    go false is e rest = let there = rest e in (Contains-append_right (y ∷ []) ys x there.0, there.1)

module _ {S D P G C : Type 0} where
  -- a vote that stands in the way is of the same signer
  signer-in-way : (v u : Vote S D P G C) → is_in_way v u ≡ true → vote_signer u ≡ vote_signer v
  signer-in-way (vote.Notarize v) (vote.Notarize u) e = grind (arith, e)
  signer-in-way (vote.Notarize v) (vote.Nullify u) e = absurd (cc e)
  signer-in-way (vote.Notarize v) (vote.Finalize u) e = absurd (cc e)
  signer-in-way (vote.Nullify v) (vote.Notarize u) e = absurd (cc e)
  signer-in-way (vote.Nullify v) (vote.Nullify u) e = grind (arith, e)
  signer-in-way (vote.Nullify v) (vote.Finalize u) e = grind (arith, e)
  signer-in-way (vote.Finalize v) (vote.Notarize u) e = absurd (cc e)
  signer-in-way (vote.Finalize v) (vote.Nullify u) e = grind (arith, e)
  signer-in-way (vote.Finalize v) (vote.Finalize u) e = grind (arith, e)

  -- a vote that agrees with the own ones contradicts no accepted one
  pub own-agrees : (same : D → D → Bool) (h : History S D P G C) (v : Vote S D P G C) → AgreesWithOwn same h v → contradicts same h v ≡ false
  own-agrees same h v own = go (recorded h v) refl
    where
      go : (o : Option (Vote S D P G C)) → recorded h v ≡ o → is_some (option_and_then (λ u. evidence same u v) o) ≡ false
      go None e = refl
      go (Some u) e =
          let there = found-there (is_in_way v) (accepted h) u e in
          let one = signer-in-way v u there.1 in
          rw (own.agrees u (own.own_alone u there.0 one) one) refl

-- what is to be forwarded was not forwarded
pub not-yet : {S D P G C : Type 0} (h : History S D P G C) (me : ℕ) (p : Proposal D) → forwardable h me ≡ Some p → has_forwarded h ≡ false
not-yet h me p e = go (has_forwarded h) refl
  where
    go : (b : Bool) → has_forwarded h ≡ b → has_forwarded h ≡ false
    go false is = is
    go true is = let none : forwardable h me ≡ None = rw is refl in absurd (cc (e, none))
