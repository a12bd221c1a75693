-- No member has two accepted votes of a kind, and so what is asked about them can be looked up.
use Rattle.std.proofs.Common.{◌≡◌, ℕ, Bool, true, false, not, ◌&&◌, ◌||◌, ◌==◌, List, [], ◌∷◌, refl, ap, sym, ◌∙◌, arith}
use Rattle.std.specs.Prelude.{Option, None, Some, find, is_some, is_none, if◌then◌else◌, ⊤}
use Rattle.types_core.specs.Subject.{Statement}
use Rattle.types_core.specs.declared.proposal.Proposal.{Proposal}
use Rattle.simplex_messages.specs.declared.vote.Vote.{Vote}
use Rattle.simplex_messages.specs.declared.vote.Vote.TheVariants as vote
use Rattle.simplex_messages.specs.VoteParts.{vote_signer}
use Rattle.batcher_verifier.specs.Votes.{is_in_way, is_notarize_of, is_other_of}
use Rattle.batcher_verifier.specs.History.{History, accepted, Taken, Cast, Certified, Led, Judged, Forwarded, Setup}
use Rattle.batcher_verifier.specs.Lawful.{IsLawful}
use Rattle.simplex_batcher.specs.Queries.{passes, is_nullify, has_nullify, is_backing, is_missing_voter}

module _ {X : Type 0} where
  -- of these at most one passes
  abbrev pub IsSole : (X → Bool) → List X → Type 0
  IsSole p [] = ⊤
  IsSole p (x ∷ xs) = (p x ≡ true → find p xs ≡ None) × IsSole p xs

  -- whether one passes both tests, where at most one passes the first
  sole-found : (p r : X → Bool) (xs : List X) → IsSole p xs → is_some (find (λ x. p x && r x) xs) ≡ passes r (find p xs)
  sole-found p r [] sole = refl
  sole-found p r (x ∷ xs) sole = go (p x) sole.0 (sole-found p r xs sole.1)
    where
      here : (b : Bool) → find p xs ≡ None → is_some (find (λ y. p y && r y) xs) ≡ passes r (find p xs) → is_some (if b then Some x else find (λ y. p y && r y) xs) ≡ b
      here true e rest = refl
      here false e rest = rest ∙ rw e refl

      go : (b : Bool) → (b ≡ true → find p xs ≡ None) → is_some (find (λ y. p y && r y) xs) ≡ passes r (find p xs) → is_some (if b && r x then Some x else find (λ y. p y && r y) xs) ≡ passes r (if b then Some x else find p xs)
      go true alone rest = here (r x) (alone refl) rest
      go false alone rest = rest

  -- tests that answer alike find alike
  find-as : (p q : X → Bool) → ((x : X) → p x ≡ q x) → (xs : List X) → find p xs ≡ find q xs
  find-as p q alike [] = refl
  find-as p q alike (x ∷ xs) = rw (alike x, find-as p q alike xs) refl

  -- whether one passes this test or that
  found-either : (p q : X → Bool) (xs : List X) → is_some (find (λ x. p x || q x) xs) ≡ is_some (find p xs) || is_some (find q xs)
  found-either p q [] = refl
  found-either p q (x ∷ xs) = go (p x) (q x) (found-either p q xs)
    where
      or-true : (b : Bool) → true ≡ b || true
      or-true true = refl
      or-true false = refl

      go : (a b : Bool) → is_some (find (λ y. p y || q y) xs) ≡ is_some (find p xs) || is_some (find q xs) → is_some (if a || b then Some x else find (λ y. p y || q y) xs) ≡ is_some (if a then Some x else find p xs) || is_some (if b then Some x else find q xs)
      go true b rest = refl
      go false true rest = or-true (is_some (find p xs))
      go false false rest = rest

  none-not : (o : Option X) → is_none o ≡ not (is_some o)
  none-not None = refl
  none-not (Some x) = refl

module _ {S D P G C : Type 0} where
  notarize-of : (i : ℕ) (v u : Vote S D P G C) → is_notarize_of i v ≡ true → is_notarize_of i u ≡ is_in_way v u
  notarize-of i (vote.Notarize v) u e = let one : v.attestation.signer ≡ i = grind (arith, e) in rw one refl
  notarize-of i (vote.Nullify v) u e = absurd (cc e)
  notarize-of i (vote.Finalize v) u e = absurd (cc e)

  other-of : (i : ℕ) (v u : Vote S D P G C) → is_other_of i v ≡ true → is_other_of i u ≡ is_in_way v u
  other-of i (vote.Notarize v) u e = absurd (cc e)
  other-of i (vote.Nullify v) u e = let one : v.attestation.signer ≡ i = grind (arith, e) in rw one refl
  other-of i (vote.Finalize v) u e = let one : v.attestation.signer ≡ i = grind (arith, e) in rw one refl

  module _ (same : D → D → Bool) (attests : S → ℕ → Statement D → G → Type 0) (s : Setup S) where
    -- votes that stand in each other's way were not both accepted
    sole : (p : Vote S D P G C → Bool) → ((v u : Vote S D P G C) → p v ≡ true → p u ≡ is_in_way v u) → (h : History S D P G C) → IsLawful same attests s h → IsSole p (accepted h)
    sole p alike [] lawful = tt
    sole p alike (Taken v ∷ h) lawful = (λ e. find-as p (is_in_way v) (λ u. alike v u e) (accepted h) ∙ lawful.0.free, sole p alike h lawful.1)
    sole p alike (Cast v ∷ h) lawful = (λ e. find-as p (is_in_way v) (λ u. alike v u e) (accepted h) ∙ lawful.0.0.free, sole p alike h lawful.1)
    sole p alike (Certified c ∷ h) lawful = sole p alike h lawful.1
    sole p alike (Led i ∷ h) lawful = sole p alike h lawful.1
    sole p alike (Judged k failing ∷ h) lawful = sole p alike h lawful.1
    sole p alike (Forwarded ∷ h) lawful = sole p alike h lawful.1

    -- whether a member's nullify was accepted is told by its nullify or finalize
    pub nullify-found : (h : History S D P G C) (i : ℕ) → IsLawful same attests s h → passes is_nullify (find (is_other_of i) (accepted h)) ≡ has_nullify h i
    nullify-found h i lawful =
        sym (sole-found (is_other_of i) is_nullify (accepted h) (sole (is_other_of i) (other-of i) h lawful))
        ∙ ap is_some (find-as (λ v. is_other_of i v && is_nullify v) (λ v. (vote_signer v == i) && is_nullify v) both (accepted h))
      where
        both : (v : Vote S D P G C) → is_other_of i v && is_nullify v ≡ (vote_signer v == i) && is_nullify v
        both (vote.Notarize v) = grind arith
        both (vote.Nullify v) = refl
        both (vote.Finalize v) = refl

    -- whether a member voted for a proposal is told by its notarize, and its nullify or finalize
    pub missing-found : (h : History S D P G C) (p : Proposal D) (i : ℕ) → IsLawful same attests s h
        → not (passes (is_backing same p) (find (is_notarize_of i) (accepted h)) || passes (is_backing same p) (find (is_other_of i) (accepted h))) ≡ is_missing_voter same h p i
    missing-found h p i lawful =
        let first = sole-found (is_notarize_of i) (is_backing same p) (accepted h) (sole (is_notarize_of i) (notarize-of i) h lawful) in
        let second = sole-found (is_other_of i) (is_backing same p) (accepted h) (sole (is_other_of i) (other-of i) h lawful) in
        let found = find-as (λ v. (vote_signer v == i) && is_backing same p v) (λ v. (is_notarize_of i v && is_backing same p v) || (is_other_of i v && is_backing same p v)) either (accepted h) in
        sym (none-not (find (λ v. (vote_signer v == i) && is_backing same p v) (accepted h))
        ∙ ap not (ap is_some found ∙ found-either (λ v. is_notarize_of i v && is_backing same p v) (λ v. is_other_of i v && is_backing same p v) (accepted h) ∙ rw (first, second) refl))
      where
        either : (v : Vote S D P G C) → (vote_signer v == i) && is_backing same p v ≡ (is_notarize_of i v && is_backing same p v) || (is_other_of i v && is_backing same p v)
        either (vote.Notarize v) = grind arith
        either (vote.Nullify v) = grind arith
        either (vote.Finalize v) = grind arith
