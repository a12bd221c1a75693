-- Votes of one kind that are for one thing are so in each order, and whose vote is found.
use Rattle.std.proofs.Common.{◌≡◌, ◌==◌, ◌<◌, ◌≤◌, ℕ, Bool, true, false, not, cond, List, [], ◌∷◌, get_or, inl, inr, refl, sym, ◌∙◌, arith}
use Rattle.std.specs.Prelude.{Option, None, Some, MatchOption, find, is_none, IsTrue, ◌↔◌}
use Rattle.std.specs.List.{All, Contains}
use Rattle.std.proofs.lemmas.Bool.{cases_lt}
use Rattle.std.specs.List.Sorted.{IsPermutation}
use Rattle.std.proofs.lemmas.List.Elements.{All-nil, All-cons, All-head, All-tail, All-contains}
use Rattle.std.proofs.lemmas.List.Sorted.{IsPermutation-sym, All-permutation, Contains-permutation, length_permutation}
use Rattle.types_core.specs.declared.proposal.Proposal.{Proposal}
use Rattle.simplex_messages.specs.declared.vote.Vote.{Vote}
use Rattle.simplex_messages.specs.declared.vote.Vote.TheVariants as vote
use Rattle.simplex_messages.specs.VoteParts.{vote_signer}
use Rattle.types_terms.specs.declared.kind.Kind.{Kind}
use Rattle.batcher_rows.specs.declared.rows.Rows.{Rows}
use Rattle.batcher_verifier.specs.Votes.{is_kind, is_of, is_proposal, vote_kind, vote_proposal}
use Rattle.batcher_verifier.specs.History.{is_candidate, are_one}
use Rattle.batcher_rows.specs.Rows.{head_of, members_of, newest_of, AreNewest}
use Rattle.batcher_rows.specs.Permutations.{empty-permutation}
use Rattle.batcher_rows.specs.Kinds.{one-kind}
use Rattle.batcher_verifier.proofs.Stating.{one-proposal}

itself : (i : ℕ) → (i == i) ≡ true
itself i = grind arith

one-truth : (a b : Bool) → (a ≡ true → b ≡ true) → (b ≡ true → a ≡ true) → a ≡ b
one-truth true b f g = sym (f refl)
one-truth false true f g = g refl
one-truth false false f g = refl

-- none is found that fails, where all pass
none-fails : {X : Type 0} (p : X → Bool) (xs : List X) → All (λ x. p x ≡ true) xs → is_none (find (λ x. not (p x)) xs) ≡ true
none-fails p [] all = refl
none-fails p (x ∷ xs) all = let here : p x ≡ true = All-head (λ y. p y ≡ true) x xs all in rw here (none-fails p xs (All-tail (λ y. p y ≡ true) x xs all))

all-pass : {X : Type 0} (p : X → Bool) (xs : List X) → is_none (find (λ x. not (p x)) xs) ≡ true → All (λ x. p x ≡ true) xs
all-pass p [] none = All-nil (λ x. p x ≡ true)
all-pass p (x ∷ xs) none = go (p x) refl none (all-pass p xs)
  where
    go : (b : Bool) → p x ≡ b → is_none (cond (not b) (Some x) (find (λ y. not (p y)) xs)) ≡ true → (is_none (find (λ y. not (p y)) xs) ≡ true → All (λ y. p y ≡ true) xs) → All (λ y. p y ≡ true) (x ∷ xs)
    go true e none later = All-cons (λ y. p y ≡ true) x xs e (later none)
    go false e none later = absurd (cc none)

module _ {D : Type 0} (same : D → D → Bool) (law : (x y : D) → IsTrue (same x y) ↔ (x ≡ y)) where
  proposal-itself : (p : Proposal D) → is_proposal same p p ≡ true
  proposal-itself p = rw (itself p.round.epoch, itself p.round.view, itself p.parent, (law p.payload p.payload).1 refl) refl

module _ {S D P G C : Type 0} (same : D → D → Bool) (law : (x y : D) → IsTrue (same x y) ↔ (x ≡ y)) where
  -- votes for what one vote is for are for what each of them is for
  through : (kind : Kind) (x u v : Vote S D P G C) → is_kind kind (vote_kind x) ≡ true → is_kind kind (vote_kind u) ≡ true → is_kind kind (vote_kind v) ≡ true
      → is_candidate same (vote_proposal x) u ≡ true → is_candidate same (vote_proposal x) v ≡ true → is_candidate same (vote_proposal u) v ≡ true
  through kind x (vote.Nullify u) v i j k a b = refl
  through kind x (vote.Notarize u) (vote.Nullify v) i j k a b = refl
  through kind x (vote.Finalize u) (vote.Nullify v) i j k a b = refl
  through kind (vote.Notarize x) (vote.Notarize u) (vote.Notarize v) i j k a b =
      let one = one-proposal same law u.proposal x.proposal a in
      let two = one-proposal same law v.proposal x.proposal b in
      rw (one, two) (proposal-itself same law x.proposal)
  through kind (vote.Finalize x) (vote.Finalize u) (vote.Finalize v) i j k a b =
      let one = one-proposal same law u.proposal x.proposal a in
      let two = one-proposal same law v.proposal x.proposal b in
      rw (one, two) (proposal-itself same law x.proposal)
  through kind (vote.Nullify x) (vote.Notarize u) v i j k a b = absurd (cc (one-kind kind (vote_kind (vote.Nullify x)) (vote_kind (vote.Notarize u)) i, j))
  through kind (vote.Finalize x) (vote.Notarize u) v i j k a b = absurd (cc (one-kind kind (vote_kind (vote.Finalize x)) (vote_kind (vote.Notarize u)) i, j))
  through kind (vote.Nullify x) (vote.Finalize u) v i j k a b = absurd (cc (one-kind kind (vote_kind (vote.Nullify x)) (vote_kind (vote.Finalize u)) i, j))
  through kind (vote.Notarize x) (vote.Finalize u) v i j k a b = absurd (cc (one-kind kind (vote_kind (vote.Notarize x)) (vote_kind (vote.Finalize u)) i, j))
  through kind (vote.Notarize x) (vote.Notarize u) (vote.Finalize v) i j k a b = absurd (cc (one-kind kind (vote_kind (vote.Notarize u)) (vote_kind (vote.Finalize v)) j, k))
  through kind (vote.Finalize x) (vote.Finalize u) (vote.Notarize v) i j k a b = absurd (cc (one-kind kind (vote_kind (vote.Finalize u)) (vote_kind (vote.Notarize v)) j, k))

  -- a vote is for what it is for
  for-itself : (v : Vote S D P G C) → is_candidate same (vote_proposal v) v ≡ true
  for-itself (vote.Notarize v) = proposal-itself same law v.proposal
  for-itself (vote.Nullify v) = refl
  for-itself (vote.Finalize v) = proposal-itself same law v.proposal

  -- all are for what this one is for
  abbrev AreFor : Vote S D P G C → List (Vote S D P G C) → Type 0
  AreFor u votes = All (λ v. is_candidate same (vote_proposal u) v ≡ true) votes

  for-each : (kind : Kind) (votes : List (Vote S D P G C)) (x u : Vote S D P G C) → All (λ v. is_kind kind (vote_kind v) ≡ true) votes → Contains votes x → Contains votes u → AreFor x votes → AreFor u votes
  for-each kind votes x u mine here there all = λ k d l.
      through kind x u (get_or votes k d) (All-contains (λ v. is_kind kind (vote_kind v) ≡ true) votes x mine here) (All-contains (λ v. is_kind kind (vote_kind v) ≡ true) votes u mine there) (mine k d l)
      (All-contains (λ v. is_candidate same (vote_proposal x) v ≡ true) votes u all there) (all k d l)

  -- whether votes of a kind are for one thing is told in each order
  pub one-order : (kind : Kind) (votes others : List (Vote S D P G C)) (r : Bool) → IsPermutation votes others → All (λ v. is_kind kind (vote_kind v) ≡ true) votes
      → MatchOption (head_of others) (r ≡ true) (λ first. IsTrue r ↔ AreFor first others) → r ≡ are_one same votes
  one-order kind [] others r moved mine told = rw (empty-permutation others moved) at told
  one-order kind (x ∷ votes) [] r moved mine told = absurd (omega (arith, length_permutation (x ∷ votes) [] moved))
  one-order kind (x ∷ votes) (f ∷ others) r moved mine told =
      let back = IsPermutation-sym (x ∷ votes) (f ∷ others) moved in
      let first : Contains (x ∷ votes) f = Contains-permutation (f ∷ others) (x ∷ votes) f back (0, omega arith, refl) in
      let head : Contains (x ∷ votes) x = (0, omega arith, refl) in
      one-truth r (are_one same (x ∷ votes))
      (λ yes_.
      let all = All-permutation (λ v. is_candidate same (vote_proposal f) v ≡ true) (f ∷ others) (x ∷ votes) back (told.0 yes_) in
      none-fails (is_candidate same (vote_proposal x)) votes (All-tail (λ v. is_candidate same (vote_proposal x) v ≡ true) x votes (for-each kind (x ∷ votes) f x mine first head all)))
      (λ yes_.
      let all = All-cons (λ v. is_candidate same (vote_proposal x) v ≡ true) x votes (for-itself x) (all-pass (is_candidate same (vote_proposal x)) votes yes_) in
      told.1 (All-permutation (λ v. is_candidate same (vote_proposal f) v ≡ true) (x ∷ votes) (f ∷ others) moved (for-each kind (x ∷ votes) x f mine head first all)))

module _ {S D P G C : Type 0} where
  -- a vote of a place is of its signer
  of-signer : (side : Bool) (i : ℕ) (v : Vote S D P G C) → is_of side i v ≡ true → vote_signer v ≡ i
  of-signer true i (vote.Notarize v) e = grind (arith, e)
  of-signer true i (vote.Nullify v) e = absurd (cc e)
  of-signer true i (vote.Finalize v) e = absurd (cc e)
  of-signer false i (vote.Notarize v) e = absurd (cc e)
  of-signer false i (vote.Nullify v) e = grind (arith, e)
  of-signer false i (vote.Finalize v) e = grind (arith, e)

  -- where members alone voted, nobody else's vote is found
  none-beyond : (side : Bool) (i n : ℕ) (votes : List (Vote S D P G C)) → n ≤ i → All (λ v. vote_signer v < n) votes → None ≡ find (is_of side i) votes
  none-beyond side i n [] l all = refl
  none-beyond side i n (v ∷ votes) l all = go (is_of side i v) refl (none-beyond side i n votes l (All-tail (λ u. vote_signer u < n) v votes all))
    where
      go : (b : Bool) → is_of side i v ≡ b → None ≡ find (is_of side i) votes → None ≡ cond b (Some v) (find (is_of side i) votes)
      go true e rest = absurd (omega (arith, of-signer side i v e, All-head (λ u. vote_signer u < n) v votes all, l))
      go false e rest = rest

  -- a signer's newest vote is found, where members alone voted
  pub newest-found : (rows : Rows S D P G C) (members : ℕ) (votes : List (Vote S D P G C)) (side : Bool) (i : ℕ) (o : Option (Vote S D P G C)) → AreNewest rows members votes → All (λ v. vote_signer v < members) votes
      → (i < members_of rows → o ≡ newest_of side rows i) → (members_of rows ≤ i → o ≡ None) → o ≡ find (is_of side i) votes
  newest-found rows members votes side i o k all member stranger = elim (cases_lt i (members_of rows)) [
    | inl low ↦ member low ∙ k.newest side i (omega (arith, low, k.members_are))
    | inr high ↦ stranger high ∙ none-beyond side i members votes (omega (arith, high, k.members_are)) all
  ]
