-- Votes that were judged were judged rightly.
use Rattle.std.proofs.Common.{◌≡◌, inl, inr, ℕ, zero, suc, Bool, true, false, ◌||◌, ◌==◌, List, [], ◌∷◌, ◌++◌, refl, ap, sym, ◌∙◌, arith, map}
use Rattle.std.specs.Prelude.{Some}
use Rattle.std.specs.List.{All, AllPairs, Contains}
use Rattle.std.proofs.lemmas.Bool.{eqb-true}
use Rattle.std.proofs.lemmas.List.Elements.{All-contains, Contains-append_right}
use Rattle.types_core.specs.declared.attestation.Attestation.{Attestation}
use Rattle.types_core.specs.Subject.{Statement}
use Rattle.types_core.specs.Batching.{AreFailing, FailsIn}
use Rattle.simplex_messages.specs.declared.vote.Vote.{Vote}
use Rattle.simplex_messages.specs.declared.vote.Vote.TheVariants as vote
use Rattle.simplex_messages.specs.VoteParts.{vote_signer}
use Rattle.types_terms.specs.declared.kind.Kind.{Kind}
use Rattle.batcher_assembly.specs.Judging.{is_among}
use Rattle.batcher_verifier.specs.Votes.{vote_statement, vote_attestation}
use Rattle.batcher_verifier.specs.History.{History, Setup, context, waiting, verified}
use Rattle.batcher_verifier.specs.Lawful.{VoteAttests, IsRight, IsConsistent}
use Rattle.batcher_assembly.specs.Fewer.{among-not}
use Rattle.batcher_verifier.proofs.Lawfully.{AreApart, counted-apart}

-- what is among the signers is in their list
among-yes : (signers : List ℕ) (i : ℕ) → is_among signers i ≡ true → Contains signers i
among-yes [] i e = absurd (cc e)
among-yes (j ∷ others) i e = go (j == i) refl e (among-yes others i)
  where
    go : (b : Bool) → (j == i) ≡ b → (b || is_among others i) ≡ true → (is_among others i ≡ true → Contains others i) → Contains (j ∷ others) i
    go true one e rest = (zero, omega arith, eqb-true j i one)
    go false other e rest = Contains-append_right (j ∷ []) others i (rest e)

module _ {X Y : Type 0} (f : X → Y) where
  map-there : (xs : List X) (x : X) → Contains xs x → Contains (map f xs) (f x)
  map-there [] x (k, l, e) = absurd (omega arith)
  map-there (y ∷ ys) x (zero, l, e) = (zero, omega arith, ap f e)
  map-there (y ∷ ys) x (suc k, l, e) = Contains-append_right (f y ∷ []) (map f ys) (f x) (map-there ys x (k, omega arith, e))

  pub map-from : (xs : List X) (y : Y) → Contains (map f xs) y → (x : X) × Contains xs x × (f x ≡ y)
  map-from [] y (k, l, e) = absurd (omega arith)
  map-from (x ∷ xs) y (zero, l, e) = (x, (zero, omega arith, refl), e)
  map-from (x ∷ xs) y (suc k, l, e) = let rest = map-from xs y (k, omega arith, e) in (rest.0, Contains-append_right (x ∷ []) xs rest.0 rest.1, rest.2)

module _ {S D P G C : Type 0} where
  -- votes of distinct signers, of which two have one signer, are one
  one-vote : (votes : List (Vote S D P G C)) (u v : Vote S D P G C) → AllPairs AreApart votes → Contains votes u → Contains votes v → vote_signer u ≡ vote_signer v → u ≡ v
  one-vote [] u v pairs (k, l, e) there same = absurd (omega arith)
  one-vote (x ∷ xs) u v pairs (zero, l, e) (zero, m, f) same = sym e ∙ f
  one-vote (x ∷ xs) u v pairs (zero, l, e) (suc k, m, f) same =
      let first : All (AreApart x) xs = λ k d l. pairs zero (suc k) d (omega arith) (omega arith) in
      absurd (All-contains (AreApart x) xs v first (k, omega arith, f) (ap vote_signer e ∙ same))
  one-vote (x ∷ xs) u v pairs (suc k, l, e) (zero, m, f) same =
      let first : All (AreApart x) xs = λ k d l. pairs zero (suc k) d (omega arith) (omega arith) in
      absurd (All-contains (AreApart x) xs u first (k, omega arith, e) (ap vote_signer f ∙ sym same))
  one-vote (x ∷ xs) u v pairs (suc j, l, e) (suc k, m, f) same =
      one-vote xs u v (λ i j d l m. pairs (suc i) (suc j) d (omega arith) (omega arith)) (j, omega arith, e) (k, omega arith, f) same

  pub signer-of : (v : Vote S D P G C) → (vote_attestation v).signer ≡ vote_signer v
  signer-of (vote.Notarize v) = refl
  signer-of (vote.Nullify v) = refl
  signer-of (vote.Finalize v) = refl

  module _ (same : D → D → Bool) (attests : S → ℕ → Statement D → G → Type 0) (s : Setup S) (kind : Kind) (h : History S D P G C) (lawful : IsConsistent same attests s h) where
    apart-waiting : AllPairs AreApart (waiting same s kind h)
    apart-waiting = tail (verified same s kind h) (waiting same s kind h) (counted-apart same attests s kind h lawful)
      where
        tail : (xs ys : List (Vote S D P G C)) → AllPairs AreApart (xs ++ ys) → AllPairs AreApart ys
        tail [] ys pairs = pairs
        tail (x ∷ xs) ys pairs = tail xs ys (λ i j d l m. pairs (suc i) (suc j) d (omega arith) (omega arith))

    attests-as : (x : Statement D) (v : Vote S D P G C) → vote_statement v ≡ x → attests s.scheme (vote_attestation v).signer x (vote_attestation v).signature → VoteAttests attests s v
    attests-as x v e a = rw (← signer-of v, e) a

    as-attests : (x : Statement D) (v : Vote S D P G C) → vote_statement v ≡ x → VoteAttests attests s v → attests s.scheme (vote_attestation v).signer x (vote_attestation v).signature
    as-attests x v e a = rw (signer-of v, ← e) a

    -- the verdict on attestations is right of the votes
    pub judged-right : (x : Statement D) (failing : List ℕ) → context s kind h ≡ Some x → All (λ v. vote_statement v ≡ x) (waiting same s kind h) → AreFailing (λ i a. attests s.scheme i x a) (map vote_attestation (waiting same s kind h)) failing → IsRight same attests s h kind failing
    judged-right x failing on says are = record {
      known = rw on refl;
      others_attest = λ v there out. elim (are.others_attest (vote_attestation v) (map-there vote_attestation (waiting same s kind h) v there)) [
        | inl good ↦ attests-as x v (All-contains (λ v. vote_statement v ≡ x) (waiting same s kind h) v says there) good
        | inr listed ↦ absurd (among-not failing (vote_signer v) out (rw (signer-of v) at listed))
      ];
      each_fails = λ v there good. go v there good (is_among failing (vote_signer v)) refl;
    }
      where
        go : (v : Vote S D P G C) → Contains (waiting same s kind h) v → VoteAttests attests s v → (b : Bool) → is_among failing (vote_signer v) ≡ b → is_among failing (vote_signer v) ≡ false
        go v there good false e = e
        go v there good true e =
            let bad = All-contains (FailsIn (λ i a. attests s.scheme i x a) (map vote_attestation (waiting same s kind h))) failing (vote_signer v) are.each_fails (among-yes failing (vote_signer v) e) in
            let from = map-from vote_attestation (waiting same s kind h) bad.failing bad.is_there in
            let one : from.0 ≡ v = one-vote (waiting same s kind h) from.0 v apart-waiting from.1 there (sym (signer-of from.0) ∙ ap (λ (a : Attestation G). a.signer) from.2 ∙ bad.signer_is) in
            let its : vote_attestation v ≡ bad.failing = ap vote_attestation (sym one) ∙ from.2 in
            absurd (bad.fails (rw its at (as-attests x v (All-contains (λ v. vote_statement v ≡ x) (waiting same s kind h) v says there) good)))
