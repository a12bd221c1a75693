use Rattle.std.proofs.Common.{◌≡◌, ◌∙◌, ◌++◌, ◌∷◌, ◌+◌, [], ℕ, zero, suc, Bool, true, false, List, ap, refl, sym, arith, filter, append-nil}
use Rattle.std.specs.Prelude.{if◌then◌else◌}
use Rattle.std.specs.List.{range_with_len}
use Rattle.std.proofs.lemmas.List.Elements.{filter-append}
use Rattle.simplex_batcher.specs.Queries.{is_missing_voter}
use Rattle.simplex_batcher.proofs.round.Round.missing_voters.Goals as goal
use Rattle.simplex_batcher.proofs.round.Round.missing_voters.Goals.{then-is_missing_voter+in_ok-push, else-is_missing_voter}

-- one more number
range-more : (a n : ℕ) → range_with_len a (suc n) ≡ range_with_len a n ++ (a + n) ∷ []
range-more a zero = let e : a ≡ a + 0 = omega arith in ap (λ (i : ℕ). i ∷ []) e
range-more a (suc n) = let e : (a + 1) + n ≡ a + suc n = omega arith in ap (λ (l : List ℕ). a ∷ l) (range-more (a + 1) n ∙ rw e refl)

-- of one more number those that pass
pick-more : (p : ℕ → Bool) (n : ℕ) → filter p (range_with_len 0 (n + 1)) ≡ filter p (range_with_len 0 n) ++ (if p n then n ∷ [] else [])
pick-more p n =
    let one : n + 1 ≡ suc n = omega arith in
    let last : 0 + n ≡ n = omega arith in
    rw one (ap (filter p) (range-more 0 n ∙ rw last refl) ∙ filter-append p (range_with_len 0 n) (n ∷ []))

pub loop-index-preserved : goal.loop-index-preserved
loop-index-preserved g c = λ s h k.
    let p = is_missing_voter g.D.PartialEq.eq h c.args.proposal.now in
    let i = c.loop-index.index in
    let here : c.is_missing_voter.result ≡ p i = rw c.new-signer.ensures at (c.is_missing_voter.ensures s h k) in
    elim c.if-is_missing_voter.branch [
      | then-is_missing_voter+in_ok-push w ↦
          let missing : p i ≡ true = sym here ∙ w.if-is_missing_voter.true in
          rw (w.missing-is, w.in_ok-push.ensures.items, c.loop-index.invariant s h k, pick-more p i, missing, c.new-signer.ensures) refl
      | else-is_missing_voter w ↦
          let there : p i ≡ false = sym here ∙ w.if-is_missing_voter.false in
          rw (w.missing-is, c.loop-index.invariant s h k, pick-more p i, there) (sym (append-nil (filter p (range_with_len 0 i))))
    ]
