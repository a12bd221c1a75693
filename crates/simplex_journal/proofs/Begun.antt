-- An empty disk gets a closed gate, also one that was emptied first.
use Rattle.std.proofs.Common.{◌≡◌, inl, ℕ, List, [], ◌∷◌, length, get_or, take, refl, sym, ◌∙◌, ap, subst, arith}
use Rattle.journal_single.specs.Disk.{Call, Wrote, CutTo, Synced, MayLeave, LeavesOnly, IsOverwritten}
use Rattle.journal_single.specs.Record.{IsFixed}
use Rattle.journal_single.specs.Lists.{kept_take}
use Rattle.journal_single.specs.Moments.{started, goes_on}
use Rattle.journal_single.specs.Images.{only_synced, fixed_only}
use Rattle.simplex_journal.specs.Steps.{IsClosed, IsBeingBegun, IsBeingCleared}

pub fixed_by : (seen1 seen2 : List ℕ) (calls1 calls2 : List Call) → calls2 ≡ Synced seen1 ∷ calls1 → seen2 ≡ seen1 → IsFixed seen2 calls2
fixed_by seen1 seen2 calls1 calls2 is same = record { earlier = calls1; is = is ∙ ap (λ (l : List ℕ). Synced l ∷ calls1) (sym same) }

-- the gate comes
gate_there : (seen0 seen1 : List ℕ) → seen0 ≡ [] → IsOverwritten seen0 0 (0 ∷ []) seen1 → seen1 ≡ 0 ∷ []
gate_there seen0 seen1 none holds = subst (λ (l : List ℕ). IsOverwritten l 0 (0 ∷ []) seen1) none holds

pub gate_rests : (seen0 seen1 seen2 : List ℕ) (calls1 calls2 : List Call) → seen0 ≡ [] → IsOverwritten seen0 0 (0 ∷ []) seen1 → calls2 ≡ Synced seen1 ∷ calls1 → seen2 ≡ seen1 → IsClosed [] seen2 calls2 0
gate_rests seen0 seen1 seen2 calls1 calls2 none holds is same = record { gate_is = refl; seen_is = same ∙ gate_there seen0 seen1 none holds; fixed = fixed_by seen1 seen2 calls1 calls2 is same }

module _ {seen0 : List ℕ} {calls0 : List Call} (x : IsFixed seen0 calls0) (none : seen0 ≡ []) where
  pub gate_begun : LeavesOnly calls0 calls0 IsBeingBegun
  gate_begun = started calls0 IsBeingBegun (λ image left. omega (arith, ap length (fixed_only x image left), ap length none))

  pub gate_writing : (calls1 : List Call) → calls1 ≡ Wrote 0 1 ∷ calls0 → LeavesOnly calls0 calls1 IsBeingBegun
  gate_writing calls1 is = goes_on gate_begun (Wrote 0 1) is (λ image left.
      let here : MayLeave (Wrote 0 1 ∷ Synced [] ∷ x.earlier) image = subst (λ (l : List Call). MayLeave (Wrote 0 1 ∷ l) image) (x.is ∙ ap (λ (l : List ℕ). Synced l ∷ x.earlier) none) left in
      omega (arith, here.no_longer))

  pub gate_written : (seen1 : List ℕ) (calls1 calls2 : List Call) → IsOverwritten seen0 0 (0 ∷ []) seen1 → calls1 ≡ Wrote 0 1 ∷ calls0 → calls2 ≡ Synced seen1 ∷ calls1 → LeavesOnly calls0 calls2 IsBeingBegun
  gate_written seen1 calls1 calls2 holds is1 is2 = goes_on (gate_writing calls1 is1) (Synced seen1) is2 (λ image left.
      omega (arith, ap length (only_synced seen1 calls1 image left), ap length (gate_there seen0 seen1 none holds)))

-- what was there goes
module _ {seen0 : List ℕ} {calls0 : List Call} (x : IsFixed seen0 calls0) where
  pub clear_begun : LeavesOnly calls0 calls0 (IsBeingCleared seen0)
  clear_begun = started calls0 (IsBeingCleared seen0) (λ image left.
      let is = fixed_only x image left in
      inl (length image, kept_take seen0 image (omega (arith, ap length is)) (λ i lt. ap (λ (l : List ℕ). get_or l i 0) is)))

  pub emptying : (calls1 : List Call) → calls1 ≡ CutTo 0 ∷ calls0 → LeavesOnly calls0 calls1 (IsBeingCleared seen0)
  emptying calls1 is = goes_on clear_begun (CutTo 0) is (λ image left.
      let here : MayLeave (CutTo 0 ∷ Synced seen0 ∷ x.earlier) image = subst (λ (l : List Call). MayLeave (CutTo 0 ∷ l) image) x.is left in
      inl (length image, kept_take seen0 image here.no_longer (λ i lt. here.others_stay i (omega (arith, lt, here.no_longer)) lt tt)))

  pub emptied : (seen1 : List ℕ) (calls1 calls2 : List Call) → seen1 ≡ take 0 seen0 → calls1 ≡ CutTo 0 ∷ calls0 → calls2 ≡ Synced seen1 ∷ calls1 → LeavesOnly calls0 calls2 (IsBeingCleared seen0)
  emptied seen1 calls1 calls2 cut is1 is2 = goes_on (emptying calls1 is1) (Synced seen1) is2 (λ image left.
      inl (0, only_synced seen1 calls1 image left ∙ cut))
