-- Lemmas: how a stretch of calls of a disk goes on, at each of whose moments a crash leaves only what has P.
use Rattle.std.proofs.Common.{◌≡◌, ◌⊎◌, ⊎_elim, ℕ, List, [], ◌∷◌, ◌++◌, refl, sym, ◌∙◌, ap, subst, append_assoc}
use Rattle.journal_single.specs.Disk.{Call, MayLeave, AtEach, LeavesOnly}

-- no call
pub started : (old : List Call) (P : List ℕ → Type 0) → ((image : List ℕ) → MayLeave old image → P image) → LeavesOnly old old P
started old P here = record { made = []; is = refl; each = here }

-- one call more
pub goes_on : {old mid new : List Call} {P : List ℕ → Type 0} → LeavesOnly old mid P → (call : Call) → new ≡ call ∷ mid → ((image : List ℕ) → MayLeave (call ∷ mid) image → P image) → LeavesOnly old new P
goes_on {old} {mid} {new} {P} so_far call is here = record {
  made = call ∷ so_far.made;
  is = is ∙ ap (λ (l : List Call). call ∷ l) so_far.is;
  each = (so_far.each, subst (λ (l : List Call). (image : List ℕ) → MayLeave (call ∷ l) image → P image) so_far.is here);
}

-- a call that leaves no trace, as a read or a sync that failed
pub stays : {old mid new : List Call} {P : List ℕ → Type 0} → LeavesOnly old mid P → new ≡ mid → LeavesOnly old new P
stays {old} {mid} {new} {P} so_far is = subst (λ (l : List Call). LeavesOnly old l P) (sym is) so_far

weaker_each : (made old : List Call) (P Q : List ℕ → Type 0) → ((image : List ℕ) → P image → Q image) → AtEach made old P → AtEach made old Q
weaker_each [] old P Q step each = λ image left. step image (each image left)
weaker_each (call ∷ made) old P Q step each = (weaker_each made old P Q step each.0, λ image left. step image (each.1 image left))

-- what has P has Q too
pub weaker : {old new : List Call} {P : List ℕ → Type 0} (Q : List ℕ → Type 0) → LeavesOnly old new P → ((image : List ℕ) → P image → Q image) → LeavesOnly old new Q
weaker {old} {new} {P} Q so_far step = record { made = so_far.made; is = so_far.is; each = weaker_each so_far.made old P Q step so_far.each }

-- the last of the moments is one of them
last_each : (made old : List Call) (P : List ℕ → Type 0) → AtEach made old P → (image : List ℕ) → MayLeave (made ++ old) image → P image
last_each [] old P each = each
last_each (call ∷ made) old P each = each.1

-- a crash behind the last call leaves what has P
pub at_last : {old new : List Call} {P : List ℕ → Type 0} → LeavesOnly old new P → (image : List ℕ) → MayLeave new image → P image
at_last {old} {new} {P} so_far image left = last_each so_far.made old P so_far.each image (subst (λ (l : List Call). MayLeave l image) so_far.is left)

-- two stretches
then_each : (made2 made1 old : List Call) (P : List ℕ → Type 0) → AtEach made1 old P → AtEach made2 (made1 ++ old) P → AtEach (made2 ++ made1) old P
then_each [] made1 old P first second = first
then_each (call ∷ made2) made1 old P first second = (then_each made2 made1 old P first second.0, λ image left. second.1 image (subst (λ (l : List Call). MayLeave (call ∷ l) image) (append_assoc made2 made1 old) left))

-- one stretch behind another
pub and_then : {old mid new : List Call} {P : List ℕ → Type 0} → LeavesOnly old mid P → LeavesOnly mid new P → LeavesOnly old new P
and_then {old} {mid} {new} {P} first second = record {
  made = second.made ++ first.made;
  is = second.is ∙ ap (λ (l : List Call). second.made ++ l) first.is ∙ sym (append_assoc second.made first.made old);
  each = then_each second.made first.made old P first.each (subst (λ (l : List Call). AtEach second.made l P) first.is second.each);
}

-- a call that failed may have done any part or have left no trace
pub tried : {old mid new : List Call} {P : List ℕ → Type 0} (call : Call) → LeavesOnly old mid P → ((n : List Call) → n ≡ call ∷ mid → LeavesOnly old n P) → (new ≡ mid) ⊎ (new ≡ call ∷ mid) → LeavesOnly old new P
tried {old} {mid} {new} {P} call so_far more outcome = ⊎_elim (λ same. stays so_far same) (λ is. more new is) outcome
