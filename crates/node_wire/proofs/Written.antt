-- What was written of actions, in the words of a reply's value.
use Rattle.std.proofs.Common.{◌≡◌, ℕ, ◌+◌, ◌<◌, ◌≤◌, Bool, List, [], ◌∷◌, ◌++◌, length, take, drop, get_or, map, All, OnErr, OnOk, Result, Ok, Err, sym, ap, ◌∙◌, append_assoc, subst, ⊎_elim, arith}
use Rattle.std.specs.List.{flat_map}
use Rattle.std.proofs.Math.Seq.{take-append_seam}
use Rattle.std.proofs.lemmas.Bool.{cases_lt}
use Rattle.std.proofs.lemmas.Grind.{flat_map-append}
use Rattle.std.proofs.lemmas.List.{append-nil, get_or_default, length-map, take-append-drop, take_all, take_more}
use Rattle.std.proofs.lemmas.List.Concat.{flat_map-cons}
use Rattle.std.proofs.lemmas.List.Folds.{flat_map-map}
use Rattle.std.proofs.lemmas.List.Elements.{All-map}
use Rattle.types_codec.specs.Varint.{varint, max_u64}
use Rattle.simplex_member.specs.declared.action.Action.{Action}
use Rattle.simplex_member.specs.declared.action.Reply.{Reply}
use Rattle.node_wire.specs.Parts.{listed_spelling}
use Rattle.node_wire.specs.Reply.{action_fits, action_spelling, action_value, fitting_action, refusal_byte, reply_fits, reply_spelling, reply_value, spelled_action}

module _ {X : Type 0} (f : X → List ℕ) where
  -- behind what was written of the values before it stands the next one
  pub written_next : (xs : List X) (i : ℕ) (x : X) (old mid new : List ℕ) → i < length xs → x ≡ get_or xs i x → mid ≡ old ++ flat_map f (take i xs) → new ≡ mid ++ f x → new ≡ old ++ flat_map f (take (i + 1) xs)
  written_next xs i x old mid new at is before now =
      let one : flat_map f (x ∷ []) ≡ f x = flat_map-cons f x [] ∙ append-nil (f x) in
      let front : take (i + 1) xs ≡ take i xs ++ x ∷ [] = take_more xs i x at ∙ ap (λ (y : X). take i xs ++ y ∷ []) (sym is) in
      let more : flat_map f (take (i + 1) xs) ≡ flat_map f (take i xs) ++ f x = ap (flat_map f) front ∙ flat_map-append f (take i xs) (x ∷ []) ∙ ap (λ (t : List ℕ). flat_map f (take i xs) ++ t) one in
      now ∙ ap (λ (t : List ℕ). t ++ f x) before ∙ append_assoc old (flat_map f (take i xs)) (f x) ∙ ap (λ (t : List ℕ). old ++ t) (sym more)

  -- where none is left, all are written
  pub written_all : (xs : List X) (i : ℕ) (old new : List ℕ) → length xs ≤ i → new ≡ old ++ flat_map f (take i xs) → new ≡ old ++ flat_map f xs
  written_all xs i old new none before = before ∙ ap (λ (ys : List X). old ++ flat_map f ys) (take_all i xs none)

-- each value so far is one of these, and so is the next one
pub each_next : {X : Type 0} (F : X → Type 0) (xs : List X) (i : ℕ) (x : X) → i < length xs → x ≡ get_or xs i x → ((k : ℕ) (d : X) → k < i → F (get_or xs k d)) → F x → (k : ℕ) (d : X) → k < i + 1 → F (get_or xs k d)
each_next F xs i x at is before now k d under = ⊎_elim
    (λ (lt : k < i). before k d lt)
    (λ (le : i ≤ k). let same : k ≡ i = omega (arith, le, under) in rw same (subst F (is ∙ get_or_default xs i x d at) now))
    (cases_lt k i)

-- what was there stands at the front of what has more behind it
front : (n : ℕ) (old more new : List ℕ) → n ≡ length old → new ≡ old ++ more → take n new ≡ old
front n old more new size is = ap (λ (k : ℕ). take k new) size ∙ ap (λ (t : List ℕ). take (length old) t) is ∙ take-append_seam old more

-- so after a refusal, whatever was written before it
pub front_kept : {A E : Type 0} (r : Result A E) (n : ℕ) (old more mid new : List ℕ) → n ≡ length old → new ≡ mid → mid ≡ old ++ more → OnErr r (take n new ≡ old)
front_kept (Ok x) n old more mid new size kept is = tt
front_kept (Err e) n old more mid new size kept is = front n old more new size (kept ∙ is)

-- and where what stood at the front then had more behind it already
pub front_stays : {A E : Type 0} (r : Result A E) (n m : ℕ) (old mid more new : List ℕ) → n ≡ length old → mid ≡ old ++ more → OnErr r (take m new ≡ mid) → OnErr r (take n new ≡ old)
front_stays (Ok x) n m old mid more new size is kept = tt
front_stays (Err e) n m old mid more new size is kept =
    front n old (more ++ drop m new) new size (sym (take-append-drop m new) ∙ ap (λ (t : List ℕ). t ++ drop m new) (kept ∙ is) ∙ append_assoc old more (drop m new))

-- what holds in any case holds beside what holds where all went well
pub beside : {A E : Type 0} (r : Result A E) (P Q : Type 0) → OnOk r P → Q → OnOk r (P × Q)
beside (Ok x) P Q p q = (p, q)
beside (Err e) P Q p q = tt

module _ {S D P G C : Type 0} (k : P → List ℕ) (p : D → List ℕ) (f : G → List ℕ) (g : C → List ℕ) where
  -- the same bytes, action by action and value by value
  by_value : (xs : List (Action S D P G C)) → flat_map (spelled_action k p f g) xs ≡ flat_map (action_spelling k p f g) (map action_value xs)
  unfolding spelled_action
  by_value xs = sym (flat_map-map (action_spelling k p f g) action_value xs)

  listed_by_value : (xs : List (Action S D P G C)) → listed_spelling (spelled_action k p f g) xs ≡ listed_spelling (action_spelling k p f g) (map action_value xs)
  listed_by_value xs = ap (λ (n : ℕ). varint n ++ flat_map (spelled_action k p f g) xs) (sym (length-map xs action_value)) ∙ ap (λ (t : List ℕ). varint (length (map action_value xs)) ++ t) (by_value xs)

  -- the byte of the refusal, and the actions behind their count, are the reply
  pub reply_written : {A E : Type 0} (r : Result A E) (reply : Reply S D P G C) (old mid new : List ℕ) → mid ≡ old ++ refusal_byte reply.refused ∷ [] → OnOk r (new ≡ mid ++ listed_spelling (spelled_action k p f g) reply.actions.items)
      → OnOk r (new ≡ old ++ reply_spelling k p f g (reply_value reply))
  unfolding reply_spelling
  reply_written (Err e) reply old mid new first rest = tt
  reply_written (Ok x) reply old mid new first rest =
      rest
      ∙ ap (λ (t : List ℕ). t ++ listed_spelling (spelled_action k p f g) reply.actions.items) first
      ∙ append_assoc old (refusal_byte reply.refused ∷ []) (listed_spelling (spelled_action k p f g) reply.actions.items)
      ∙ ap (λ (t : List ℕ). old ++ ((refusal_byte reply.refused ∷ []) ++ t)) (listed_by_value reply.actions.items)

-- actions that can be spelled make a reply that can
pub reply_fitting : {S D P G C A E : Type 0} (same : D → D → Bool) (K : P → Type 0) (Q : D → Type 0) (F : G → Type 0) (H : C → Type 0) (r : Result A E) (reply : Reply S D P G C)
    → OnOk r (All (fitting_action same K Q F H) reply.actions.items × (length reply.actions.items ≤ max_u64)) → OnOk r (reply_fits same K Q F H (reply_value reply))
unfolding fitting_action reply_fits
reply_fitting same K Q F H (Err e) reply each = tt
reply_fitting same K Q F H (Ok x) reply each =
    (All-map (action_fits same K Q F H) action_value reply.actions.items each.0, subst (λ (n : ℕ). n ≤ max_u64) (sym (length-map reply.actions.items action_value)) each.1)
