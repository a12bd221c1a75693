-- Reports that are read one behind the other.
use Rattle.std.proofs.Common.{◌≡◌, ◌<◌, ◌≤◌, ℕ, List, [], ◌∷◌, ◌++◌, length, length-append, sym, ap, ◌∙◌, append_assoc, arith}
use Rattle.std.specs.Prelude.{All, OnOk, Result, Ok, Err}
use Rattle.std.specs.List.{flat_map}
use Rattle.std.proofs.lemmas.List.{append-nil}
use Rattle.std.proofs.lemmas.List.Concat.{flat_map-append}
use Rattle.std.proofs.lemmas.List.Elements.{All-nil, All-cons, All-append}
use Rattle.simplex_messages.specs.declared.activity.Activity.{Activity}
use Rattle.simplex_messages.specs.Activity.{activity_spelling}

-- a report takes a byte at least
pub takes_a_byte : {S D P G C : Type 0} (p : D → List ℕ) (f : G → List ℕ) (g : C → List ℕ) (report : Activity S D P G C) → 0 < length (activity_spelling p f g report)
unfolding activity_spelling
takes_a_byte p f g report = omega arith

-- what is left behind something is no longer than all
pub behind : (all front rest : List ℕ) → all ≡ front ++ rest → length rest ≤ length all
behind all front rest spelled = omega (arith, ap length spelled, length-append front rest)

-- so less is left behind it
pub shorter : {A : Type 0} (spelling : A → List ℕ) (x : A) (rest after : List ℕ) → 0 < length (spelling x) → rest ≡ spelling x ++ after → length after < length rest
shorter spelling x rest after takes spelled = omega (arith, takes, ap length spelled, length-append (spelling x) after)

-- one more was read
pub one_more : {A : Type 0} (spelling : A → List ℕ) (read : List A) (x : A) (bytes rest after : List ℕ) → bytes ≡ flat_map spelling read ++ rest → rest ≡ spelling x ++ after → bytes ≡ flat_map spelling (read ++ x ∷ []) ++ after
one_more spelling read x bytes rest after whole spelled =
    let last : flat_map spelling (x ∷ []) ≡ spelling x = append-nil (spelling x) in
    let spellings : flat_map spelling (read ++ x ∷ []) ≡ flat_map spelling read ++ spelling x = flat_map-append spelling read (x ∷ []) ∙ ap (λ (bs : List ℕ). flat_map spelling read ++ bs) last in
    whole ∙ ap (λ (bs : List ℕ). flat_map spelling read ++ bs) spelled ∙ sym (append_assoc (flat_map spelling read) (spelling x) after) ∙ ap (λ (bs : List ℕ). bs ++ after) (sym spellings)

-- of one more each fits
pub All-more : {A : Type 0} (P : A → Type 0) (read : List A) (x : A) → All P read → P x → All P (read ++ x ∷ [])
All-more P read x all p = All-append P read (x ∷ []) all (All-cons P x [] p (All-nil P))

-- what two steps wrote, one behind the other
pub OnOk-more : {A E : Type 0} (r : Result A E) (old mid new a b : List ℕ) → mid ≡ old ++ a → OnOk r (new ≡ mid ++ b) → OnOk r (new ≡ old ++ (a ++ b))
OnOk-more (Ok x) old mid new a b first second = second ∙ ap (λ (l : List ℕ). l ++ b) first ∙ append_assoc old a b
OnOk-more (Err e) old mid new a b first second = tt
