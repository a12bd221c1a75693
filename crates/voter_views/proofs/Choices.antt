-- What tests and options say.
use Rattle.std.proofs.Common.{◌≡◌, ◌≤◌, ◌↔◌, ◌∙◌, max, ap, ℕ, true, false, ◌==◌, sym, refl, arith, Bor}
use Rattle.std.specs.Prelude.{Option, Some, None, Bool, IsTrue, MatchOption, Result, Ok, Err, IfOk, nat_le, ◌&&◌, is_some, option_copied}
use Rattle.std.specs.Option.{option_or}
use Rattle.std.specs.Ordering.{nat_cmp, is_lt}
use Rattle.std.proofs.lemmas.Bool.Decides.{nat_tests}
use Rattle.std.proofs.lemmas.Bool.{and_parts, and_from, eqb-true, eq-eqb}
use Rattle.types_core.specs.declared.proposal.Proposal.{Proposal}

-- where neither of two is there, the second isn't
pub or_neither : {A : Type 0} (a b : Option A) → option_or a b ≡ None → b ≡ None
or_neither None b none = none
or_neither (Some x) b none = absurd (cc none)

-- what is found first is what there is, and where it isn't found the other is
pub found_first : {A : Type 0} (found : Option (Bor A)) (one : Bor A) (first second whole : Option A) → option_copied found ≡ first → found ≡ Some one → whole ≡ option_or first second → Some one.now ≡ whole
found_first found one first second whole copied is either = sym (either ∙ ap (λ o. option_or o second) (sym copied ∙ ap option_copied is))

pub found_second : {A : Type 0} (found : Option (Bor A)) (first second whole : Option A) → option_copied found ≡ first → found ≡ None → whole ≡ option_or first second → second ≡ whole
found_second found first second whole copied none either = sym (either ∙ ap (λ o. option_or o second) (sym copied ∙ ap option_copied none))

-- the copy of what was found is what was looked for, and where nothing was found there is none
pub found_copy : {A : Type 0} (found : Option (Bor A)) (one : Bor A) (copy : A) (wanted : Option A) → found ≡ Some one → copy ≡ one.now → option_copied found ≡ wanted → Some copy ≡ wanted
found_copy found one copy wanted is same at = ap Some same ∙ sym (ap option_copied is) ∙ at

pub found_none : {A : Type 0} (found : Option (Bor A)) (wanted : Option A) → found ≡ None → option_copied found ≡ wanted → wanted ≡ None
found_none found wanted none at = sym at ∙ ap option_copied none

-- whether an option is there is whether there is what it stands for
pub there-if : {X : Type 0} (o : Option X) (b : Bool) {P : Type 0} {Q : X → Type 0} {R : Type 0} → b ≡ is_some o → MatchOption o P Q → (P → R → ⊥) → ((x : X) → Q x → R) → IsTrue b ↔ R
there-if None b is none never some = (λ so. absurd (cc so), λ r. absurd (never none r))
there-if (Some x) b is one never some = (λ _. some x one, λ _. cc)

-- what is held is what was found, by equal numbers
pub held_at : {A : Type 0} (f : ℕ → Option A) (found : Option A) (one : A) (view at : ℕ) → found ≡ f view → found ≡ Some one → view ≡ at → f at ≡ Some one
held_at f found one view at same is e = sym (ap f e) ∙ sym same ∙ is

-- what a test of a copied option says
pub copied-none : {A : Type 0} {n : Option A} (o : Option (Bor A)) → option_copied o ≡ n → false ≡ is_some o → n ≡ None
copied-none None e test = sym e
copied-none (Some x) e test = absurd (cc test)

-- what isn't so is not so
pub is-not : {b : Bool} → b ≡ false → IsTrue b → ⊥
is-not isnt is = cc

-- the same where what was looked for is named by an equal number
pub fresh_at : {A : Type 0} (o : Option (Bor A)) (f : ℕ → Option A) (view at : ℕ) → view ≡ at → option_copied o ≡ f view → false ≡ is_some o → f at ≡ None
fresh_at o f view at same copied test = copied-none o (copied ∙ ap f same) test

pub not-so : (b : Bool) → (b ≡ true → ⊥) → b ≡ false
not-so true never = absurd (never refl)
not-so false never = refl

-- whether a view lies before another, by the test of that
pub is_before : (at view now : ℕ) (test : Bool) → view ≡ now → test ≡ is_lt (nat_cmp at view) → test ≡ true → nat_le now at ≡ false
is_before at view now test same is so = grind (arith, nat_tests, same, is, so)

pub isnt_before : (at view now : ℕ) (test : Bool) → view ≡ now → test ≡ is_lt (nat_cmp at view) → test ≡ false → nat_le now at ≡ true
isnt_before at view now test same is isnt = grind (arith, nat_tests, same, is, isnt)

-- what is said of a result twice is said of it at once
pub if_ok_both : {T E : Type 0} (r : Result T E) {P Q R : T → Type 0} → IfOk r P → IfOk r Q → ((x : T) → P x → Q x → R x) → IfOk r R
if_ok_both (Ok x) one other both = both x one other
if_ok_both (Err e) one other both = tt

-- the least number that is at least as high as two is the higher of them
pub later-max : (a b r : ℕ) → a ≤ r → b ≤ r → ((x : ℕ) → a ≤ x → b ≤ x → r ≤ x) → r ≡ max b a
later-max a b r one other least =
    let top = least (max b a) (omega arith) (omega arith) in
    omega (arith, top, one, other)

module _ {D : Type 0} (same : D → D → Bool) (law : (x y : D) → IsTrue (same x y) ↔ (x ≡ y)) where
  abbrev made : ℕ → ℕ → ℕ → D → Proposal D
  made epoch view parent payload = record { round = record { epoch = epoch; view = view }; parent = parent; payload = payload }

  -- proposals are one exactly where the test says so
  pub is-one : (p q : Proposal D) (b : Bool) → b ≡ (((p.round.epoch == q.round.epoch) && (p.round.view == q.round.view)) && ((p.parent == q.parent) && same p.payload q.payload)) → IsTrue b ↔ (p ≡ q)
  is-one p q b test = (
    λ equal.
        let parts = and_parts ((p.round.epoch == q.round.epoch) && (p.round.view == q.round.view)) ((p.parent == q.parent) && same p.payload q.payload) (sym test ∙ equal) in
        let round = and_parts (p.round.epoch == q.round.epoch) (p.round.view == q.round.view) parts.0 in
        let rest = and_parts (p.parent == q.parent) (same p.payload q.payload) parts.1 in
        let epochs = eqb-true p.round.epoch q.round.epoch round.0 in
        let views = eqb-true p.round.view q.round.view round.1 in
        let parents = eqb-true p.parent q.parent rest.0 in
        let payloads = (law p.payload q.payload).0 rest.1 in
        λ i. made (epochs i) (views i) (parents i) (payloads i),
    λ one. test ∙ and_from ((p.round.epoch == q.round.epoch) && (p.round.view == q.round.view)) ((p.parent == q.parent) && same p.payload q.payload)
        (and_from (p.round.epoch == q.round.epoch) (p.round.view == q.round.view)
        (eq-eqb p.round.epoch q.round.epoch (ap (λ (x : Proposal D). x.round.epoch) one)) (eq-eqb p.round.view q.round.view (ap (λ (x : Proposal D). x.round.view) one)))
        (and_from (p.parent == q.parent) (same p.payload q.payload)
        (eq-eqb p.parent q.parent (ap (λ (x : Proposal D). x.parent) one)) ((law p.payload q.payload).1 (ap (λ (x : Proposal D). x.payload) one))),
  )
