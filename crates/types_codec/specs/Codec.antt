-- Values and their bytes: a spelling, and a reading from left to right that stops at the first trouble.
use Rattle.std.specs.Prelude.{◌≡◌, ℕ, List, [], ◌∷◌, ◌++◌, length, take, drop, nat_lt, ◌==◌, Result, Ok, Err, if◌then◌else◌, refl, ⊤}
use Rattle.std.proofs.Common.{inl, inr, ◌⊎◌, sym, ◌∙◌, ap, subst, append_assoc, length-append, arith, true, false, Bool, cond, ◌≤◌}
use Rattle.std.proofs.lemmas.Bool.{ltb-false, le-ltb, eqb-true, cases_Bool}
use Rattle.std.proofs.lemmas.List.{take_at, drop_at, take-append-drop, length-take}
use Rattle.types_codec.specs.declared.codec.CodecError.{CodecError}
use Rattle.types_codec.specs.declared.codec.CodecError.TheVariants.{End, Invalid, TooLong, Memory}

-- the next step, unless there was trouble before it
infixl 10 ◌>>=◌
abbrev pub ◌>>=◌ : {A B : Type 0} → Result A CodecError → (A → Result B CodecError) → Result B CodecError
(Ok x) >>= f = f x
(Err e) >>= f = Err e

-- What a reader answered, and where the slice then stands, is what reading gives.
-- Of want of memory no more is said than that the slice stands where it stood.
abbrev pub Gives : {A : Type 0} → (List ℕ → Result (A × List ℕ) CodecError) → List ℕ → List ℕ → Result A CodecError → Type 0
Gives reading old new (Ok x) = reading old ≡ Ok (x, new)
Gives reading old new (Err End) = (reading old ≡ Err End) × (new ≡ old)
Gives reading old new (Err Invalid) = (reading old ≡ Err Invalid) × (new ≡ old)
Gives reading old new (Err TooLong) = (reading old ≡ Err TooLong) × (new ≡ old)
Gives reading old new (Err Memory) = new ≡ old

-- The same, where what was answered is seen by view.
abbrev pub GivesBy : {X A : Type 0} → (X → A) → (List ℕ → Result (A × List ℕ) CodecError) → List ℕ → List ℕ → Result X CodecError → Type 0
GivesBy view reading old new (Ok x) = reading old ≡ Ok (view x, new)
GivesBy view reading old new (Err End) = (reading old ≡ Err End) × (new ≡ old)
GivesBy view reading old new (Err Invalid) = (reading old ≡ Err Invalid) × (new ≡ old)
GivesBy view reading old new (Err TooLong) = (reading old ≡ Err TooLong) × (new ≡ old)
GivesBy view reading old new (Err Memory) = new ≡ old

-- What is read is spelled so, and what is spelled so is read, whatever follows.
pub record IsCodec {A : Type 0} (Fits : A → Type 0) (spelling : A → List ℕ)
    (reading : List ℕ → Result (A × List ℕ) CodecError) : Type 0 where
  pub takes : (bytes : List ℕ) (x : A) (rest : List ℕ) → reading bytes ≡ Ok (x, rest) → (bytes ≡ spelling x ++ rest) × Fits x
  pub again : (x : A) (rest : List ℕ) → Fits x → reading (spelling x ++ rest) ≡ Ok (x, rest)

-- what can be read under a bound: what can be read at all, and is within the bound
abbrev pub Readable : {A : Type 0} → (A → Type 0) → (A → Type 0) → A → Type 0
Readable Fits Within x = Fits x × Within x

-- no value that can be read is spelled by these bytes
abbrev pub SpellsNone : {A : Type 0} → (A → Type 0) → (A → List ℕ) → List ℕ → Type 0
SpellsNone {A} Fits spelling bytes = (x : A) → Fits x → bytes ≡ spelling x → ⊥

-- a fixed number of bytes as they are
abbrev pub bytes_at : ℕ → List ℕ → Result (List ℕ × List ℕ) CodecError
bytes_at n bytes = if nat_lt (length bytes) n then Err End else Ok (take n bytes, drop n bytes)

-- one after the other
abbrev pub both_at : {A B : Type 0} → (List ℕ → Result (A × List ℕ) CodecError) → (List ℕ → Result (B × List ℕ) CodecError)
    → List ℕ → Result ((A × B) × List ℕ) CodecError
both_at first second bytes = do
  a ← first bytes
  b ← second a.1
  Ok ((a.0, b.0), b.1)

-- under another form
abbrev pub as_at : {A B : Type 0} → (A → B) → (List ℕ → Result (A × List ℕ) CodecError) → List ℕ → Result (B × List ℕ) CodecError
as_at made reading bytes = do
  a ← reading bytes
  Ok (made a.0, a.1)

-- What a function over a list returned, seen by view, is what reading gives.
abbrev pub MatchesReading : {X Y : Type 0} → (X → Y) → Result X CodecError → Result Y CodecError → Type 0
MatchesReading view (Ok x) read = read ≡ Ok (view x)
MatchesReading view (Err e) read = read ≡ Err e

-- only what passes a test
abbrev pub checked_at : {A : Type 0} → (A → Bool) → (List ℕ → Result (A × List ℕ) CodecError) → List ℕ
    → Result (A × List ℕ) CodecError
checked_at test reading bytes = do
  a ← reading bytes
  if test a.0 then Ok a else Err Invalid

-- nothing can stand here
abbrev pub nothing_at : {A : Type 0} → List ℕ → Result (A × List ℕ) CodecError
nothing_at bytes = Err Invalid

-- a byte, and what stands behind such a byte
abbrev pub tagged_at : {A : Type 0} → (ℕ → List ℕ → Result (A × List ℕ) CodecError) → List ℕ → Result (A × List ℕ) CodecError
tagged_at behind [] = Err End
tagged_at behind (tag ∷ bytes) = behind tag bytes

-- behind this tag one form, and behind others what they say
abbrev pub or_at : {A B : Type 0} → ℕ → (A → B) → (List ℕ → Result (A × List ℕ) CodecError)
    → (ℕ → List ℕ → Result (B × List ℕ) CodecError) → ℕ → List ℕ → Result (B × List ℕ) CodecError
or_at own made reading others tag bytes = if tag == own then as_at made reading bytes else others tag bytes

-- ---- what readings made of readings give

-- the value of a step that did not fail
pub bind_ok : {A B : Type 0} (r : Result A CodecError) (f : A → Result B CodecError) (y : B) → (r >>= f) ≡ Ok y → (x : A) × (r ≡ Ok x) × (f x ≡ Ok y)
bind_ok (Ok x) f y e = (x, refl, e)
bind_ok (Err d) f y e = absurd cc

-- a test that must be false
pub refused_ok : {A : Type 0} (b : Bool) (d : CodecError) (r : Result A CodecError) (y : A) → cond b (Err d) r ≡ Ok y → (b ≡ false) × (r ≡ Ok y)
refused_ok true d r y e = absurd cc
refused_ok false d r y e = (refl, e)

-- a step without trouble
abbrev pub done : {A : Type 0} → A → Result A CodecError
done x = Ok x

-- two such steps are equal only where their values are
pub ok_is : {A : Type 0} (x y : A) → done x ≡ done y → x ≡ y
ok_is x y e = cc

-- bytes as they are have one spelling
pub bytes-IsCodec : (n : ℕ) → IsCodec (λ xs. length xs ≡ n) (λ xs. xs) (bytes_at n)
bytes-IsCodec n = record {
  takes = λ bytes x rest e.
      let g = refused_ok (nat_lt (length bytes) n) End (Ok (take n bytes, drop n bytes)) (x, rest) e in
      let p = ok_is (take n bytes, drop n bytes) (x, rest) g.1 in
      let long : n ≤ length bytes = ltb-false _ _ g.0 in
      subst (λ (q : List ℕ × List ℕ). (bytes ≡ q.0 ++ q.1) × (length q.0 ≡ n)) p (sym (take-append-drop n bytes), omega (arith, length-take n bytes));
  again = λ x rest len.
      let long : nat_lt (length (x ++ rest)) n ≡ false = le-ltb _ _ (omega (arith, length-append x rest)) in
      rw (long, take_at x rest n len, drop_at x rest n len) refl;
}

-- a pair has one spelling where each part has
pub both-IsCodec : {A B : Type 0} {F : A → Type 0} {G : B → Type 0} {f : A → List ℕ} {g : B → List ℕ} {r : List ℕ → Result (A × List ℕ) CodecError} {s : List ℕ → Result (B × List ℕ) CodecError}
    → IsCodec F f r → IsCodec G g s → IsCodec (λ (p : A × B). F p.0 × G p.1) (λ (p : A × B). f p.0 ++ g p.1) (both_at r s)
both-IsCodec {A} {B} {F} {G} {f} {g} {r} {s} p q = record {
  takes = λ bytes x rest e.
      let a = bind_ok (r bytes) (λ a. s a.1 >>= λ b. Ok ((a.0, b.0), b.1)) (x, rest) e in
      let b = bind_ok (s a.0.1) (λ b. Ok ((a.0.0, b.0), b.1)) (x, rest) a.2 in
      let c = ok_is ((a.0.0, b.0.0), b.0.1) (x, rest) b.2 in
      let first = p.takes bytes a.0.0 a.0.1 a.1 in
      let second = q.takes a.0.1 b.0.0 b.0.1 b.1 in
      let whole : bytes ≡ (f a.0.0 ++ g b.0.0) ++ b.0.1 = first.0 ∙ ap (λ (t : List ℕ). f a.0.0 ++ t) second.0 ∙ sym (append_assoc (f a.0.0) (g b.0.0) b.0.1) in
      subst (λ (y : (A × B) × List ℕ). (bytes ≡ (f y.0.0 ++ g y.0.1) ++ y.1) × (F y.0.0 × G y.0.1)) c (whole, (first.1, second.1));
  again = λ x rest fits.
      ap (both_at r s) (append_assoc (f x.0) (g x.1) rest) ∙ rw (p.again x.0 (g x.1 ++ rest) fits.0, q.again x.1 rest fits.1) refl;
}

-- under another form, which forgets nothing
pub as-IsCodec : {A B : Type 0} {F : A → Type 0} {f : A → List ℕ} {r : List ℕ → Result (A × List ℕ) CodecError} (made : A → B) (parts : B → A)
    → ((x : A) → parts (made x) ≡ x) → ((y : B) → made (parts y) ≡ y) → IsCodec F f r → IsCodec (λ (y : B). F (parts y)) (λ (y : B). f (parts y)) (as_at made r)
as-IsCodec {A} {B} {F} {f} {r} made parts there back p = record {
  takes = λ bytes y rest e.
      let a = bind_ok (r bytes) (λ a. Ok (made a.0, a.1)) (y, rest) e in
      let c = ok_is (made a.0.0, a.0.1) (y, rest) a.2 in
      let first = p.takes bytes a.0.0 a.0.1 a.1 in
      subst (λ (z : B × List ℕ). (bytes ≡ f (parts z.0) ++ z.1) × F (parts z.0)) c
      (let P : A → Type 0 = λ x. (bytes ≡ f x ++ a.0.1) × F x in subst P (sym (there a.0.0)) first);
  again = λ y rest fits. rw (p.again (parts y) rest fits) (ap (λ (z : B). Ok (z, rest)) (back y));
}

-- a test that must be true
pub passed_ok : {A : Type 0} (b : Bool) (d : CodecError) (r : Result A CodecError) (y : A) → cond b r (Err d) ≡ Ok y → (b ≡ true) × (r ≡ Ok y)
passed_ok true d r y e = (refl, e)
passed_ok false d r y e = absurd cc

-- values that pass a test have one spelling where all have
pub checked-IsCodec : {A : Type 0} {F : A → Type 0} {f : A → List ℕ} {r : List ℕ → Result (A × List ℕ) CodecError} (test : A → Bool)
    → IsCodec F f r → IsCodec (λ (x : A). F x × (test x ≡ true)) f (checked_at test r)
checked-IsCodec {A} {F} {f} {r} test p = record {
  takes = λ bytes x rest e.
      let a = bind_ok (r bytes) (λ a. cond (test a.0) (Ok a) (Err Invalid)) (x, rest) e in
      let g = passed_ok (test a.0.0) Invalid (Ok a.0) (x, rest) a.2 in
      let c = ok_is a.0 (x, rest) g.1 in
      let first = p.takes bytes a.0.0 a.0.1 a.1 in
      subst (λ (z : A × List ℕ). (bytes ≡ f z.0 ++ z.1) × (F z.0 × (test z.0 ≡ true))) c (first.0, (first.1, g.0));
  again = λ x rest fits. rw (p.again x rest fits.0, fits.1) refl;
}

-- What stands behind a tag, and the value's tag and other bytes.
pub record IsChoice {A : Type 0} (Fits : A → Type 0) (tag : A → ℕ) (body : A → List ℕ) (behind : ℕ → List ℕ → Result (A × List ℕ) CodecError) : Type 0 where
  pub takes : (t : ℕ) (bytes : List ℕ) (x : A) (rest : List ℕ) → behind t bytes ≡ Ok (x, rest) → (t ≡ tag x) × (bytes ≡ body x ++ rest) × Fits x
  pub again : (x : A) (rest : List ℕ) → Fits x → behind (tag x) (body x ++ rest) ≡ Ok (x, rest)

-- tagged values have one spelling where each tag tells its form
pub tagged-IsCodec : {A : Type 0} {F : A → Type 0} {tag : A → ℕ} {body : A → List ℕ} {behind : ℕ → List ℕ → Result (A × List ℕ) CodecError}
    → IsChoice F tag body behind → IsCodec F (λ (x : A). tag x ∷ body x) (tagged_at behind)
tagged-IsCodec {A} {F} {tag} {body} {behind} p = record { takes = tagged_takes; again = p.again }
  where
    tagged_takes : (bytes : List ℕ) (x : A) (rest : List ℕ) → tagged_at behind bytes ≡ Ok (x, rest) → (bytes ≡ (tag x ∷ body x) ++ rest) × F x
    tagged_takes [] x rest e = absurd cc
    tagged_takes (t ∷ bytes) x rest e =
        let q = p.takes t bytes x rest e in
        (rw (q.0, q.1) refl, q.2)

-- which form stood behind the tag
pub or_ok : {A B : Type 0} (own : ℕ) (made : A → B) (r : List ℕ → Result (A × List ℕ) CodecError) (others : ℕ → List ℕ → Result (B × List ℕ) CodecError) (t : ℕ) (bytes : List ℕ) (x : B) (rest : List ℕ)
    → or_at own made r others t bytes ≡ Ok (x, rest) → ((t ≡ own) × (y : A) × (made y ≡ x) × (r bytes ≡ Ok (y, rest))) ⊎ (others t bytes ≡ Ok (x, rest))
or_ok {A} {B} own made r others t bytes x rest e = elim (cases_Bool (t == own)) [
  | inl yes-it ↦
      let f = rw yes-it at e in
      let a = bind_ok (r bytes) (λ a. Ok (made a.0, a.1)) (x, rest) f in
      let c = ok_is (made a.0.0, a.0.1) (x, rest) a.2 in
      inl (eqb-true t own yes-it, a.0.0, ap (λ (z : B × List ℕ). z.0) c, a.1 ∙ ap (λ (z : B × List ℕ). Ok (a.0.0, z.1)) c)
  | inr no-it ↦ inr (rw no-it at e)
]

-- what is spelled may be said in other words
pub said-IsCodec : {A : Type 0} {F G : A → Type 0} {f : A → List ℕ} {r : List ℕ → Result (A × List ℕ) CodecError} → IsCodec F f r → ((x : A) → F x → G x) → ((x : A) → G x → F x) → IsCodec G f r
said-IsCodec p there back = record {
  takes = λ bytes x rest e. let q = p.takes bytes x rest e in (q.0, there x q.1);
  again = λ x rest fits. p.again x rest (back x fits);
}

-- values of which a bound asks nothing
pub unbounded-IsCodec : {A : Type 0} {F : A → Type 0} {f : A → List ℕ} {r : List ℕ → Result (A × List ℕ) CodecError} → IsCodec F f r → IsCodec (Readable F (λ _. ⊤)) f r
unbounded-IsCodec p = said-IsCodec p (λ x h. (h, tt)) (λ x h. h.0)

-- values that are all within the bound
pub bounded-IsCodec : {A : Type 0} {F W : A → Type 0} {f : A → List ℕ} {r : List ℕ → Result (A × List ℕ) CodecError} → IsCodec (Readable F W) f r → ((x : A) → W x) → IsCodec F f r
bounded-IsCodec p all_within = said-IsCodec p (λ x h. h.0) (λ x h. (h, all_within x))

-- What stands behind a tag is a value's, and the tag is its own.
pub record TakesBehind {A : Type 0} (Fits : A → Type 0) (tag : A → ℕ) (body : A → List ℕ) (behind : ℕ → List ℕ → Result (A × List ℕ) CodecError) : Type 0 where
  pub taken : (t : ℕ) (bytes : List ℕ) (x : A) (rest : List ℕ) → behind t bytes ≡ Ok (x, rest) → (t ≡ tag x) × (bytes ≡ body x ++ rest) × Fits x

-- nothing is taken where nothing can stand
pub nothing-taken : {A : Type 0} {F : A → Type 0} {tag : A → ℕ} {body : A → List ℕ} → TakesBehind F tag body (λ _. nothing_at)
nothing-taken = record { taken = λ t bytes x rest e. absurd (let e' : Err Invalid ≡ done (x, rest) = e in cc) }

-- one form more, whose values have this tag, and their own bytes behind it
pub or-taken : {A B : Type 0} {Fa : A → Type 0} {f : A → List ℕ} {r : List ℕ → Result (A × List ℕ) CodecError} {F : B → Type 0} {tag : B → ℕ} {body : B → List ℕ} {others : ℕ → List ℕ → Result (B × List ℕ) CodecError}
    (own : ℕ) (made : A → B) → IsCodec Fa f r → ((y : A) → Fa y → (own ≡ tag (made y)) × (f y ≡ body (made y)) × F (made y)) → TakesBehind F tag body others → TakesBehind F tag body (or_at own made r others)
or-taken {A} {B} {Fa} {f} {r} {F} {tag} {body} {others} own made codec own_form later = record {
  taken = λ t bytes x rest e. elim (or_ok own made r others t bytes x rest e) [
    | inl h ↦
        let k = codec.takes bytes h.1 rest h.3 in
        let form = own_form h.1 k.1 in
        subst (λ (y : B). (t ≡ tag y) × (bytes ≡ body y ++ rest) × F y) h.2 (h.0 ∙ form.0, k.0 ∙ ap (λ (b : List ℕ). b ++ rest) form.1, form.2)
    | inr m ↦ later.taken t bytes x rest m
  ];
}

-- two values of one spelling are one
pub spelling-one : {A : Type 0} {F : A → Type 0} {f : A → List ℕ} {r : List ℕ → Result (A × List ℕ) CodecError} → IsCodec F f r → (x y : A) → F x → F y → f x ≡ f y → x ≡ y
spelling-one {A} {F} {f} {r} p x y fits_x fits_y same =
    let there : done (x, []) ≡ done (y, []) = sym (p.again x [] fits_x) ∙ ap (λ (bytes : List ℕ). r (bytes ++ [])) same ∙ p.again y [] fits_y in
    ap (λ (q : A × List ℕ). q.0) (ok_is (x, []) (y, []) there)
