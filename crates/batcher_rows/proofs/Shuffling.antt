-- Lists of what is picked of a list, and lists of which each is changed.
use Rattle.std.proofs.Common.{◌≡◌, ℕ, zero, suc, ◌<◌, ◌≤◌, ◌+◌, Bool, true, false, cond, ◌⊎◌, inl, inr, List, [], ◌∷◌, ◌++◌, map, length, get_or, set, take, refl, ap, sym, ◌∙◌, arith, append-nil, length-append, Bor}
use Rattle.std.specs.Prelude.{Option, None, Some, is_some, filter}
use Rattle.std.specs.Option.{option_copied}
use Rattle.std.specs.List.{filter_map, cons_option}
use Rattle.std.specs.List.Sorted.{IsPermutation}
use Rattle.std.proofs.lemmas.List.Sorted.{IsPermutation-refl, IsPermutation-trans, IsPermutation-cons, IsPermutation-middle}

-- each of the first n was changed so
abbrev pub walked : {X : Type 0} → (X → X) → ℕ → List X → List X
walked f zero xs = xs
walked f (suc n) [] = []
walked f (suc n) (x ∷ xs) = f x ∷ walked f n xs

module _ {X : Type 0} (f : X → X) where
  pub walked-more : (n : ℕ) (xs : List X) (d : X) → n < length xs → set (walked f n xs) n (f (get_or (walked f n xs) n d)) ≡ walked f (suc n) xs
  walked-more zero [] d l = absurd (omega arith)
  walked-more zero (x ∷ xs) d l = refl
  walked-more (suc n) [] d l = absurd (omega arith)
  walked-more (suc n) (x ∷ xs) d l = ap (λ ys. f x ∷ ys) (walked-more n xs d (omega arith))

  pub walked-all : (xs : List X) → walked f (length xs) xs ≡ map f xs
  walked-all [] = refl
  walked-all (x ∷ xs) = ap (λ ys. f x ∷ ys) (walked-all xs)

  pub walked-length : (n : ℕ) (xs : List X) → length (walked f n xs) ≡ length xs
  walked-length zero xs = refl
  walked-length (suc n) [] = refl
  walked-length (suc n) (x ∷ xs) = ap suc (walked-length n xs)

module _ {X : Type 0} (f : X → X) where
  -- one more was changed
  pub walked-step : (xs ys : List X) (i : ℕ) (x y : X) → i < length ys → y ≡ f (get_or ys i x) → ys ≡ walked f i xs → set ys i y ≡ walked f (i + 1) xs
  walked-step xs ys i x y l made same =
      let next : i + 1 ≡ suc i = omega arith in
      let low : i < length xs = omega (arith, l, ap length same, walked-length f i xs) in
      let first : set ys i y ≡ set ys i (f (get_or ys i x)) = ap (set ys i) made in
      rw next (first ∙ rw same (walked-more f i xs x low))

  walked-past : (i : ℕ) (xs : List X) → length xs ≤ i → walked f i xs ≡ map f xs
  walked-past zero [] l = refl
  walked-past zero (x ∷ xs) l = absurd (omega (arith, l))
  walked-past (suc i) [] l = refl
  walked-past (suc i) (x ∷ xs) l = ap (λ ys. f x ∷ ys) (walked-past i xs (omega (arith, l)))

  -- all were changed
  pub walked-done : (xs ys : List X) (i : ℕ) → length ys ≤ i → ys ≡ walked f i xs → ys ≡ map f xs
  walked-done xs ys i l same = same ∙ walked-past i xs (omega (arith, l, ap length same, walked-length f i xs))

-- one that passes, if there is one
abbrev pub if_passes : {Y : Type 0} → (Y → Bool) → Option Y → Option Y
if_passes q None = None
if_passes q (Some y) = cond (q y) (Some y) None

-- the one, or else the other
abbrev pub or_else : {Y : Type 0} → Option Y → Option Y → Option Y
or_else None b = b
or_else (Some y) b = Some y

-- at most one of two is there
abbrev pub NotBoth : {Y : Type 0} → Option Y → Option Y → Type 0
NotBoth a b = (a ≡ None) ⊎ (b ≡ None)

module _ {X Y : Type 0} where
  -- what is picked of what was changed
  pub filter_map-map : (g : X → Option Y) (f : X → X) (xs : List X) → filter_map g (map f xs) ≡ filter_map (λ x. g (f x)) xs
  filter_map-map g f [] = refl
  filter_map-map g f (x ∷ xs) = ap (cons_option (g (f x))) (filter_map-map g f xs)

  pub filter_map-same : (g k : X → Option Y) (xs : List X) → ((x : X) → k x ≡ g x) → filter_map k xs ≡ filter_map g xs
  filter_map-same g k [] e = refl
  filter_map-same g k (x ∷ xs) e = rw (e x) (ap (cons_option (g x)) (filter_map-same g k xs e))

  pub filter_map-none : (k : X → Option Y) (xs : List X) → ((x : X) → k x ≡ None) → filter_map k xs ≡ []
  filter_map-none k [] e = refl
  filter_map-none k (x ∷ xs) e = rw (e x) (filter_map-none k xs e)

  pub filter_map-passes : (g k : X → Option Y) (q : Y → Bool) (xs : List X) → ((x : X) → k x ≡ if_passes q (g x)) → filter_map k xs ≡ filter q (filter_map g xs)
  filter_map-passes g k q [] e = refl
  filter_map-passes g k q (x ∷ xs) e = rw (e x) (go (g x) (filter_map-passes g k q xs e))
    where
      go : (o : Option Y) → filter_map k xs ≡ filter q (filter_map g xs) → cons_option (if_passes q o) (filter_map k xs) ≡ filter q (cons_option o (filter_map g xs))
      go None rest = rest
      go (Some y) rest = here (q y) y rest
        where
          here : (b : Bool) (y : Y) → filter_map k xs ≡ filter q (filter_map g xs) → cons_option (cond b (Some y) None) (filter_map k xs) ≡ cond b (y ∷ filter q (filter_map g xs)) (filter q (filter_map g xs))
          here true y rest = ap (λ ys. y ∷ ys) rest
          here false y rest = rest

  -- what is picked by either of two
  pub filter_map-either : (a b k : X → Option Y) (xs : List X) → ((x : X) → k x ≡ or_else (a x) (b x)) → ((x : X) → NotBoth (a x) (b x)) → IsPermutation (filter_map a xs ++ filter_map b xs) (filter_map k xs)
  filter_map-either a b k [] e apart = IsPermutation-refl []
  filter_map-either a b k (x ∷ xs) e apart = rw (e x) (go (a x) (b x) (apart x) (filter_map-either a b k xs e apart))
    where
      go : (o p : Option Y) → NotBoth o p → IsPermutation (filter_map a xs ++ filter_map b xs) (filter_map k xs) → IsPermutation (cons_option o (filter_map a xs) ++ cons_option p (filter_map b xs)) (cons_option (or_else o p) (filter_map k xs))
      go None None n rest = rest
      go (Some y) None n rest = IsPermutation-cons y _ _ rest
      go None (Some y) n rest = IsPermutation-trans _ _ _ (IsPermutation-middle (filter_map a xs) y (filter_map b xs)) (IsPermutation-cons y _ _ rest)
      go (Some y) (Some z) (inl e) rest = absurd (cc e)
      go (Some y) (Some z) (inr e) rest = absurd (cc e)

  -- one is written over of which the same is picked
  pub filter_map-set : (g : X → Option Y) (xs : List X) (i : ℕ) (x d : X) → g x ≡ g (get_or xs i d) → filter_map g (set xs i x) ≡ filter_map g xs
  filter_map-set g [] i x d e = refl
  filter_map-set g (y ∷ xs) zero x d e = rw e refl
  filter_map-set g (y ∷ xs) (suc i) x d e = ap (cons_option (g y)) (filter_map-set g xs i x d e)

  -- one is written over of which nothing was picked
  pub filter_map-set_more : (g : X → Option Y) (xs : List X) (i : ℕ) (x d : X) (y : Y) → i < length xs → g (get_or xs i d) ≡ None → g x ≡ Some y → IsPermutation (y ∷ filter_map g xs) (filter_map g (set xs i x))
  filter_map-set_more g [] i x d y l none some = absurd (omega arith)
  filter_map-set_more g (z ∷ xs) zero x d y l none some = rw (none, some) (IsPermutation-refl _)
  filter_map-set_more g (z ∷ xs) (suc i) x d y l none some = go (g z) (filter_map-set_more g xs i x d y (omega arith) none some)
    where
      go : (o : Option Y) → IsPermutation (y ∷ filter_map g xs) (filter_map g (set xs i x)) → IsPermutation (y ∷ cons_option o (filter_map g xs)) (cons_option o (filter_map g (set xs i x)))
      go None rest = rest
      go (Some w) rest = IsPermutation-trans _ _ _ (IsPermutation-middle (y ∷ []) w (filter_map g xs)) (IsPermutation-cons w _ _ rest)

  -- no more are picked than there are, and fewer where nothing is picked of one
  pub filter_map-length : (g : X → Option Y) (xs : List X) → length (filter_map g xs) ≤ length xs
  filter_map-length g [] = omega arith
  filter_map-length g (x ∷ xs) = go (g x) (filter_map-length g xs)
    where
      go : (o : Option Y) → length (filter_map g xs) ≤ length xs → length (cons_option o (filter_map g xs)) ≤ suc (length xs)
      go None l = omega (arith, l)
      go (Some y) l = omega (arith, l)

  pub filter_map-fewer : (g : X → Option Y) (xs : List X) (i : ℕ) (d : X) → i < length xs → g (get_or xs i d) ≡ None → length (filter_map g xs) < length xs
  filter_map-fewer g [] i d l none = absurd (omega arith)
  filter_map-fewer g (x ∷ xs) zero d l none = rw none (omega (arith, filter_map-length g xs))
  filter_map-fewer g (x ∷ xs) (suc i) d l none = go (g x) (filter_map-fewer g xs i d (omega arith) none)
    where
      go : (o : Option Y) → length (filter_map g xs) < length xs → length (cons_option o (filter_map g xs)) < suc (length xs)
      go None l = omega (arith, l)
      go (Some y) l = omega (arith, l)

  -- of one more the next is picked
  pub filter_map-take : (g : X → Option Y) (xs : List X) (i : ℕ) (d : X) → i < length xs → filter_map g (take (suc i) xs) ≡ filter_map g (take i xs) ++ cons_option (g (get_or xs i d)) []
  filter_map-take g [] i d l = absurd (omega arith)
  filter_map-take g (x ∷ xs) zero d l = refl
  filter_map-take g (x ∷ xs) (suc i) d l = ap (cons_option (g x)) (filter_map-take g xs i d (omega arith)) ∙ go (g x)
    where
      go : (o : Option Y) → cons_option o (filter_map g (take i xs) ++ cons_option (g (get_or xs i d)) []) ≡ cons_option o (filter_map g (take i xs)) ++ cons_option (g (get_or xs i d)) []
      go None = refl
      go (Some y) = refl

  -- a loop's step: what is picked of those so far, and of the next
  pub picked-more : (g : X → Option Y) (xs ys : List X) (i : ℕ) (x : X) → ys ≡ xs → i < length ys → filter_map g (take (i + 1) xs) ≡ filter_map g (take i xs) ++ cons_option (g (get_or ys i x)) []
  picked-more g xs ys i x same l =
      let next : i + 1 ≡ suc i = omega arith in
      let low : i < length xs = omega (arith, l, ap length same) in
      rw (next, same) (filter_map-take g xs i x low)

  -- the first that is picked, where nothing is picked before it
  pub picked-first : (g : X → Option Y) (xs : List X) (i : ℕ) (x : X) (y : Y) → i < length xs → x ≡ get_or xs i x → g x ≡ Some y → filter_map g (take i xs) ≡ [] → (rest : List Y) × (filter_map g xs ≡ y ∷ rest)
  picked-first g [] i x y l at some none = absurd (omega arith)
  picked-first g (z ∷ xs) zero x y l at some none = (filter_map g xs, (let here : g z ≡ Some y = rw at at some in rw here refl))
  picked-first g (z ∷ xs) (suc i) x y l at some none = go (g z) refl none (picked-first g xs i x y (omega arith) at some)
    where
      go : (o : Option Y) → g z ≡ o → cons_option o (filter_map g (take i xs)) ≡ [] → (filter_map g (take i xs) ≡ [] → (rest : List Y) × (filter_map g xs ≡ y ∷ rest)) → (rest : List Y) × (filter_map g (z ∷ xs) ≡ y ∷ rest)
      go None e none later = let more = later none in (more.0, rw e more.1)
      go (Some w) e none later = absurd (cc none)

  -- what is picked of some is picked of all
  pub picked-part : (g : X → Option Y) (xs : List X) (i : ℕ) (x : X) (y : Y) → i < length xs → x ≡ get_or xs i x → g x ≡ Some y → (k : ℕ) × (k < length (filter_map g xs)) × (get_or (filter_map g xs) k y ≡ y)
  picked-part g [] i x y l at some = absurd (omega arith)
  picked-part g (z ∷ xs) zero x y l at some = let here : g z ≡ Some y = rw at at some in rw here (zero, omega arith, refl)
  picked-part g (z ∷ xs) (suc i) x y l at some = go (g z) (picked-part g xs i x y (omega arith) at some)
    where
      go : (o : Option Y) → ((k : ℕ) × (k < length (filter_map g xs)) × (get_or (filter_map g xs) k y ≡ y)) → (k : ℕ) × (k < length (cons_option o (filter_map g xs))) × (get_or (cons_option o (filter_map g xs)) k y ≡ y)
      go None m = m
      go (Some w) m = (suc m.0, omega (arith, m.1), m.2)

-- what is made of one more
pub map-push : {X Y : Type 0} (h : X → Y) (xs : List X) (x : X) → map h (xs ++ x ∷ []) ≡ map h xs ++ h x ∷ []
map-push h [] x = refl
map-push h (y ∷ xs) x = ap (λ ys. h y ∷ ys) (map-push h xs x)

module _ {X Y : Type 0} where
  -- the same of the next as it stands
  pub picked-item : (g : X → Option Y) (xs ys : List X) (i : ℕ) (x : X) → ys ≡ xs → x ≡ get_or ys i x → i < length ys → filter_map g (take (i + 1) xs) ≡ filter_map g (take i xs) ++ cons_option (g x) []
  picked-item g xs ys i x same at l = picked-more g xs ys i x same l ∙ ap (λ (z : X). filter_map g (take i xs) ++ cons_option (g z) []) (sym at)

-- one more, or none
pub one-longer : {Y : Type 0} (ys : List Y) (o : Option Y) → is_some o ≡ true → length (ys ++ cons_option o []) ≡ length ys + 1
one-longer ys None e = absurd (cc e)
one-longer ys (Some y) e = length-append ys (y ∷ [])

pub none-longer : {Y : Type 0} (ys : List Y) (o : Option Y) → is_some o ≡ false → length (ys ++ cons_option o []) ≡ length ys
none-longer ys None e = ap length (append-nil ys)
none-longer ys (Some y) e = absurd (cc e)

-- it is there, if its copy is
pub some-copied : {Y : Type 0} (o : Option (Bor Y)) → is_some (option_copied o) ≡ is_some o
some-copied None = refl
some-copied (Some r) = refl
