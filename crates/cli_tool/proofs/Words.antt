-- The texts of a list of three words, and of a list with a first word.
use Rattle.std.proofs.Common.{◌≡◌, ◌<◌, ◌-◌, List, [], ◌∷◌, length, get_or, map, take, drop, take_all, arith}

pub map_three : {X Y : Type 0} (f : X → Y) (xs : List X) (a b c : X) → length xs ≡ 3 → a ≡ get_or xs 0 a → b ≡ get_or xs 1 b → c ≡ get_or xs 2 c → map f xs ≡ f a ∷ f b ∷ f c ∷ []
map_three f [] a b c e p q r = absurd (omega arith)
map_three f (x ∷ []) a b c e p q r = absurd (omega arith)
map_three f (x ∷ y ∷ []) a b c e p q r = absurd (omega arith)
map_three f (x ∷ y ∷ z ∷ []) a b c e p q r = cc
map_three f (x ∷ y ∷ z ∷ w ∷ xs) a b c e p q r = absurd (omega arith)

pub map_behind : {X Y : Type 0} (f : X → Y) (xs : List X) (a : X) → 0 < length xs → a ≡ get_or xs 0 a → map f xs ≡ f a ∷ map f (take (length xs - 1) (drop 1 xs))
map_behind f [] a e p = absurd (omega arith)
map_behind f (x ∷ xs) a e p =
    let all : take (length (x ∷ xs) - 1) xs ≡ xs = take_all (length (x ∷ xs) - 1) xs (omega arith) in
    cc (p, all)
