-- Lemmas for whoever reads words: which number one spells, and the texts of a list of two, and of four.
use Rattle.std.proofs.Common.{◌≡◌, ℕ, List, [], ◌∷◌, length, get_or, map, arith, sym, ◌∙◌}
use Rattle.std.proofs.lemmas.Fmt.{decimal_injective}
use Rattle.cli_audit.specs.Command.{SpellsNumber}

-- a word spells one number
pub spelled_once : (word : List ℕ) (m n : ℕ) → SpellsNumber word m → SpellsNumber word n → m ≡ n
spelled_once word m n (small, e) (small', e') = decimal_injective m n (omega arith) (omega arith) (sym e ∙ e')

pub map_two : {X Y : Type 0} (f : X → Y) (xs : List X) (a b : X) → length xs ≡ 2 → a ≡ get_or xs 0 a → b ≡ get_or xs 1 b → map f xs ≡ f a ∷ f b ∷ []
map_two f [] a b e p q = absurd (omega arith)
map_two f (x ∷ []) a b e p q = absurd (omega arith)
map_two f (x ∷ y ∷ []) a b e p q = cc
map_two f (x ∷ y ∷ z ∷ xs) a b e p q = absurd (omega arith)

pub map_four : {X Y : Type 0} (f : X → Y) (xs : List X) (a b c d : X) → length xs ≡ 4 → a ≡ get_or xs 0 a → b ≡ get_or xs 1 b → c ≡ get_or xs 2 c → d ≡ get_or xs 3 d → map f xs ≡ f a ∷ f b ∷ f c ∷ f d ∷ []
map_four f [] a b c d e p q r s = absurd (omega arith)
map_four f (x ∷ []) a b c d e p q r s = absurd (omega arith)
map_four f (x ∷ y ∷ []) a b c d e p q r s = absurd (omega arith)
map_four f (x ∷ y ∷ z ∷ []) a b c d e p q r s = absurd (omega arith)
map_four f (x ∷ y ∷ z ∷ w ∷ []) a b c d e p q r s = cc
map_four f (x ∷ y ∷ z ∷ w ∷ v ∷ xs) a b c d e p q r s = absurd (omega arith)
