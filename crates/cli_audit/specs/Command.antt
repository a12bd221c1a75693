use Rattle.std.specs.Prelude.{◌≡◌, ℕ, ◌^◌, ◌<◌, List, [], ◌∷◌, codes}
use Rattle.std.specs.Fmt.{decimal}
use Rattle.cli_audit.specs.declared.command.Command.{Command}
use Rattle.cli_audit.specs.declared.command.Command.TheVariants.{Audit, Node}

-- the word is the decimal digits of a number below 65,536, with no sign and no leading zero
abbrev pub SpellsNumber : List ℕ → ℕ → Type 0
SpellsNumber word n = (n < 2 ^ 16) × (word ≡ decimal n)

-- the words of a command, where an audit has participants and a node is one of those counted
abbrev pub SpellsCommand : List (List ℕ) → Command → Type 0
SpellsCommand words (Audit count) =
    (words ≡ codes "audit" ∷ decimal count ∷ []) × (0 < count) × (count < 2 ^ 16)
SpellsCommand words (Node path index count) =
    (words ≡ codes "node" ∷ path.now ∷ decimal index ∷ decimal count ∷ []) × (index < count) × (count < 2 ^ 16)
