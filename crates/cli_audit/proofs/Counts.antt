-- Words spell one count.
use Rattle.std.proofs.Common.{◌≡◌, ℕ, List, [], ◌∷◌, codes, sym, ◌∙◌, arith}
use Rattle.std.specs.Fmt.{decimal}
use Rattle.std.proofs.lemmas.Fmt.{decimal_injective}
use Rattle.cli_audit.specs.declared.command.Command.TheVariants.{Audit}
use Rattle.cli_audit.specs.Command.{SpellsCommand}

pub one_count : (words : List (List ℕ)) (m n : ℕ) → SpellsCommand words (Audit m) → SpellsCommand words (Audit n) → m ≡ n
one_count words m n first second =
    let both : codes "audit" ∷ decimal m ∷ [] ≡ codes "audit" ∷ decimal n ∷ [] = sym first.0 ∙ second.0 in
    let digits : decimal m ≡ decimal n = cc in
    decimal_injective m n (omega (arith, first.2)) (omega (arith, second.2)) digits
