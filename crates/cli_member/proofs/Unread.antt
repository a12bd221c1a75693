-- One of two disks that was not read.
use Rattle.std.proofs.Common.{inl, inr, ℕ, List, drop, refl, sym, ap, subst}
use Rattle.simplex_journal.specs.Generation.{IsGeneration, IsOf}
use Rattle.simplex_journal.specs.GenerationLaws.{number_any}
use Rattle.simplex_record.specs.declared.owner.Owner.{Owner}
use Rattle.cli_opening.specs.declared.looking.Barred.TheVariants as barred
use Rattle.cli_opening.specs.Halves.{IsBarredOnHalf}

-- any bytes are of a generation or of none
headed : (bytes : List ℕ) (generation : ℕ) (rest : List ℕ) → IsOf bytes generation rest → (number : ℕ) × (head : ℕ) × IsOf bytes number (drop head bytes)
headed bytes generation rest (inl is) =
    (generation, 9, inl (subst (λ (l : List ℕ). IsGeneration bytes generation l) (sym (ap (λ (l : List ℕ). drop 9 l) is.split)) is))
headed bytes generation rest (inr (none, zero, same)) = (0, 0, inr (none, refl, refl))

-- so where memory ran out before, nothing is said of them
pub unread : (base : List ℕ) (count : ℕ) (owner : Owner) (bytes : List ℕ) → IsBarredOnHalf base count owner bytes barred.Memory
unread base count owner bytes =
    let any = number_any bytes in
    let so = headed bytes any.0 any.1.0 any.1.1 in
    record { generation = so.0; head = so.1; of = so.2; cause = barred.Memory; told = refl; barred = tt }
