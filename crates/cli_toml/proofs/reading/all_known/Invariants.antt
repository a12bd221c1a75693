use Rattle.std.proofs.Common.{ℕ, List}
use Rattle.toml.specs.View.{members_view}
use Rattle.cli_toml.specs.Refusing.{AreKnown, HasName}
use Rattle.cli_toml.proofs.reading.all_known.Given as goal

-- names that are left to look at are names of the table, and where each of them is a key's, each of the table's is
abbrev pub invariant-loop-name : goal.invariant-loop-name
invariant-loop-name l = record {
  known : AreKnown (members_view l.name-iterator) → AreKnown (members_view l.table.entries);
  named : (name : List ℕ) → HasName name (members_view l.name-iterator) → HasName name (members_view l.table.entries);
}
