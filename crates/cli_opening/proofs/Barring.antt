-- Why a file is left, by what is strange of it, and what is found where nothing is.
use Rattle.std.proofs.Common.{◌≡◌, ◌≢◌, ℕ, ◌+◌, ◌-◌, List, [], Bool, false, length, map, drop, All, arith}
use Rattle.journal_single.specs.Record.{IsFound}
use Rattle.journal_look.specs.Look.{BeginsLikeOne, IsStrange, IsTooMuch, IsUnclosed}
use Rattle.journal_look.specs.declared.looking.Strange.{Strange}
use Rattle.journal_look.specs.declared.looking.Strange.TheVariants as strange
use Rattle.simplex_record.specs.Record.{entries, greatest, last_finalized}
use Rattle.simplex_record.specs.Lawful.{IsLawful, IsRefusedAt}
use Rattle.simplex_record.specs.declared.owner.Owner.{Owner}
use Rattle.cli_tool.specs.ToolAnswers.{Entry, IsEntry, entry_spelling}
use Rattle.cli_opening.specs.declared.looking.Barred.TheVariants as barred
use Rattle.cli_opening.specs.declared.looking.Found.{Found}
use Rattle.cli_opening.specs.Looking.{IsBarredBy, IsFoundBy, attests_under, barred_of, certifies_under, view_of}

-- what is strange bars an opening
pub barred_over : (base : List ℕ) (count : ℕ) (owner : Owner) (bytes : List ℕ) (why : Strange) → IsStrange IsEntry entry_spelling bytes why
    → IsBarredBy base count owner bytes (barred_of why)
barred_over base count owner bytes strange.Memory is = tt
barred_over base count owner bytes strange.NoRecord is = is
barred_over base count owner bytes (strange.Foreign place) is = is.1
barred_over base count owner bytes (strange.Unclosed place) is = is.1
barred_over base count owner bytes (strange.Behind place) is = is.1

-- so does an entry that is refused
pub unlawful_over : (base : List ℕ) (count : ℕ) (owner : Owner) (gate position : ℕ) (bytes : List ℕ) (entries : List Entry) → All IsEntry entries → IsFound [] bytes gate (map entry_spelling entries)
    → IsRefusedAt (attests_under base count) (certifies_under base count) owner entries position → IsBarredBy base count owner bytes (barred.Unlawful position)
unlawful_over base count owner gate position bytes entries fitting found refused = (entries, record { fitting = fitting; gate = gate; found = found }, refused)

-- what is found where nothing bars it
pub found_over : (base : List ℕ) (count : ℕ) (owner : Owner) (cuts : Bool) (bytes : List ℕ) (found : Found) (gate : ℕ) (artifacts : List Entry) → All IsEntry artifacts
    → IsFound [] bytes gate (map entry_spelling artifacts) → BeginsLikeOne bytes → (cuts ≡ false → ¬ IsUnclosed (drop gate bytes))
    → (cuts ≡ false → ¬ IsTooMuch (drop gate bytes)) → IsLawful (attests_under base count) (certifies_under base count) owner artifacts
    → found.entries ≡ length artifacts → found.reaches ≡ greatest 0 view_of artifacts → found.finalized ≡ last_finalized (entries artifacts)
    → found.cut ≡ length bytes - (gate + 1) → IsFoundBy base count owner cuts bytes found
found_over base count owner cuts bytes found gate artifacts fitting held begins closed left lawful entries_are reaches_is finalized_is cut_is =
    record {
      artifacts = artifacts;
      fitting = fitting;
      gate = gate;
      held = held;
      begins = begins;
      closed = closed;
      left = left;
      lawful = lawful;
      entries_are = entries_are;
      reaches_is = reaches_is;
      finalized_is = finalized_is;
      cut_is = cut_is;
    }

-- what is strange of bytes is no failure of their disk
pub never_device : (why : Strange) → barred_of why ≢ barred.Device
never_device strange.Memory same = absurd (grind (arith, same))
never_device strange.NoRecord same = absurd (grind (arith, same))
never_device (strange.Foreign place) same = absurd (grind (arith, same))
never_device (strange.Unclosed place) same = absurd (grind (arith, same))
never_device (strange.Behind place) same = absurd (grind (arith, same))
