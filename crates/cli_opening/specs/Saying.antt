-- The words of what a record's file holds, each on a line of its own.
use Rattle.std.specs.Prelude.{ℕ, List, [], ◌∷◌, codes}
use Rattle.std.specs.List.{concat}
use Rattle.std.specs.Fmt.{decimal}
use Rattle.cli_opening.specs.declared.looking.Barred.{Barred}
use Rattle.cli_opening.specs.declared.looking.Barred.TheVariants as barred
use Rattle.cli_opening.specs.declared.looking.Found.{Found}

-- the line of a record that is opened
unfoldable pub found_words : List ℕ → Found → List ℕ
found_words path found =
    concat (codes "record: " ∷ path ∷ codes ": " ∷ decimal found.entries ∷ codes " entries, up to view " ∷ decimal found.reaches ∷ codes ", finalized up to view " ∷ decimal found.finalized ∷ codes "; " ∷ decimal found.cut ∷ codes " bytes behind them are left out\n" ∷ [])

-- the words of why a file is left as it is, where what else may have been said of its record is asked in these words
unfoldable pub barred_words_by : List ℕ → List ℕ → Barred → List ℕ
barred_words_by path asked barred.Memory = []
barred_words_by path asked barred.Device = concat (codes "record: " ∷ path ∷ codes ": it can't be read\n" ∷ [])
barred_words_by path asked barred.NoRecord =
    concat (codes "record: " ∷ path ∷ codes ": left as it is, since no record begins with its first byte; does the path name another file?\n" ∷ [])
barred_words_by path asked (barred.Foreign place) =
    concat (codes "record: " ∷ path ∷ codes ": left as it is, since no artifact stands at byte " ∷ decimal place ∷ codes "; does the path name another file?\n" ∷ [])
barred_words_by path asked (barred.Unlawful position) =
    concat (codes "record: " ∷ path ∷ codes ": left as it is, since no record of this member has entry " ∷ decimal position ∷ codes ", counted from 0; was it written with " ∷ asked ∷ codes "?\n" ∷ [])
barred_words_by path asked (barred.Unclosed place) =
    concat (codes "record: " ∷ path ∷ codes ": left as it is, since its end is gone: no whole entry stands behind the gate at byte " ∷ decimal place ∷ codes ", which isn't closed; --cut cuts there, and may take votes that were sent\n" ∷ [])
barred_words_by path asked (barred.Behind place) =
    concat (codes "record: " ∷ path ∷ codes ": left as it is, since more than a crash leaves stands behind the gate at byte " ∷ decimal place ∷ codes "; --cut cuts there, and may take votes that were sent\n" ∷ [])

-- the same where an index and a count were said
abbrev pub barred_words : List ℕ → Barred → List ℕ
barred_words path = barred_words_by path (codes "another INDEX or COUNT")
