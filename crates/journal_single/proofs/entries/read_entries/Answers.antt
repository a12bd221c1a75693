use Rattle.std.proofs.Common.{inl, inr, ⊎_elim, length, arith}
use Rattle.std.specs.List.{All}
use Rattle.std.proofs.lemmas.List.Elements.{All-weaker}
use Rattle.std.proofs.lemmas.Result.{IfOk-weaker, IfErr-weaker}
use Rattle.types_codec.specs.Codec.{Readable}
use Rattle.journal_single.specs.Record.{FitsBelow}
use Rattle.journal_single.specs.Refusals.{foreign_wider}
use Rattle.journal_single.proofs.entries.read_entries.Goals as goal

pub returns-clause-fitting : goal.returns-clause-fitting
returns-clause-fitting g c =
    let Fits = Readable g.M.Write.fits (g.M.Read.within 65535) in
    let Short = FitsBelow (length c.args.bytes.now) Fits g.M.Write.spelling in
    IfOk-weaker c.read_entries_below.result (λ entries. All Short entries.messages.items) (λ entries. All Fits entries.messages.items) (λ entries all. All-weaker Short Fits (λ m both. both.0) entries.messages.items all)
    c.read_entries_below.ensures.fitting

pub returns-clause-faults : goal.returns-clause-faults
returns-clause-faults g c =
    IfErr-weaker _ _ _ (λ fault either. ⊎_elim (λ memory. inl memory) (λ some. inr (some.0, some.1, foreign_wider (length c.args.bytes.now) c.args.bytes.now some.0 (omega arith) some.2)) either) c.read_entries_below.ensures.faults
