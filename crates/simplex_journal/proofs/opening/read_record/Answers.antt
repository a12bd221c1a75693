use Rattle.std.proofs.Common.{◌≡◌, ◌∙◌, ◌+◌, ◌-◌, ◌^◌, List, ℕ, [], length, map, sym, subst, arith, inl, inr}
use Rattle.types_codec.specs.Codec.{Readable}
use Rattle.journal_single.specs.declared.fault.JournalFault.TheVariants as journal
use Rattle.journal_single.specs.Record.{IsForeign, FitsBelow}
use Rattle.simplex_journal.specs.Reading.{IsFoundOf, IsForeignOf}
use Rattle.simplex_journal.proofs.Finishing.{found_of, foreign_of}
use Rattle.simplex_journal.proofs.opening.read_record.Goals as goal

pub returns-in-Ok-read_entries_below-clause-found : goal.returns-in-Ok-read_entries_below-clause-found
returns-in-Ok-read_entries_below-clause-found g c = λ k.
    let start = c.len.result - length c.record_in-generation.result.1.now in
    let bodies = map g.M.Write.spelling c.in-Ok-read_entries_below.entries.messages.items in
    subst (λ (l : List ℕ). IsFoundOf c.record_in-generation.result.0 l (start + c.in-Ok-read_entries_below.entries.gate) bodies) (c.deref.ensures.value ∙ c.in-Ok.ensures.bytes k)
    (found_of _ _ _ start _ bodies c.record_in-generation.ensures.record (omega (arith, c.len.ensures, c.deref.ensures.len)) c.in-Ok-read_entries_below.ensures.found)

pub returns-in-Err-Foreign-clause-foreign : goal.returns-in-Err-Foreign-clause-foreign
returns-in-Err-Foreign-clause-foreign g c = λ place is k.
    let Fits = FitsBelow (2 ^ 32 - 1) (Readable g.M.Write.fits (g.M.Read.within 65535)) g.M.Write.spelling in
    let spelling = g.M.Write.spelling in
    let start = c.len.result - length c.record_in-generation.result.1.now in
    let told = c.in-Err-Foreign.field-0-is in
    let here : start + c.in-Err-Foreign.place ≡ place = cc is in
    elim c.in-Err-Foreign.ensures.faults [
      | inl memory ↦ absurd (let never : journal.Foreign c.in-Err-Foreign.place ≡ journal.Memory = sym told ∙ memory in cc)
      | inr some ↦
          let both : journal.Foreign some.0 ≡ journal.Foreign c.in-Err-Foreign.place = sym some.1 ∙ told in
          let same : some.0 ≡ c.in-Err-Foreign.place = cc in
          let foreign = subst (λ (n : ℕ). IsForeign [] Fits spelling c.record_in-generation.result.1.now n) same some.2 in (
            c.record_in-generation.result.0,
            subst (λ (n : ℕ). IsForeignOf Fits spelling (g.K.Disk.seen c.args.disk.now) c.record_in-generation.result.0 n) here
                (subst (λ (l : List ℕ). IsForeignOf Fits spelling l c.record_in-generation.result.0 (start + c.in-Err-Foreign.place)) (c.deref.ensures.value ∙ c.in-Ok.ensures.bytes k)
                (foreign_of Fits spelling _ _ _ start _ c.record_in-generation.ensures.record (omega (arith, c.len.ensures, c.deref.ensures.len)) foreign)),
          )
    ]
