-- What a program tells of its streams, by what a run over them does.
use Rattle.std.proofs.Common.{◌≡◌, ◌≢◌, ◌⊎◌, inl, inr, ℕ, refl, sym, ap, ◌∙◌, subst}
use Rattle.std.specs.Prelude.{Result, Ok, Err, IfErr, false, true}
use Rattle.journal_single.specs.Disk.{counted}
use Rattle.simplex_member.specs.declared.fault.IoFault.{IoFault}
use Rattle.simplex_member.specs.declared.fault.IoFault.TheVariants as fault
use Rattle.simplex_member.specs.declared.fault.NodeFault.{NodeFault}
use Rattle.simplex_cli.specs.declared.ending.Ending.{Ending}
use Rattle.simplex_cli.specs.declared.ending.Ending.TheVariants as ending
use Rattle.simplex_cli.specs.Ending.{ending_of}
use Rattle.simplex_cli.specs.Serving.{AreTold, EndsAs, ended_of}

module _ {A : Type 0} where
  -- a failed write is told of nothing else
  failed_write : (io : Result A IoFault) → ended_of io ≡ Err ending.Write → io ≡ Err fault.Write
  failed_write (Ok done) is = absurd cc
  failed_write (Err fault.Read) is = absurd cc
  failed_write (Err fault.Write) is = refl
  failed_write (Err (fault.BadEvent place)) is = absurd cc
  failed_write (Err (fault.Node why)) is = absurd cc
  failed_write (Err fault.Memory) is = absurd cc

  -- what a run does with its streams is told so
  pub told_of : (io : Result A IoFault) (read_before read_now written_before written_now : ℕ) (Was Is : Type 0)
      → (io ≢ Err fault.Read → read_now ≡ read_before) → (io ≡ Err fault.Write → written_now ≡ counted false written_before)
      → (io ≢ Err fault.Write → written_now ≡ written_before) → (io ≢ Err fault.Write → Was → Is)
      → AreTold (ended_of io) read_before read_now written_before written_now Was Is
  told_of io read_before read_now written_before written_now Was Is read failed written flushed = record {
    read = λ other. read (λ is. other (ap ended_of is));
    write_failed = λ is. failed (failed_write io is);
    write = λ other. written (λ is. other (ap ended_of is));
    flushed = λ other. flushed (λ is. other (ap ended_of is));
  }

  -- so where the record was rewritten behind that
  pub told_so : (io : Result A IoFault) (ended : Result A Ending) (read_before read_now written_before written_now : ℕ) (Was Is : Type 0) → EndsAs io true ended
      → AreTold (ended_of io) read_before read_now written_before written_now Was Is → AreTold ended read_before read_now written_before written_now Was Is
  told_so (Err why) ended read_before read_now written_before written_now Was Is so told = subst (λ (r : Result A Ending). AreTold r read_before read_now written_before written_now Was Is) (sym so) told
  told_so (Ok done) ended read_before read_now written_before written_now Was Is (inl so) told = subst (λ (r : Result A Ending). AreTold r read_before read_now written_before written_now Was Is) (sym so) told
  told_so (Ok done) ended read_before read_now written_before written_now Was Is (inr (why, so)) told = record {
    read = λ other. told.read (λ bad. absurd cc);
    write_failed = λ is. absurd (let bad = sym so ∙ is in cc);
    write = λ other. told.write (λ bad. absurd cc);
    flushed = λ other. told.flushed (λ bad. absurd cc);
  }

  -- behind a first reply that was written and flushed
  pub told_behind : (ended : Result A Ending) (read_before read_now written_before written written_now : ℕ) (Was Since Is : Type 0)
      → written ≡ written_before → Since → AreTold ended read_before read_now written written_now Since Is
      → AreTold ended read_before read_now written_before written_now Was Is
  told_behind ended read_before read_now written_before written written_now Was Since Is same since told = record {
    read = told.read;
    write_failed = λ is. told.write_failed is ∙ ap (counted false) same;
    write = λ other. told.write other ∙ same;
    flushed = λ other before. told.flushed other since;
  }

  -- a first reply that wasn't written whole: since memory ran out, and then nothing was, or a write failed
  pub told_first : {W : Type 0} (failed : W → ℕ) (Flushed : W → Type 0) (why : IoFault) (read : ℕ) (old new : W) → (why ≡ fault.Memory) ⊎ (why ≡ fault.Write)
      → (why ≡ fault.Memory → new ≡ old) → (why ≡ fault.Write → failed new ≡ counted false (failed old)) → (why ≢ fault.Write → failed new ≡ failed old)
      → AreTold (ended_of {A = A} (Err why)) read read (failed old) (failed new) (Flushed old) (Flushed new)
  told_first {W} failed Flushed why read old new (inl memory) untouched broken whole =
      told_of (Err why) read read (failed old) (failed new) (Flushed old) (Flushed new) (λ other. refl) (λ is. broken (cc)) (λ other. ap failed (untouched memory))
      (λ other before. subst Flushed (sym (untouched memory)) before)
  told_first {W} failed Flushed why read old new (inr write) untouched broken whole =
      told_of (Err why) read read (failed old) (failed new) (Flushed old) (Flushed new) (λ other. refl) (λ is. broken write) (λ other. absurd (other (ap Err write)))
      (λ other before. absurd (other (ap Err write)))

  -- where nothing was read or written that is told too
  pub told_none : {W : Type 0} (failed : W → ℕ) (Flushed : W → Type 0) (ended : Result A Ending) (read : ℕ) (old new : W) → ended ≢ Err ending.Write → new ≡ old
      → AreTold ended read read (failed old) (failed new) (Flushed old) (Flushed new)
  told_none failed Flushed ended read old new other same = record {
    read = λ any. refl;
    write_failed = λ is. absurd (other is);
    write = λ any. ap failed same;
    flushed = λ any before. subst Flushed (sym same) before;
  }

-- why a run broke off, whatever it would have come to
same_why : {A B : Type 0} (why other : IoFault) → ◌≡◌ {A = Result A IoFault} (Err why) (Err other) → ◌≡◌ {A = Result B IoFault} (Err why) (Err other)
same_why why other is = let same : why ≡ other = cc in ap (λ (x : IoFault). Err x) same

-- what a run that broke off does with its streams is told so, whatever it would have come to
pub told_broken : {A B : Type 0} (why : IoFault) (read_before read_now written_before written_now : ℕ) (Was Is : Type 0)
    → (◌≢◌ {A = Result B IoFault} (Err why) (Err fault.Read) → read_now ≡ read_before) → (◌≡◌ {A = Result B IoFault} (Err why) (Err fault.Write) → written_now ≡ counted false written_before)
    → (◌≢◌ {A = Result B IoFault} (Err why) (Err fault.Write) → written_now ≡ written_before) → (◌≢◌ {A = Result B IoFault} (Err why) (Err fault.Write) → Was → Is)
    → AreTold {A = A} (Err (ending_of why)) read_before read_now written_before written_now Was Is
told_broken {A} {B} why read_before read_now written_before written_now Was Is read failed written flushed =
    told_of {A = A} (Err why) read_before read_now written_before written_now Was Is (λ other. read (λ is. other (same_why why fault.Read is))) (λ is. failed (same_why why fault.Write is))
    (λ other. written (λ is. other (same_why why fault.Write is))) (λ other. flushed (λ is. other (same_why why fault.Write is)))

-- a run that came to no fault broke off for none
pub none_broke : {A : Type 0} (done : A) (why : IoFault) → ◌≢◌ {A = Result A IoFault} (Ok done) (Err why)
none_broke done why = λ bad. absurd cc

-- what failed no write
pub steps_alone : {A : Type 0} (ended : Result A Ending) → IfErr ended (λ why. (cause : NodeFault) × (why ≡ ending.Step cause)) → ended ≢ Err ending.Write
steps_alone (Ok done) told = λ bad. absurd cc
steps_alone (Err why) (cause, is) = λ bad. absurd cc

-- where nothing failed of the streams that is told too
pub told_fine : {A : Type 0} (ended : Result A Ending) (read_before read_now written_before written_now : ℕ) (Was Is : Type 0) → ended ≢ Err ending.Write
    → read_now ≡ read_before → written_now ≡ written_before → (Was → Is) → AreTold ended read_before read_now written_before written_now Was Is
told_fine ended read_before read_now written_before written_now Was Is other read written flushed = record {
  read = λ any. read;
  write_failed = λ is. absurd (other is);
  write = λ any. written;
  flushed = λ any. flushed;
}
