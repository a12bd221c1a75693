use Rattle.std.proofs.Common.{◌<◌, ◌∷◌, [], inl, ℕ, List, sym, subst, arith, ap, Err}
use Rattle.std.proofs.lemmas.Bool.Decides.{nat_tests}
use Rattle.std.proofs.lemmas.List.{append-nil}
use Rattle.types_codec.specs.Codec.{Readable}
use Rattle.messages_certificates.specs.Artifact.{artifact_fits, artifact_spelling, artifact_within}
use Rattle.messages_certificates.specs.declared.artifact.Artifact.{Artifact}
use Rattle.messages_certificates.specs.declared.artifact.Artifact.TheVariants as artifact
use Rattle.voter_rules.specs.declared.floor.FloorFault.TheVariants as fault
use Rattle.simplex_record.specs.Record.{entries, last_finalized}
use Rattle.journal_books.specs.declared.disks.Disks.{Disks}
use Rattle.journal_books.specs.Books.{HasFailed, HasNotFailed, Leave}
use Rattle.journal_books.specs.BooksLaws.{since_leaves, since_weaker}
use Rattle.node_record.specs.Ledger.{KeepsRecord, disks_of}
use Rattle.node_record.proofs.Appended.{May, appended-none, appended-one, fits-behind, since-behind}
use Rattle.node_record.proofs.ledger.Ledger.found.Goals as goal

-- it doesn't lie above
pub returns-then-le-clause-holds : goal.returns-then-le-clause-holds
returns-then-le-clause-holds g c = λ xs k lawful. record {
  founded = [];
  appended = appended-none (g.S.Scheme.attests c.args.scheme.now) (g.S.Scheme.certifies c.args.scheme.now) c.args.owner c.args.floor.now
      (Readable (artifact_fits g.D.Write.fits g.S.Signature.Write.fits g.S.Certificate.Write.fits) (artifact_within (g.S.Certificate.Read.within (g.S.Scheme.size c.args.scheme.now)))) xs lawful (grind (arith, nat_tests, c.if-le.true, c.le.ensures, c.view-view.ensures, c.last_finalized-last.ensures c.args.owner xs k.holds));
  keeps = subst (λ (l : List (Artifact g.row.S.Denot g.row.D.Denot g.row.S-PublicKey.Denot g.row.S-Signature.Denot g.row.S-Certificate.Denot)). KeepsRecord g.K.Disk (artifact_spelling g.D.Write.spelling g.S.Signature.Write.spelling g.S.Certificate.Write.spelling) c.args.owner c.args.self l) (sym (append-nil xs)) k;
}

pub returns-then-le-clause-any_moment : goal.returns-then-le-clause-any_moment
returns-then-le-clause-any_moment g c = λ xs before k lawful keeps may since. since_weaker g.K.Disk _ _ (λ read is. inl is) _ _ since

-- it certifies, as was tested before
pub unreachable-requires : goal.unreachable-requires
unreachable-requires g c = c.requires.sound fault.NotVerifying (λ certified. let yes = c.verify.ensures.1 certified in absurd (cc (yes, c.if-not-verify.true)))

-- it is behind what was found
pub returns-in-Ok-clause-holds : goal.returns-in-Ok-clause-holds
returns-in-Ok-clause-holds g c = λ xs k lawful.
    let above : last_finalized (entries xs) < c.args.floor.now.proposal.round.view = grind (arith, nat_tests, c.if-le.false, c.le.ensures, c.view-view.ensures, c.last_finalized-last.ensures c.args.owner xs k.holds) in
    let certified = c.verify.ensures.0 (grind (arith, c.if-not-verify.false)) in
    let fits = fits-behind (g.S.Scheme.attests c.args.scheme.now) (g.S.Scheme.certifies c.args.scheme.now) c.args.owner c.args.floor.now c.requires.sound certified xs above in
    record {
      founded = artifact.Finalization c.args.floor.now ∷ [];
      appended = appended-one (g.S.Scheme.attests c.args.scheme.now) (g.S.Scheme.certifies c.args.scheme.now) c.args.owner c.args.floor.now
          (Readable (artifact_fits g.D.Write.fits g.S.Signature.Write.fits g.S.Certificate.Write.fits) (artifact_within (g.S.Certificate.Read.within (g.S.Scheme.size c.args.scheme.now)))) xs (c.a_lawful_record_grows.ensures.further c.args.scheme.now c.args.owner xs (artifact.Finalization c.args.floor.now) lawful fits) above
          (subst (λ (n : ℕ). (λ (n : ℕ). Readable (artifact_fits g.D.Write.fits g.S.Signature.Write.fits g.S.Certificate.Write.fits) (artifact_within (g.S.Certificate.Read.within n))) n (artifact.Finalization c.args.floor.now)) c.participants.ensures.value c.in-Ok.ensures.recordable);
      keeps = c.in-Ok.ensures.keeps c.args.owner xs k fits.follows;
    }

pub returns-in-Ok-clause-any_moment : goal.returns-in-Ok-clause-any_moment
returns-in-Ok-clause-any_moment g c = λ xs before k lawful keeps may since.
    let above : last_finalized (entries xs) < c.args.floor.now.proposal.round.view = grind (arith, nat_tests, c.if-le.false, c.le.ensures, c.view-view.ensures, c.last_finalized-last.ensures c.args.owner xs k.holds) in
    let certified = c.verify.ensures.0 (grind (arith, c.if-not-verify.false)) in
    let fits = fits-behind (g.S.Scheme.attests c.args.scheme.now) (g.S.Scheme.certifies c.args.scheme.now) c.args.owner c.args.floor.now c.requires.sound certified xs above in
    since-behind (g.S.Scheme.attests c.args.scheme.now) (g.S.Scheme.certifies c.args.scheme.now) c.args.owner c.args.floor.now (Readable (artifact_fits g.D.Write.fits g.S.Signature.Write.fits g.S.Certificate.Write.fits) (artifact_within (g.S.Certificate.Read.within (g.S.Scheme.size c.args.scheme.now)))) g.K.Disk (artifact_spelling g.D.Write.spelling g.S.Signature.Write.spelling g.S.Certificate.Write.spelling) xs before _ _
    (c.a_lawful_record_grows.ensures.further c.args.scheme.now c.args.owner xs (artifact.Finalization c.args.floor.now) lawful fits) above may since
    (rw c.participants.ensures.value at (c.in-Ok.ensures.any_moment c.args.owner xs k keeps))

-- or it could not be recorded: the disks are given back as they are left
pub returns-in-Err-clause-any_moment_of_a_fault : goal.returns-in-Err-clause-any_moment_of_a_fault
returns-in-Err-clause-any_moment_of_a_fault g c = λ xs before k lawful keeps may since.
    let above : last_finalized (entries xs) < c.args.floor.now.proposal.round.view = grind (arith, nat_tests, c.if-le.false, c.le.ensures, c.view-view.ensures, c.last_finalized-last.ensures c.args.owner xs k.holds) in
    let certified = c.verify.ensures.0 (grind (arith, c.if-not-verify.false)) in
    let fits = fits-behind (g.S.Scheme.attests c.args.scheme.now) (g.S.Scheme.certifies c.args.scheme.now) c.args.owner c.args.floor.now c.requires.sound certified xs above in
    subst (λ (on : Disks g.row.K.Denot). Leave g.K.Disk before on (May (g.S.Scheme.attests c.args.scheme.now) (g.S.Scheme.certifies c.args.scheme.now) c.args.owner c.args.floor.now (Readable (artifact_fits g.D.Write.fits g.S.Signature.Write.fits g.S.Certificate.Write.fits) (artifact_within (g.S.Certificate.Read.within (g.S.Scheme.size c.args.scheme.now)))) g.K.Disk (artifact_spelling g.D.Write.spelling g.S.Signature.Write.spelling g.S.Certificate.Write.spelling) xs before)) (sym c.close.ensures)
    (since_leaves g.K.Disk _ before _ (λ read is. inl is)
    (since-behind (g.S.Scheme.attests c.args.scheme.now) (g.S.Scheme.certifies c.args.scheme.now) c.args.owner c.args.floor.now (Readable (artifact_fits g.D.Write.fits g.S.Signature.Write.fits g.S.Certificate.Write.fits) (artifact_within (g.S.Certificate.Read.within (g.S.Scheme.size c.args.scheme.now)))) g.K.Disk (artifact_spelling g.D.Write.spelling g.S.Signature.Write.spelling g.S.Certificate.Write.spelling) xs before _ _
    (c.a_lawful_record_grows.ensures.further c.args.scheme.now c.args.owner xs (artifact.Finalization c.args.floor.now) lawful fits) above may since
    (rw c.participants.ensures.value at (c.in-Err.ensures.any_moment c.args.owner xs k keeps))))

pub returns-in-Err-clause-device : goal.returns-in-Err-clause-device
returns-in-Err-clause-device g c = λ is. subst (λ (on : Disks g.row.K.Denot). HasFailed g.K.Disk (disks_of c.args.self) on) (sym c.close.ensures) (c.in-Err.ensures.device (ap Err is))

pub returns-in-Err-clause-no_device : goal.returns-in-Err-clause-no_device
returns-in-Err-clause-no_device g c = λ isnt. subst (λ (on : Disks g.row.K.Denot). HasNotFailed g.K.Disk (disks_of c.args.self) on) (sym c.close.ensures) (c.in-Err.ensures.no_device isnt)
