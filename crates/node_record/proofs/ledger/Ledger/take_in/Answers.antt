use Rattle.std.proofs.Common.{◌++◌, ◌∷◌, [], inl, sym, subst, arith}
use Rattle.types_codec.specs.Codec.{Readable}
use Rattle.messages_certificates.specs.Artifact.{artifact_fits, artifact_spelling, artifact_within, artifact_within-weaker}
use Rattle.messages_certificates.specs.declared.artifact.Artifact.TheVariants as artifact
use Rattle.messages_certificates.specs.ProposalCertificate.{Finalization}
use Rattle.simplex_record.specs.Record.{entries, entry}
use Rattle.simplex_record.specs.Rules.{MayFollow}
use Rattle.journal_books.specs.BooksLaws.{book_weaker}
use Rattle.node_record.specs.Ledger.{KeepsRecord}
use Rattle.node_record.proofs.Appended.{copy-behind}
use Rattle.node_record.proofs.ledger.Ledger.take_in.Goals as goal

-- nothing was asked of a disk
pub returns-in_default-clause-any_moment : goal.returns-in_default-clause-any_moment
returns-in_default-clause-any_moment g c = λ owner xs k keeps. book_weaker g.K.Disk _ _ (λ read is. inl is) _ _ (c.a_ledger_at_rest_leaves_its_record.ensures owner c.args.self.now xs k keeps)

pub returns-then-encode_size-gt-LONGEST-clause-any_moment : goal.returns-then-encode_size-gt-LONGEST-clause-any_moment
returns-then-encode_size-gt-LONGEST-clause-any_moment g c = λ owner xs k keeps. book_weaker g.K.Disk _ _ (λ read is. inl is) _ _ (c.a_ledger_at_rest_leaves_its_record.ensures owner c.args.self.now xs k keeps)

pub returns-then-not-is_within-clause-any_moment : goal.returns-then-not-is_within-clause-any_moment
returns-then-not-is_within-clause-any_moment g c = λ owner xs k keeps. book_weaker g.K.Disk _ _ (λ read is. inl is) _ _ (c.a_ledger_at_rest_leaves_its_record.ensures owner c.args.self.now xs k keeps)

-- what can be read again in a committee can be in the largest
pub record-requires : goal.record-requires
record-requires g c = record {
  within = artifact_within-weaker (λ x within. g.met.S.Certificate.Read.grows c.args.members 65535 x c.requires.few within) (artifact.Finalization c.in-Ok.copy) (c.is_within.ensures.0 (grind (arith, c.if-not-is_within.false)));
}

-- it is recorded
pub returns-in-Ok-record-clause-keeps : goal.returns-in-Ok-record-clause-keeps
returns-in-Ok-record-clause-keeps g c = λ owner xs k follows.
    subst (λ (d : Finalization g.row.S.Denot g.row.D.Denot g.row.S-PublicKey.Denot g.row.S-Signature.Denot g.row.S-Certificate.Denot). KeepsRecord g.K.Disk (artifact_spelling g.D.Write.spelling g.S.Signature.Write.spelling g.S.Certificate.Write.spelling) owner c.record.new.self (xs ++ artifact.Finalization d ∷ [])) c.in-Ok.ensures
    (c.in-Ok-record.ensures.keeps owner xs k (subst (λ (d : Finalization g.row.S.Denot g.row.D.Denot g.row.S-PublicKey.Denot g.row.S-Signature.Denot g.row.S-Certificate.Denot). MayFollow owner.term_length (entries xs) (entry (artifact.Finalization d))) (sym c.in-Ok.ensures) follows))

pub returns-in-Ok-record-clause-recordable : goal.returns-in-Ok-record-clause-recordable
returns-in-Ok-record-clause-recordable g c =
    subst (λ (d : Finalization g.row.S.Denot g.row.D.Denot g.row.S-PublicKey.Denot g.row.S-Signature.Denot g.row.S-Certificate.Denot). (Readable (artifact_fits g.D.Write.fits g.S.Signature.Write.fits g.S.Certificate.Write.fits) (artifact_within (g.S.Certificate.Read.within c.args.members))) (artifact.Finalization d)) c.in-Ok.ensures (c.encode_size.ensures.readable, c.is_within.ensures.0 (grind (arith, c.if-not-is_within.false)))

pub returns-in-Ok-record-clause-any_moment : goal.returns-in-Ok-record-clause-any_moment
returns-in-Ok-record-clause-any_moment g c = λ owner xs k keeps.
    copy-behind g.K.Disk (artifact_spelling g.D.Write.spelling g.S.Signature.Write.spelling g.S.Certificate.Write.spelling) (Readable (artifact_fits g.D.Write.fits g.S.Signature.Write.fits g.S.Certificate.Write.fits) (artifact_within (g.S.Certificate.Read.within c.args.members))) xs c.args.floor.now c.in-Ok.copy _ _ c.in-Ok.ensures (c.encode_size.ensures.readable, c.is_within.ensures.0 (grind (arith, c.if-not-is_within.false))) (c.in-Ok-record.ensures.any_moment owner xs k keeps)

pub returns-in-Err-Device-clause-any_moment : goal.returns-in-Err-Device-clause-any_moment
returns-in-Err-Device-clause-any_moment g c = λ owner xs k keeps.
    copy-behind g.K.Disk (artifact_spelling g.D.Write.spelling g.S.Signature.Write.spelling g.S.Certificate.Write.spelling) (Readable (artifact_fits g.D.Write.fits g.S.Signature.Write.fits g.S.Certificate.Write.fits) (artifact_within (g.S.Certificate.Read.within c.args.members))) xs c.args.floor.now c.in-Ok.copy _ _ c.in-Ok.ensures (c.encode_size.ensures.readable, c.is_within.ensures.0 (grind (arith, c.if-not-is_within.false))) (c.in-Err-Device.ensures.any_moment owner xs k keeps)

pub returns-in-Err-Memory-clause-any_moment : goal.returns-in-Err-Memory-clause-any_moment
returns-in-Err-Memory-clause-any_moment g c = λ owner xs k keeps.
    copy-behind g.K.Disk (artifact_spelling g.D.Write.spelling g.S.Signature.Write.spelling g.S.Certificate.Write.spelling) (Readable (artifact_fits g.D.Write.fits g.S.Signature.Write.fits g.S.Certificate.Write.fits) (artifact_within (g.S.Certificate.Read.within c.args.members))) xs c.args.floor.now c.in-Ok.copy _ _ c.in-Ok.ensures (c.encode_size.ensures.readable, c.is_within.ensures.0 (grind (arith, c.if-not-is_within.false))) (c.in-Err-Memory.ensures.any_moment owner xs k keeps)
