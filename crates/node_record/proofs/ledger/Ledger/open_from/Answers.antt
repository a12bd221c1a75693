use Rattle.std.proofs.Common.{⊎_elim, inl, inr, [], List, Option, ap, refl, sym, subst}
use Rattle.std.proofs.lemmas.List.{append-nil}
use Rattle.std.proofs.lemmas.Result.{IfErr-weaker, IfOk-weaker}
use Rattle.types_quorum.specs.Counting.{Contains-nil}
use Rattle.messages_certificates.specs.declared.artifact.Artifact.{Artifact}
use Rattle.messages_certificates.specs.Artifact.{artifact_spelling}
use Rattle.simplex_record.specs.Lawful.{IsLawful}
use Rattle.messages_certificates.specs.ProposalCertificate.{Finalization}
use Rattle.simplex_member.specs.Member.{AppendsFloor}
use Rattle.simplex_member.specs.Setup.{brought_by}
use Rattle.journal_books.specs.BooksLaws.{failed_then, leave_weaker, not_failed_then, since_weaker}
use Rattle.node_record.specs.Ledger.{KeepsRecord}
use Rattle.node_record.proofs.ledger.Ledger.open_from.Goals as goal

-- where it wasn't opened, nothing was brought yet
pub returns-in-Err-clause-any_moment_of_a_fault : goal.returns-in-Err-clause-any_moment_of_a_fault
returns-in-Err-clause-any_moment_of_a_fault g c = λ keeps. leave_weaker g.K.Disk _ _ (λ read is. inl is) _ _ (c.in-Err.ensures.any_moment_of_a_fault keeps)

pub returns-in-Err-clause-untouched : goal.returns-in-Err-clause-untouched
returns-in-Err-clause-untouched g c = λ other memory keeps. c.in-Err.ensures.untouched other keeps

-- the payload of view 0 is brought
pub returns-in-Genesis-clause-opened : goal.returns-in-Genesis-clause-opened
returns-in-Genesis-clause-opened g c =
    let over = c.in-Ok.ensures.opened in
    record {
      found = over.found;
      founded = [];
      are = record {
        are_found = over.are_found;
        appended = record {
          appends = subst (λ (brought : Option (Finalization g.row.S.Denot g.row.D.Denot g.row.S-PublicKey.Denot g.row.S-Signature.Denot g.row.S-Certificate.Denot)). AppendsFloor brought over.found []) (sym (ap brought_by c.in-Genesis.is)) refl;
          recordable = λ x there. absurd (Contains-nil x there);
          lawful = subst (λ (l : List (Artifact g.row.S.Denot g.row.D.Denot g.row.S-PublicKey.Denot g.row.S-Signature.Denot g.row.S-Certificate.Denot)). IsLawful (g.S.Scheme.attests c.args.scheme.now) (g.S.Scheme.certifies c.args.scheme.now) c.args.owner l) (sym (append-nil over.found)) over.lawful;
        };
      };
      keeps = subst (λ (l : List (Artifact g.row.S.Denot g.row.D.Denot g.row.S-PublicKey.Denot g.row.S-Signature.Denot g.row.S-Certificate.Denot)). KeepsRecord g.K.Disk (artifact_spelling g.D.Write.spelling g.S.Signature.Write.spelling g.S.Certificate.Write.spelling) c.args.owner c.in-Ok.ledger l) (sym (append-nil over.found)) over.keeps;
    }

pub returns-in-Genesis-clause-any_moment : goal.returns-in-Genesis-clause-any_moment
returns-in-Genesis-clause-any_moment g c = λ keeps. since_weaker g.K.Disk _ _ (λ read is. inl is) _ _ (c.in-Ok.ensures.any_moment keeps)

-- a finalization is
pub returns-in-Finalized-clause-opened : goal.returns-in-Finalized-clause-opened
returns-in-Finalized-clause-opened g c =
    let over = c.in-Ok.ensures.opened in
    IfOk-weaker c.found.result _ _ (λ ledger holds.
    let it = holds over.found over.keeps over.lawful in
    record { found = over.found; founded = it.founded; are = record { are_found = over.are_found; appended = rw (sym (ap brought_by c.in-Finalized.is)) at it.appended }; keeps = it.keeps }) c.found.ensures.holds

pub returns-in-Finalized-clause-any_moment : goal.returns-in-Finalized-clause-any_moment
returns-in-Finalized-clause-any_moment g c =
    let over = c.in-Ok.ensures.opened in
    IfOk-weaker c.found.result _ _ (λ ledger leaves keeps.
    since_weaker g.K.Disk _ _ (λ read. ⊎_elim (λ is. inl is) (λ (founded, appended, is). inr (over.found, founded, record { are_found = over.are_found; appended = rw (sym (ap brought_by c.in-Finalized.is)) at appended }, is))) _ _
    (leaves over.found c.args.disks over.keeps over.lawful keeps (over.are_found.left keeps) (c.in-Ok.ensures.any_moment keeps))) c.found.ensures.any_moment

pub returns-in-Finalized-clause-any_moment_of_a_fault : goal.returns-in-Finalized-clause-any_moment_of_a_fault
returns-in-Finalized-clause-any_moment_of_a_fault g c =
    let over = c.in-Ok.ensures.opened in
    IfErr-weaker c.found.result _ _ (λ refused leaves keeps.
    leave_weaker g.K.Disk _ _ (λ read. ⊎_elim (λ is. inl is) (λ (founded, appended, is). inr (over.found, founded, record { are_found = over.are_found; appended = rw (sym (ap brought_by c.in-Finalized.is)) at appended }, is))) _ _
    (leaves over.found c.args.disks over.keeps over.lawful keeps (over.are_found.left keeps) (c.in-Ok.ensures.any_moment keeps))) c.found.ensures.any_moment_of_a_fault

-- whose faults are a disk's, or want of memory
pub returns-in-Finalized-clause-faults : goal.returns-in-Finalized-clause-faults
returns-in-Finalized-clause-faults g c = IfErr-weaker c.found.result _ _ (λ refused told. ⊎_elim (λ device. inl device) (λ memory. inr (inl memory)) told) c.found.ensures.faults

pub returns-in-Finalized-clause-foreign : goal.returns-in-Finalized-clause-foreign
returns-in-Finalized-clause-foreign g c = IfErr-weaker c.found.result _ _ (λ refused told place is keeps. absurd (⊎_elim (λ device. cc (device, is)) (λ memory. cc (memory, is)) told)) c.found.ensures.faults

pub returns-in-Finalized-clause-contradiction : goal.returns-in-Finalized-clause-contradiction
returns-in-Finalized-clause-contradiction g c = IfErr-weaker c.found.result _ _ (λ refused told position is. absurd (⊎_elim (λ device. cc (device, is)) (λ memory. cc (memory, is)) told)) c.found.ensures.faults

pub returns-in-Finalized-clause-untouched : goal.returns-in-Finalized-clause-untouched
returns-in-Finalized-clause-untouched g c = IfErr-weaker c.found.result _ _ (λ refused told other memory keeps. absurd (⊎_elim other memory told)) c.found.ensures.faults

-- nor has a disk failed before
pub returns-in-Finalized-clause-device : goal.returns-in-Finalized-clause-device
returns-in-Finalized-clause-device g c = IfErr-weaker c.found.result _ _ (λ refused told is. failed_then g.K.Disk _ _ _ c.in-Ok.ensures.no_fault (told is)) c.found.ensures.device

pub returns-in-Finalized-clause-no_device : goal.returns-in-Finalized-clause-no_device
returns-in-Finalized-clause-no_device g c = IfErr-weaker c.found.result _ _ (λ refused told isnt. not_failed_then g.K.Disk _ _ _ c.in-Ok.ensures.no_fault (told isnt)) c.found.ensures.no_device

pub returns-in-Finalized-clause-no_fault : goal.returns-in-Finalized-clause-no_fault
returns-in-Finalized-clause-no_fault g c = IfOk-weaker c.found.result _ _ (λ ledger told. not_failed_then g.K.Disk _ _ _ c.in-Ok.ensures.no_fault told) c.found.ensures.no_fault

-- it was tested as what the opening brings
pub found-requires-clause-sound : goal.found-requires-clause-sound
found-requires-clause-sound g c = λ fault. rw c.in-Finalized.is at (c.requires.sound fault)

-- and it is the first call of a journal that was just opened
pub found-requires-clause-running : goal.found-requires-clause-running
found-requires-clause-running g c = c.in-Ok.ensures.opened.keeps.runs
