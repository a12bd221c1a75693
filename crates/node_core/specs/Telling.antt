-- What a call tells of a node's journal and of its disks.
use Rattle.std.specs.Prelude.{◌≡◌, ◌≢◌, Bool, true, false, Result, Ok, Err, IfErr, IsErrOf, OnOk}
use Rattle.std.proofs.Common.{◌∙◌, refl}
use Rattle.journal_single.specs.declared.disk.Disk as disk
use Rattle.journal_books.specs.declared.books.Books.{Books}
use Rattle.journal_books.specs.Books.{HasFailed, HasNotFailed, are_two, disks_of, has_failed}
use Rattle.journal_books.specs.BooksLaws.{failed_then, not_failed_then, same_kind, same_kind_failed, same_not_failed}
use Rattle.simplex_member.specs.declared.fault.NodeFault.{NodeFault}
use Rattle.simplex_member.specs.declared.fault.NodeFault.TheVariants as step_fault

-- what a call tells of a journal: a disk has failed once more exactly where that is told. That the journal has failed before is told
-- only where it had, and it fails only where that is told
pub record TellsOfBook {M K A : Type 0} (k : disk.Ghosts K) (old new : Books M K) (answer : Result A NodeFault) : Type 0 where
  pub device : IsErrOf answer step_fault.Device → HasFailed k (disks_of old) (disks_of new)
  pub no_device : IfErr answer (λ why. why ≢ step_fault.Device → HasNotFailed k (disks_of old) (disks_of new))
  pub no_fault : OnOk answer (HasNotFailed k (disks_of old) (disks_of new))
  pub failed : IsErrOf answer step_fault.Failed → has_failed old ≡ true
  pub stays_open : OnOk answer (has_failed old ≡ false → has_failed new ≡ false)

-- Lemmas: one call behind another, and the same of another answer.

failed_before : (old mid : Bool) → (old ≡ false → mid ≡ false) → mid ≡ true → old ≡ true
failed_before true mid stays is = refl
failed_before false mid stays is = absurd (cc (stays refl, is))

module _ {M K : Type 0} {k : disk.Ghosts K} where
  -- a call that asks nothing of it
  pub tells_nothing : {A : Type 0} (on : Books M K) (x : A) → TellsOfBook k on on (Ok x)
  tells_nothing on x = record { device = λ is. absurd (cc is); no_device = tt; no_fault = same_not_failed k (disks_of on); failed = λ is. absurd (cc is); stays_open = λ is. is }

  tells_both : {A B : Type 0} (old mid new : Books M K) (x : A) (answer : Result B NodeFault) → TellsOfBook k old mid (Ok x) → TellsOfBook k mid new answer → TellsOfBook k old new answer
  tells_both old mid new x (Ok y) one other = record {
    device = λ is. failed_then k (disks_of old) (disks_of mid) (disks_of new) one.no_fault (other.device is);
    no_device = tt;
    no_fault = not_failed_then k (disks_of old) (disks_of mid) (disks_of new) one.no_fault other.no_fault;
    failed = λ is. absurd (cc is);
    stays_open = λ runs. other.stays_open (one.stays_open runs);
  }
  tells_both old mid new x (Err why) one other = record {
    device = λ is. failed_then k (disks_of old) (disks_of mid) (disks_of new) one.no_fault (other.device is);
    no_device = λ is. not_failed_then k (disks_of old) (disks_of mid) (disks_of new) one.no_fault (other.no_device is);
    no_fault = tt;
    failed = λ is. failed_before (has_failed old) (has_failed mid) one.stays_open (other.failed is);
    stays_open = tt;
  }

  -- a call behind one that didn't fail
  pub tells_behind : {A B : Type 0} {old mid new : Books M K} {x : A} {answer : Result B NodeFault} → TellsOfBook k old mid (Ok x) → TellsOfBook k mid new answer → TellsOfBook k old new answer
  tells_behind {old = old} {mid = mid} {new = new} {x = x} {answer = answer} one other = tells_both old mid new x answer one other

  -- the disks are as many as before
  pub tells_as_many : {A : Type 0} (old new : Books M K) (answer : Result A NodeFault) → TellsOfBook k old new answer → are_two (disks_of new) ≡ are_two (disks_of old)
  tells_as_many old new (Ok x) told = same_kind k (disks_of old) (disks_of new) told.no_fault
  tells_as_many old new (Err step_fault.Device) told = same_kind_failed k (disks_of old) (disks_of new) (told.device refl)
  tells_as_many old new (Err step_fault.Memory) told = same_kind k (disks_of old) (disks_of new) (told.no_device (λ is. absurd (cc is)))
  tells_as_many old new (Err step_fault.Failed) told = same_kind k (disks_of old) (disks_of new) (told.no_device (λ is. absurd (cc is)))

  -- another answer that is none of a fault, or of the same
  pub tells_ok : {A B : Type 0} {old new : Books M K} {x : A} {y : B} → TellsOfBook k old new (Ok x) → TellsOfBook k old new (Ok y)
  tells_ok told = record { device = λ is. absurd (cc is); no_device = tt; no_fault = told.no_fault; failed = λ is. absurd (cc is); stays_open = told.stays_open }

  pub tells_err : {A B : Type 0} {old new : Books M K} {why : NodeFault} (answer : Result A NodeFault) (other : Result B NodeFault) → answer ≡ Err why → other ≡ Err why → TellsOfBook k old new answer → TellsOfBook k old new other
  tells_err (Ok x) other at is told = absurd (cc at)
  tells_err (Err a) (Ok y) at is told = absurd (cc is)
  tells_err (Err a) (Err b) at is told =
      let same : b ≡ a = cc (at, is) in
      record {
        device = λ it. told.device (cc (same, it));
        no_device = λ other. told.no_device (λ it. other (same ∙ it));
        no_fault = tt;
        failed = λ it. told.failed (cc (same, it));
        stays_open = tt;
      }
