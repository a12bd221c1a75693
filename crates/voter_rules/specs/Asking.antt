-- What is answered to whoever asks which requests are due.
use Rattle.std.specs.Prelude.{◌≡◌, ℕ, true, IsSome}
use Rattle.types_core.specs.declared.proposal.Proposal.{Proposal}
use Rattle.voter_history.specs.Known.{Known}
use Rattle.voter_rules.specs.Ancestry.{Member}
use Rattle.voter_rules.specs.Requests.{VerifyIsDue, IsInvalid, NullificationIsWanted, NotarizationIsWanted, IsPassed, VerdictIsOpen, CertifyIsDue, CertifyWaits, IsPutOff, CertificateIsWanted}
use Rattle.voter_rules.specs.declared.requests.VerifyRequest.{VerifyRequest}
use Rattle.voter_rules.specs.declared.requests.VerifyRequest.TheVariants as verify
use Rattle.voter_rules.specs.declared.requests.CertifyRequest.{CertifyRequest}
use Rattle.voter_rules.specs.declared.requests.CertifyRequest.TheVariants as certify

module _ {D : Type 0} (m : Member) (k : Known D) (view : ℕ) where
  -- this is to be done for the proposal that the view holds: its verification, or the certificate that it waits for, is to be asked
  -- for; the view is to be given up; or nothing of that
  abbrev pub Finds : VerifyRequest D → Type 0
  Finds (verify.Ready p payload) = VerifyIsDue m k view p payload
  Finds verify.Invalid = (p : Proposal D) × IsInvalid m k view p
  Finds (verify.Nullification u) = (p : Proposal D) × NullificationIsWanted m k view p u
  Finds (verify.Notarization u) = (p : Proposal D) × NotarizationIsWanted m k view p × (p.parent ≡ u)
  Finds verify.Wait = IsPassed m k view

  -- this is to be asked for the view's verdict: itself, or the certificate that it waits for; or nothing, since that is there and
  -- the verdict is yet to be put off, or since none is open that wasn't put off and doesn't still wait
  abbrev pub Decides : CertifyRequest D → Type 0
  Decides (certify.Ready p) = CertifyIsDue m k view p
  Decides (certify.Fetch u) = CertificateIsWanted m k view u
  Decides (certify.PutOff u) = IsPutOff m k view u × IsSome (k.notarized u)
  Decides certify.Wait = (p : Proposal D) → VerdictIsOpen m k view p → (k.certify_waited view ≡ true) × ((u : ℕ) × CertifyWaits m k view u)
