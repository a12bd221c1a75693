-- What is signed: a statement, in the namespace of its kind, as the bytes of a message.
use Rattle.std.specs.Prelude.{◌≡◌, ℕ, List, ◌++◌, codes}
use Rattle.types_core.specs.declared.position.Round.{Round}
use Rattle.types_core.specs.declared.proposal.Proposal.{Proposal}
use Rattle.types_core.specs.declared.subject.Subject.{Subject}
use Rattle.types_core.specs.declared.subject.Subject.TheVariants as code
use Rattle.types_core.specs.Round.{round_spelling, round_fits}
use Rattle.types_core.specs.Proposal.{proposal_spelling, proposal_fits}

-- what a vote says, wherever the subject lies in memory
pub data Statement (D : Type 0) : Type 0 where
  notarize : Proposal D → Statement D
  nullify : Round → Statement D
  finalize : Proposal D → Statement D

-- what a subject says
abbrev pub statement : {D : Type 0} → Subject D → Statement D
statement (code.Notarize p) = notarize p.now
statement (code.Nullify r) = nullify r
statement (code.Finalize p) = finalize p.now

-- the round that a statement is on
abbrev pub statement_round : {D : Type 0} → Statement D → Round
statement_round (notarize p) = p.round
statement_round (nullify r) = r
statement_round (finalize p) = p.round

-- the message that is signed, where these are a payload's bytes
abbrev pub message : {D : Type 0} → (D → List ℕ) → Statement D → List ℕ
message payload (notarize p) = proposal_spelling payload p
message payload (nullify r) = round_spelling r
message payload (finalize p) = proposal_spelling payload p

-- the name of a statement's kind
abbrev pub kind_name : {D : Type 0} → Statement D → List ℕ
kind_name (notarize p) = codes "_NOTARIZE"
kind_name (nullify r) = codes "_NULLIFY"
kind_name (finalize p) = codes "_FINALIZE"

-- the namespace that a statement is signed in: the base, then the name of its kind
abbrev pub namespace : {D : Type 0} → List ℕ → Statement D → List ℕ
namespace base s = base ++ kind_name s

-- a statement whose numbers fit their types
abbrev pub IsStatement : {D : Type 0} → (D → Type 0) → Statement D → Type 0
IsStatement F (notarize p) = proposal_fits F p
IsStatement F (nullify r) = round_fits r
IsStatement F (finalize p) = proposal_fits F p

-- under one base a namespace with a message belongs to one statement
abbrev pub OneSubjectEach : {D : Type 0} → (D → Type 0) → (D → List ℕ) → Type 0
OneSubjectEach {D} F payload = (base : List ℕ) (x y : Statement D) → IsStatement F x → IsStatement F y → namespace base x ≡ namespace base y → message payload x ≡ message payload y → x ≡ y
