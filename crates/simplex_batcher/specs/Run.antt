-- The answers to a list of calls.
use Rattle.std.specs.Prelude.{◌≡◌, ◌≢◌, ◌↔◌, ℕ, Bool, false, IsTrue, List, [], ◌∷◌, ◌++◌, ◌+◌, if◌then◌else◌, Option, None, Some, IfSome, MatchOption, is_none, is_some, ⊤}
use Rattle.types_core.specs.Subject.{Statement}
use Rattle.types_core.specs.declared.scheme.Scheme.{Ghosts}
use Rattle.simplex_messages.specs.declared.vote.Vote.{Vote}
use Rattle.messages_certificates.specs.declared.certificate.Certificate.{Certificate}
use Rattle.simplex_messages.specs.declared.activity.Activity.{Activity}
use Rattle.simplex_messages.specs.VoteParts.{vote_round}
use Rattle.messages_certificates.specs.Certificate.{certificate_round}
use Rattle.batcher_verifier.specs.declared.batcher_fault.BatcherFault.TheVariants.{WrongRound, OtherLeader, Memory}
use Rattle.types_terms.specs.declared.kind.Kind.TheVariants.{Notarization}
use Rattle.batcher_admission.specs.declared.admission.Admission.{Admission}
use Rattle.batcher_verifier.specs.declared.batch.Batch.{Batch}
use Rattle.simplex_batcher.specs.declared.call.Call.{Call}
use Rattle.simplex_batcher.specs.declared.call.Call.TheVariants.{AddNetwork, AcceptVote, RecordCertificate, SetLeader, TryConstruct, TryForwardProposal, Ask}
use Rattle.simplex_batcher.specs.declared.call.Question.{Question}
use Rattle.simplex_batcher.specs.declared.call.Question.TheVariants.{HasCertificate, HasNullify, IsMissingVoter, MissingVoters, Belongs, BelongsCertificate}
use Rattle.simplex_batcher.specs.declared.call.Answer.{Answer}
use Rattle.simplex_batcher.specs.declared.call.Answer.TheVariants as answer
use Rattle.batcher_verifier.specs.Votes.{certificate_kind}
use Rattle.batcher_verifier.specs.History.{History, Taken, Cast, Certified, Led, Forwarded, Setup, takes, recorded, selected, leader_of, is_complete, forwardable, next_kind}
use Rattle.batcher_verifier.specs.Lawful.{VoteAttests}
use Rattle.simplex_batcher.specs.Queries.{has_nullify, is_missing_voter, missing_voters}
use Rattle.batcher_admission.specs.Evidence.{as_report}
use Rattle.simplex_batcher.specs.Admission.{IsBlocked, report_of, contradicts, IsAdmissionFault, IsCastFault}
use Rattle.batcher_verifier.specs.ConstructionResult.{after_construction, IsConstruction}

module _ {S D P G C : Type 0} where
  -- what a call asks: that an own vote attests
  abbrev pub IsAsked : (S → ℕ → Statement D → G → Type 0) → Setup S → Call S D P G C → Type 0
  IsAsked attests s (AcceptVote v) = VoteAttests attests s v
  IsAsked attests s call = ⊤

  -- how many votes a construction judged, if that was answered
  abbrev pub processed_of : Answer S D P G C → ℕ
  processed_of (answer.Constructed (Some batch)) = batch.processed
  processed_of a = 0

  -- how many votes were judged in all
  abbrev pub processed_in : List (Answer S D P G C) → ℕ
  processed_in [] = 0
  processed_in (a ∷ answers) = processed_of a + processed_in answers

  -- the last three calls were constructions, none of which was refused
  pub record EndsInConstructions (calls : List (Call S D P G C)) (answers : List (Answer S D P G C)) : Type 0 where
    pub before : List (Call S D P G C)
    pub answered : List (Answer S D P G C)
    pub first : Option (Batch (Certificate S D P G C))
    pub second : Option (Batch (Certificate S D P G C))
    pub third : Option (Batch (Certificate S D P G C))
    pub calls_are : calls ≡ before ++ TryConstruct ∷ TryConstruct ∷ TryConstruct ∷ []
    pub answers_are : answers ≡ answered ++ answer.Constructed first ∷ answer.Constructed second ∷ answer.Constructed third ∷ []

  module _ (same : D → D → Bool) where
    -- the answer to a vote of this round from the network
    pub record IsAdmission (s : Setup S) (h : History S D P G C) (sender : ℕ) (v : Vote S D P G C) (a : Admission S D P G C) : Type 0 where
      pub ours : vote_round v ≡ s.round
      pub added : a.added ≡ takes s h sender v
      pub block : IsTrue a.block ↔ IsBlocked s h sender v
      pub report : a.report ≡ report_of same s h sender v

    -- the answer to an own vote of this round that contradicts no accepted one: its report, where it is new
    pub record IsCastReport (s : Setup S) (h : History S D P G C) (v : Vote S D P G C) (report : Option (Activity S D P G C)) : Type 0 where
      pub ours : vote_round v ≡ s.round
      pub agrees : contradicts same h v ≡ false
      pub report_is : report ≡ (if is_none (recorded h v) then Some (as_report v) else None)

    -- what is answered to a question after this history
    abbrev pub AnswersQuestion : Setup S → History S D P G C → Question S D P G C → Answer S D P G C → Type 0
    AnswersQuestion s h (HasCertificate kind) (answer.Is b) = b ≡ is_complete kind h
    AnswersQuestion s h (HasNullify signer) (answer.Is b) = b ≡ has_nullify h signer
    AnswersQuestion s h (IsMissingVoter p signer) (answer.Is b) = b ≡ is_missing_voter same h p signer
    AnswersQuestion s h (MissingVoters p) (answer.Members missing) = missing.items ≡ missing_voters same s h p
    AnswersQuestion s h (MissingVoters p) (answer.Refused fault) = fault ≡ Memory
    AnswersQuestion s h (Belongs v) (answer.Is b) = IsTrue b ↔ (vote_round v ≡ s.round)
    AnswersQuestion s h (BelongsCertificate c) (answer.Is b) = IsTrue b ↔ (certificate_round c ≡ s.round)
    AnswersQuestion s h question a = ⊥

    -- the history after a call: as before, where it was refused
    abbrev pub after_call : Setup S → History S D P G C → Call S D P G C → Answer S D P G C → History S D P G C
    after_call s h (AddNetwork sender v) (answer.Admitted a) = if takes s h sender v then Taken v ∷ h else h
    after_call s h (AcceptVote v) (answer.Cast report) = if is_none (recorded h v) then Cast v ∷ h else h
    after_call s h (RecordCertificate c) (answer.Recorded selects) = Certified c ∷ h
    after_call s h (SetLeader leader) answer.Led = if is_none (leader_of h) then Led leader ∷ h else h
    after_call s h TryConstruct (answer.Constructed made) = after_construction (next_kind same s h) made h
    after_call s h (TryForwardProposal me) (answer.Forward p) = if is_some (forwardable h me) then Forwarded ∷ h else h
    after_call s h call a = h

    -- the history after these calls
    abbrev pub after_all : Setup S → History S D P G C → List (Call S D P G C) → List (Answer S D P G C) → History S D P G C
    after_all s h (call ∷ calls) (a ∷ answers) = after_all s (after_call s h call a) calls answers
    after_all s h calls answers = h

  module _ (g : Ghosts S D P G C) (same : D → D → Bool) where
    -- what is answered to a call after this history
    abbrev pub Answers : Setup S → History S D P G C → Call S D P G C → Answer S D P G C → Type 0
    Answers s h (AddNetwork sender v) (answer.Admitted a) = IsAdmission same s h sender v a
    Answers s h (AddNetwork sender v) (answer.Refused fault) = IsAdmissionFault s v fault
    Answers s h (AcceptVote v) (answer.Cast report) = IsCastReport same s h v report
    Answers s h (AcceptVote v) (answer.Refused fault) = IsCastFault same s h v fault
    Answers s h (RecordCertificate c) (answer.Recorded selects) = (certificate_round c ≡ s.round) × (IsTrue selects ↔ ((certificate_kind c ≡ Notarization) × (selected (Certified c ∷ h) ≢ selected h)))
    Answers s h (RecordCertificate c) (answer.Refused fault) = (certificate_round c ≢ s.round) × (fault ≡ WrongRound)
    Answers s h (SetLeader leader) answer.Led = IfSome (leader_of h) (λ known. known ≡ leader)
    Answers s h (SetLeader leader) (answer.Refused fault) = (fault ≡ OtherLeader) × MatchOption (leader_of h) ⊥ (λ known. known ≢ leader)
    Answers s h TryConstruct (answer.Constructed made) = IsConstruction g same s h made
    Answers s h TryConstruct (answer.Refused fault) = fault ≡ Memory
    Answers s h (TryForwardProposal me) (answer.Forward p) = p ≡ forwardable h me
    Answers s h (Ask question) a = AnswersQuestion same s h question a
    Answers s h call a = ⊥

    -- the answers to these calls, each after those before it
    abbrev pub AnswersAre : Setup S → History S D P G C → List (Call S D P G C) → List (Answer S D P G C) → Type 0
    AnswersAre s h [] [] = ⊤
    AnswersAre s h (call ∷ calls) (a ∷ answers) = Answers s h call a × AnswersAre s (after_call same s h call a) calls answers
    AnswersAre s h [] (a ∷ answers) = ⊥
    AnswersAre s h (call ∷ calls) [] = ⊥
