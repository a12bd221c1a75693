-- The votes that constructions judge came from the network.
use Rattle.std.proofs.Common.{◌≡◌, ◌≤◌, ℕ, Bool, true, false, ◌+◌, List, [], ◌∷◌, arith, length}
use Rattle.std.specs.Prelude.{Option, None, Some, MatchOption, is_none, is_some, if◌then◌else◌}
use Rattle.types_core.specs.declared.scheme.Scheme.{Ghosts}
use Rattle.simplex_messages.specs.declared.vote.Vote.{Vote}
use Rattle.messages_certificates.specs.declared.certificate.Certificate.{Certificate}
use Rattle.types_terms.specs.declared.kind.Kind.{Kind}
use Rattle.batcher_verifier.specs.declared.batch.Batch.{Batch}
use Rattle.simplex_batcher.specs.declared.call.Call.{Call}
use Rattle.simplex_batcher.specs.declared.call.Call.TheVariants.{AddNetwork, AcceptVote, RecordCertificate, SetLeader, TryConstruct, TryForwardProposal, Ask}
use Rattle.simplex_batcher.specs.declared.call.Question.TheVariants.{HasCertificate, HasNullify, IsMissingVoter, MissingVoters, Belongs, BelongsCertificate}
use Rattle.simplex_batcher.specs.declared.call.Answer.{Answer}
use Rattle.simplex_batcher.specs.declared.call.Answer.TheVariants as answer
use Rattle.batcher_verifier.specs.History.{History, Event, Taken, Cast, Certified, Led, Forwarded, Setup, taken, takes, recorded, leader_of, forwardable, next_kind}
use Rattle.batcher_verifier.specs.ConstructionResult.{after, after_construction, IsBatch, IsConstruction}
use Rattle.batcher_verifier.specs.Spending.{waits, Spends}
use Rattle.simplex_batcher.specs.Run.{Answers, AnswersAre, after_call, after_all, processed_of, processed_in}

module _ {S D P G C : Type 0} (g : Ghosts S D P G C) (same : D → D → Bool) (s : Setup S)
    (event : (h : History S D P G C) (e : Event (Vote S D P G C) (Certificate S D P G C)) → Spends same s 0 h (e ∷ h))
    (judged : (h : History S D P G C) (kind : Kind) (batch : Batch (Certificate S D P G C)) → IsBatch g same s kind h batch → Spends same s batch.processed h (after kind (Some batch) h)) where
  spends-none : (h : History S D P G C) → Spends same s 0 h h
  spends-none h = omega arith

  spends-if : (b : Bool) (e : Event (Vote S D P G C) (Certificate S D P G C)) (h : History S D P G C) → Spends same s 0 h (if b then e ∷ h else h)
  spends-if true e h = event h e
  spends-if false e h = spends-none h

  spends-construction : (h : History S D P G C) (made : Option (Batch (Certificate S D P G C))) → IsConstruction g same s h made → Spends same s (processed_of (answer.Constructed made)) h (after_construction (next_kind same s h) made h)
  spends-construction h made is = go (next_kind same s h) made is
    where
      go : (next : Option Kind) (made : Option (Batch (Certificate S D P G C))) → MatchOption next (made ≡ None) (λ kind. MatchOption made ⊥ (λ batch. IsBatch g same s kind h batch)) → Spends same s (processed_of (answer.Constructed made)) h (after_construction next made h)
      go None None e = spends-none h
      go None (Some batch) e = absurd (cc e)
      go (Some kind) None e = absurd e
      go (Some kind) (Some batch) is = judged h kind batch is

  spends-call : (h : History S D P G C) (call : Call S D P G C) (a : Answer S D P G C) → Answers g same s h call a → Spends same s (processed_of a) h (after_call same s h call a)
  spends-call h (AddNetwork i v) (answer.Admitted x) is = spends-if (takes s h i v) (Taken v) h
  spends-call h (AddNetwork i v) (answer.Cast r) is = absurd is
  spends-call h (AddNetwork i v) (answer.Recorded b) is = absurd is
  spends-call h (AddNetwork i v) answer.Led is = absurd is
  spends-call h (AddNetwork i v) (answer.Constructed made) is = absurd is
  spends-call h (AddNetwork i v) (answer.Forward p) is = absurd is
  spends-call h (AddNetwork i v) (answer.Is b) is = absurd is
  spends-call h (AddNetwork i v) (answer.Members m) is = absurd is
  spends-call h (AddNetwork i v) (answer.Refused f) is = spends-none h
  spends-call h (AcceptVote v) (answer.Admitted x) is = absurd is
  spends-call h (AcceptVote v) (answer.Cast r) is = spends-if (is_none (recorded h v)) (Cast v) h
  spends-call h (AcceptVote v) (answer.Recorded b) is = absurd is
  spends-call h (AcceptVote v) answer.Led is = absurd is
  spends-call h (AcceptVote v) (answer.Constructed made) is = absurd is
  spends-call h (AcceptVote v) (answer.Forward p) is = absurd is
  spends-call h (AcceptVote v) (answer.Is b) is = absurd is
  spends-call h (AcceptVote v) (answer.Members m) is = absurd is
  spends-call h (AcceptVote v) (answer.Refused f) is = spends-none h
  spends-call h (RecordCertificate c) (answer.Admitted x) is = absurd is
  spends-call h (RecordCertificate c) (answer.Cast r) is = absurd is
  spends-call h (RecordCertificate c) (answer.Recorded b) is = event h (Certified c)
  spends-call h (RecordCertificate c) answer.Led is = absurd is
  spends-call h (RecordCertificate c) (answer.Constructed made) is = absurd is
  spends-call h (RecordCertificate c) (answer.Forward p) is = absurd is
  spends-call h (RecordCertificate c) (answer.Is b) is = absurd is
  spends-call h (RecordCertificate c) (answer.Members m) is = absurd is
  spends-call h (RecordCertificate c) (answer.Refused f) is = spends-none h
  spends-call h (SetLeader i) (answer.Admitted x) is = absurd is
  spends-call h (SetLeader i) (answer.Cast r) is = absurd is
  spends-call h (SetLeader i) (answer.Recorded b) is = absurd is
  spends-call h (SetLeader i) answer.Led is = spends-if (is_none (leader_of h)) (Led i) h
  spends-call h (SetLeader i) (answer.Constructed made) is = absurd is
  spends-call h (SetLeader i) (answer.Forward p) is = absurd is
  spends-call h (SetLeader i) (answer.Is b) is = absurd is
  spends-call h (SetLeader i) (answer.Members m) is = absurd is
  spends-call h (SetLeader i) (answer.Refused f) is = spends-none h
  spends-call h TryConstruct (answer.Admitted x) is = absurd is
  spends-call h TryConstruct (answer.Cast r) is = absurd is
  spends-call h TryConstruct (answer.Recorded b) is = absurd is
  spends-call h TryConstruct answer.Led is = absurd is
  spends-call h TryConstruct (answer.Constructed made) is = spends-construction h made is
  spends-call h TryConstruct (answer.Forward p) is = absurd is
  spends-call h TryConstruct (answer.Is b) is = absurd is
  spends-call h TryConstruct (answer.Members m) is = absurd is
  spends-call h TryConstruct (answer.Refused f) is = spends-none h
  spends-call h (TryForwardProposal me) (answer.Admitted x) is = absurd is
  spends-call h (TryForwardProposal me) (answer.Cast r) is = absurd is
  spends-call h (TryForwardProposal me) (answer.Recorded b) is = absurd is
  spends-call h (TryForwardProposal me) answer.Led is = absurd is
  spends-call h (TryForwardProposal me) (answer.Constructed made) is = absurd is
  spends-call h (TryForwardProposal me) (answer.Forward p) is = spends-if (is_some (forwardable h me)) Forwarded h
  spends-call h (TryForwardProposal me) (answer.Is b) is = absurd is
  spends-call h (TryForwardProposal me) (answer.Members m) is = absurd is
  spends-call h (TryForwardProposal me) (answer.Refused f) is = absurd is
  spends-call h (Ask question) (answer.Admitted x) is = spends-none h
  spends-call h (Ask question) (answer.Cast r) is = spends-none h
  spends-call h (Ask question) (answer.Recorded b) is = spends-none h
  spends-call h (Ask question) answer.Led is = spends-none h
  spends-call h (Ask (HasCertificate kind)) (answer.Constructed made) is = absurd is
  spends-call h (Ask (HasNullify i)) (answer.Constructed made) is = absurd is
  spends-call h (Ask (IsMissingVoter p i)) (answer.Constructed made) is = absurd is
  spends-call h (Ask (MissingVoters p)) (answer.Constructed made) is = absurd is
  spends-call h (Ask (Belongs v)) (answer.Constructed made) is = absurd is
  spends-call h (Ask (BelongsCertificate c)) (answer.Constructed made) is = absurd is
  spends-call h (Ask question) (answer.Forward p) is = spends-none h
  spends-call h (Ask question) (answer.Is b) is = spends-none h
  spends-call h (Ask question) (answer.Members m) is = spends-none h
  spends-call h (Ask question) (answer.Refused f) is = spends-none h

  spends-more : (m n : ℕ) (h mid later : History S D P G C) → Spends same s m h mid → Spends same s n mid later → Spends same s (m + n) h later
  spends-more m n h mid later first second = omega (arith, first, second)

  spends-all : (h : History S D P G C) (calls : List (Call S D P G C)) (answers : List (Answer S D P G C)) → AnswersAre g same s h calls answers → Spends same s (processed_in answers) h (after_all same s h calls answers)
  spends-all h [] [] are = spends-none h
  spends-all h (call ∷ calls) (a ∷ answers) are =
      let mid = after_call same s h call a in
      spends-more (processed_of a) (processed_in answers) h mid (after_all same s mid calls answers) (spends-call h call a are.0) (spends-all mid calls answers are.1)
  spends-all h [] (a ∷ answers) are = absurd are
  spends-all h (call ∷ calls) [] are = absurd are

  -- no more votes were judged than were accepted from the network
  pub processed-taken : ((h : History S D P G C) → waits same s h ≤ length (taken h)) → (h : History S D P G C) (calls : List (Call S D P G C)) (answers : List (Answer S D P G C)) → AnswersAre g same s h calls answers → processed_in answers ≤ length (taken (after_all same s h calls answers))
  processed-taken waiting h calls answers are = omega (arith, spends-all h calls answers are, waiting h)
