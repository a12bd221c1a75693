-- What a construction gives rests on accepted votes.
use Rattle.std.proofs.Common.{◌≡◌, ◌<◌, inl, inr, ℕ, Bool, true, false, not, List, [], ◌++◌, refl, ap, sym, ◌∙◌, map, length}
use Rattle.std.specs.Prelude.{Option, None, Some, IfSome, IsTrue, ◌↔◌, is_some}
use Rattle.std.specs.List.{All, Contains}
use Rattle.std.proofs.lemmas.List.Elements.{All-nil, All-contains, All-same, Contains-append_cases, Contains-append_left, Contains-append_right}
use Rattle.types_core.specs.declared.attestation.Attestation.{Attestation}
use Rattle.types_core.specs.declared.scheme.Scheme.{Ghosts}
use Rattle.types_core.specs.Subject.{Statement}
use Rattle.types_core.specs.Batching.{FailsIn}
use Rattle.simplex_messages.specs.declared.vote.Vote.{Vote}
use Rattle.messages_certificates.specs.declared.certificate.Certificate.{Certificate}
use Rattle.messages_certificates.specs.Certificate.{certificate_statement, certified_by}
use Rattle.types_terms.specs.declared.kind.Kind.{Kind}
use Rattle.batcher_assembly.specs.Judging.{is_among, without, IsSound}
use Rattle.batcher_assembly.specs.Fewer.{filter-holds}
use Rattle.batcher_verifier.specs.declared.batch.Batch.{Batch}
use Rattle.batcher_verifier.specs.Votes.{is_kind, vote_kind, vote_statement, vote_attestation}
use Rattle.batcher_verifier.specs.History.{History, Setup, accepted, is_complete, waiting, verified, context, is_ready, is_due, are_one}
use Rattle.batcher_verifier.specs.Lawful.{IsConsistent}
use Rattle.batcher_verifier.specs.ConstructionResult.{IsVoted, HasFailed, IsFounded, IsOfVerified, IsOfWaiting, IsBatch}
use Rattle.batcher_verifier.proofs.Folding.{waiting-count, verified-count, counting-complete}
use Rattle.batcher_verifier.proofs.Lawfully.{each-counted}
use Rattle.batcher_verifier.proofs.Stating.{waiting-state, verified-state}
use Rattle.batcher_verifier.proofs.Rightly.{signer-of, map-from}
use Rattle.batcher_verifier.proofs.Finishing.{not-due, either}

module _ {S D P G C : Type 0} (same : D → D → Bool) (s : Setup S) (kind : Kind) (h : History S D P G C) where
  -- the vote was accepted, and is of the kind
  abbrev pub WasAccepted : Vote S D P G C → Type 0
  WasAccepted v = Contains (accepted h) v × (is_kind kind (vote_kind v) ≡ true)

  -- each vote that counts was accepted, and is of the kind
  pub counted-accepted : All WasAccepted (waiting same s kind h) × All WasAccepted (verified same s kind h)
  counted-accepted = each-counted same s kind WasAccepted h (λ v there mine. (there, mine))

  -- a kind of which a construction is due is not complete
  pub due-open : 0 < s.needed → is_due same s kind h ≡ true → is_complete kind h ≡ false
  due-open some due = go (is_complete kind h) refl
    where
      go : (b : Bool) → is_complete kind h ≡ b → is_complete kind h ≡ false
      go false e = e
      go true e =
          let w : waiting same s kind h ≡ [] = sym (waiting-count same s kind h) ∙ sym (counting-complete same s kind h (waiting same s kind h) e) in
          let v : verified same s kind h ≡ [] = sym (verified-count same s kind h) ∙ sym (counting-complete same s kind h (verified same s kind h) e) in
          let none : is_due same s kind h ≡ false = not-due s.needed (length (verified same s kind h)) (length (waiting same s kind h)) (is_some (context s kind h)) (are_one same (verified same s kind h)) s.batchable (rw v some) (ap length w) in
          absurd (cc (none, due))

module _ {S D P G C : Type 0} (g : Ghosts S D P G C) (same : D → D → Bool) (law : (x y : D) → IsTrue (same x y) ↔ (x ≡ y)) (s : Setup S) (kind : Kind) (h : History S D P G C) where
  -- the attestations of accepted votes of the kind that all state one thing
  voted : (x : Statement D) (votes : List (Vote S D P G C)) → All (WasAccepted same s kind h) votes → All (λ v. vote_statement v ≡ x) votes → (a : Attestation G) → Contains (map vote_attestation votes) a → IsVoted kind h x a
  voted x votes were says a there =
      let from = map-from vote_attestation votes a there in
      let was = All-contains (WasAccepted same s kind h) votes from.0 were from.1 in
      record { vote = from.0; accepted_is = was.0; kind_is = was.1; states = All-contains (λ v. vote_statement v ≡ x) votes from.0 says from.1; attestation_is = from.2 }

  -- what is left was there
  left-there : (failing : List ℕ) (wait : List (Attestation G)) (a : Attestation G) → Contains (without failing wait) a → Contains wait a
  left-there failing wait a there = All-contains (Contains wait) (without failing wait) a (filter-holds (Contains wait) (λ (b : Attestation G). not (is_among failing b.signer)) wait (λ b in_ passes. in_)) there

  fewer-there : (failing : List ℕ) (sure wait : List (Attestation G)) (a : Attestation G) → Contains (sure ++ without failing wait) a → Contains (sure ++ wait) a
  fewer-there failing sure wait a there = elim (Contains-append_cases sure (without failing wait) a there) [
    | inl at ↦ Contains-append_left sure wait a at
    | inr at ↦ Contains-append_right sure wait a (left-there failing wait a at)
  ]

  module _ (lawful : IsConsistent same g.attests s h) where
    founded-verified : (batch : Batch (Certificate S D P G C)) (c : Certificate S D P G C) → IsOfVerified g same s kind h batch → batch.certificate ≡ Some c → IsFounded g s kind h c
    founded-verified batch c v e =
        let one : v.certificate ≡ c = cc (v.made, e) in
        let is = rw one at v.certificate_is in record {
          kind_is = is.kind_is;
          round_is = is.round_is;
          does_certify = is.whole.sound.does_certify;
          listed = λ a there. voted (certificate_statement c) (verified same s kind h) (counted-accepted same s kind h).1 is.states a (is.whole.sound.only_given a there);
        }

    founded-waiting : (batch : Batch (Certificate S D P G C)) (c : Certificate S D P G C) → IsOfWaiting g same s kind h batch → batch.certificate ≡ Some c → IsFounded g s kind h c
    founded-waiting batch c w e =
        let sure = map vote_attestation (verified same s kind h) in
        let wait = map vote_attestation (waiting same s kind h) in
        let on = rw e at w.certificate_is in
        let sound : IsSound (g.certifies s.scheme w.states) g.lists (sure ++ wait) (certified_by c) = elim w.judged [
          | inl a ↦ let one : a.certificate ≡ certified_by c = cc (rw e at a.made) in rw one at a.sound
          | inr b ↦ let whole = (rw e at b.made).1 in record { does_certify = whole.sound.does_certify; only_given = λ a there. fewer-there batch.invalid.items sure wait a (whole.sound.only_given a there) }
        ] in record {
          kind_is = on.kind_is;
          round_is = on.round_is;
          does_certify = rw on.states sound.does_certify;
          listed = λ a there. rw on.states (elim (Contains-append_cases sure wait a (sound.only_given a there)) [
            | inl at ↦ voted w.states (verified same s kind h) (counted-accepted same s kind h).1 (verified-state same law g.attests s kind h lawful w.states w.context_is) a at
            | inr at ↦ voted w.states (waiting same s kind h) (counted-accepted same s kind h).0 (waiting-state same law g.attests s kind h lawful w.states w.context_is) a at
          ]);
        }

    -- the certificate of a batch rests on accepted votes
    pub founded : (batch : Batch (Certificate S D P G C)) → IsBatch g same s kind h batch → IfSome batch.certificate (IsFounded g s kind h)
    founded batch is = go batch.certificate refl
      where
        go : (o : Option (Certificate S D P G C)) → batch.certificate ≡ o → IfSome o (IsFounded g s kind h)
        go None e = tt
        go (Some c) e = elim (either (is_ready same s kind h) is) [
          | inl v ↦ founded-verified batch c v.1 e
          | inr w ↦ founded-waiting batch c w e
        ]

    -- each that a batch calls invalid has an accepted vote that fails
    failed-waiting : (batch : Batch (Certificate S D P G C)) → IsOfWaiting g same s kind h batch → All (HasFailed g.attests s kind h) batch.invalid.items
    failed-waiting batch w = elim w.judged [
      | inl a ↦ All-same (HasFailed g.attests s kind h) batch.invalid.items [] a.none_invalid (All-nil (HasFailed g.attests s kind h))
      | inr b ↦ λ k d l. one b.invalid_are.each_fails k d l
    ]
      where
        one : All (FailsIn (λ i a. g.attests s.scheme i w.states a) (map vote_attestation (waiting same s kind h))) batch.invalid.items → All (HasFailed g.attests s kind h) batch.invalid.items
        one each k d l =
            let bad = each k d l in
            let from = map-from vote_attestation (waiting same s kind h) bad.failing bad.is_there in
            let was = All-contains (WasAccepted same s kind h) (waiting same s kind h) from.0 (counted-accepted same s kind h).0 from.1 in
            let says = All-contains (λ v. vote_statement v ≡ w.states) (waiting same s kind h) from.0 (waiting-state same law g.attests s kind h lawful w.states w.context_is) from.1 in record {
              vote = from.0;
              accepted_is = was.0;
              kind_is = was.1;
              signer_is = sym (signer-of from.0) ∙ ap (λ (a : Attestation G). a.signer) from.2 ∙ bad.signer_is;
              fails = λ good. bad.fails (rw (← from.2, signer-of from.0, ← says) good);
            }

    pub failed : (batch : Batch (Certificate S D P G C)) → IsBatch g same s kind h batch → All (HasFailed g.attests s kind h) batch.invalid.items
    failed batch is = elim (either (is_ready same s kind h) is) [
      | inl v ↦ All-same (HasFailed g.attests s kind h) batch.invalid.items [] v.1.none_invalid (All-nil (HasFailed g.attests s kind h))
      | inr w ↦ failed-waiting batch w
    ]
