-- Each construction leaves a later kind to be made, or none.
use Rattle.std.proofs.Common.{◌≡◌, ◌≤◌, ◌<◌, ◌⊎◌, inl, inr, ℕ, Bool, true, false, not, ◌&&◌, ◌||◌, ◌+◌, List, [], ◌∷◌, ◌++◌, refl, ap, sym, ◌∙◌, arith, map, length, length-append}
use Rattle.std.specs.Prelude.{Option, None, Some, MatchBool, filter, is_some, nat_le, nat_lt, if◌then◌else◌, IsTrue, ◌↔◌}
use Rattle.std.specs.List.{All}
use Rattle.std.specs.Option.{option_map}
use Rattle.std.proofs.lemmas.List.{length-map}
use Rattle.std.proofs.lemmas.List.Elements.{All-head}
use Rattle.types_core.specs.declared.scheme.Scheme.{Ghosts}
use Rattle.types_core.specs.declared.attestation.Attestation.{Attestation}
use Rattle.types_core.specs.declared.proposal.Proposal.{Proposal}
use Rattle.types_core.specs.Subject.{Statement, finalize}
use Rattle.simplex_messages.specs.declared.vote.Vote.{Vote}
use Rattle.simplex_messages.specs.declared.vote.Vote.TheVariants as vote
use Rattle.messages_certificates.specs.declared.certificate.Certificate.{Certificate}
use Rattle.messages_certificates.specs.declared.certificate.Certificate.TheVariants as certificate
use Rattle.messages_certificates.specs.Certificate.{certificate_statement}
use Rattle.simplex_messages.specs.VoteParts.{vote_signer}
use Rattle.types_terms.specs.declared.kind.Kind.{Kind}
use Rattle.types_terms.specs.declared.kind.Kind.TheVariants.{Notarization, Nullification, Finalization}
use Rattle.batcher_verifier.specs.declared.batch.Batch.{Batch}
use Rattle.batcher_assembly.specs.Judging.{is_among, without}
use Rattle.batcher_verifier.specs.Votes.{is_kind, vote_kind, vote_attestation, vote_statement, certificate_kind, certificate_proposal, fixed_proposal}
use Rattle.batcher_verifier.specs.History.{History, Taken, Cast, Certified, Led, Judged, Forwarded, Setup, Selection, Unknown, Leads, Fixed, select, proposal_of, selection, selected, led, is_complete, counting, waiting, verified, context, is_ready, is_due, are_one, next_kind}
use Rattle.batcher_verifier.specs.Lawful.{IsConsistent}
use Rattle.batcher_verifier.specs.ConstructionResult.{after, kinds_left, IsOfWaiting, IsBatch}
use Rattle.batcher_verifier.proofs.Folding.{selection-stays, selection-certified, select-fixes, waiting-count, verified-count, counting-stays, counting-complete}
use Rattle.batcher_verifier.proofs.Stating.{verified-state}
use Rattle.batcher_verifier.proofs.Rightly.{signer-of}

pub kind-self : (kind : Kind) → is_kind kind kind ≡ true
kind-self Notarization = refl
kind-self Nullification = refl
kind-self Finalization = refl

-- nothing is due where none wait and too few are known to attest
pub not-due : (needed sure wait : ℕ) (known one batchable : Bool) → sure < needed → wait ≡ 0 → ((nat_le needed sure && (known || one)) || (known && (nat_lt 0 wait && (not batchable || nat_le needed (sure + wait))))) ≡ false
not-due needed sure wait known one batchable few none = grind (arith, few, none)

-- a selection stays where nothing is fixed and the leader's proposal isn't known
select-nothing : {D : Type 0} (old : Selection D) → select old None None ≡ old
select-nothing (Fixed p) = refl
select-nothing (Leads p) = refl
select-nothing Unknown = refl

-- where nothing is selected, nothing was, and nothing is fixed
select-none : {D : Type 0} (old : Selection D) (fixed l : Option (Proposal D)) → proposal_of (select old fixed l) ≡ None → (proposal_of old ≡ None) × (fixed ≡ None)
select-none (Fixed p) fixed l e = absurd (cc e)
select-none (Leads p) (Some q) l e = absurd (cc e)
select-none (Leads p) None l e = absurd (cc e)
select-none Unknown (Some q) l e = absurd (cc e)
select-none Unknown None (Some q) e = absurd (cc e)
select-none Unknown None None e = (refl, refl)

filter-map : {X Y : Type 0} (f : X → Y) (p : Y → Bool) (q : X → Bool) → ((x : X) → p (f x) ≡ q x) → (xs : List X) → filter p (map f xs) ≡ map f (filter q xs)
filter-map f p q alike [] = refl
filter-map f p q alike (x ∷ xs) = rw (alike x) (go (q x) (filter-map f p q alike xs))
  where
    go : (b : Bool) → filter p (map f xs) ≡ map f (filter q xs) → (if b then f x ∷ filter p (map f xs) else filter p (map f xs)) ≡ map f (if b then x ∷ filter q xs else filter q xs)
    go true e = ap (λ ys. f x ∷ ys) e
    go false e = e

module _ {S D P G C : Type 0} (same : D → D → Bool) (s : Setup S) where
  counting-nil : (kind : Kind) (h : History S D P G C) (votes : List (Vote S D P G C)) → votes ≡ [] → counting same s kind h votes ≡ []
  counting-nil kind h votes e = rw e (go (s.is_skipped || is_complete kind h) [] refl)
    where
      go : (b : Bool) (none : List (Vote S D P G C)) → none ≡ [] → (if b then [] else none) ≡ []
      go true none e = refl
      go false none e = e

  -- a certificate of another kind that selects what was selected leaves a kind as it was
  due-beside : (kind : Kind) (h : History S D P G C) (c : Certificate S D P G C) → is_kind kind (certificate_kind c) ≡ false → selected (Certified c ∷ h) ≡ selected h → is_due same s kind (Certified c ∷ h) ≡ is_due same s kind h
  due-beside kind h c other one =
      let open_ : is_complete kind (Certified c ∷ h) ≡ is_complete kind h = rw other refl in
      let w = counting-stays same s kind (Certified c) h (waiting same s kind h) one open_ (waiting-count same s kind h) in
      let v = counting-stays same s kind (Certified c) h (verified same s kind h) one open_ (verified-count same s kind h) in
      rw (w, v, one) refl

  -- votes of another kind that are judged leave a kind as it was
  due-judged : (kind k : Kind) (h : History S D P G C) (failing : List ℕ) → is_kind kind k ≡ false → is_due same s kind (Judged k failing ∷ h) ≡ is_due same s kind h
  due-judged kind k h failing other = rw (other, selection-stays h) refl

  -- of a kind that is complete no vote waits
  pub complete-waits : (kind : Kind) (h : History S D P G C) (c : Certificate S D P G C) → certificate_kind c ≡ kind → waiting same s kind (Certified c ∷ h) ≡ []
  complete-waits kind h c is =
      let done : is_complete kind (Certified c ∷ h) ≡ true = rw (is, kind-self kind) refl in
      sym (counting-complete same s kind (Certified c ∷ h) (waiting same s kind h) done)

  -- a kind that is complete is not due
  complete-not-due : (kind : Kind) (h : History S D P G C) (c : Certificate S D P G C) → certificate_kind c ≡ kind → 0 < s.needed → is_due same s kind (Certified c ∷ h) ≡ false
  complete-not-due kind h c is some =
      let e = Certified c in
      let done : is_complete kind (e ∷ h) ≡ true = rw (is, kind-self kind) refl in
      let w = complete-waits kind h c is in
      let v : verified same s kind (e ∷ h) ≡ [] = sym (counting-complete same s kind (e ∷ h) (verified same s kind h) done) in
      not-due s.needed (length (verified same s kind (e ∷ h))) (length (waiting same s kind (e ∷ h))) (is_some (context s kind (e ∷ h))) (are_one same (verified same s kind (e ∷ h))) s.batchable (rw v some) (ap length w)

  -- nor is a kind of which all votes were judged and too few are left
  judged-not-due : (kind : Kind) (h : History S D P G C) (failing : List ℕ) → length (verified same s kind h ++ filter (λ v. not (is_among failing (vote_signer v))) (waiting same s kind h)) < s.needed → is_due same s kind (Judged kind failing ∷ h) ≡ false
  judged-not-due kind h failing few =
      let e = Judged kind failing in
      let w : waiting same s kind (e ∷ h) ≡ [] = rw (kind-self kind) refl in
      let v : verified same s kind (e ∷ h) ≡ verified same s kind h ++ filter (λ v. not (is_among failing (vote_signer v))) (waiting same s kind h) = rw (kind-self kind) refl in
      not-due s.needed (length (verified same s kind (e ∷ h))) (length (waiting same s kind (e ∷ h))) (is_some (context s kind (e ∷ h))) (are_one same (verified same s kind (e ∷ h))) s.batchable (rw v few) (ap length w)

  module _ (attests : S → ℕ → Statement D → G → Type 0) where
    -- no finalize is known to attest while no proposal is selected
    unknown-final : (h : History S D P G C) → IsConsistent same attests s h → selected h ≡ None → verified same s Finalization h ≡ []
    unknown-final [] lawful none = refl
    unknown-final (Taken v ∷ h) lawful none =
        counting-nil Finalization (Taken v ∷ h) (verified same s Finalization h) (unknown-final h lawful.1 (select-none (selection h) None (led (Taken v ∷ h)) none).0)
    unknown-final (Cast v ∷ h) lawful none =
        let before = select-none (selection h) (fixed_proposal v) (led (Cast v ∷ h)) none in
        counting-nil Finalization (Cast v ∷ h) (if is_kind Finalization (vote_kind v) then verified same s Finalization h ++ v ∷ [] else verified same s Finalization h) (go v before.1 (unknown-final h lawful.1 before.0))
      where
        go : (v : Vote S D P G C) → fixed_proposal v ≡ None → verified same s Finalization h ≡ [] → (if is_kind Finalization (vote_kind v) then verified same s Finalization h ++ v ∷ [] else verified same s Finalization h) ≡ []
        go (vote.Notarize v) free e = e
        go (vote.Nullify v) free e = e
        go (vote.Finalize v) free e = absurd (cc free)
    unknown-final (Certified c ∷ h) lawful none =
        counting-nil Finalization (Certified c ∷ h) (verified same s Finalization h) (unknown-final h lawful.1 (select-none (selection h) (certificate_proposal c) (led (Certified c ∷ h)) none).0)
    unknown-final (Led i ∷ h) lawful none =
        counting-nil Finalization (Led i ∷ h) (verified same s Finalization h) (unknown-final h lawful.1 (select-none (selection h) None (led (Led i ∷ h)) none).0)
    unknown-final (Forwarded ∷ h) lawful none =
        counting-nil Finalization (Forwarded ∷ h) (verified same s Finalization h) (unknown-final h lawful.1 (select-none (selection h) None (led (Forwarded ∷ h)) none).0)
    unknown-final (Judged k failing ∷ h) lawful none =
        let before = (select-none (selection h) None (led (Judged k failing ∷ h)) none).0 in
        go k lawful.0.known before (unknown-final h lawful.1 before)
      where
        go : (k : Kind) → is_some (context s k h) ≡ true → selected h ≡ None → verified same s Finalization h ≡ []
            → (if is_kind Finalization k then verified same s Finalization h ++ filter (λ v. not (is_among failing (vote_signer v))) (waiting same s Finalization h) else verified same s Finalization h) ≡ []
        go Notarization known free e = e
        go Nullification known free e = e
        go Finalization known free e = absurd (cc (rw free at known))

-- which of two was chosen
pub either : (b : Bool) {P Q : Type 0} → MatchBool b P Q → ((b ≡ true) × P) ⊎ Q
either true p = inl (refl, p)
either false q = inr q

module _ {S D P G C : Type 0} where
  -- votes that all state two things: these are one
  agree : (votes : List (Vote S D P G C)) (x y : Statement D) → 0 < length votes → All (λ v. vote_statement v ≡ x) votes → All (λ v. vote_statement v ≡ y) votes → x ≡ y
  agree [] x y some one other = absurd (omega (arith, some))
  agree (v ∷ votes) x y some one other = sym (All-head (λ v. vote_statement v ≡ x) v votes one) ∙ All-head (λ v. vote_statement v ≡ y) v votes other

  proposes-none : (c : Certificate S D P G C) → certificate_kind c ≡ Nullification → certificate_proposal c ≡ None
  proposes-none (certificate.Notarization c) e = absurd (cc e)
  proposes-none (certificate.Nullification c) e = refl
  proposes-none (certificate.Finalization c) e = absurd (cc e)

  proposes : (c : Certificate S D P G C) (p : Proposal D) → certificate_statement c ≡ finalize p → certificate_proposal c ≡ Some p
  proposes (certificate.Notarization c) p e = absurd (cc e)
  proposes (certificate.Nullification c) p e = absurd (cc e)
  proposes (certificate.Finalization c) p e = cc e

  -- how many are left once those that fail are gone
  left-many : (failing : List ℕ) (sure wait : List (Vote S D P G C)) → length (map vote_attestation sure ++ without failing (map vote_attestation wait)) ≡ length (sure ++ filter (λ v. not (is_among failing (vote_signer v))) wait)
  left-many failing sure wait =
      let gone = filter-map vote_attestation (λ (a : Attestation G). not (is_among failing a.signer)) (λ (v : Vote S D P G C). not (is_among failing (vote_signer v))) (λ v. ap (λ i. not (is_among failing i)) (signer-of v)) wait in
      let rest = filter (λ (v : Vote S D P G C). not (is_among failing (vote_signer v))) wait in
      rw gone (length-append (map vote_attestation sure) (map vote_attestation rest) ∙ rw (length-map sure vote_attestation, length-map rest vote_attestation) (sym (length-append sure rest)))

module _ {S D P G C : Type 0} (g : Ghosts S D P G C) (same : D → D → Bool) (s : Setup S) (h : History S D P G C) where
  -- the certificate of a batch is of its kind
  pub batch-kind : (kind : Kind) (batch : Batch (Certificate S D P G C)) (c : Certificate S D P G C) → IsBatch g same s kind h batch → batch.certificate ≡ Some c → certificate_kind c ≡ kind
  batch-kind kind batch c is e = elim (either (is_ready same s kind h) is) [
    | inl v ↦ let one : v.1.certificate ≡ c = cc (v.1.made, e) in rw one at v.1.certificate_is.kind_is
    | inr w ↦ (rw e at w.certificate_is).kind_is
  ]

module _ {S D P G C : Type 0} (g : Ghosts S D P G C) (same : D → D → Bool) (law : (x y : D) → IsTrue (same x y) ↔ (x ≡ y)) (s : Setup S) (some : 0 < s.needed) (h : History S D P G C) (lawful : IsConsistent same g.attests s h) where
  -- what comes of a batch leaves its kind not due
  batch-done : (kind : Kind) (batch : Batch (Certificate S D P G C)) → IsBatch g same s kind h batch → is_due same s kind (after kind (Some batch) h) ≡ false
  batch-done kind batch is = go batch.certificate refl
    where
      few : IsOfWaiting g same s kind h batch → batch.certificate ≡ None → length (map vote_attestation (verified same s kind h) ++ without batch.invalid.items (map vote_attestation (waiting same s kind h))) < s.needed
      few w e = elim w.judged [
        | inl a ↦ absurd (cc (rw e at a.made))
        | inr b ↦ rw e at b.made
      ]

      go : (o : Option (Certificate S D P G C)) → batch.certificate ≡ o → is_due same s kind (after kind (Some batch) h) ≡ false
      go (Some c) e = rw e (complete-not-due same s kind h c (batch-kind g same s h kind batch c is e) some)
      go None e = elim (either (is_ready same s kind h) is) [
        | inl v ↦ absurd (cc (v.1.made, e))
        | inr w ↦ rw e (judged-not-due same s kind h batch.invalid.items (rw (left-many batch.invalid.items (verified same s kind h) (waiting same s kind h)) at (few w e)))
      ]

  -- a finalization is for the selected proposal
  final-selected : (batch : Batch (Certificate S D P G C)) (c : Certificate S D P G C) → IsBatch g same s Finalization h batch → batch.certificate ≡ Some c → (p : Proposal D) × (selected h ≡ Some p) × (certificate_statement c ≡ finalize p)
  final-selected batch c is e = elim (either (is_ready same s Finalization h) is) [
    | inl v ↦
        let one : v.1.certificate ≡ c = cc (v.1.made, e) in
        of-sure (rw one at v.1.certificate_is.states) (enough (is_some (context s Finalization h) || are_one same (verified same s Finalization h)) v.0) (selected h) refl
    | inr w ↦ of-waiting w.states (rw e at w.certificate_is).states (selected h) refl w.context_is
  ]
    where
      enough : (b : Bool) → nat_le s.needed (length (verified same s Finalization h)) && b ≡ true → s.needed ≤ length (verified same s Finalization h)
      enough b ready = grind (arith, ready)

      of-sure : All (λ v. vote_statement v ≡ certificate_statement c) (verified same s Finalization h) → s.needed ≤ length (verified same s Finalization h) → (o : Option (Proposal D)) → selected h ≡ o → (p : Proposal D) × (selected h ≡ Some p) × (certificate_statement c ≡ finalize p)
      of-sure says many None none = let empty = unknown-final same s g.attests h lawful none in absurd (omega (arith, some, (rw empty at many)))
      of-sure says many (Some p) one =
          (p, one, agree (verified same s Finalization h) (certificate_statement c) (finalize p) (omega (arith, some, many)) says (verified-state same law g.attests s Finalization h lawful (finalize p) (ap (option_map finalize) one)))

      of-waiting : (x : Statement D) → certificate_statement c ≡ x → (o : Option (Proposal D)) → selected h ≡ o → option_map finalize (selected h) ≡ Some x → (p : Proposal D) × (selected h ≡ Some p) × (certificate_statement c ≡ finalize p)
      of-waiting x states None none on = absurd (cc (rw none at on))
      of-waiting x states (Some p) one on = let says : finalize p ≡ x = cc (rw one at on) in (p, one, states ∙ sym says)

  -- what comes of nullifies and of finalizes leaves the other kinds as they were
  batch-beside : (kind other : Kind) (batch : Batch (Certificate S D P G C)) → IsBatch g same s kind h batch → is_kind other kind ≡ false → ((c : Certificate S D P G C) → batch.certificate ≡ Some c → selected (Certified c ∷ h) ≡ selected h) → is_due same s other (after kind (Some batch) h) ≡ is_due same s other h
  batch-beside kind other batch is apart stays = go batch.certificate refl
    where
      go : (o : Option (Certificate S D P G C)) → batch.certificate ≡ o → is_due same s other (after kind (Some batch) h) ≡ is_due same s other h
      go (Some c) e = rw e (due-beside same s other h c (rw (batch-kind g same s h kind batch c is e) apart) (stays c e))
      go None e = rw e (due-judged same s other kind h batch.invalid.items apart)

  null-stays : (batch : Batch (Certificate S D P G C)) → IsBatch g same s Nullification h batch → (c : Certificate S D P G C) → batch.certificate ≡ Some c → selected (Certified c ∷ h) ≡ selected h
  null-stays batch is c e = ap proposal_of (selection-certified h c ∙ rw (proposes-none c (batch-kind g same s h Nullification batch c is e)) (select-nothing (selection h)))

  final-stays : (batch : Batch (Certificate S D P G C)) → IsBatch g same s Finalization h batch → (c : Certificate S D P G C) → batch.certificate ≡ Some c → selected (Certified c ∷ h) ≡ selected h
  final-stays batch is c e =
      let p = final-selected batch c is e in
      let fixed : selection (Certified c ∷ h) ≡ Fixed p.0 = selection-certified h c ∙ rw (proposes c p.0 p.2) (sym (select-fixes (selection h) p.0 None p.1)) in
      ap proposal_of fixed ∙ sym p.1

  -- after a construction of the first kind that is due a later one is due, or none
  pub fewer-left : (kind : Kind) (batch : Batch (Certificate S D P G C)) → next_kind same s h ≡ Some kind → IsBatch g same s kind h batch → kinds_left (next_kind same s (after kind (Some batch) h)) < kinds_left (Some kind)
  fewer-left Notarization batch next is =
      let h' = after Notarization (Some batch) h in
      rw (batch-done Notarization batch is) (go (is_due same s Nullification h') (is_due same s Finalization h'))
    where
      go : (b c : Bool) → kinds_left (if b then Some Nullification else (if c then Some Finalization else None)) < 3
      go true c = omega arith
      go false true = omega arith
      go false false = omega arith
  fewer-left Nullification batch next is =
      let h' = after Nullification (Some batch) h in
      let before = go (is_due same s Notarization h) (is_due same s Nullification h) (is_due same s Finalization h) next in
      rw (batch-beside Nullification Notarization batch is refl (null-stays batch is) ∙ before, batch-done Nullification batch is) (last (is_due same s Finalization h'))
    where
      go : (a b c : Bool) → (if a then Some Notarization else (if b then Some Nullification else (if c then Some Finalization else None))) ≡ Some Nullification → a ≡ false
      go true b c e = absurd (cc e)
      go false b c e = refl

      last : (c : Bool) → kinds_left (if c then Some Finalization else None) < 2
      last true = omega arith
      last false = omega arith
  fewer-left Finalization batch next is =
      let before = go (is_due same s Notarization h) (is_due same s Nullification h) (is_due same s Finalization h) next in
      rw (batch-beside Finalization Notarization batch is refl (final-stays batch is) ∙ before.0, batch-beside Finalization Nullification batch is refl (final-stays batch is) ∙ before.1, batch-done Finalization batch is) (omega arith)
    where
      go : (a b c : Bool) → (if a then Some Notarization else (if b then Some Nullification else (if c then Some Finalization else None))) ≡ Some Finalization → (a ≡ false) × (b ≡ false)
      go true b c e = absurd (cc e)
      go false true c e = absurd (cc e)
      go false false c e = (refl, refl)
