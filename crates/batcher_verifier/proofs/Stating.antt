-- What the votes state that count.
use Rattle.std.proofs.Common.{◌≡◌, ℕ, Bool, true, false, not, ◌&&◌, ◌||◌, ◌==◌, List, [], ◌∷◌, refl, ap, sym, ◌∙◌, arith, map, length, slice_index_or}
use Rattle.std.specs.Prelude.{Option, None, Some, IfSome, filter, find, is_some, is_none, nat_le, if◌then◌else◌, IsTrue, ◌↔◌}
use Rattle.std.specs.List.{All, Contains}
use Rattle.std.specs.Option.{option_and_then}
use Rattle.std.specs.Prelude.{⊤}
use Rattle.std.proofs.Common.{zero, suc}
use Rattle.std.proofs.lemmas.Bool.{and_parts, eqb-true}
use Rattle.std.proofs.lemmas.List.Elements.{All-nil, All-cons, All-head, All-tail, All-map, All-same, Contains-get_or, Contains-append_right, filter_passes}
use Rattle.types_core.specs.declared.position.Round.{Round}
use Rattle.types_core.specs.declared.proposal.Proposal.{Proposal}
use Rattle.types_core.specs.declared.attestation.Attestation.{Attestation}
use Rattle.types_core.specs.Subject.{Statement, notarize, nullify, finalize}
use Rattle.simplex_messages.specs.declared.vote.Vote.{Vote}
use Rattle.simplex_messages.specs.declared.vote.Vote.TheVariants as vote
use Rattle.messages_certificates.specs.declared.certificate.Certificate.{Certificate}
use Rattle.messages_certificates.specs.declared.certificate.Certificate.TheVariants as certificate
use Rattle.messages_certificates.specs.Certificate.{certificate_round, certificate_statement}
use Rattle.simplex_messages.specs.VoteParts.{vote_round}
use Rattle.types_terms.specs.declared.kind.Kind.{Kind}
use Rattle.types_terms.specs.declared.kind.Kind.TheVariants.{Notarization, Nullification, Finalization}
use Rattle.batcher_verifier.specs.Votes.{is_kind, is_proposal, vote_kind, vote_proposal, notarized_proposal, vote_statement, vote_attestation, certificate_kind, is_notarize_of}
use Rattle.batcher_verifier.specs.History.{History, accepted, Event, Taken, Cast, Certified, Led, Judged, Forwarded, Setup, Selection, Unknown, Leads, Fixed, select, proposal_of, selection, selected, led, leader_of, notarized_by, fixed_by, is_complete, is_candidate, waiting, verified, are_one, statement_for, context, is_ready}
use Rattle.batcher_verifier.specs.Lawful.{VoteAttests, IsConsistent}
use Rattle.batcher_verifier.proofs.Folding.{waiting-count, verified-count}
use Rattle.batcher_verifier.proofs.Lawfully.{each-counted, not-found}

not-not : (b : Bool) → not b ≡ false → b ≡ true
not-not true e = refl
not-not false e = absurd (cc e)

is_none-None : {X : Type 0} (o : Option X) → is_none o ≡ true → o ≡ None
is_none-None None e = refl
is_none-None (Some x) e = absurd (cc e)

-- the proposal that counts is of the round
abbrev pub IsOurs : {D : Type 0} → Round → Option (Proposal D) → Type 0
IsOurs round None = ⊤
IsOurs round (Some p) = p.round ≡ round

select-ours : {D : Type 0} (round : Round) (old : Selection D) (fixed l : Option (Proposal D)) → IsOurs round (proposal_of old) → IsOurs round fixed → IsOurs round l → IsOurs round (proposal_of (select old fixed l))
select-ours round (Fixed p) fixed l a b c = a
select-ours round (Leads p) (Some q) l a b c = b
select-ours round (Leads p) None l a b c = a
select-ours round Unknown (Some q) l a b c = b
select-ours round Unknown None (Some q) a b c = c
select-ours round Unknown None None a b c = tt

module _ {D : Type 0} (same : D → D → Bool) (law : (x y : D) → IsTrue (same x y) ↔ (x ≡ y)) where
  abbrev make : ℕ → ℕ → ℕ → D → Proposal D
  make epoch view parent payload = record { round = record { epoch = epoch; view = view }; parent = parent; payload = payload }

  -- proposals that are one under the equality are one
  pub one-proposal : (p q : Proposal D) → is_proposal same p q ≡ true → p ≡ q
  one-proposal p q e =
      let parts = and_parts ((p.round.epoch == q.round.epoch) && (p.round.view == q.round.view)) ((p.parent == q.parent) && same p.payload q.payload) e in
      let round = and_parts (p.round.epoch == q.round.epoch) (p.round.view == q.round.view) parts.0 in
      let rest = and_parts (p.parent == q.parent) (same p.payload q.payload) parts.1 in
      let a = eqb-true p.round.epoch q.round.epoch round.0 in
      let b = eqb-true p.round.view q.round.view round.1 in
      let c = eqb-true p.parent q.parent rest.0 in
      let d = (law p.payload q.payload).0 rest.1 in
      ap (λ x. make x p.round.view p.parent p.payload) a ∙ ap (λ x. make q.round.epoch x p.parent p.payload) b ∙ ap (λ x. make q.round.epoch q.round.view x p.payload) c ∙ ap (λ x. make q.round.epoch q.round.view q.parent x) d

  module _ {S P G C : Type 0} where
    -- a vote of a kind that counts states what is to be stated
    pub states : (kind : Kind) (round : Round) (p : Option (Proposal D)) (x : Statement D) (v : Vote S D P G C) → statement_for kind round p ≡ Some x → is_kind kind (vote_kind v) ≡ true → vote_round v ≡ round → is_candidate same p v ≡ true → vote_statement v ≡ x
    states Notarization round (Some p) x (vote.Notarize v) e mine ours counts = ap notarize (one-proposal v.proposal p counts) ∙ cc e
    states Notarization round None x (vote.Notarize v) e mine ours counts = absurd (cc e)
    states Finalization round (Some p) x (vote.Finalize v) e mine ours counts = ap finalize (one-proposal v.proposal p counts) ∙ cc e
    states Finalization round None x (vote.Finalize v) e mine ours counts = absurd (cc e)
    states Nullification round p x (vote.Nullify v) e mine ours counts = ap nullify ours ∙ cc e
    states Notarization round p x (vote.Nullify v) e mine ours counts = absurd (cc mine)
    states Notarization round p x (vote.Finalize v) e mine ours counts = absurd (cc mine)
    states Nullification round p x (vote.Notarize v) e mine ours counts = absurd (cc mine)
    states Nullification round p x (vote.Finalize v) e mine ours counts = absurd (cc mine)
    states Finalization round p x (vote.Notarize v) e mine ours counts = absurd (cc mine)
    states Finalization round p x (vote.Nullify v) e mine ours counts = absurd (cc mine)

    -- what a vote of a kind states is stated for its proposal
    pub states-own : (kind : Kind) (round : Round) (v : Vote S D P G C) → is_kind kind (vote_kind v) ≡ true → vote_round v ≡ round → statement_for kind round (vote_proposal v) ≡ Some (vote_statement v)
    states-own Notarization round (vote.Notarize v) mine ours = refl
    states-own Finalization round (vote.Finalize v) mine ours = refl
    states-own Nullification round (vote.Nullify v) mine ours = ap (λ r. Some (nullify r)) (sym ours)
    states-own Notarization round (vote.Nullify v) mine ours = absurd (cc mine)
    states-own Notarization round (vote.Finalize v) mine ours = absurd (cc mine)
    states-own Nullification round (vote.Notarize v) mine ours = absurd (cc mine)
    states-own Nullification round (vote.Finalize v) mine ours = absurd (cc mine)
    states-own Finalization round (vote.Notarize v) mine ours = absurd (cc mine)
    states-own Finalization round (vote.Nullify v) mine ours = absurd (cc mine)

    -- a certificate that states what votes of a kind state is of that kind, and of the round
    pub certificate-kind : (kind : Kind) (round : Round) (p : Option (Proposal D)) (c : Certificate S D P G C) → statement_for kind round p ≡ Some (certificate_statement c) → certificate_kind c ≡ kind
    certificate-kind Notarization round (Some p) (certificate.Notarization c) e = refl
    certificate-kind Nullification round p (certificate.Nullification c) e = refl
    certificate-kind Finalization round (Some p) (certificate.Finalization c) e = refl
    certificate-kind Notarization round None c e = absurd (cc e)
    certificate-kind Finalization round None c e = absurd (cc e)
    certificate-kind Notarization round (Some p) (certificate.Nullification c) e = absurd (cc e)
    certificate-kind Notarization round (Some p) (certificate.Finalization c) e = absurd (cc e)
    certificate-kind Nullification round p (certificate.Notarization c) e = absurd (cc e)
    certificate-kind Nullification round p (certificate.Finalization c) e = absurd (cc e)
    certificate-kind Finalization round (Some p) (certificate.Notarization c) e = absurd (cc e)
    certificate-kind Finalization round (Some p) (certificate.Nullification c) e = absurd (cc e)

    pub certificate-ours : (kind : Kind) (round : Round) (p : Option (Proposal D)) (c : Certificate S D P G C) → IsOurs round p → statement_for kind round p ≡ Some (certificate_statement c) → certificate_round c ≡ round
    certificate-ours Notarization round (Some p) (certificate.Notarization c) ours e = let one : p ≡ c.proposal = cc e in rw (← one) ours
    certificate-ours Nullification round p (certificate.Nullification c) ours e = let one : round ≡ c.round = cc e in sym one
    certificate-ours Finalization round (Some p) (certificate.Finalization c) ours e = let one : p ≡ c.proposal = cc e in rw (← one) ours
    certificate-ours Notarization round None c ours e = absurd (cc e)
    certificate-ours Finalization round None c ours e = absurd (cc e)
    certificate-ours Notarization round (Some p) (certificate.Nullification c) ours e = absurd (cc e)
    certificate-ours Notarization round (Some p) (certificate.Finalization c) ours e = absurd (cc e)
    certificate-ours Nullification round p (certificate.Notarization c) ours e = absurd (cc e)
    certificate-ours Nullification round p (certificate.Finalization c) ours e = absurd (cc e)
    certificate-ours Finalization round (Some p) (certificate.Notarization c) ours e = absurd (cc e)
    certificate-ours Finalization round (Some p) (certificate.Nullification c) ours e = absurd (cc e)

    module _ (attests : S → ℕ → Statement D → G → Type 0) (s : Setup S) where
      -- each accepted vote is of the round
      pub accepted-ours : (h : History S D P G C) → IsConsistent same attests s h → (v : Vote S D P G C) → Contains (accepted h) v → vote_round v ≡ s.round
      accepted-ours [] lawful v (k, l, e) = absurd (omega arith)
      accepted-ours (Taken u ∷ h) lawful v (zero, l, e) = rw (← e) lawful.0.ours
      accepted-ours (Taken u ∷ h) lawful v (suc k, l, e) = accepted-ours h lawful.1 v (k, omega arith, e)
      accepted-ours (Cast u ∷ h) lawful v (zero, l, e) = rw (← e) lawful.0.0.ours
      accepted-ours (Cast u ∷ h) lawful v (suc k, l, e) = accepted-ours h lawful.1 v (k, omega arith, e)
      accepted-ours (Certified c ∷ h) lawful v there = accepted-ours h lawful.1 v there
      accepted-ours (Led i ∷ h) lawful v there = accepted-ours h lawful.1 v there
      accepted-ours (Judged k failing ∷ h) lawful v there = accepted-ours h lawful.1 v there
      accepted-ours (Forwarded ∷ h) lawful v there = accepted-ours h lawful.1 v there

      -- a found vote's proposal is of the round
      found-ours : (q : Vote S D P G C → Bool) (votes : List (Vote S D P G C)) → ((v : Vote S D P G C) → Contains votes v → vote_round v ≡ s.round) → IsOurs s.round (option_and_then notarized_proposal (find q votes))
      found-ours q [] each = tt
      found-ours q (v ∷ votes) each = here (q v) v (find q votes) (each v (zero, omega arith, refl)) (found-ours q votes (λ w there. each w (Contains-append_right (v ∷ []) votes w there)))
        where
          here : (b : Bool) (u : Vote S D P G C) (rest : Option (Vote S D P G C)) → vote_round u ≡ s.round → IsOurs s.round (option_and_then notarized_proposal rest) → IsOurs s.round (option_and_then notarized_proposal (if b then Some u else rest))
          here true (vote.Notarize u) rest ours more = ours
          here true (vote.Nullify u) rest ours more = tt
          here true (vote.Finalize u) rest ours more = tt
          here false u rest ours more = more

      led-ours : (h : History S D P G C) (leader : Option ℕ) → IsConsistent same attests s h → IsOurs s.round (option_and_then (notarized_by h) leader)
      led-ours h None lawful = tt
      led-ours h (Some i) lawful = found-ours (is_notarize_of i) (accepted h) (accepted-ours h lawful)

      fixed-ours : (h : History S D P G C) (e : Event (Vote S D P G C) (Certificate S D P G C)) → IsConsistent same attests s (e ∷ h) → IsOurs s.round (fixed_by e)
      fixed-ours h (Taken v) lawful = tt
      fixed-ours h (Cast (vote.Notarize v)) lawful = tt
      fixed-ours h (Cast (vote.Nullify v)) lawful = tt
      fixed-ours h (Cast (vote.Finalize v)) lawful = lawful.0.0.ours
      fixed-ours h (Certified (certificate.Notarization c)) lawful = lawful.0
      fixed-ours h (Certified (certificate.Nullification c)) lawful = tt
      fixed-ours h (Certified (certificate.Finalization c)) lawful = lawful.0
      fixed-ours h (Led i) lawful = tt
      fixed-ours h (Judged k failing) lawful = tt
      fixed-ours h Forwarded lawful = tt

      -- the selected proposal is of the round
      pub selected-ours : (h : History S D P G C) → IsConsistent same attests s h → IsOurs s.round (selected h)
      selected-ours [] lawful = tt
      selected-ours (e ∷ h) lawful = select-ours s.round (selection h) (fixed_by e) (led (e ∷ h)) (selected-ours h lawful.1) (fixed-ours h e lawful) (led-ours (e ∷ h) (leader_of (e ∷ h)) lawful)

      pub selected-if : (h : History S D P G C) → IsConsistent same attests s h → IfSome (selected h) (λ p. p.round ≡ s.round)
      selected-if h lawful = go (selected h) (selected-ours h lawful)
        where
          go : (o : Option (Proposal D)) → IsOurs s.round o → IfSome o (λ p. p.round ≡ s.round)
          go None ours = tt
          go (Some p) ours = ours

      module _ (kind : Kind) (h : History S D P G C) (lawful : IsConsistent same attests s h) where
        -- of this kind, and of the round
        abbrev pub IsMine : Vote S D P G C → Type 0
        IsMine v = (is_kind kind (vote_kind v) ≡ true) × (vote_round v ≡ s.round)

        pub mine : All IsMine (waiting same s kind h) × All IsMine (verified same s kind h)
        mine = each-counted same s kind IsMine h (λ v there is. (is, accepted-ours h lawful v there))

        passing : (closed : Bool) (votes : List (Vote S D P G C)) → (if closed then [] else filter (is_candidate same (selected h)) votes) ≡ votes → All (λ v. is_candidate same (selected h) v ≡ true) votes
        passing true votes e = All-same (λ v. is_candidate same (selected h) v ≡ true) votes [] (sym e) (All-nil (λ v. is_candidate same (selected h) v ≡ true))
        passing false votes e = All-same (λ v. is_candidate same (selected h) v ≡ true) votes (filter (is_candidate same (selected h)) votes) (sym e) (filter_passes (is_candidate same (selected h)) votes)

        -- where it is known what is to be stated, each vote that counts states it
        pub waiting-state : (x : Statement D) → context s kind h ≡ Some x → All (λ v. vote_statement v ≡ x) (waiting same s kind h)
        waiting-state x e = λ k d l. states kind s.round (selected h) x (slice_index_or (waiting same s kind h) k d) e (mine.0 k d l).0 (mine.0 k d l).1 (passing (s.is_skipped || is_complete kind h) (waiting same s kind h) (waiting-count same s kind h) k d l)

        pub verified-state : (x : Statement D) → context s kind h ≡ Some x → All (λ v. vote_statement v ≡ x) (verified same s kind h)
        verified-state x e = λ k d l. states kind s.round (selected h) x (slice_index_or (verified same s kind h) k d) e (mine.1 k d l).0 (mine.1 k d l).1 (passing (s.is_skipped || is_complete kind h) (verified same s kind h) (verified-count same s kind h) k d l)

        -- where they are for one, each states what the first states
        one-state : (first : Vote S D P G C) (votes : List (Vote S D P G C)) → All IsMine (first ∷ votes) → are_one same (first ∷ votes) ≡ true → All (λ v. vote_statement v ≡ vote_statement first) (first ∷ votes)
        one-state first votes all one =
            let head = All-head IsMine first votes all in
            let rest = All-tail IsMine first votes all in
            All-cons (λ v. vote_statement v ≡ vote_statement first) first votes refl
            (λ k d l.
            let out = not-found (λ u. not (is_candidate same (vote_proposal first) u)) votes (slice_index_or votes k d) (is_none-None (find (λ u. not (is_candidate same (vote_proposal first) u)) votes) one) (Contains-get_or votes k d l) in
            states kind s.round (vote_proposal first) (vote_statement first) (slice_index_or votes k d) (states-own kind s.round first head.0 head.1) (rest k d l).0 (rest k d l).1 (not-not (is_candidate same (vote_proposal first) (slice_index_or votes k d)) out))

        -- where the verified votes are enough, each states what the first states
        pub ready-state : (first : Vote S D P G C) (votes : List (Vote S D P G C)) → verified same s kind h ≡ first ∷ votes → is_ready same s kind h ≡ true → All (λ v. vote_statement v ≡ vote_statement first) (verified same s kind h)
        ready-state first votes e ready = go (context s kind h) refl (and_parts (nat_le s.needed (length (verified same s kind h))) (is_some (context s kind h) || are_one same (verified same s kind h)) ready).1
          where
            go : (o : Option (Statement D)) → context s kind h ≡ o → (is_some o || are_one same (verified same s kind h)) ≡ true → All (λ v. vote_statement v ≡ vote_statement first) (verified same s kind h)
            go (Some x) is yes_ =
                let all = verified-state x is in
                let head : vote_statement first ≡ x = All-head (λ v. vote_statement v ≡ x) first votes (All-same (λ v. vote_statement v ≡ x) (first ∷ votes) (verified same s kind h) (sym e) all) in
                λ k d l. all k d l ∙ sym head
            go None is yes_ =
                let one : are_one same (first ∷ votes) ≡ true = rw e at yes_ in
                let all = All-same IsMine (first ∷ votes) (verified same s kind h) (sym e) mine.1 in
                All-same (λ v. vote_statement v ≡ vote_statement first) (verified same s kind h) (first ∷ votes) e (one-state first votes all one)

        -- the attestations of votes that attest what they state attest it
        pub attest-it : (x : Statement D) (votes : List (Vote S D P G C)) → All (VoteAttests attests s) votes → All (λ v. vote_statement v ≡ x) votes → All (λ (a : Attestation G). attests s.scheme a.signer x a.signature) (map vote_attestation votes)
        attest-it x votes good all = All-map (λ (a : Attestation G). attests s.scheme a.signer x a.signature) vote_attestation votes (λ k d l. at (slice_index_or votes k d) (good k d l) (all k d l))
          where
            at : (v : Vote S D P G C) → VoteAttests attests s v → vote_statement v ≡ x → attests s.scheme (vote_attestation v).signer x (vote_attestation v).signature
            at (vote.Notarize v) good e = rw e at good
            at (vote.Nullify v) good e = rw e at good
            at (vote.Finalize v) good e = rw e at good
