-- Votes that count are kept, and so no quorum is lost.
use Rattle.std.proofs.Common.{◌≡◌, ◌≤◌, ◌⊎◌, inl, inr, ℕ, zero, suc, Bool, true, false, not, ◌&&◌, ◌||◌, ◌+◌, List, [], ◌∷◌, ◌++◌, refl, ap, sym, ◌∙◌, arith, map, length, length-append}
use Rattle.std.specs.Prelude.{Option, None, Some, MatchOption, filter, find, is_some, nat_le, nat_lt, if◌then◌else◌, IsTrue, ◌↔◌, ⊤}
use Rattle.std.proofs.lemmas.List.{length-map}
use Rattle.std.specs.List.{Contains, filter_map}
use Rattle.std.specs.Option.{option_map}
use Rattle.std.proofs.lemmas.List.Elements.{All-contains, Contains-append_left, Contains-append_right, Contains-push}
use Rattle.types_quorum.specs.Counting.{no_longer}
use Rattle.types_core.specs.Subject.{Statement, notarize, finalize}
use Rattle.types_core.specs.declared.proposal.Proposal.{Proposal}
use Rattle.simplex_messages.specs.declared.vote.Vote.{Vote}
use Rattle.simplex_messages.specs.declared.vote.Vote.TheVariants as vote
use Rattle.messages_certificates.specs.declared.certificate.Certificate.{Certificate}
use Rattle.simplex_messages.specs.VoteParts.{vote_signer}
use Rattle.types_terms.specs.declared.kind.Kind.{Kind}
use Rattle.types_terms.specs.declared.kind.Kind.TheVariants.{Notarization, Nullification, Finalization}
use Rattle.batcher_assembly.specs.Judging.{is_among}
use Rattle.batcher_verifier.specs.Votes.{is_kind, is_proposal, vote_kind, vote_statement, certificate_kind}
use Rattle.batcher_verifier.specs.History.{History, accepted, Event, Taken, Cast, Certified, Led, Judged, Forwarded, Setup, certificate_in, selected, is_complete, is_candidate, counting, waiting, verified, context, is_due, next_kind, are_one}
use Rattle.batcher_verifier.specs.Lawful.{VoteAttests, IsConsistent}
use Rattle.batcher_verifier.specs.Quorums.{NeverOther, IsUnreplaced, Backs, HasQuorum, AllCertified}
use Rattle.batcher_rows.specs.Kinds.{kind-same}

module _ {X : Type 0} where
  in-if : (b : Bool) (y : X) (ys : List X) (x : X) → Contains ys x → Contains (if b then y ∷ ys else ys) x
  in-if true y ys x there = Contains-append_right (y ∷ []) ys x there
  in-if false y ys x there = there

  -- what passes is kept
  pub Contains-filter : (p : X → Bool) (xs : List X) (x : X) → p x ≡ true → Contains xs x → Contains (filter p xs) x
  Contains-filter p [] x passes (k, l, e) = absurd (omega arith)
  Contains-filter p (y ∷ ys) x passes (zero, l, e) = let here : p y ≡ true = rw e passes in rw here (zero, omega arith, e)
  Contains-filter p (y ∷ ys) x passes (suc k, l, e) = in-if (p y) y (filter p ys) x (Contains-filter p ys x passes (k, omega arith, e))

  more-left : (b : Bool) (xs : List X) (y x : X) → Contains xs x → Contains (if b then xs ++ y ∷ [] else xs) x
  more-left true xs y x there = Contains-append_left xs (y ∷ []) x there
  more-left false xs y x there = there

  more-here : (b : Bool) (xs : List X) (y x : X) → b ≡ true → y ≡ x → Contains (if b then xs ++ y ∷ [] else xs) x
  more-here b xs y x is e = rw (is, e) (Contains-push xs x)

  judged-kept : (b : Bool) (q : X → Bool) (old wait : List X) (x : X) → (b ≡ true → Contains wait x → q x ≡ true) → Contains old x ⊎ Contains wait x
      → Contains (if b then old ++ filter q wait else old) x ⊎ Contains (if b then [] else wait) x
  judged-kept true q old wait x passes (inl there) = inl (Contains-append_left old (filter q wait) x there)
  judged-kept true q old wait x passes (inr there) = inl (Contains-append_right old (filter q wait) x (Contains-filter q wait x (passes refl there) there))
  judged-kept false q old wait x passes there = there

  none-of : (b : Bool) (x : X) (o : Option X) → is_some (if b then Some x else o) ≡ false → is_some o ≡ false
  none-of true x o e = absurd (cc e)
  none-of false x o e = e

  Contains-map : {Y : Type 0} (f : X → Y) (xs : List X) (x : X) → Contains xs x → Contains (map f xs) (f x)
  Contains-map f [] x (k, l, e) = absurd (omega arith)
  Contains-map f (y ∷ ys) x (zero, l, e) = (zero, omega arith, ap f e)
  Contains-map f (y ∷ ys) x (suc k, l, e) = Contains-append_right (f y ∷ []) (map f ys) (f x) (Contains-map f ys x (k, omega arith, e))

same-self : {D : Type 0} (same : D → D → Bool) → ((x y : D) → IsTrue (same x y) ↔ (x ≡ y)) → (p : Proposal D) → is_proposal same p p ≡ true
same-self same law p = let own : same p.payload p.payload ≡ true = (law p.payload p.payload).1 refl in rw own (grind arith)

module _ {S D P G C : Type 0} where
  -- a kind that is not complete was not before
  pub open-before : (kind : Kind) (e : Event (Vote S D P G C) (Certificate S D P G C)) (h : History S D P G C) → is_complete kind (e ∷ h) ≡ false → is_complete kind h ≡ false
  open-before kind (Taken v) h open_ = open_
  open-before kind (Cast v) h open_ = open_
  open-before kind (Certified c) h open_ = none-of (is_kind kind (certificate_kind c)) c (find (λ d. is_kind kind (certificate_kind d)) (filter_map certificate_in h)) open_
  open-before kind (Led i) h open_ = open_
  open-before kind (Judged k failing) h open_ = open_
  open-before kind Forwarded h open_ = open_

  module _ (same : D → D → Bool) where
    -- at each point no other proposal than the vote's was selected
    abbrev pub CountsAllAlong : Vote S D P G C → History S D P G C → Type 0
    CountsAllAlong v [] = ⊤
    CountsAllAlong v (e ∷ h) = (is_candidate same (selected (e ∷ h)) v ≡ true) × CountsAllAlong v h

    -- what counts stays
    keep : (s : Setup S) (kind : Kind) (h : History S D P G C) (votes : List (Vote S D P G C)) (v : Vote S D P G C) → s.is_skipped ≡ false → is_complete kind h ≡ false
        → is_candidate same (selected h) v ≡ true → Contains votes v → Contains (counting same s kind h votes) v
    keep s kind h votes v made open_ counts there = rw (made, open_) (Contains-filter (is_candidate same (selected h)) votes v counts there)

    module _ (attests : S → ℕ → Statement D → G → Type 0) (s : Setup S) (kind : Kind) (v : Vote S D P G C) (made : s.is_skipped ≡ false) (is : is_kind kind (vote_kind v) ≡ true) (good : VoteAttests attests s v) where
      -- an accepted vote of a kind that is not complete, that attests and counted all along, is verified or waits
      pub vote-kept : (h : History S D P G C) → IsConsistent same attests s h → is_complete kind h ≡ false → Contains (accepted h) v → CountsAllAlong v h → Contains (verified same s kind h) v ⊎ Contains (waiting same s kind h) v
      vote-kept [] lawful open_ (k, l, e) along = absurd (omega arith)
      vote-kept (Taken u ∷ h) lawful open_ (zero, l, e) along =
          inr (keep s kind (Taken u ∷ h) (if is_kind kind (vote_kind u) then waiting same s kind h ++ u ∷ [] else waiting same s kind h) v made open_ along.0
          (more-here (is_kind kind (vote_kind u)) (waiting same s kind h) u v (rw e is) e))
      vote-kept (Taken u ∷ h) lawful open_ (suc k, l, e) along = elim (vote-kept h lawful.1 open_ (k, omega arith, e) along.1) [
        | inl there ↦ inl (keep s kind (Taken u ∷ h) (verified same s kind h) v made open_ along.0 there)
        | inr there ↦ inr (keep s kind (Taken u ∷ h) (if is_kind kind (vote_kind u) then waiting same s kind h ++ u ∷ [] else waiting same s kind h) v made open_ along.0 (more-left (is_kind kind (vote_kind u)) (waiting same s kind h) u v there))
      ]
      vote-kept (Cast u ∷ h) lawful open_ (zero, l, e) along =
          inl (keep s kind (Cast u ∷ h) (if is_kind kind (vote_kind u) then verified same s kind h ++ u ∷ [] else verified same s kind h) v made open_ along.0
          (more-here (is_kind kind (vote_kind u)) (verified same s kind h) u v (rw e is) e))
      vote-kept (Cast u ∷ h) lawful open_ (suc k, l, e) along = elim (vote-kept h lawful.1 open_ (k, omega arith, e) along.1) [
        | inl there ↦ inl (keep s kind (Cast u ∷ h) (if is_kind kind (vote_kind u) then verified same s kind h ++ u ∷ [] else verified same s kind h) v made open_ along.0 (more-left (is_kind kind (vote_kind u)) (verified same s kind h) u v there))
        | inr there ↦ inr (keep s kind (Cast u ∷ h) (waiting same s kind h) v made open_ along.0 there)
      ]
      vote-kept (Certified c ∷ h) lawful open_ there along = elim (vote-kept h lawful.1 (open-before kind (Certified c) h open_) there along.1) [
        | inl at ↦ inl (keep s kind (Certified c ∷ h) (verified same s kind h) v made open_ along.0 at)
        | inr at ↦ inr (keep s kind (Certified c ∷ h) (waiting same s kind h) v made open_ along.0 at)
      ]
      vote-kept (Led i ∷ h) lawful open_ there along = elim (vote-kept h lawful.1 open_ there along.1) [
        | inl at ↦ inl (keep s kind (Led i ∷ h) (verified same s kind h) v made open_ along.0 at)
        | inr at ↦ inr (keep s kind (Led i ∷ h) (waiting same s kind h) v made open_ along.0 at)
      ]
      vote-kept (Forwarded ∷ h) lawful open_ there along = elim (vote-kept h lawful.1 open_ there along.1) [
        | inl at ↦ inl (keep s kind (Forwarded ∷ h) (verified same s kind h) v made open_ along.0 at)
        | inr at ↦ inr (keep s kind (Forwarded ∷ h) (waiting same s kind h) v made open_ along.0 at)
      ]
      vote-kept (Judged k failing ∷ h) lawful open_ there along =
          judged-kept (is_kind kind k) (λ u. not (is_among failing (vote_signer u))) (verified same s kind h) (waiting same s kind h) v
          (λ one waits. let out : is_among failing (vote_signer v) ≡ false = lawful.0.each_fails v (rw (kind-same kind k one) waits) good in rw out refl)
          (vote-kept h lawful.1 open_ there along.1)

    module _ (law : (x y : D) → IsTrue (same x y) ↔ (x ≡ y)) where
      counts-for : (o : Option (Proposal D)) (p : Proposal D) (v : Vote S D P G C) (kind : Kind) → MatchOption o ⊤ (λ q. q ≡ p) → vote_statement v ≡ notarize p ⊎ vote_statement v ≡ finalize p → is_candidate same o v ≡ true
      counts-for None p v kind never says = refl
      counts-for (Some q) p (vote.Notarize v) kind never (inl e) = let one : v.proposal ≡ p = cc e in rw (one, never) (same-self same law p)
      counts-for (Some q) p (vote.Notarize v) kind never (inr e) = absurd (cc e)
      counts-for (Some q) p (vote.Nullify v) kind never says = refl
      counts-for (Some q) p (vote.Finalize v) kind never (inl e) = absurd (cc e)
      counts-for (Some q) p (vote.Finalize v) kind never (inr e) = let one : v.proposal ≡ p = cc e in rw (one, never) (same-self same law p)

      along-for : (h : History S D P G C) (p : Proposal D) (v : Vote S D P G C) (kind : Kind) → NeverOther p h → vote_statement v ≡ notarize p ⊎ vote_statement v ≡ finalize p → CountsAllAlong v h
      along-for [] p v kind never says = tt
      along-for (e ∷ h) p v kind never says = (counts-for (selected (e ∷ h)) p v kind never.0 says, along-for h p v kind never.1 says)

      nullify-counts : (o : Option (Proposal D)) (v : Vote S D P G C) → is_kind Nullification (vote_kind v) ≡ true → is_candidate same o v ≡ true
      nullify-counts None v is = refl
      nullify-counts (Some q) (vote.Nullify v) is = refl
      nullify-counts (Some q) (vote.Notarize v) is = absurd (cc is)
      nullify-counts (Some q) (vote.Finalize v) is = absurd (cc is)

      nullify-along : (h : History S D P G C) (v : Vote S D P G C) → is_kind Nullification (vote_kind v) ≡ true → CountsAllAlong v h
      nullify-along [] v is = tt
      nullify-along (e ∷ h) v is = (nullify-counts (selected (e ∷ h)) v is, nullify-along h v is)

      -- a vote that states what is to be stated counted all along, where the selected proposal replaced no other
      along : (s : Setup S) (kind : Kind) (h : History S D P G C) (x : Statement D) (v : Vote S D P G C) → context s kind h ≡ Some x → IsUnreplaced kind h → is_kind kind (vote_kind v) ≡ true → vote_statement v ≡ x → CountsAllAlong v h
      along s Nullification h x v e alone is says = nullify-along h v is
      along s Notarization h x v e alone is says = go (selected h) e alone
        where
          go : (o : Option (Proposal D)) → option_map notarize o ≡ Some x → MatchOption o ⊤ (λ p. NeverOther p h) → CountsAllAlong v h
          go None e alone = absurd (cc e)
          go (Some p) e alone = along-for h p v Notarization alone (inl (says ∙ sym (cc e)))
      along s Finalization h x v e alone is says = go (selected h) e alone
        where
          go : (o : Option (Proposal D)) → option_map finalize o ≡ Some x → MatchOption o ⊤ (λ p. NeverOther p h) → CountsAllAlong v h
          go None e alone = absurd (cc e)
          go (Some p) e alone = along-for h p v Finalization alone (inr (says ∙ sym (cc e)))

      module _ (attests : S → ℕ → Statement D → G → Type 0) (s : Setup S) (h : History S D P G C) (made : s.is_skipped ≡ false) (lawful : IsConsistent same attests s h) where
        -- a quorum's votes are all there
        quorum-kept : (kind : Kind) → HasQuorum attests s kind h → IsUnreplaced kind h → is_complete kind h ≡ false → s.needed ≤ length (verified same s kind h) + length (waiting same s kind h)
        quorum-kept kind q alone open_ =
            let votes = verified same s kind h ++ waiting same s kind h in
            let within : (i : ℕ) → Contains q.signers i → Contains (map vote_signer votes) i = λ i there.
            let b = All-contains (Backs attests s kind h q.stated) q.signers i q.each there in
            rw (← b.signer_is) (Contains-map vote_signer votes b.vote
            (elim (vote-kept attests s kind b.vote made b.kind_is b.attests_it h lawful open_ b.accepted_is (along s kind h q.stated b.vote q.context_is alone b.kind_is b.states)) [
              | inl at ↦ Contains-append_left (verified same s kind h) (waiting same s kind h) b.vote at
              | inr at ↦ Contains-append_right (verified same s kind h) (waiting same s kind h) b.vote at
            ])) in
            let few : length q.signers ≤ length (map vote_signer votes) = no_longer q.signers (map vote_signer votes) q.distinct within in
            omega (arith, q.enough, few, length-map votes vote_signer, length-append (verified same s kind h) (waiting same s kind h))

        due-of : (needed sure wait : ℕ) (batchable one : Bool) → needed ≤ sure + wait → ((nat_le needed sure && (true || one)) || (true && (nat_lt 0 wait && (not batchable || nat_le needed (sure + wait))))) ≡ true
        due-of needed sure wait batchable one enough = grind arith

        -- a kind with a valid quorum that is not complete is due
        pub quorum-due : (kind : Kind) → HasQuorum attests s kind h → IsUnreplaced kind h → is_complete kind h ≡ false → is_due same s kind h ≡ true
        quorum-due kind q alone open_ =
            rw q.context_is (due-of s.needed (length (verified same s kind h)) (length (waiting same s kind h)) s.batchable (are_one same (verified same s kind h)) (quorum-kept kind q alone open_))

        -- where nothing is due, each kind with a valid quorum is complete
        pub none-lost : next_kind same s h ≡ None → AllCertified attests s h
        none-lost none kind q alone = go (is_complete kind h) refl
          where
            first : (a b c : Bool) → (if a then Some Notarization else (if b then Some Nullification else (if c then Some Finalization else None))) ≡ None → (a ≡ false) × (b ≡ false) × (c ≡ false)
            first true b c e = absurd (cc e)
            first false true c e = absurd (cc e)
            first false false true e = absurd (cc e)
            first false false false e = (refl, refl, refl)

            idle : (kind : Kind) → is_due same s kind h ≡ false
            idle Notarization = (first (is_due same s Notarization h) (is_due same s Nullification h) (is_due same s Finalization h) none).0
            idle Nullification = (first (is_due same s Notarization h) (is_due same s Nullification h) (is_due same s Finalization h) none).1
            idle Finalization = (first (is_due same s Notarization h) (is_due same s Nullification h) (is_due same s Finalization h) none).2

            go : (b : Bool) → is_complete kind h ≡ b → is_complete kind h ≡ true
            go true e = e
            go false e = absurd (cc (quorum-due kind q alone e, idle kind))
