-- What comes of constructions.
use Rattle.std.proofs.Common.{◌≡◌, ◌≢◌, ◌≤◌, ◌<◌, inl, inr, ℕ, zero, suc, Bool, true, false, not, ◌||◌, List, [], ◌∷◌, ◌++◌, refl, ap, sym, ◌∙◌, arith, map, length}
use Rattle.std.specs.Prelude.{Option, None, Some, MatchOption, IfSome, is_some, nat_le, IsTrue, ◌↔◌}
use Rattle.std.proofs.lemmas.List.{length-map}
use Rattle.std.specs.List.{All, AllPairs, Contains}
use Rattle.std.specs.List.Sorted.{IsPermutation}
use Rattle.std.proofs.lemmas.List.Sorted.{IsPermutation-sym, IsPermutation-map, IsPermutation-append, All-permutation, Contains-permutation, length_permutation}
use Rattle.std.proofs.lemmas.Bool.{and_parts}
use Rattle.std.proofs.lemmas.List.Elements.{All-nil, All-cons, All-head, All-tail, All-contains}
use Rattle.std.proofs.lemmas.List.Kept.{AllPairs-cons}
use Rattle.types_core.specs.declared.attestation.Attestation.{Attestation}
use Rattle.types_core.specs.declared.position.Round.{Round}
use Rattle.types_core.specs.declared.scheme.Scheme.{Ghosts}
use Rattle.types_core.specs.Quorum.{AreDistinct}
use Rattle.types_core.specs.QuorumOrder.{AreDistinct-permutation}
use Rattle.types_core.specs.Subject.{Statement}
use Rattle.types_core.specs.Batching.{AreFailing}
use Rattle.simplex_messages.specs.declared.vote.Vote.{Vote}
use Rattle.simplex_messages.specs.declared.vote.Vote.TheVariants as vote
use Rattle.messages_certificates.specs.declared.certificate.Certificate.{Certificate}
use Rattle.messages_certificates.specs.Certificate.{certificate_statement, certified_by}
use Rattle.simplex_messages.specs.VoteParts.{vote_round}
use Rattle.types_terms.specs.declared.kind.Kind.{Kind}
use Rattle.batcher_assembly.specs.declared.judging.Judged.{Judged}
use Rattle.batcher_verifier.specs.declared.batch.Batch.{Batch}
use Rattle.batcher_verifier.specs.declared.verifier.Verifier.{Verifier}
use Rattle.batcher_assembly.specs.Judging.{is_among, without, IsSound, IsWhole, IsJudged}
use Rattle.batcher_verifier.specs.Votes.{vote_proposal, vote_statement, vote_attestation}
use Rattle.batcher_verifier.specs.History.{History, accepted, Setup, selected, context, verified, waiting, is_ready, are_one}
use Rattle.batcher_verifier.specs.Lawful.{IsConsistent}
use Rattle.batcher_rows.specs.Rows.{head_of, votes_of, KindIs, PlacesStay, settled_waiting, settled_verified}
use Rattle.batcher_verifier.specs.Keeping.{IsVerifierKept}
use Rattle.batcher_verifier.specs.ConstructionResult.{judged_of, IsCertificateOf, IsCertificateOn, IsOfWaiting}
use Rattle.batcher_verifier.specs.History as history
use Rattle.batcher_verifier.proofs.Folding.{selection-stays}
use Rattle.batcher_verifier.proofs.Rightly.{judged-right}
use Rattle.batcher_rows.specs.Permutations.{IsPermutation-filter}
use Rattle.batcher_rows.specs.Staying.{places-newest}
use Rattle.batcher_verifier.proofs.Lawfully.{counted-distinct, verified-attest}
use Rattle.batcher_verifier.proofs.Stating.{attest-it, verified-state, ready-state, mine, IsMine, IsOurs, states-own, certificate-kind, certificate-ours, selected-ours, waiting-state}

-- where no certificate was made, each was judged
pub judged-failing : {G C : Type 0} (certifies : C → Type 0) (lists : C → List (Attestation G)) (batchable : Bool) (may_decline : List (Attestation G) → Type 0) (attests : ℕ → G → Type 0) (Enumerates : Type 0) (needed : ℕ) (sure wait : List (Attestation G)) (judged : Judged C)
    → IsJudged certifies lists batchable may_decline attests Enumerates needed sure wait judged → judged.certificate ≡ None → AreFailing attests wait judged.invalid.items
judged-failing certifies lists batchable may_decline attests Enumerates needed sure wait judged (inl a) none = absurd (cc (a.made, none))
judged-failing certifies lists batchable may_decline attests Enumerates needed sure wait judged (inr b) none = b.invalid_are

first-part : {X : Type 0} (R : X → X → Type 0) (xs ys : List X) → AllPairs R (xs ++ ys) → AllPairs R xs
first-part R [] ys pairs = λ i j d l m. absurd (omega arith)
first-part R (x ∷ xs) ys pairs = AllPairs-cons R x xs (All-first (R x) xs ys (λ k d l. pairs zero (suc k) d (omega arith) (omega arith))) (first-part R xs ys (λ i j d l m. pairs (suc i) (suc j) d (omega arith) (omega arith)))
  where
    All-first : {X : Type 0} (P : X → Type 0) (xs ys : List X) → All P (xs ++ ys) → All P xs
    All-first P [] ys all = All-nil P
    All-first P (x ∷ xs) ys all = All-cons P x xs (All-head P x (xs ++ ys) all) (All-first P xs ys (All-tail P x (xs ++ ys) all))

-- what follows of one that is there, follows
match-more : {X : Type 0} (P Q : X → Type 0) (o : Option X) → ((x : X) → P x → Q x) → MatchOption o ⊥ P → MatchOption o ⊥ Q
match-more P Q None f m = m
match-more P Q (Some x) f m = f x m

some-more : {X : Type 0} (P Q : X → Type 0) (o : Option X) → ((x : X) → P x → Q x) → IfSome o P → IfSome o Q
some-more P Q None f m = tt
some-more P Q (Some x) f m = f x m

-- ---- the votes in another order

module _ {G C : Type 0} (certifies : C → Type 0) (lists : C → List (Attestation G)) where
  sound-permutation : (xs ys : List (Attestation G)) (c : C) → IsPermutation xs ys → IsSound certifies lists xs c → IsSound certifies lists ys c
  sound-permutation xs ys c p is = record { does_certify = is.does_certify; only_given = λ a there. Contains-permutation xs ys a p (is.only_given a there) }

  whole-permutation : (Enumerates : Type 0) (xs ys : List (Attestation G)) (c : C) → IsPermutation xs ys → IsWhole certifies lists Enumerates xs c → IsWhole certifies lists Enumerates ys c
  whole-permutation Enumerates xs ys c p is = record {
    sound = sound-permutation xs ys c p is.sound;
    all_given = λ enumerates a there. is.all_given enumerates a (Contains-permutation ys xs a (IsPermutation-sym xs ys p) there);
  }

failing-permutation : {G : Type 0} (attests : ℕ → G → Type 0) (xs ys : List (Attestation G)) (signers : List ℕ) → IsPermutation xs ys → AreFailing attests xs signers → AreFailing attests ys signers
failing-permutation attests xs ys signers p are = record {
  each_fails = λ k d l. let one = are.each_fails k d l in record { failing = one.failing; is_there = Contains-permutation xs ys one.failing p one.is_there; signer_is = one.signer_is; fails = one.fails };
  others_attest = λ a there. are.others_attest a (Contains-permutation ys xs a (IsPermutation-sym xs ys p) there);
  ascending = are.ascending;
}

module _ {G C : Type 0} (certifies : C → Type 0) (lists : C → List (Attestation G)) (batchable : Bool) (may_decline : List (Attestation G) → Type 0) (attests : ℕ → G → Type 0) (Enumerates : Type 0) (needed : ℕ)
    (declines : (given others : List (Attestation G)) → IsPermutation given others → may_decline given → may_decline others) where
  -- a verdict on attestations is one in each order
  judged-permutation : (sure sure2 wait wait2 : List (Attestation G)) (judged : Judged C) → IsPermutation sure sure2 → IsPermutation wait wait2
      → IsJudged certifies lists batchable may_decline attests Enumerates needed sure wait judged → IsJudged certifies lists batchable may_decline attests Enumerates needed sure2 wait2 judged
  judged-permutation sure sure2 wait wait2 judged p q (inl a) = inl (record {
    batchable_is = a.batchable_is;
    fallback_is = a.fallback_is;
    none_invalid = a.none_invalid;
    certificate = a.certificate;
    made = a.made;
    sound = sound-permutation certifies lists (sure ++ wait) (sure2 ++ wait2) a.certificate (IsPermutation-append sure sure2 wait wait2 p q) a.sound;
  })
  judged-permutation sure sure2 wait wait2 judged p q (inr b) = inr (record {
    fallback_is = b.fallback_is;
    declined = λ is. declines (sure ++ wait) (sure2 ++ wait2) (IsPermutation-append sure sure2 wait wait2 p q) (b.declined is);
    invalid_are = failing-permutation attests wait wait2 judged.invalid.items q b.invalid_are;
    made = go judged.certificate b.made;
  })
    where
      old : List (Attestation G)
      old = sure ++ without judged.invalid.items wait

      new : List (Attestation G)
      new = sure2 ++ without judged.invalid.items wait2

      left : IsPermutation old new
      left = IsPermutation-append sure sure2 (without judged.invalid.items wait) (without judged.invalid.items wait2) p (IsPermutation-filter (λ (a : Attestation G). not (is_among judged.invalid.items a.signer)) wait wait2 q)

      go : (o : Option C) → MatchOption o (length old < needed) (λ c. (needed ≤ length old) × IsWhole certifies lists Enumerates old c)
          → MatchOption o (length new < needed) (λ c. (needed ≤ length new) × IsWhole certifies lists Enumerates new c)
      go None few = omega (arith, few, length_permutation old new left)
      go (Some c) m = (omega (arith, m.0, length_permutation old new left), whole-permutation certifies lists Enumerates old new c left m.1)

-- no first, no element
no-head : {X : Type 0} (xs : List X) → head_of xs ≡ None → xs ≡ []
no-head [] e = refl
no-head (x ∷ xs) e = absurd (cc e)

head-there : {X : Type 0} (xs : List X) (x : X) → head_of xs ≡ Some x → Contains xs x
head-there [] x e = absurd (cc e)
head-there (y ∷ xs) x e = (zero, omega arith, cc e)

module _ {S D P G C : Type 0} (same : D → D → Bool) (g : Ghosts S D P G C) (batchable : S → Bool) where
  -- what is ready has a vote
  pub none-ready : (s : Setup S) (h : History S D P G C) (kind : Kind) (v : Verifier S D P G C) → IsVerifierKept same g batchable s v h → is_ready same s kind h ≡ true → head_of (votes_of true kind v.rows) ≡ None → ⊥
  none-ready s h kind v k ready none =
      let long = length_permutation _ _ (k.rows.kinds kind).verified_are in
      let none_ : length (votes_of true kind v.rows) ≡ 0 = ap length (no-head _ none) in
      let some = k.some_needed in
      let most = (and_parts (nat_le s.needed (length (verified same s kind h))) (is_some (context s kind h) || are_one same (verified same s kind h)) ready).0 in
      absurd (grind (arith, long, none_, some, most))

module _ {S D P G C : Type 0} (same : D → D → Bool) (g : Ghosts S D P G C) (batchable : S → Bool) (law : (x y : D) → IsTrue (same x y) ↔ (x ≡ y)) where
  -- a scheme's word on what it may decline, whatever the order
  abbrev pub DeclinesInEachOrder : Type 0
  DeclinesInEachOrder = (s : S) (x : Statement D) (given others : List (Attestation G)) → IsPermutation given others → g.may_decline s x given → g.may_decline s x others

  -- the verdict, said of the history
  pub judged-of : DeclinesInEachOrder → (s : Setup S) (h : History S D P G C) (kind : Kind) (v : Verifier S D P G C) (x : Statement D) (judged : Judged C)
      → IsVerifierKept same g batchable s v h → context s kind h ≡ Some x
      → (AreDistinct (map vote_attestation (votes_of true kind v.rows) ++ map vote_attestation (votes_of false kind v.rows)) → All (λ a. g.attests v.scheme.value a.signer x a.signature) (map vote_attestation (votes_of true kind v.rows))
      → IsJudged (g.certifies v.scheme.value x) g.lists (batchable v.scheme.value) (g.may_decline v.scheme.value x) (λ i a. g.attests v.scheme.value i x a) g.enumerates v.needed (map vote_attestation (votes_of true kind v.rows)) (map vote_attestation (votes_of false kind v.rows)) judged)
      → IsJudged (g.certifies s.scheme x) g.lists s.batchable (g.may_decline s.scheme x) (λ i a. g.attests s.scheme i x a) g.enumerates s.needed (map vote_attestation (verified same s kind h)) (map vote_attestation (waiting same s kind h)) judged
  judged-of declines s h kind v x judged k e f =
      let sure = map vote_attestation (verified same s kind h) in
      let wait = map vote_attestation (waiting same s kind h) in
      let sure2 = map vote_attestation (votes_of true kind v.rows) in
      let wait2 = map vote_attestation (votes_of false kind v.rows) in
      let p : IsPermutation sure sure2 = IsPermutation-map vote_attestation _ _ (k.rows.kinds kind).verified_are in
      let q : IsPermutation wait wait2 = IsPermutation-map vote_attestation _ _ (k.rows.kinds kind).waiting_are in
      let f2 = rw (k.scheme_is, k.batchable_is, k.needed_is) at f in
      judged-permutation (g.certifies s.scheme x) g.lists s.batchable (g.may_decline s.scheme x) (λ i a. g.attests s.scheme i x a) g.enumerates s.needed (declines s.scheme x) sure2 sure wait2 wait judged (IsPermutation-sym _ _ p) (IsPermutation-sym _ _ q)
      (f2 (AreDistinct-permutation (sure ++ wait) (sure2 ++ wait2) (IsPermutation-append sure sure2 wait wait2 p q) (counted-distinct same g.attests s kind h k.lawful))
      (All-permutation (λ (a : Attestation G). g.attests s.scheme a.signer x a.signature) sure sure2 p (attest-it same law g.attests s kind h k.lawful x (verified same s kind h) (verified-attest same g.attests s kind h k.lawful) (verified-state same law g.attests s kind h k.lawful x e))))

  -- where the votes that are known to attest are enough, each states what any of them states
  ready-one : (s : Setup S) (h : History S D P G C) (kind : Kind) → IsConsistent same g.attests s h → is_ready same s kind h ≡ true → (u : Vote S D P G C) → Contains (verified same s kind h) u → All (λ w. vote_statement w ≡ vote_statement u) (verified same s kind h)
  ready-one s h kind lawful ready u there = go (verified same s kind h) refl
    where
      go : (votes : List (Vote S D P G C)) → verified same s kind h ≡ votes → All (λ w. vote_statement w ≡ vote_statement u) (verified same s kind h)
      go [] e = absurd (let none : Contains [] u = rw e at there in omega (arith, none.1))
      go (first ∷ votes) e =
          let all = ready-state same law g.attests s kind h lawful first votes e ready in
          let mine = All-contains (λ w. vote_statement w ≡ vote_statement first) (verified same s kind h) u all there in
          λ k d l. all k d l ∙ sym mine

  -- the certificate of the votes that are known to attest, said of the history
  made-of : (s : Setup S) (h : History S D P G C) (kind : Kind) (v : Verifier S D P G C) (first : Vote S D P G C) (made : Option C)
      → IsVerifierKept same g batchable s v h → Contains (verified same s kind h) first → is_ready same s kind h ≡ true
      → (AreDistinct (map vote_attestation (votes_of true kind v.rows)) → All (λ a. g.attests v.scheme.value a.signer (vote_statement first) a.signature) (map vote_attestation (votes_of true kind v.rows))
      → MatchOption made (length (map vote_attestation (votes_of true kind v.rows)) < v.needed) (λ c. (v.needed ≤ length (map vote_attestation (votes_of true kind v.rows))) × IsWhole (g.certifies v.scheme.value (vote_statement first)) g.lists g.enumerates (map vote_attestation (votes_of true kind v.rows)) c))
      → MatchOption made ⊥ (λ c. IsWhole (g.certifies s.scheme (vote_statement first)) g.lists g.enumerates (map vote_attestation (verified same s kind h)) c)
  made-of s h kind v first made k there ready f =
      let f2 = rw (k.scheme_is, k.needed_is) at f in
      go made (f2 (AreDistinct-permutation sure sure2 p (first-part (λ (a b : Attestation G). a.signer ≢ b.signer) sure (map vote_attestation (waiting same s kind h)) (counted-distinct same g.attests s kind h k.lawful)))
      (All-permutation (λ (a : Attestation G). g.attests s.scheme a.signer (vote_statement first) a.signature) sure sure2 p
      (attest-it same law g.attests s kind h k.lawful (vote_statement first) (verified same s kind h) (verified-attest same g.attests s kind h k.lawful) (ready-one s h kind k.lawful ready first there))))
    where
      sure : List (Attestation G)
      sure = map vote_attestation (verified same s kind h)

      sure2 : List (Attestation G)
      sure2 = map vote_attestation (votes_of true kind v.rows)

      p : IsPermutation sure sure2
      p = IsPermutation-map vote_attestation _ _ (k.rows.kinds kind).verified_are

      enough : s.needed ≤ length sure2
      enough = grind (arith, length_permutation sure sure2 p, length-map (verified same s kind h) vote_attestation, (and_parts (nat_le s.needed (length (verified same s kind h))) (is_some (context s kind h) || are_one same (verified same s kind h)) ready).0)

      go : (made : Option C) → MatchOption made (length sure2 < s.needed) (λ c. (s.needed ≤ length sure2) × IsWhole (g.certifies s.scheme (vote_statement first)) g.lists g.enumerates sure2 c)
          → MatchOption made ⊥ (λ c. IsWhole (g.certifies s.scheme (vote_statement first)) g.lists g.enumerates sure c)
      go None few = absurd (omega (arith, few, enough))
      go (Some c) m = whole-permutation (g.certifies s.scheme (vote_statement first)) g.lists g.enumerates sure2 sure c (IsPermutation-sym _ _ p) m.1

  vote-ours : (round : Round) (v : Vote S D P G C) → vote_round v ≡ round → IsOurs round (vote_proposal v)
  vote-ours round (vote.Notarize v) e = e
  vote-ours round (vote.Nullify v) e = tt
  vote-ours round (vote.Finalize v) e = e

  -- it is of the kind and of the round, and each of the votes states what it states
  certificate-of : (s : Setup S) (h : History S D P G C) (kind : Kind) (v : Verifier S D P G C) (first : Vote S D P G C) (c : Certificate S D P G C)
      → IsVerifierKept same g batchable s v h → Contains (verified same s kind h) first → is_ready same s kind h ≡ true → certificate_statement c ≡ vote_statement first
      → IsWhole (g.certifies s.scheme (vote_statement first)) g.lists g.enumerates (map vote_attestation (verified same s kind h)) (certified_by c)
      → IsCertificateOf g s kind (verified same s kind h) c
  certificate-of s h kind v first c k there ready states whole =
      let all = ready-one s h kind k.lawful ready first there in
      let ours = (mine same law g.attests s kind h k.lawful).1 in
      let head = All-contains (IsMine same law g.attests s kind h k.lawful) (verified same s kind h) first ours there in
      let says = states-own same law kind s.round first head.0 head.1 ∙ ap Some (sym states) in record {
        kind_is = certificate-kind same law kind s.round (vote_proposal first) c says;
        round_is = certificate-ours same law kind s.round (vote_proposal first) c (vote-ours s.round first head.1) says;
        states = λ k d l. all k d l ∙ sym states;
        whole = rw states whole;
      }

  -- what was assembled of the votes that are known to attest, the first of which is this one, said of the history
  pub assembled : (s : Setup S) (h : History S D P G C) (kind : Kind) (v : Verifier S D P G C) (first : Vote S D P G C) (given : List (Attestation G)) (made : Option C)
      → IsVerifierKept same g batchable s v h → is_ready same s kind h ≡ true → head_of (votes_of true kind v.rows) ≡ Some first → given ≡ map vote_attestation (votes_of true kind v.rows)
      → (AreDistinct given → All (λ a. g.attests v.scheme.value a.signer (vote_statement first) a.signature) given
      → MatchOption made (length given < v.needed) (λ c. (v.needed ≤ length given) × IsWhole (g.certifies v.scheme.value (vote_statement first)) g.lists g.enumerates given c))
      → MatchOption made ⊥ (λ m. (c : Certificate S D P G C) → certificate_statement c ≡ vote_statement first → certified_by c ≡ m → IsCertificateOf g s kind (verified same s kind h) c)
  assembled s h kind v first given made k ready head all f =
      let there = Contains-permutation _ _ first (IsPermutation-sym _ _ (k.rows.kinds kind).verified_are) (head-there _ first head) in
      let f2 = rw all at f in
      match-more (λ m. IsWhole (g.certifies s.scheme (vote_statement first)) g.lists g.enumerates (map vote_attestation (verified same s kind h)) m) (λ m. (c : Certificate S D P G C) → certificate_statement c ≡ vote_statement first → certified_by c ≡ m → IsCertificateOf g s kind (verified same s kind h) c) made
      (λ m whole c states is. certificate-of s h kind v first c k there ready states (rw is whole))
      (made-of s h kind v first made k there ready f2)

  -- the certificate of the votes that waited is of the kind and of the round
  pub judged-on : (s : Setup S) (h : History S D P G C) (kind : Kind) (c : Certificate S D P G C) (x : Statement D) → IsConsistent same g.attests s h → context s kind h ≡ Some x → certificate_statement c ≡ x → IsCertificateOn s kind x c
  judged-on s h kind c x lawful e states =
      let says = e ∙ ap Some (sym states) in record {
        kind_is = certificate-kind same law kind s.round (selected h) c says;
        round_is = certificate-ours same law kind s.round (selected h) c (selected-ours same law g.attests s h lawful) says;
        states = states;
      }

  -- what came of the votes that waited, said of the history
  pub of-waiting : DeclinesInEachOrder → (s : Setup S) (h : History S D P G C) (kind : Kind) (v : Verifier S D P G C) (x : Statement D) (judged : Judged C) (batch : Batch (Certificate S D P G C))
      → IsVerifierKept same g batchable s v h → context s kind h ≡ Some x
      → (AreDistinct (map vote_attestation (votes_of true kind v.rows) ++ map vote_attestation (votes_of false kind v.rows)) → All (λ a. g.attests v.scheme.value a.signer x a.signature) (map vote_attestation (votes_of true kind v.rows))
      → IsJudged (g.certifies v.scheme.value x) g.lists (batchable v.scheme.value) (g.may_decline v.scheme.value x) (λ i a. g.attests v.scheme.value i x a) g.enumerates v.needed (map vote_attestation (votes_of true kind v.rows)) (map vote_attestation (votes_of false kind v.rows)) judged)
      → batch.processed ≡ length (waiting same s kind h) → judged_of batch ≡ judged → IfSome batch.certificate (λ c. certificate_statement c ≡ x)
      → IsOfWaiting g same s kind h batch
  of-waiting declines s h kind v x judged batch k on f processed is states = record {
    processed_are = processed;
    states = x;
    context_is = on;
    certificate_is = some-more (λ c. certificate_statement c ≡ x) (λ c. IsCertificateOn s kind x c) batch.certificate (λ c e. judged-on s h kind c x k.lawful on e) states;
    judged = rw is (judged-of declines s h kind v x judged k on f);
  }

  -- the verifier after votes that waited were judged, and no certificate came of it
  pub settled-keeps : (s : Setup S) (h : History S D P G C) (kind : Kind) (failing : List ℕ) (x : Statement D) (old new : Verifier S D P G C)
      → IsVerifierKept same g batchable s old h → new.round ≡ old.round → new.scheme ≡ old.scheme → new.needed ≡ old.needed → new.skipped ≡ old.skipped → new.leader ≡ old.leader → new.proposal ≡ old.proposal
      → PlacesStay old.rows new.rows
      → ((k : Kind) (complete : Bool) (wait sure : List (Vote S D P G C)) → KindIs k old.rows complete wait sure → KindIs k new.rows complete (settled_waiting k kind wait) (settled_verified k kind failing wait sure))
      → context s kind h ≡ Some x → AreFailing (λ i a. g.attests s.scheme i x a) (map vote_attestation (waiting same s kind h)) failing
      → IsVerifierKept same g batchable s new (history.Judged kind failing ∷ h)
  settled-keeps s h kind failing x old new k a b c d e f places kinds on are = record {
    round_is = a ∙ k.round_is;
    scheme_is = rw b k.scheme_is;
    members_are = k.members_are;
    batchable_is = k.batchable_is;
    needed_is = c ∙ k.needed_is;
    enough = k.enough;
    some_needed = k.some_needed;
    skipped_is = d ∙ k.skipped_is;
    leader_is = e ∙ k.leader_is;
    selection_is = rw f (k.selection_is ∙ sym (selection-stays h));
    rows = record { places = places-newest s.members (accepted h) old.rows new.rows places k.rows.places; kinds = λ one. kinds one _ _ _ (k.rows.kinds one) };
    lawful = (judged-right same g.attests s kind h k.lawful x failing on (waiting-state same law g.attests s kind h k.lawful x on) are, k.lawful);
  }
