-- What holds of the votes that count, over every lawful history.
use Rattle.std.proofs.Common.{◌≡◌, ◌≢◌, ℕ, zero, suc, Bool, true, false, not, ◌||◌, List, [], ◌∷◌, ◌++◌, refl, sym, arith, append-nil, append_assoc, slice_index_or}
use Rattle.std.specs.Prelude.{None, Some, filter, find, map, if◌then◌else◌}
use Rattle.std.specs.List.{All, AllPairs, Contains}
use Rattle.std.proofs.lemmas.List.Elements.{All-nil, All-cons, All-head, All-tail, All-push, All-append, All-filter, Contains-append_right, Contains-get_or, filter-append}
use Rattle.std.proofs.lemmas.List.{map-append}
use Rattle.std.proofs.lemmas.List.Kept.{AllPairs-cons, AllPairs-filter}
use Rattle.types_core.specs.Subject.{Statement}
use Rattle.types_core.specs.declared.attestation.Attestation.{Attestation}
use Rattle.types_core.specs.Quorum.{AreDistinct}
use Rattle.simplex_messages.specs.declared.vote.Vote.{Vote}
use Rattle.messages_certificates.specs.declared.certificate.Certificate.{Certificate}
use Rattle.simplex_messages.specs.declared.vote.Vote.TheVariants as vote
use Rattle.simplex_messages.specs.VoteParts.{vote_signer}
use Rattle.types_terms.specs.declared.kind.Kind.{Kind}
use Rattle.types_terms.specs.declared.kind.Kind.TheVariants.{Notarization, Nullification, Finalization}
use Rattle.batcher_assembly.specs.Judging.{is_among}
use Rattle.batcher_verifier.specs.Votes.{is_kind, vote_kind, vote_attestation, is_in_way}
use Rattle.batcher_verifier.specs.History.{Event, History, accepted, Taken, Cast, Certified, Led, Judged, Forwarded, Setup, selected, is_complete, is_candidate, waiting, verified}
use Rattle.batcher_verifier.specs.Lawful.{IsNew, MayBeAdded, VoteAttests, Allowed, IsLawful, MayHappen, IsConsistent}
use Rattle.batcher_assembly.specs.Fewer.{AllPairs-fewer, not-true, filter-holds}
use Rattle.batcher_rows.specs.Kinds.{kind-same}

module _ {X : Type 0} where
  -- what holds of each holds of those that are counted
  All-counted : (P : X → Type 0) (closed : Bool) (p : X → Bool) (xs : List X) → All P xs → All P (if closed then [] else filter p xs)
  All-counted P true p xs all = All-nil P
  All-counted P false p xs all = All-filter p P xs all

  All-if_pushed : (P : X → Type 0) (b : Bool) (xs : List X) (x : X) → All P xs → (b ≡ true → P x) → All P (if b then xs ++ x ∷ [] else xs)
  All-if_pushed P true xs x all here = All-push P xs x all (here refl)
  All-if_pushed P false xs x all here = all

  All-if_none : (P : X → Type 0) (b : Bool) (xs : List X) → All P xs → All P (if b then [] else xs)
  All-if_none P true xs all = All-nil P
  All-if_none P false xs all = all

  All-if_more : (P : X → Type 0) (b : Bool) (xs ys : List X) → All P xs → (b ≡ true → All P ys) → All P (if b then xs ++ ys else xs)
  All-if_more P true xs ys all more = All-append P xs ys all (more refl)
  All-if_more P false xs ys all more = all

  -- one more between two lists, where the relation goes both ways
  AllPairs-between : (R : X → X → Type 0) → ((x y : X) → R x y → R y x) → (xs ys : List X) (z : X) → AllPairs R (xs ++ ys) → All (R z) (xs ++ ys) → AllPairs R (xs ++ z ∷ ys)
  AllPairs-between R turn [] ys z pairs all = AllPairs-cons R z ys all pairs
  AllPairs-between R turn (x ∷ xs) ys z pairs all =
      let rest : AllPairs R (xs ++ ys) = λ i j d l m. pairs (suc i) (suc j) d (omega arith) (omega arith) in
      let first : All (R x) (xs ++ ys) = λ k d l. pairs zero (suc k) d (omega arith) (omega arith) in
      AllPairs-cons R x (xs ++ z ∷ ys) (All-between (R x) xs ys z first (turn z x (All-head (R z) x (xs ++ ys) all)))
      (AllPairs-between R turn xs ys z rest (All-tail (R z) x (xs ++ ys) all))
    where
      All-between : (P : X → Type 0) (xs ys : List X) (z : X) → All P (xs ++ ys) → P z → All P (xs ++ z ∷ ys)
      All-between P [] ys z all here = All-cons P z ys here all
      All-between P (x ∷ xs) ys z all here = All-cons P x (xs ++ z ∷ ys) (All-head P x (xs ++ ys) all) (All-between P xs ys z (All-tail P x (xs ++ ys) all) here)

  -- those that are counted of two lists
  AllPairs-counted : (R : X → X → Type 0) (closed : Bool) (p : X → Bool) (xs ys : List X) → AllPairs R (xs ++ ys) → AllPairs R ((if closed then [] else filter p xs) ++ (if closed then [] else filter p ys))
  AllPairs-counted R true p xs ys pairs = λ i j d l m. absurd (omega arith)
  AllPairs-counted R false p xs ys pairs = rw (← filter-append p xs ys) (AllPairs-filter R p (xs ++ ys) pairs)

  AllPairs-map : {Y : Type 0} (R : Y → Y → Type 0) (f : X → Y) (xs : List X) → AllPairs (λ x y. R (f x) (f y)) xs → AllPairs R (map f xs)
  AllPairs-map R f [] pairs = λ i j d l m. absurd (omega arith)
  AllPairs-map R f (x ∷ xs) pairs = AllPairs-cons R (f x) (map f xs)
      (All-map R f xs (f x) (λ k d l. pairs zero (suc k) d (omega arith) (omega arith)))
      (AllPairs-map R f xs (λ i j d l m. pairs (suc i) (suc j) d (omega arith) (omega arith)))
    where
      All-map : {Y : Type 0} (R : Y → Y → Type 0) (f : X → Y) (xs : List X) (y : Y) → All (λ x. R y (f x)) xs → All (R y) (map f xs)
      All-map R f [] y all = All-nil (R y)
      All-map R f (x ∷ xs) y all = All-cons (R y) (f x) (map f xs) (All-head (λ x. R y (f x)) x xs all) (All-map R f xs y (All-tail (λ x. R y (f x)) x xs all))

  -- what is not found is not there
  pub not-found : (p : X → Bool) (xs : List X) (x : X) → find p xs ≡ None → Contains xs x → p x ≡ false
  not-found p [] x none (k, l, e) = absurd (omega arith)
  not-found p (y ∷ ys) x none (zero, l, e) = rw (← e) (here (p y) none)
    where
      here : (b : Bool) → (if b then Some y else find p ys) ≡ None → b ≡ false
      here true n = absurd (cc n)
      here false n = refl
  not-found p (y ∷ ys) x none (suc k, l, e) = not-found p ys x (rest (p y) none) (k, omega arith, e)
    where
      rest : (b : Bool) → (if b then Some y else find p ys) ≡ None → find p ys ≡ None
      rest true n = absurd (cc n)
      rest false n = n

-- what passes no test is not found
none-found : {X : Type 0} (p : X → Bool) (xs : List X) → All (λ x. p x ≡ false) xs → find p xs ≡ None
none-found p [] all = refl
none-found p (x ∷ xs) all = rw (All-head (λ y. p y ≡ false) x xs all) (none-found p xs (All-tail (λ y. p y ≡ false) x xs all))

module _ {S D P G C : Type 0} (same : D → D → Bool) (s : Setup S) (kind : Kind) where
  -- What holds of each accepted vote of the kind holds of each that waits, and of each that is known to attest.
  pub each-counted : (Holds : Vote S D P G C → Type 0) (h : History S D P G C) → ((v : Vote S D P G C) → Contains (accepted h) v → is_kind kind (vote_kind v) ≡ true → Holds v)
      → All Holds (waiting same s kind h) × All Holds (verified same s kind h)
  each-counted Holds [] each = (All-nil Holds, All-nil Holds)
  each-counted Holds (Taken v ∷ h) each =
      let rest = each-counted Holds h (λ u there. each u (Contains-append_right (v ∷ []) (accepted h) u there)) in
      let closed = s.is_skipped || is_complete kind h in
      let p = is_candidate same (selected (Taken v ∷ h)) in (
        All-counted Holds closed p (if is_kind kind (vote_kind v) then waiting same s kind h ++ v ∷ [] else waiting same s kind h) (All-if_pushed Holds (is_kind kind (vote_kind v)) (waiting same s kind h) v rest.0 (each v (zero, omega arith, refl))),
        All-counted Holds closed p (verified same s kind h) rest.1,
      )
  each-counted Holds (Cast v ∷ h) each =
      let rest = each-counted Holds h (λ u there. each u (Contains-append_right (v ∷ []) (accepted h) u there)) in
      let closed = s.is_skipped || is_complete kind h in
      let p = is_candidate same (selected (Cast v ∷ h)) in (
        All-counted Holds closed p (waiting same s kind h) rest.0,
        All-counted Holds closed p (if is_kind kind (vote_kind v) then verified same s kind h ++ v ∷ [] else verified same s kind h) (All-if_pushed Holds (is_kind kind (vote_kind v)) (verified same s kind h) v rest.1 (each v (zero, omega arith, refl))),
      )
  each-counted Holds (Certified c ∷ h) each =
      let rest = each-counted Holds h each in
      let closed = s.is_skipped || is_complete kind (Certified c ∷ h) in
      let p = is_candidate same (selected (Certified c ∷ h)) in
      (All-counted Holds closed p (waiting same s kind h) rest.0, All-counted Holds closed p (verified same s kind h) rest.1)
  each-counted Holds (Led i ∷ h) each =
      let rest = each-counted Holds h each in
      let closed = s.is_skipped || is_complete kind h in
      let p = is_candidate same (selected (Led i ∷ h)) in
      (All-counted Holds closed p (waiting same s kind h) rest.0, All-counted Holds closed p (verified same s kind h) rest.1)
  each-counted Holds (Forwarded ∷ h) each =
      let rest = each-counted Holds h each in
      let closed = s.is_skipped || is_complete kind h in
      let p = is_candidate same (selected (Forwarded ∷ h)) in
      (All-counted Holds closed p (waiting same s kind h) rest.0, All-counted Holds closed p (verified same s kind h) rest.1)
  each-counted Holds (Judged k failing ∷ h) each =
      let rest = each-counted Holds h each in (
        All-if_none Holds (is_kind kind k) (waiting same s kind h) rest.0,
        All-if_more Holds (is_kind kind k) (verified same s kind h) (filter (λ v. not (is_among failing (vote_signer v))) (waiting same s kind h)) rest.1 (λ _. All-filter (λ v. not (is_among failing (vote_signer v))) Holds (waiting same s kind h) rest.0),
      )

-- two votes are of two signers
abbrev pub AreApart : {S D P G C : Type 0} → Vote S D P G C → Vote S D P G C → Type 0
AreApart u v = vote_signer u ≢ vote_signer v

module _ {S D P G C : Type 0} where
  apart-turn : (u v : Vote S D P G C) → AreApart u v → AreApart v u
  apart-turn u v apart e = apart (sym e)

  -- votes of one kind and one signer stand in each other's way
  in-way : (u v : Vote S D P G C) (kind : Kind) → is_kind kind (vote_kind u) ≡ true → is_kind kind (vote_kind v) ≡ true → vote_signer u ≡ vote_signer v → is_in_way v u ≡ true
  in-way (vote.Notarize u) (vote.Notarize v) Notarization a b e = grind (arith, e)
  in-way (vote.Nullify u) (vote.Nullify v) Nullification a b e = grind (arith, e)
  in-way (vote.Finalize u) (vote.Finalize v) Finalization a b e = grind (arith, e)
  in-way (vote.Notarize u) (vote.Nullify v) Notarization a b e = absurd (cc b)
  in-way (vote.Notarize u) (vote.Finalize v) Notarization a b e = absurd (cc b)
  in-way (vote.Nullify u) (vote.Notarize v) Nullification a b e = absurd (cc b)
  in-way (vote.Nullify u) (vote.Finalize v) Nullification a b e = absurd (cc b)
  in-way (vote.Finalize u) (vote.Notarize v) Finalization a b e = absurd (cc b)
  in-way (vote.Finalize u) (vote.Nullify v) Finalization a b e = absurd (cc b)
  in-way (vote.Nullify u) v Notarization a b e = absurd (cc a)
  in-way (vote.Finalize u) v Notarization a b e = absurd (cc a)
  in-way (vote.Notarize u) v Nullification a b e = absurd (cc a)
  in-way (vote.Finalize u) v Nullification a b e = absurd (cc a)
  in-way (vote.Notarize u) v Finalization a b e = absurd (cc a)
  in-way (vote.Nullify u) v Finalization a b e = absurd (cc a)

  -- a vote that does not stand in the way of another one of its kind is of another signer
  apart-from : (v u : Vote S D P G C) (kind : Kind) → is_kind kind (vote_kind v) ≡ true → is_kind kind (vote_kind u) ≡ true → is_in_way v u ≡ false → AreApart v u
  apart-from v u kind mine its out e = let in_ = in-way u v kind its mine (sym e) in absurd (cc (out, in_))

  -- and so it is of another signer than each in whose way none of these stands
  apart-each : (v : Vote S D P G C) (kind : Kind) (votes : List (Vote S D P G C)) → is_kind kind (vote_kind v) ≡ true → All (λ u. is_kind kind (vote_kind u) ≡ true) votes → find (is_in_way v) votes ≡ None → All (AreApart v) votes
  apart-each v kind votes mine its none = λ k d l. apart-from v (slice_index_or votes k d) kind mine (its k d l) (not-found (is_in_way v) votes (slice_index_or votes k d) none (Contains-get_or votes k d l))

  module _ (same : D → D → Bool) (attests : S → ℕ → Statement D → G → Type 0) (s : Setup S) (kind : Kind) where
    new-apart-each : (h : History S D P G C) (v : Vote S D P G C) → MayBeAdded same s h v → is_kind kind (vote_kind v) ≡ true → All (AreApart v) (verified same s kind h ++ waiting same s kind h)
    new-apart-each h v new mine =
        let both = each-counted same s kind (λ u. is_kind kind (vote_kind u) ≡ true) h (λ u there its. its) in
        All-append (AreApart v) (verified same s kind h) (waiting same s kind h) (apart-each v kind (verified same s kind h) mine both.1 (new.none_verified kind)) (apart-each v kind (waiting same s kind h) mine both.0 (new.none_waits kind))

    -- one more that waits
    apart-waiting : (b : Bool) (sure wait : List (Vote S D P G C)) (v : Vote S D P G C) → AllPairs AreApart (sure ++ wait) → (b ≡ true → All (AreApart v) (sure ++ wait)) → AllPairs AreApart (sure ++ (if b then wait ++ v ∷ [] else wait))
    apart-waiting false sure wait v pairs new = pairs
    apart-waiting true sure wait v pairs new = rw (← append_assoc sure wait (v ∷ [])) (AllPairs-between AreApart apart-turn (sure ++ wait) [] v (rw (append-nil (sure ++ wait)) pairs) (rw (append-nil (sure ++ wait)) (new refl)))

    -- one more that is known to attest
    apart-verified : (b : Bool) (sure wait : List (Vote S D P G C)) (v : Vote S D P G C) → AllPairs AreApart (sure ++ wait) → (b ≡ true → All (AreApart v) (sure ++ wait)) → AllPairs AreApart ((if b then sure ++ v ∷ [] else sure) ++ wait)
    apart-verified false sure wait v pairs new = pairs
    apart-verified true sure wait v pairs new = rw (append_assoc sure (v ∷ []) wait) (AllPairs-between AreApart apart-turn sure wait v pairs (new refl))

    apart-judged : (b : Bool) (q : Vote S D P G C → Bool) (sure wait : List (Vote S D P G C)) → AllPairs AreApart (sure ++ wait) → AllPairs AreApart ((if b then sure ++ filter q wait else sure) ++ (if b then [] else wait))
    apart-judged false q sure wait pairs = pairs
    apart-judged true q sure wait pairs = rw (append-nil (sure ++ filter q wait)) (AllPairs-fewer AreApart q sure wait pairs)

    -- the votes of a kind that count are of distinct signers
    pub counted-apart : (h : History S D P G C) → IsConsistent same attests s h → AllPairs AreApart (verified same s kind h ++ waiting same s kind h)
    counted-apart [] lawful = λ i j d l m. absurd (omega arith)
    counted-apart (Taken v ∷ h) lawful =
        AllPairs-counted AreApart (s.is_skipped || is_complete kind h) (is_candidate same (selected (Taken v ∷ h))) (verified same s kind h) (if is_kind kind (vote_kind v) then waiting same s kind h ++ v ∷ [] else waiting same s kind h)
        (apart-waiting (is_kind kind (vote_kind v)) (verified same s kind h) (waiting same s kind h) v (counted-apart h lawful.1) (λ mine. new-apart-each h v lawful.0 mine))
    counted-apart (Cast v ∷ h) lawful =
        AllPairs-counted AreApart (s.is_skipped || is_complete kind h) (is_candidate same (selected (Cast v ∷ h))) (if is_kind kind (vote_kind v) then verified same s kind h ++ v ∷ [] else verified same s kind h) (waiting same s kind h)
        (apart-verified (is_kind kind (vote_kind v)) (verified same s kind h) (waiting same s kind h) v (counted-apart h lawful.1) (λ mine. new-apart-each h v lawful.0.0 mine))
    counted-apart (Certified c ∷ h) lawful = AllPairs-counted AreApart (s.is_skipped || is_complete kind (Certified c ∷ h)) (is_candidate same (selected (Certified c ∷ h))) (verified same s kind h) (waiting same s kind h) (counted-apart h lawful.1)
    counted-apart (Led i ∷ h) lawful = AllPairs-counted AreApart (s.is_skipped || is_complete kind h) (is_candidate same (selected (Led i ∷ h))) (verified same s kind h) (waiting same s kind h) (counted-apart h lawful.1)
    counted-apart (Forwarded ∷ h) lawful = AllPairs-counted AreApart (s.is_skipped || is_complete kind h) (is_candidate same (selected (Forwarded ∷ h))) (verified same s kind h) (waiting same s kind h) (counted-apart h lawful.1)
    counted-apart (Judged k failing ∷ h) lawful = apart-judged (is_kind kind k) (λ v. not (is_among failing (vote_signer v))) (verified same s kind h) (waiting same s kind h) (counted-apart h lawful.1)

    -- and so their attestations are
    pub counted-distinct : (h : History S D P G C) → IsConsistent same attests s h → AreDistinct (map vote_attestation (verified same s kind h) ++ map vote_attestation (waiting same s kind h))
    counted-distinct h lawful = rw (← map-append vote_attestation (verified same s kind h) (waiting same s kind h)) (AllPairs-map (λ (a b : Attestation G). a.signer ≢ b.signer) vote_attestation (verified same s kind h ++ waiting same s kind h) (signers (verified same s kind h ++ waiting same s kind h) (counted-apart h lawful)))
      where
        at : (u v : Vote S D P G C) → AreApart u v → (vote_attestation u).signer ≢ (vote_attestation v).signer
        at (vote.Notarize u) (vote.Notarize v) a = a
        at (vote.Notarize u) (vote.Nullify v) a = a
        at (vote.Notarize u) (vote.Finalize v) a = a
        at (vote.Nullify u) (vote.Notarize v) a = a
        at (vote.Nullify u) (vote.Nullify v) a = a
        at (vote.Nullify u) (vote.Finalize v) a = a
        at (vote.Finalize u) (vote.Notarize v) a = a
        at (vote.Finalize u) (vote.Nullify v) a = a
        at (vote.Finalize u) (vote.Finalize v) a = a

        signers : (votes : List (Vote S D P G C)) → AllPairs AreApart votes → AllPairs (λ u v. (vote_attestation u).signer ≢ (vote_attestation v).signer) votes
        signers votes pairs = λ i j d l m. at (slice_index_or votes i d) (slice_index_or votes j d) (pairs i j d l m)

    -- the votes that are verified attest
    pub verified-attest : (h : History S D P G C) → IsConsistent same attests s h → All (VoteAttests attests s) (verified same s kind h)
    verified-attest [] lawful = All-nil (VoteAttests attests s)
    verified-attest (Taken v ∷ h) lawful = All-counted (VoteAttests attests s) (s.is_skipped || is_complete kind h) (is_candidate same (selected (Taken v ∷ h))) (verified same s kind h) (verified-attest h lawful.1)
    verified-attest (Cast v ∷ h) lawful = All-counted (VoteAttests attests s) (s.is_skipped || is_complete kind h) (is_candidate same (selected (Cast v ∷ h))) (if is_kind kind (vote_kind v) then verified same s kind h ++ v ∷ [] else verified same s kind h)
        (All-if_pushed (VoteAttests attests s) (is_kind kind (vote_kind v)) (verified same s kind h) v (verified-attest h lawful.1) (λ _. lawful.0.1))
    verified-attest (Certified c ∷ h) lawful = All-counted (VoteAttests attests s) (s.is_skipped || is_complete kind (Certified c ∷ h)) (is_candidate same (selected (Certified c ∷ h))) (verified same s kind h) (verified-attest h lawful.1)
    verified-attest (Led i ∷ h) lawful = All-counted (VoteAttests attests s) (s.is_skipped || is_complete kind h) (is_candidate same (selected (Led i ∷ h))) (verified same s kind h) (verified-attest h lawful.1)
    verified-attest (Forwarded ∷ h) lawful = All-counted (VoteAttests attests s) (s.is_skipped || is_complete kind h) (is_candidate same (selected (Forwarded ∷ h))) (verified same s kind h) (verified-attest h lawful.1)
    verified-attest (Judged k failing ∷ h) lawful = All-if_more (VoteAttests attests s) (is_kind kind k) (verified same s kind h) (filter (λ v. not (is_among failing (vote_signer v))) (waiting same s kind h)) (verified-attest h lawful.1)
        (λ one. filter-holds (VoteAttests attests s) (λ v. not (is_among failing (vote_signer v))) (waiting same s kind h)
        (λ v there out. lawful.0.others_attest v (rw (kind-same kind k one) there) (not-true (is_among failing (vote_signer v)) out)))

module _ {S D P G C : Type 0} (same : D → D → Bool) where
  -- a vote that no accepted one stands in the way of may be added
  pub new-added : (s : Setup S) (h : History S D P G C) (v : Vote S D P G C) → IsNew s h v → MayBeAdded same s h v
  new-added s h v new =
      let out : (u : Vote S D P G C) → Contains (accepted h) u → is_in_way v u ≡ false = λ u there. not-found (is_in_way v) (accepted h) u new.free there in record {
        ours = new.ours;
        none_waits = λ kind. none-found (is_in_way v) (waiting same s kind h) (each-counted same s kind (λ u. is_in_way v u ≡ false) h (λ u there its. out u there)).0;
        none_verified = λ kind. none-found (is_in_way v) (verified same s kind h) (each-counted same s kind (λ u. is_in_way v u ≡ false) h (λ u there its. out u there)).1;
      }

  module _ (attests : S → ℕ → Statement D → G → Type 0) (s : Setup S) where
    -- what is allowed may happen
    allowed-happens : (h : History S D P G C) (e : Event (Vote S D P G C) (Certificate S D P G C)) → Allowed same attests s h e → MayHappen same attests s h e
    allowed-happens h (Taken v) new = new-added s h v new
    allowed-happens h (Cast v) new = (new-added s h v new.0, new.1)
    allowed-happens h (Certified c) allowed = allowed
    allowed-happens h (Led i) allowed = allowed
    allowed-happens h (Judged k failing) allowed = allowed
    allowed-happens h Forwarded allowed = allowed

    -- what is lawful is consistent
    pub lawful-consistent : (h : History S D P G C) → IsLawful same attests s h → IsConsistent same attests s h
    lawful-consistent [] lawful = tt
    lawful-consistent (e ∷ h) lawful = (allowed-happens h e lawful.0, lawful-consistent h lawful.1)
