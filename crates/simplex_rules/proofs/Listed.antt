-- The votes that a certificate lists are counted one after the other.
use Rattle.std.proofs.Common.{◌≡◌, ℕ, ◌+◌, ◌<◌, ◌≤◌, List, [], ◌∷◌, ◌++◌, length, take, get_or, map, sym, ap, ◌∙◌, subst, append_assoc}
use Rattle.std.specs.BTreeSet.{BTreeSet}
use Rattle.std.specs.declared.cmp.Ordering.{Ordering}
use Rattle.std.proofs.lemmas.List.{append-nil, map-append, take_more, take_all}
use Rattle.types_core.specs.declared.attestation.Attestation.{Attestation}
use Rattle.types_core.specs.declared.proposal.Proposal.{Proposal}
use Rattle.types_core.specs.Subject.{Statement}
use Rattle.messages_certificates.specs.declared.nullification.Nullification.{Nullification}
use Rattle.messages_certificates.specs.declared.nullify.Nullify.{Nullify}
use Rattle.messages_certificates.specs.declared.proposal_certificate.ProposalCertificate.{ProposalCertificate}
use Rattle.messages_certificates.specs.declared.proposal_vote.ProposalVote.{ProposalVote}
use Rattle.messages_certificates.specs.Nullify.{nullify_of_parts}
use Rattle.messages_certificates.specs.ProposalVote.{vote_of_parts}
use Rattle.simplex_rules.specs.declared.cast.Kept.{Kept}
use Rattle.simplex_rules.specs.declared.nullifies.Given.{Given}
use Rattle.simplex_rules.specs.declared.cast.Suspect.{Suspect}
use Rattle.simplex_rules.specs.Tally.{HoldsVotes, HoldsNullifies}

-- of these votes too what there is to keep is kept
abbrev pub Adds : {V M : Type 0} → (List V → M → Type 0) → M → M → List V → Type 0
Adds {V} Holds old new added = (votes : List V) → Holds votes old → Holds (votes ++ added) new

module _ {A V M : Type 0} (Holds : List V → M → Type 0) (f : A → V) where
  -- nothing was counted yet
  pub Adds-none : (old : M) (xs : List A) → Adds Holds old old (map f (take 0 xs))
  Adds-none old xs votes h = subst (λ (vs : List V). Holds vs old) (sym (append-nil votes)) h

  -- one more was counted
  pub Adds-next : (old mid new : M) (xs : List A) (i : ℕ) (x : A) → i < length xs → x ≡ get_or xs i x → Adds Holds old mid (map f (take i xs)) → Adds Holds mid new (f x ∷ []) → Adds Holds old new (map f (take (i + 1) xs))
  Adds-next old mid new xs i x below is before one votes h =
      let front = take i xs in
      let more : take (i + 1) xs ≡ front ++ x ∷ [] = take_more xs i x below ∙ ap (λ (y : A). front ++ y ∷ []) (sym is) in
      let mapped : map f (take (i + 1) xs) ≡ map f front ++ f x ∷ [] = ap (map f) more ∙ map-append f front (x ∷ []) in
      let whole : (votes ++ map f front) ++ f x ∷ [] ≡ votes ++ map f (take (i + 1) xs) = append_assoc votes (map f front) (f x ∷ []) ∙ ap (λ (vs : List V). votes ++ vs) (sym mapped) in
      subst (λ (vs : List V). Holds vs new) whole (one (votes ++ map f front) (before votes h))

  -- all were counted
  pub Adds-all : (old new : M) (xs : List A) (i : ℕ) → length xs ≤ i → Adds Holds old new (map f (take i xs)) → Adds Holds old new (map f xs)
  Adds-all old new xs i past all votes h = subst (λ (ys : List A). Holds (votes ++ map f ys) new) (take_all i xs past) (all votes h)

-- the votes that a certificate for a proposal lists
module _ {K S D P G C : Type 0} (c : ProposalCertificate K S D P G C) where
  abbrev pub vote_by : Attestation G → ProposalVote K S D P G C
  vote_by a = vote_of_parts (c.proposal, a)

  -- a vote made of the two is this one
  pub vote_by-is : (a : Attestation G) (v : ProposalVote K S D P G C) → v.proposal ≡ c.proposal → v.attestation ≡ a → v ≡ vote_by a
  vote_by-is a v proposal attestation =
      ap (λ (p : Proposal D). vote_of_parts {K = K} {S = S} {P = P} {C = C} (p, v.attestation)) proposal ∙ ap (λ (b : Attestation G). vote_by b) attestation

  abbrev pub HoldsAlike : (Proposal D → Statement D) → (ℕ → Statement D → G → Type 0) → (D → D → Ordering) → BTreeSet Suspect → List (ProposalVote K S D P G C) → List (Kept D G) → Type 0
  HoldsAlike states attests cmp contested votes kept = HoldsVotes states attests cmp contested votes kept

-- the nullifies that a nullification lists
module _ {S D P G C : Type 0} (c : Nullification S D P G C) where
  abbrev pub nullify_by : Attestation G → Nullify S D P G C
  nullify_by a = nullify_of_parts (c.round, a)

  abbrev pub HoldsGivenUp : (ℕ → Statement D → G → Type 0) → BTreeSet Suspect → List (Nullify S D P G C) → List (Given G) → Type 0
  HoldsGivenUp attests contested votes kept = HoldsNullifies attests contested votes kept
