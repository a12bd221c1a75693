-- What is kept of the votes is the verdict on them.
use Rattle.std.proofs.Common.{◌≡◌, ℕ, List, Option, Some, None, refl, sym, ap, ◌∙◌, subst, inl, inr, map}
use Rattle.std.specs.Prelude.{Contains, IsTrue}
use Rattle.std.specs.Cmp.{IsTotalOrder}
use Rattle.std.specs.BTreeSet.{BTreeSet, contains}
use Rattle.std.specs.declared.cmp.Ordering.{Ordering}
use Rattle.types_core.specs.declared.position.Round.{Round}
use Rattle.types_core.specs.declared.proposal.Proposal.{Proposal}
use Rattle.types_core.specs.Subject.{Statement}
use Rattle.types_quorum.specs.Counting.{Contains-nil}
use Rattle.messages_certificates.specs.declared.nullify.Nullify.{Nullify}
use Rattle.messages_certificates.specs.declared.proposal_vote.ProposalVote.{ProposalVote}
use Rattle.messages_certificates.specs.ProposalVote.{IsAttested}
use Rattle.messages_certificates.specs.Nullify.{NullifyIsAttested}
use Rattle.simplex_messages.specs.Guilt.{IsGuilty, IsFirstRead, IsLeastEvidence, IsFirstNullify}
use Rattle.simplex_rules.specs.declared.cast.Choice.{Choice}
use Rattle.simplex_rules.specs.declared.cast.Cast.{Cast}
use Rattle.simplex_rules.specs.declared.cast.Kept.{Kept}
use Rattle.simplex_rules.specs.declared.cast.Kept.TheVariants.{Nothing, Claim, One, Two}
use Rattle.simplex_rules.specs.declared.cast.Suspect.{Suspect}
use Rattle.simplex_rules.specs.declared.nullifies.Given.{Given}
use Rattle.simplex_rules.specs.declared.nullifies.Given.TheVariants as given
use Rattle.simplex_rules.specs.Cast.{IsLower, IsFirst, AreNone, IsFor, HasOne, HasTwo}
use Rattle.simplex_rules.specs.Kept.{StandsAt, casts_of, kept_of, suspect_cmp}
use Rattle.simplex_rules.specs.Tally.{CastIsAttested, KeepsVotes, suspect_of, cast_of, parts_of, vote_of, HoldsVotes, IsLeastOf, AreApart, GivenIsAttested, KeepsNullifies, nullify_suspect, nullify_of, nullify_parts, HoldsNullifies, IsFirstOf}
use Rattle.simplex_rules.proofs.Casts.{IsLower-differs, IsLower-trans}
use Rattle.simplex_rules.proofs.Standing.{kept_at_place}
use Rattle.simplex_rules.proofs.Tallies.{tallied}
use Rattle.simplex_rules.proofs.Places.{choice_of, proposal_of, own_there, IsPlace-from_cast}

abbrev pub suspect_from : Round → ℕ → Suspect
suspect_from r i = record { round = r; signer = i }

-- ---- votes on a proposal

module _ {K S D P G C : Type 0} where
  -- the vote of a suspect is made of the two
  vote_of-parts : (q : Suspect) (a : Cast D G) (v : ProposalVote K S D P G C) → parts_of v ≡ (q, a) → v ≡ vote_of q a
  vote_of-parts q a v is = ap (λ (p : Suspect × Cast D G). vote_of {K = K} {S = S} {P = P} {C = C} p.0 p.1) is

  pub suspect_is : (q : Suspect) (v : ProposalVote K S D P G C) → v.proposal.round ≡ q.round → v.attestation.signer ≡ q.signer → suspect_of v ≡ q
  suspect_is q v round signer = ap (λ (r : Round). suspect_from r v.attestation.signer) round ∙ ap (λ (i : ℕ). suspect_from q.round i) signer

  module _ (states : Proposal D → Statement D) (attests : ℕ → Statement D → G → Type 0) (votes : List (ProposalVote K S D P G C)) where
    abbrev casts : Suspect → List (Cast D G)
    casts q = casts_of q (map parts_of votes)

    -- a vote is among those of its suspect
    vote_there : (q : Suspect) (v : ProposalVote K S D P G C) → Contains votes v → suspect_of v ≡ q → Contains (casts q) (cast_of v)
    vote_there q v there is = own_there parts_of q votes v there is

    -- and verifies there
    verifies_there : (q : Suspect) (v : ProposalVote K S D P G C) → IsAttested states attests v → suspect_of v ≡ q → CastIsAttested states attests q (cast_of v)
    verifies_there q v verifies is = subst (λ (x : Suspect). CastIsAttested states attests x (cast_of v)) is verifies

    -- a vote of a suspect's round is for its choice
    of_round : (q : Suspect) (v : ProposalVote K S D P G C) (a : Choice D) → v.proposal.round ≡ q.round → choice_of v.proposal ≡ a → v.proposal ≡ proposal_of q.round a
    of_round q v a round choice = ap (λ (r : Round). proposal_of r (choice_of v.proposal)) round ∙ ap (λ (c : Choice D). proposal_of q.round c) choice

    -- the first of a suspect's votes for a proposal that verifies is the first read that does
    IsFirstRead-from_first : (q : Suspect) (a : Cast D G) → IsFirst (IsFor (CastIsAttested states attests q) a.choice) (casts q) a → IsFirstRead states attests votes (vote_of q a)
    IsFirstRead-from_first q a f =
        let place = IsPlace-from_cast parts_of q votes f.before a f.after (vote_of q a) (vote_of-parts q a) f.whole in
        record {
          before = place.front;
          after = place.back;
          whole = place.whole;
          verifies = f.is_so.0;
          first = λ u before verifies signer proposal.
              let is_q : suspect_of u ≡ q = suspect_is q u (ap (λ (p : Proposal D). p.round) proposal) signer in
              f.first (cast_of u) (place.among u before is_q) (verifies_there q u verifies is_q, ap (λ (p : Proposal D). choice_of p) proposal);
        }

    module _ (cmp : D → D → Ordering) where
      -- where none of a suspect's votes verifies, none is the least
      IsLeastOf-from_none : (q : Suspect) → AreNone (CastIsAttested states attests q) (casts q) → IsLeastOf states attests cmp votes q None
      IsLeastOf-from_none q none = λ v there verifies is. none (cast_of v) (vote_there q v there is) (verifies_there q v verifies is)

      IsLeastOf-from_one : (q : Suspect) (a : Cast D G) → HasOne (CastIsAttested states attests q) (casts q) a → IsLeastOf states attests cmp votes q (Some (vote_of q a))
      IsLeastOf-from_one q a s = (
        IsFirstRead-from_first q a s.0,
        λ v there verifies theirs.
            let is_q = suspect_is q v theirs.round_is theirs.signer_is in
            inl (of_round q v a.choice theirs.round_is (s.1 (cast_of v) (vote_there q v there is_q) (verifies_there q v verifies is_q))),
      )

      IsLeastOf-from_two : IsTotalOrder cmp → (q : Suspect) (a b : Cast D G) → HasTwo (CastIsAttested states attests q) cmp (casts q) a b → IsLeastOf states attests cmp votes q (Some (vote_of q a))
      IsLeastOf-from_two order q a b s = (
        IsFirstRead-from_first q a s.0,
        λ v there verifies theirs.
            let is_q = suspect_is q v theirs.round_is theirs.signer_is in
            elim (s.3 (cast_of v) (vote_there q v there is_q) (verifies_there q v verifies is_q)) [
              | inl is_a ↦ inl (of_round q v a.choice theirs.round_is is_a)
              | inr other ↦ inr (elim other [
                | inl is_b ↦ subst (λ (c : Choice D). IsLower cmp a.choice c) (sym is_b) s.2
                | inr above ↦ IsLower-trans order a.choice b.choice (choice_of v.proposal) s.2 above
              ])
            ],
      )

      module _ (contested : BTreeSet Suspect) (kept : List (Kept D G)) (h : HoldsVotes states attests cmp contested votes kept) where
        -- the suspect is in the set
        abbrev IsContested : Suspect → Type 0
        IsContested q = IsTrue (contains suspect_cmp contested q)

        -- what the map has of a suspect is what is kept of its votes
        kept_at : (q : Suspect) (k : Kept D G) → kept_of contested kept q ≡ Some k → KeepsVotes states attests cmp q (casts q) k
        kept_at q k found = let t = rw found at (tallied contested (KeepsVotes states attests cmp) parts_of votes kept h q) in t.1

        -- what is kept of two proposals is of two
        pub apart : IsTotalOrder cmp → (place : ℕ) (q : Suspect) → StandsAt contested place q → AreApart kept place
        apart order place q stands = λ a b found. IsLower-differs order a.choice b.choice (kept_at q (Two a b) (kept_at_place contested kept place q stands ∙ found)).2

        -- what is kept of two proposals is evidence
        pub IsLeastEvidence-from_two : IsTotalOrder cmp → (q : Suspect) (a b : Cast D G) → kept_of contested kept q ≡ Some (Two a b) → IsLeastEvidence states attests cmp votes (vote_of q a) (vote_of q b)
        IsLeastEvidence-from_two order q a b found =
            let s = kept_at q (Two a b) found in
            record {
              contradict = record { one_round = refl; one_signer = refl; two_proposals = λ same. IsLower-differs order a.choice b.choice s.2 (ap (λ (p : Proposal D). choice_of p) same) };
              first = IsFirstRead-from_first q a s.0;
              second = IsFirstRead-from_first q b s.1;
              below = s.2;
              least = λ v there verifies theirs.
                  let is_q = suspect_is q v theirs.round_is theirs.signer_is in
                  elim (s.3 (cast_of v) (vote_there q v there is_q) (verifies_there q v verifies is_q)) [
                    | inl is_a ↦ inl (of_round q v a.choice theirs.round_is is_a)
                    | inr other ↦ inr (elim other [
                      | inl is_b ↦ inl (of_round q v b.choice theirs.round_is is_b)
                      | inr above ↦ inr above
                    ])
                  ];
            }

        -- of the guilty two votes are kept
        pub guilty_are_kept : (round : Round) (signer : ℕ) → IsContested (suspect_from round signer) → IsGuilty states attests votes round signer → (a : Cast D G) × (b : Cast D G) × (kept_of contested kept (suspect_from round signer) ≡ Some (Two a b))
        guilty_are_kept round signer contests guilty = among (kept_of contested kept (suspect_from round signer)) refl
          where
            first_is : suspect_of guilty.first ≡ (suspect_from round signer)
            first_is = suspect_is (suspect_from round signer) guilty.first guilty.first_is_theirs.round_is guilty.first_is_theirs.signer_is

            second_is : suspect_of guilty.second ≡ (suspect_from round signer)
            second_is = suspect_is (suspect_from round signer) guilty.second (sym guilty.contradict.one_round ∙ guilty.first_is_theirs.round_is) (sym guilty.contradict.one_signer ∙ guilty.first_is_theirs.signer_is)

            first_cast : Contains (casts (suspect_from round signer)) (cast_of guilty.first)
            first_cast = vote_there (suspect_from round signer) guilty.first guilty.first_is_there first_is

            first_verifies : CastIsAttested states attests (suspect_from round signer) (cast_of guilty.first)
            first_verifies = verifies_there (suspect_from round signer) guilty.first guilty.first_verifies first_is

            -- not all that verify are for one proposal
            not_one : (a : Cast D G) → HasOne (CastIsAttested states attests (suspect_from round signer)) (casts (suspect_from round signer)) a → ⊥
            not_one a s =
                let second = s.1 (cast_of guilty.second) (vote_there (suspect_from round signer) guilty.second guilty.second_is_there second_is) (verifies_there (suspect_from round signer) guilty.second guilty.second_verifies second_is) in
                let choices : choice_of guilty.first.proposal ≡ choice_of guilty.second.proposal = s.1 (cast_of guilty.first) first_cast first_verifies ∙ sym second in
                let proposals : guilty.first.proposal ≡ guilty.second.proposal = ap (λ (r : Round). proposal_of r (choice_of guilty.first.proposal)) guilty.contradict.one_round ∙ ap (λ (c : Choice D). proposal_of guilty.second.proposal.round c) choices in
                guilty.contradict.two_proposals proposals

            among : (k : Option (Kept D G)) → kept_of contested kept (suspect_from round signer) ≡ k → (a : Cast D G) × (b : Cast D G) × (kept_of contested kept (suspect_from round signer) ≡ Some (Two a b))
            among None found =
                let none = rw found at (tallied contested (KeepsVotes states attests cmp) parts_of votes kept h (suspect_from round signer)) in
                absurd (Contains-nil (cast_of guilty.first) (subst (λ (cs : List (Cast D G)). Contains cs (cast_of guilty.first)) (none contests) first_cast))
            among (Some Nothing) found =
                absurd (Contains-nil (cast_of guilty.first) (subst (λ (cs : List (Cast D G)). Contains cs (cast_of guilty.first)) (kept_at (suspect_from round signer) Nothing found) first_cast))
            among (Some (Claim a)) found =
                let s = kept_at (suspect_from round signer) (Claim a) found in
                absurd (s.1 (λ verifies. not_one a (s.0 verifies)) (cast_of guilty.first) first_cast first_verifies)
            among (Some (One a)) found = absurd (not_one a (kept_at (suspect_from round signer) (One a) found))
            among (Some (Two a b)) found = (a, b, found)

        -- the least, by what is kept
        pub least-none : (q : Suspect) → IsContested q → kept_of contested kept q ≡ None → IsLeastOf states attests cmp votes q None
        least-none q contests found =
            let none = rw found at (tallied contested (KeepsVotes states attests cmp) parts_of votes kept h q) in
            IsLeastOf-from_none q (λ c there verifies. Contains-nil c (subst (λ (cs : List (Cast D G)). Contains cs c) (none contests) there))

        pub least-nothing : (q : Suspect) → kept_of contested kept q ≡ Some Nothing → IsLeastOf states attests cmp votes q None
        least-nothing q found = IsLeastOf-from_none q (λ c there verifies. Contains-nil c (subst (λ (cs : List (Cast D G)). Contains cs c) (kept_at q Nothing found) there))

        -- where nothing is kept
        pub least-absent : (q : Suspect) → IsContested q → ((k : Kept D G) → kept_of contested kept q ≡ Some k → k ≡ Nothing) → IsLeastOf states attests cmp votes q None
        least-absent q contests absent = by (kept_of contested kept q) refl
          where
            by : (o : Option (Kept D G)) → kept_of contested kept q ≡ o → IsLeastOf states attests cmp votes q None
            by None found = least-none q contests found
            by (Some k) found = least-nothing q (found ∙ ap Some (absent k found))

        pub least-failed : (q : Suspect) (a : Cast D G) → kept_of contested kept q ≡ Some (Claim a) → (CastIsAttested states attests q a → ⊥) → IsLeastOf states attests cmp votes q None
        least-failed q a found fails = IsLeastOf-from_none q ((kept_at q (Claim a) found).1 fails)

        pub least-claim : (q : Suspect) (a : Cast D G) → kept_of contested kept q ≡ Some (Claim a) → CastIsAttested states attests q a → IsLeastOf states attests cmp votes q (Some (vote_of q a))
        least-claim q a found verifies = IsLeastOf-from_one q a ((kept_at q (Claim a) found).0 verifies)

        pub least-one : (q : Suspect) (a : Cast D G) → kept_of contested kept q ≡ Some (One a) → IsLeastOf states attests cmp votes q (Some (vote_of q a))
        least-one q a found = IsLeastOf-from_one q a (kept_at q (One a) found)

        pub least-two : IsTotalOrder cmp → (q : Suspect) (a b : Cast D G) → kept_of contested kept q ≡ Some (Two a b) → IsLeastOf states attests cmp votes q (Some (vote_of q a))
        least-two order q a b found = IsLeastOf-from_two order q a b (kept_at q (Two a b) found)

-- ---- nullifies

module _ {S D P G C : Type 0} where
  nullify_of-parts : (q : Suspect) (a : G) (v : Nullify S D P G C) → nullify_parts v ≡ (q, a) → v ≡ nullify_of q a
  nullify_of-parts q a v is = ap (λ (p : Suspect × G). nullify_of {S = S} {D = D} {P = P} {C = C} p.0 p.1) is

  module _ (attests : ℕ → Statement D → G → Type 0) (votes : List (Nullify S D P G C)) where
    abbrev signatures : Suspect → List G
    signatures q = casts_of q (map nullify_parts votes)

    -- a nullify is among those of its suspect
    nullify_there : (q : Suspect) (v : Nullify S D P G C) → Contains votes v → nullify_suspect v ≡ q → Contains (signatures q) v.attestation.signature
    nullify_there q v there is = own_there nullify_parts q votes v there is

    given_there : (q : Suspect) (v : Nullify S D P G C) → NullifyIsAttested attests v → nullify_suspect v ≡ q → GivenIsAttested attests q v.attestation.signature
    given_there q v verifies is = subst (λ (x : Suspect). GivenIsAttested attests x v.attestation.signature) is verifies

    -- the first of a suspect's that verifies is the first read that does
    IsFirstNullify-from_first : (q : Suspect) (a : G) → IsFirst (GivenIsAttested attests q) (signatures q) a → IsFirstNullify attests votes (nullify_of q a)
    IsFirstNullify-from_first q a f =
        let place = IsPlace-from_cast nullify_parts q votes f.before a f.after (nullify_of q a) (nullify_of-parts q a) f.whole in
        record {
          before = place.front;
          after = place.back;
          whole = place.whole;
          verifies = f.is_so;
          first = λ u before verifies signer round.
              let is_q : nullify_suspect u ≡ q = ap (λ (r : Round). suspect_from r u.attestation.signer) round ∙ ap (λ (i : ℕ). suspect_from q.round i) signer in
              f.first u.attestation.signature (place.among u before is_q) (given_there q u verifies is_q);
        }

    IsFirstOf-from_none : (q : Suspect) → AreNone (GivenIsAttested attests q) (signatures q) → IsFirstOf attests votes q None
    IsFirstOf-from_none q none = λ v there verifies is. none v.attestation.signature (nullify_there q v there is) (given_there q v verifies is)

    module _ (contested : BTreeSet Suspect) (kept : List (Given G)) (h : HoldsNullifies attests contested votes kept) where
      given_at : (q : Suspect) (k : Given G) → kept_of contested kept q ≡ Some k → KeepsNullifies attests q (signatures q) k
      given_at q k found = let t = rw found at (tallied contested (KeepsNullifies attests) nullify_parts votes kept h q) in t.1

      -- the first, by what is kept
      pub first-none : (q : Suspect) → IsTrue (contains suspect_cmp contested q) → kept_of contested kept q ≡ None → IsFirstOf attests votes q None
      first-none q contests found =
          let none = rw found at (tallied contested (KeepsNullifies attests) nullify_parts votes kept h q) in
          IsFirstOf-from_none q (λ c there verifies. Contains-nil c (subst (λ (cs : List G). Contains cs c) (none contests) there))

      pub first-nothing : (q : Suspect) → kept_of contested kept q ≡ Some given.Nothing → IsFirstOf attests votes q None
      first-nothing q found = IsFirstOf-from_none q (λ c there verifies. Contains-nil c (subst (λ (cs : List G). Contains cs c) (given_at q given.Nothing found) there))

      pub first-failed : (q : Suspect) (a : G) → kept_of contested kept q ≡ Some (given.Claim a) → (GivenIsAttested attests q a → ⊥) → IsFirstOf attests votes q None
      first-failed q a found fails = IsFirstOf-from_none q ((given_at q (given.Claim a) found).1 fails)

      pub first-claim : (q : Suspect) (a : G) → kept_of contested kept q ≡ Some (given.Claim a) → GivenIsAttested attests q a → IsFirstOf attests votes q (Some (nullify_of q a))
      first-claim q a found verifies = IsFirstNullify-from_first q a ((given_at q (given.Claim a) found).0 verifies)

      pub first-first : (q : Suspect) (a : G) → kept_of contested kept q ≡ Some (given.First a) → IsFirstOf attests votes q (Some (nullify_of q a))
      first-first q a found = IsFirstNullify-from_first q a (given_at q (given.First a) found)
