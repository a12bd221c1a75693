-- A place in a suspect's votes is a place in all votes.
use Rattle.std.proofs.Common.{◌≡◌, true, false, List, [], ◌∷◌, ◌++◌, refl, sym, ap, ◌∙◌, subst, inl, inr, map}
use Rattle.std.specs.Prelude.{Contains}
use Rattle.std.specs.Ordering.{is_eq}
use Rattle.std.proofs.lemmas.Bool.{cases_Bool}
use Rattle.std.proofs.lemmas.Cmp.{tied_itself}
use Rattle.types_core.specs.declared.position.Round.{Round}
use Rattle.types_core.specs.declared.proposal.Proposal.{Proposal}
use Rattle.types_quorum.specs.Counting.{Contains-nil, Contains-head, Contains-rest, Contains-cases}
use Rattle.simplex_rules.specs.declared.cast.Choice.{Choice}
use Rattle.simplex_rules.specs.declared.cast.Suspect.{Suspect}
use Rattle.simplex_rules.specs.Kept.{suspect_cmp, casts_of}
use Rattle.simplex_rules.proofs.Suspects.{suspects_total, suspect_cmp-exact}

abbrev pub choice_of : {D : Type 0} → Proposal D → Choice D
choice_of p = record { parent = p.parent; payload = p.payload }

abbrev pub proposal_of : {D : Type 0} → Round → Choice D → Proposal D
proposal_of r c = record { round = r; parent = c.parent; payload = c.payload }

module _ {V X : Type 0} (parts : V → Suspect × X) where
  -- a vote is among those of its suspect
  pub own_there : (q : Suspect) (votes : List V) (v : V) → Contains votes v → (parts v).0 ≡ q → Contains (casts_of q (map parts votes)) (parts v).1
  own_there q [] v there is = absurd (Contains-nil v there)
  own_there q (u ∷ votes) v there is = elim (cases_Bool (is_eq (suspect_cmp (parts u).0 q))) [
    | inl same ↦ rw same (elim (Contains-cases u votes v there) [
      | inl first ↦ subst (λ (w : V). Contains ((parts u).1 ∷ casts_of q (map parts votes)) (parts w).1) first (Contains-head (parts u).1 (casts_of q (map parts votes)))
      | inr later ↦ Contains-rest (parts u).1 (casts_of q (map parts votes)) (parts v).1 (own_there q votes v later is)
    ])
    | inr other ↦ rw other (elim (Contains-cases u votes v there) [
      | inl first ↦ absurd (
          let is_q : (parts u).0 ≡ q = ap (λ (w : V). (parts w).0) first ∙ is in
          let tied : is_eq (suspect_cmp (parts u).0 q) ≡ true = subst (λ (x : Suspect). is_eq (suspect_cmp (parts u).0 x) ≡ true) is_q (ap is_eq (tied_itself suspects_total (parts u).0)) in
          let never : false ≡ true = sym other ∙ tied in
          cc
          )
      | inr later ↦ own_there q votes v later is
    ])
  ]

  record Split (q : Suspect) (votes : List V) (before : List X) (a : X) : Type 0 where
    pub front : List V
    pub back : List V
    pub vote : V
    pub whole : votes ≡ front ++ vote ∷ back
    pub parts_are : parts vote ≡ (q, a)
    pub own_front : casts_of q (map parts front) ≡ before

  own_first : (q : Suspect) (v : V) (votes : List V) → is_eq (suspect_cmp (parts v).0 q) ≡ true → casts_of q (map parts (v ∷ votes)) ≡ (parts v).1 ∷ casts_of q (map parts votes)
  own_first q v votes same = rw same refl

  behind : (q : Suspect) (v : V) (votes : List V) (before : List X) (a : X) → is_eq (suspect_cmp (parts v).0 q) ≡ false → Split q votes before a → Split q (v ∷ votes) before a
  behind q v votes before a other s = record {
    front = v ∷ s.front;
    back = s.back;
    vote = s.vote;
    whole = ap (λ (us : List V). v ∷ us) s.whole;
    parts_are = s.parts_are;
    own_front = rw other s.own_front;
  }

  split : (q : Suspect) (votes : List V) (before : List X) (a : X) (after : List X) → casts_of q (map parts votes) ≡ before ++ a ∷ after → Split q votes before a
  split q [] [] a after e = absurd cc
  split q [] (b ∷ before) a after e = absurd cc
  split q (v ∷ votes) [] a after e = elim (cases_Bool (is_eq (suspect_cmp (parts v).0 q))) [
    | inl same ↦
        let both : (parts v).1 ∷ casts_of q (map parts votes) ≡ a ∷ after = rw same at e in
        let own : (parts v).1 ≡ a = cc in
        let suspect : (parts v).0 ≡ q = suspect_cmp-exact (parts v).0 q same in
        record { front = []; back = votes; vote = v; whole = refl; parts_are = ap (λ (x : Suspect). (x, (parts v).1)) suspect ∙ ap (λ (x : X). (q, x)) own; own_front = refl }
    | inr other ↦ behind q v votes [] a other (split q votes [] a after (rw other at e))
  ]
  split q (v ∷ votes) (b ∷ before) a after e = elim (cases_Bool (is_eq (suspect_cmp (parts v).0 q))) [
    | inl same ↦
        let both : (parts v).1 ∷ casts_of q (map parts votes) ≡ b ∷ (before ++ a ∷ after) = rw same at e in
        let first : (parts v).1 ≡ b = cc in
        let later : casts_of q (map parts votes) ≡ before ++ a ∷ after = cc in
        let s = split q votes before a after later in
        record {
          front = v ∷ s.front;
          back = s.back;
          vote = s.vote;
          whole = ap (λ (us : List V). v ∷ us) s.whole;
          parts_are = s.parts_are;
          own_front = own_first q v s.front same ∙ ap (λ (x : X). x ∷ casts_of q (map parts s.front)) first ∙ ap (λ (xs : List X). b ∷ xs) s.own_front;
        }
    | inr other ↦ behind q v votes (b ∷ before) a other (split q votes (b ∷ before) a after (rw other at e))
  ]

  -- v is a vote of the suspect, and the suspect's votes in front of it are those in before
  pub record IsPlace (votes : List V) (q : Suspect) (before : List X) (v : V) : Type 0 where
    pub front : List V
    pub back : List V
    pub whole : votes ≡ front ++ v ∷ back
    pub among : (u : V) → Contains front u → (parts u).0 ≡ q → Contains before (parts u).1

  -- what stands in a suspect's votes stands among all votes
  pub IsPlace-from_cast : (q : Suspect) (votes : List V) (before : List X) (a : X) (after : List X) (made : V) → ((v : V) → parts v ≡ (q, a) → v ≡ made) → casts_of q (map parts votes) ≡ before ++ a ∷ after → IsPlace votes q before made
  IsPlace-from_cast q votes before a after made only e =
      let s = split q votes before a after e in
      record {
        front = s.front;
        back = s.back;
        whole = s.whole ∙ ap (λ (v : V). s.front ++ v ∷ s.back) (only s.vote s.parts_are);
        among = λ u inside is_q. subst (λ (xs : List X). Contains xs (parts u).1) s.own_front (own_there q s.front u inside is_q);
      }
