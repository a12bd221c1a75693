-- The evidence of the first and the last of the votes that are kept.
use Rattle.std.proofs.Common.{◌≡◌, ◌≢◌, Option, Some, None, true, false, refl, sym, ap, ◌∙◌}
use Rattle.std.specs.Prelude.{◌↔◌, IfSome, IsSome}
use Rattle.messages_certificates.specs.declared.proposal_vote.ProposalVote.{ProposalVote}
use Rattle.messages_certificates.specs.ProposalVote.{Contradict}
use Rattle.simplex_rules.specs.declared.cast.Cast.{Cast}
use Rattle.simplex_rules.specs.declared.cast.Kept.{Kept}
use Rattle.simplex_rules.specs.declared.cast.Kept.TheVariants.{Nothing, Claim, One, Two}
use Rattle.simplex_rules.specs.declared.cast.Suspect.{Suspect}
use Rattle.simplex_rules.specs.Cast.{ends_of}
use Rattle.simplex_rules.specs.Tally.{conflict_in, vote_of}
use Rattle.simplex_rules.proofs.Places.{choice_of}

some_is : {X : Type 0} (x y : X) → Some x ≡ Some y → x ≡ y
some_is x y e = cc

module _ {K S D P G C : Type 0} where
  -- votes that don't contradict each other give none
  none-made : (u v : ProposalVote K S D P G C) (r : Option (ProposalVote K S D P G C × ProposalVote K S D P G C)) → (Contradict u v → ⊥) → (IsSome r ↔ Contradict u v) → r ≡ None
  none-made u v None agree exact = refl
  none-made u v (Some x) agree exact = absurd (agree (exact.0 refl))

  -- and two that do give themselves
  both-made : (u v : ProposalVote K S D P G C) (r : Option (ProposalVote K S D P G C × ProposalVote K S D P G C)) → Contradict u v → (IsSome r ↔ Contradict u v) → IfSome r (λ both. both ≡ (u, v)) → r ≡ Some (u, v)
  both-made u v None against exact is = let never : false ≡ true = exact.1 against in cc
  both-made u v (Some x) against exact is = ap Some is

  -- the suspect's vote that was cast so, of this kind
  abbrev vote : Suspect → Cast D G → ProposalVote K S D P G C
  vote q c = vote_of q c

  pub conflict-made : (q : Suspect) (k : Kept D G) (a b : Cast D G) (r : Option (ProposalVote K S D P G C × ProposalVote K S D P G C)) → ends_of k ≡ Some (a, b) → ((x y : Cast D G) → k ≡ Two x y → x.choice ≢ y.choice)
      → (IsSome r ↔ Contradict (vote q a) (vote q b)) → IfSome r (λ both. both ≡ (vote q a, vote q b)) → r ≡ conflict_in q (Some k)
  conflict-made q Nothing a b r ends apart exact is = cc
  conflict-made q (Claim c) a b r ends apart exact is = cc
  conflict-made q (One c) a b r ends apart exact is =
      let ends_are = some_is (c, c) (a, b) ends in
      let one : a ≡ b = sym (ap (λ p. p.0) ends_are) ∙ ap (λ p. p.1) ends_are in
      none-made (vote q a) (vote q b) r (λ against. against.two_proposals (ap (λ (x : Cast D G). (vote q x).proposal) one)) exact
  conflict-made q (Two x y) a b r ends apart exact is =
      let ends_are = some_is (x, y) (a, b) ends in
      let two : Two x y ≡ Two a b = ap (λ (p : Cast D G × Cast D G). Two p.0 p.1) ends_are in
      both-made (vote q a) (vote q b) r (record {
        one_round = refl;
        one_signer = refl;
        two_proposals = λ same. apart a b two (ap (λ p. choice_of p) same);
      }) exact is ∙ ap (λ (p : Cast D G × Cast D G). Some (vote q p.0, vote q p.1)) (sym ends_are)
