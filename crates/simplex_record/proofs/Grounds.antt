-- A record stands on ground as long as what is recorded behind it may follow on ground.
use Rattle.std.proofs.Common.{◌≡◌, inl, inr, ⊎_elim, ℕ, true, List, [], ◌∷◌, ◌++◌, Option, subst, arith}
use Rattle.std.proofs.lemmas.List.Elements.{Contains-append_left, Contains-push_cases}
use Rattle.types_core.specs.declared.position.Round.{Round}
use Rattle.types_core.specs.declared.proposal.Proposal.{Proposal}
use Rattle.types_core.specs.Subject.{notarize, finalize}
use Rattle.simplex_record.specs.Record.{Entry, voted, taken, judged}
use Rattle.simplex_record.specs.Chain.{IsGround, JudgesOnGround, VotesOnGround, StandsOnGround, MayFollowOnGround}

module _ {D : Type 0} where
  -- ground stays ground
  pub ground_stays : (before after : List (Entry D)) (view : ℕ) → IsGround before view → IsGround (before ++ after) view
  ground_stays before after view is = ⊎_elim
      (λ genesis. inl genesis)
      (λ explicit. ⊎_elim
      (λ f. inr (inl (f.0, f.1, Contains-append_left before after (taken (finalize f.0)) f.2)))
      (λ v. inr (inr (v.0, v.1, Contains-append_left before after (judged v.0 true) v.2)))
      explicit)
      is

  module _ (size views : ℕ) (leader : ℕ → Option ℕ) (member : ℕ) where
    -- an empty record stands on ground
    pub nothing_stands : StandsOnGround {D = D} size views leader member []
    nothing_stands = record {
      judged = λ r here. absurd (omega (arith, here.1));
      voted = λ p here. absurd (omega (arith, here.1));
    }

    -- and so does one with an entry more that may follow on ground
    pub stands_further : (before : List (Entry D)) (e : Entry D) → StandsOnGround size views leader member before → MayFollowOnGround size views leader member before e → StandsOnGround size views leader member (before ++ e ∷ [])
    stands_further before e stands may = record {
      judged = λ r here. judges_still r (⊎_elim (λ old. stands.judged r old) (λ new. new_judges r new) (Contains-push_cases before e (judged r true) here));
      voted = λ p here. votes_still p (⊎_elim (λ old. stands.voted p old) (λ new. new_votes p new) (Contains-push_cases before e (voted (notarize p)) here));
    }
      where
        new_judges : (r : Round) → e ≡ judged r true → JudgesOnGround size views before r
        new_judges r new = subst (λ (x : Entry D). MayFollowOnGround size views leader member before x) new may

        new_votes : (p : Proposal D) → e ≡ voted (notarize p) → VotesOnGround views leader member before p
        new_votes p new = subst (λ (x : Entry D). MayFollowOnGround size views leader member before x) new may

        judges_still : (r : Round) → JudgesOnGround size views before r → JudgesOnGround size views (before ++ e ∷ []) r
        judges_still r was = (was.0, was.1, Contains-append_left before (e ∷ []) (taken (notarize was.0)) was.2, λ asked. ground_stays before (e ∷ []) was.0.parent (was.3 asked))

        votes_still : (p : Proposal D) → VotesOnGround views leader member before p → VotesOnGround views leader member (before ++ e ∷ []) p
        votes_still p was = λ starts. ⊎_elim (λ is. inl (ground_stays before (e ∷ []) p.parent is)) (λ leads. inr leads) (was starts)
