-- No accepted vote stands in the way of an own one that comes next.
use Rattle.std.proofs.Common.{◌≡◌, ◌∙◌, ◌==◌, ℕ, Bool, true, false, [], ◌∷◌, None, refl, ap, subst}
use Rattle.std.specs.Prelude.{◌&&◌, ◌||◌, if◌then◌else◌, is_none, nat_lt}
use Rattle.std.proofs.lemmas.Bool.{eq-eqb, lt-ltb}
use Rattle.types_core.specs.declared.scheme.Scheme.{Ghosts}
use Rattle.types_core.specs.Positions.{HasRoom}
use Rattle.simplex_messages.specs.declared.vote.Vote.{Vote}
use Rattle.simplex_messages.specs.declared.vote.Vote.TheVariants as vote
use Rattle.simplex_messages.specs.VoteParts.{vote_artifact, vote_round}
use Rattle.batcher_verifier.specs.History as votes
use Rattle.batcher_verifier.specs.History.{Cast, recorded}
use Rattle.batcher_verifier.specs.Lawful as lawful
use Rattle.simplex_member.specs.Allowed.{AreAllowed}
use Rattle.simplex_member.specs.Laws.{VotesAreLawful}
use Rattle.simplex_member.specs.Layers.{add_point, all_votes, concerns, current_of, first_up, floor_of, has_room, may_enter, opened, passes_over, stage, votes_of, votes_setup, Stage, Unopened, Collected, PassedOver, IsUp}
use Rattle.simplex_member.specs.Packet.{Formats}
use Rattle.simplex_member.specs.Point.{Point, Found, History, Votes}
use Rattle.simplex_member.specs.Setup.{Setup}
use Rattle.node_core.proofs.Going.{gone_to}

-- what comes up is up
comes-up : (a : Stage) (passed : Bool) → IsUp (first_up a passed)
comes-up Unopened true = refl
comes-up Unopened false = refl
comes-up Collected passed = refl
comes-up PassedOver passed = refl

-- the votes of a kept view with room are up behind what concerns them
up-when : (low its enters room : Bool) (a : Stage) (passed : Bool) → low ≡ false → its ≡ true → room ≡ true → IsUp (if low then Unopened else (if (its || enters) && room then first_up a passed else a))
up-when true its enters room a passed is concerned roomy = absurd (cc is)
up-when false false enters room a passed is concerned roomy = absurd (cc concerned)
up-when false true enters false a passed is concerned roomy = absurd (cc roomy)
up-when false true enters true a passed is concerned roomy = comes-up a passed

otherwise : {X : Type 0} (b : Bool) (x y : X) → b ≡ false → (if b then x else y) ≡ y
otherwise true x y is = absurd (cc is)
otherwise false x y is = refl

module _ {S D P G C : Type 0} (g : Ghosts S D P G C) (f : Formats S D P G C) (s : Setup S D C) where
  -- a point brings this own vote to the votes of its view, and no view is dropped by it
  pub record Brings (h : History S D P G C) (p : Point S D P G C) (v : Vote S D P G C) : Type 0 where
    pub concerned : concerns (vote_round v).view p ≡ true
    pub floor : floor_of s (p ∷ h) ≡ floor_of s h
    pub adds : add_point (vote_round v).view p (all_votes (vote_round v).view h) ≡ Cast v ∷ all_votes (vote_round v).view h

  module _ (are_lawful : VotesAreLawful g f s) (h : History S D P G C) (p : Point S D P G C) (v : Vote S D P G C) (brings : Brings h p v) (all : AreAllowed g f s (p ∷ h)) (room : HasRoom s.voter.length (vote_round v).view) where
    is-up : nat_lt (vote_round v).view (floor_of s h) ≡ false → IsUp (stage s (p ∷ h) (vote_round v).view)
    is-up kept = up-when (nat_lt (vote_round v).view (floor_of s (p ∷ h))) (concerns (vote_round v).view p) (may_enter p && (current_of s (p ∷ h) == (vote_round v).view)) (has_room s.voter.length (vote_round v).view)
        (opened s h (vote_round v).view) (passes_over s h (vote_round v).view) (ap (λ (n : ℕ). nat_lt (vote_round v).view n) brings.floor ∙ kept) brings.concerned (lt-ltb _ _ room)

    behind : nat_lt (vote_round v).view (floor_of s h) ≡ false → votes_of s (p ∷ h) (vote_round v).view ≡ Cast v ∷ all_votes (vote_round v).view h
    behind kept = otherwise (nat_lt (vote_round v).view (floor_of s (p ∷ h))) [] (add_point (vote_round v).view p (all_votes (vote_round v).view h)) (ap (λ (n : ℕ). nat_lt (vote_round v).view n) brings.floor ∙ kept) ∙ brings.adds

    free-in : nat_lt (vote_round v).view (floor_of s h) ≡ false → recorded (all_votes (vote_round v).view h) v ≡ None
    free-in kept =
        let gone = gone_to g f s (p ∷ h) all in
        let law = are_lawful (p ∷ h) gone.0 (vote_round v).view gone.1 (is-up kept) in
        (subst (λ (r : votes.History S D P G C). lawful.IsLawful f.same g.attests (votes_setup s g (p ∷ h) (vote_round v).view) r) (behind kept) law).0.0.free

    free-by : (b : Bool) → nat_lt (vote_round v).view (floor_of s h) ≡ b → is_none (recorded (if b then [] else all_votes (vote_round v).view h) v) ≡ true
    free-by true is = refl
    free-by false is = ap is_none (free-in is)

    pub free : is_none (recorded (votes_of s h (vote_round v).view) v) ≡ true
    free = free-by (nat_lt (vote_round v).view (floor_of s h)) refl

  -- so a vote does that the record has
  pub found-brings : (h : History S D P G C) (v : Vote S D P G C) (taken : Bool) → Brings h (Found (vote_artifact v) taken) v
  found-brings h (vote.Notarize v) taken = record { concerned = eq-eqb v.proposal.round.view v.proposal.round.view refl; floor = refl; adds = rw (eq-eqb v.proposal.round.view v.proposal.round.view refl) refl }
  found-brings h (vote.Nullify v) taken = record { concerned = eq-eqb v.round.view v.round.view refl; floor = refl; adds = rw (eq-eqb v.round.view v.round.view refl) refl }
  found-brings h (vote.Finalize v) taken = record { concerned = eq-eqb v.proposal.round.view v.proposal.round.view refl; floor = refl; adds = rw (eq-eqb v.proposal.round.view v.proposal.round.view refl) refl }

  -- and one that is made
  pub made-brings : (h : History S D P G C) (v : Vote S D P G C) → Brings h (Votes v) v
  made-brings h (vote.Notarize v) = record { concerned = eq-eqb v.proposal.round.view v.proposal.round.view refl; floor = refl; adds = rw (eq-eqb v.proposal.round.view v.proposal.round.view refl) refl }
  made-brings h (vote.Nullify v) = record { concerned = eq-eqb v.round.view v.round.view refl; floor = refl; adds = rw (eq-eqb v.round.view v.round.view refl) refl }
  made-brings h (vote.Finalize v) = record { concerned = eq-eqb v.proposal.round.view v.proposal.round.view refl; floor = refl; adds = rw (eq-eqb v.proposal.round.view v.proposal.round.view refl) refl }
