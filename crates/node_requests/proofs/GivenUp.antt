-- Looking for the first view that is to be given up since its leader gave it up.
use Rattle.std.proofs.Common.{◌≡◌, ◌≢◌, ◌≤◌, ◌<◌, ◌+◌, ◌^◌, ◌↔◌, ℕ, Bool, true, false, [], ◌∷◌, Option, ⊎_elim, refl, subst, arith}
use Rattle.std.specs.Prelude.{◌&&◌, None, Some, IsTrue, is_none}
use Rattle.std.proofs.lemmas.Bool.{cases_lt}
use Rattle.types_core.specs.declared.scheme.Scheme.{Ghosts}
use Rattle.types_terms.specs.declared.elector.Elector as elector
use Rattle.voter_history.specs.declared.timeout_reason.TimeoutReason.TheVariants as reason
use Rattle.voter_history.specs.History.{latched, seen}
use Rattle.voter_history.specs.Leaders.{leader}
use Rattle.voter_rules.specs.GivingUp.{IsFirstLatch, MayLatch}
use Rattle.simplex_state.specs.declared.state.State.{State}
use Rattle.simplex_state.specs.State as voting
use Rattle.simplex_member.specs.Allowed.{LatchIsDue, LeaderGaveUp}
use Rattle.simplex_member.specs.Layers.{current_of, latest, stage, voter_of, votes_of, IsUp}
use Rattle.simplex_member.specs.Packet.{Formats}
use Rattle.simplex_member.specs.Point.{History}
use Rattle.simplex_member.specs.Setup.{Setup}
use Rattle.node_requests.specs.Following.{FollowsIn}
use Rattle.node_requests.proofs.Coming.{came_small}

both-true : (a b : Bool) → a && b ≡ true → (a ≡ true) × (b ≡ true)
both-true true true is = (refl, refl)
both-true true false is = absurd (cc is)
both-true false b is = absurd (cc is)

none-is : {A : Type 0} (o : Option A) → is_none o ≡ true → o ≡ None
none-is None is = refl
none-is (Some x) is = absurd (cc is)

module _ {S D P G C : Type 0} (g : Ghosts S D P G C) (f : Formats S D P G C) (s : Setup S D C) (h : History S D P G C) where
  -- of no view below this one it is to be taken for a reason
  abbrev pub NoneBelow : ℕ → Type 0
  NoneBelow to = (view : ℕ) → view < to → ¬ LatchIsDue g f s h view reason.LeaderNullify

  -- nor of one behind the current view
  pub none_behind : NoneBelow (current_of s h)
  none_behind view below due = omega (arith, below, due.counts.from)

  -- up to the next view of which something is known
  pub none_to : (next view : ℕ) → NoneBelow next → ((u : ℕ) → next ≤ u → u < view → (seen s.voter (voter_of s h) u ≡ []) × (leader s.voter (voter_of s h) u ≡ None)) → NoneBelow view
  none_to next view none bare u below due = ⊎_elim
      (λ lt. none u lt due)
      (λ ge. let is = bare u ge below in ⊎_elim (λ some. some is.0) (λ known. absurd (cc (rw is.1 at known))) due.counts.tracked)
      (cases_lt u next)

  -- and past it
  pub none_past : (view : ℕ) → NoneBelow view → (¬ LatchIsDue g f s h view reason.LeaderNullify) → NoneBelow (view + 1)
  none_past view none never u below due = ⊎_elim
      (λ lt. none u lt due)
      (λ ge. let same : u ≡ view = omega (arith, ge, below) in never (subst (λ (w : ℕ). LatchIsDue g f s h w reason.LeaderNullify) same due))
      (cases_lt u view)

  -- up to the last view there is
  pub none_at_all : 0 < s.voter.length → ((view : ℕ) → votes_of s h view ≢ [] → IsUp (stage s h view)) → NoneBelow (2 ^ 64) → (view : ℕ) → ¬ LatchIsDue g f s h view reason.LeaderNullify
  none_at_all long kept none view due =
      let gave_up = due.there.gave_up in
      let small = came_small s h view long (kept view (λ bare. absurd (cc (rw bare at gave_up)))) in
      none view (omega (arith, small)) due

  module _ {L : Type 0} (e : elector.Ghosts L S D P G C) (new : State S L D P G C) where
    -- it counts now, or is none that is due
    pub follows : (first : Bool) (now view : ℕ) → latest h ≡ now → LeaderGaveUp g f s h view → (IsTrue first ↔ IsFirstLatch s.voter (voter_of s h) view reason.LeaderNullify)
        → (MayLatch s.voter (voter_of s h) view reason.LeaderNullify → voting.Keeps g e s.voter new (latched now view reason.LeaderNullify ∷ voter_of s h)) → (first ≡ false → voting.Keeps g e s.voter new (voter_of s h))
        → FollowsIn g e f s new h view first
    follows true now view at gave_up is latches stays =
        let one = is.0 refl in
        let both = both-true _ _ one.first in
        (record { there = gave_up; counts = one.counts; first = none-is _ both.1; undecided = both.0 }, rw at (latches one.counts))
    follows false now view at gave_up is latches stays =
        (λ due. absurd (cc (is.1 (record { counts = due.counts; first = rw (due.undecided, due.first) refl }))), stays refl)
