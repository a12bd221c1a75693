-- Looking for the first view whose leader may be named.
use Rattle.std.proofs.Common.{◌≡◌, ◌≢◌, ◌≤◌, ◌<◌, ◌+◌, ◌^◌, ◌∙◌, ℕ, ⊎_elim, ap, sym, arith}
use Rattle.std.specs.Prelude.{None, Some}
use Rattle.std.proofs.lemmas.Bool.{cases_lt}
use Rattle.std.proofs.lemmas.Option.{none-some}
use Rattle.voter_history.specs.Leaders.{leader}
use Rattle.batcher_verifier.specs.History.{leader_of}
use Rattle.node_votes.specs.Standing.{AreLedFrom}
use Rattle.simplex_member.specs.Layers.{stage, voter_of, votes_of, IsUp}
use Rattle.simplex_member.specs.Point.{History}
use Rattle.simplex_member.specs.Setup.{Setup}
use Rattle.node_requests.specs.Leading.{NoLeaderToName}
use Rattle.node_requests.proofs.Coming.{came_small}

module _ {S D P G C : Type 0} (s : Setup S D C) (h : History S D P G C) where
  -- the votes of each view below this one know who leads it, as far as the voter does
  abbrev pub NoneBelow : ℕ → Type 0
  NoneBelow to = (view index : ℕ) → view < to → IsUp (stage s h view) → leader_of (votes_of s h view) ≡ None → leader s.voter (voter_of s h) view ≢ Some index

  -- up to the next view that may wait
  pub none_to : (next view : ℕ) → NoneBelow next → ((u : ℕ) → next ≤ u → u < view → IsUp (stage s h u) → leader_of (votes_of s h u) ≢ None) → NoneBelow view
  none_to next view none led u index below some unled = ⊎_elim (λ lt. none u index lt some unled) (λ ge. absurd (led u ge below some unled)) (cases_lt u next)

  -- and past it, where the voter doesn't know who leads it
  pub none_past : (view : ℕ) → NoneBelow view → leader s.voter (voter_of s h) view ≡ None → NoneBelow (view + 1)
  none_past view none unknown u index below some unled = ⊎_elim
      (λ lt. none u index lt some unled)
      (λ ge. let same : u ≡ view = omega (arith, ge, below) in λ is. none-some index (sym unknown ∙ ap (λ (w : ℕ). leader s.voter (voter_of s h) w) (sym same) ∙ is))
      (cases_lt u view)

  -- up to the last view there is
  pub none_at_all : 0 < s.voter.length → NoneBelow (2 ^ 64) → NoLeaderToName s h
  none_at_all long none u index some unled = none u index (omega (arith, came_small s h u long some)) some unled

  pub none_behind : (next : ℕ) → NoneBelow next → AreLedFrom (stage s h) (votes_of s h) next → NoLeaderToName s h
  none_behind next none led u index some unled = ⊎_elim (λ lt. none u index lt some unled) (λ ge. absurd (led u ge some unled)) (cases_lt u next)
