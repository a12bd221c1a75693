-- Points that say nothing of votes.
use Rattle.std.proofs.Common.{◌≡◌, ℕ, ◌==◌, Bool, true, false, List, [], ◌∷◌, refl, sym, ◌∙◌, if◌then◌else◌}
use Rattle.std.specs.Prelude.{◌||◌, ◌&&◌, nat_lt, Some, None}
use Rattle.types_core.specs.declared.scheme.Scheme.{Ghosts}
use Rattle.simplex_messages.specs.declared.vote.Vote.TheVariants as vote
use Rattle.simplex_member.specs.Layers.{add_point, all_votes, concerns, current_of, floor_of, has_room, may_enter, opened, passes_over, stage, votes_of, Stage, Unopened, first_up}
use Rattle.simplex_member.specs.Point.{History, Point, Counts, Falls, Passes, Opened, Found, Came, Built, Checked, Judged, Constructs, Votes}
use Rattle.simplex_member.specs.Setup.{Setup}
use Rattle.node_votes.specs.KeepsVotes.{Keeps, KeepsAhead, QuietStays, SilentStays, common_part, stage_ahead, votes_ahead}
use Rattle.node_votes.proofs.Changing.{alike}

up-quiet : (below below' concerns enters is_current room x : Bool) (o : Stage) → below' ≡ below → concerns ≡ false → enters ≡ false
    → (if below' then Unopened else (if (concerns || (enters && is_current)) && room then first_up o x else o)) ≡ (if below then Unopened else o)
up-quiet below below' concerns enters is_current room x o same none never = rw (same, none, never) refl

up-silent : (below concerns room x : Bool) (o : Stage) → concerns ≡ false → (if below then Unopened else (if concerns && room then first_up o x else o)) ≡ (if below then Unopened else o)
up-silent below concerns room x o none = rw none refl

happened-quiet : {E : Type 0} (below below' : Bool) (t t' : List E) → below' ≡ below → t' ≡ t → (if below' then [] else t') ≡ (if below then [] else t)
happened-quiet below below' t t' same none = rw (same, none) refl

module _ {S D P G C : Type 0} (s : Setup S D C) (h : History S D P G C) where
  -- where no view is entered the current view and the floor stay
  calm : (p : Point S D P G C) → may_enter p ≡ false → (current_of s (p ∷ h) ≡ current_of s h) × (floor_of s (p ∷ h) ≡ floor_of s h)
  calm (Opened now) never = absurd (cc never)
  calm (Found x taken) never = absurd (cc never)
  calm (Came c) never = absurd (cc never)
  calm (Judged r ok) never = absurd (cc never)
  calm (Constructs view kind batch) never = absurd (cc never)
  calm (Built number handoff context (Some payload) true) never = (refl, refl)
  calm (Built number handoff context None true) never = (refl, refl)
  calm (Built number handoff context payload false) never = (refl, refl)
  calm (Checked number view (Some true) Counts) never = (refl, refl)
  calm (Checked number view (Some false) Counts) never = (refl, refl)
  calm (Checked number view None Counts) never = (refl, refl)
  calm (Checked number view answer Falls) never = (refl, refl)
  calm (Checked number view answer Passes) never = (refl, refl)
  calm (Votes (vote.Notarize v)) never = (refl, refl)
  calm (Votes (vote.Nullify v)) never = (refl, refl)
  calm (Votes (vote.Finalize v)) never = (refl, refl)
  calm p never = (refl, refl)

  floor-same : (p : Point S D P G C) (u : ℕ) → floor_of s (p ∷ h) ≡ floor_of s h → nat_lt u (floor_of s (p ∷ h)) ≡ nat_lt u (floor_of s h)
  floor-same p u same = λ i. nat_lt u (same i)

module _ {S D P G C : Type 0} (g : Ghosts S D P G C) (same : D → D → Bool) where
  pub quiet-stays : QuietStays g same
  unfolding Keeps
  quiet-stays s a h p nothing never k =
      let still = calm s h p never in
      record {
        length_is = k.length_is;
        current_is = k.current_is ∙ sym still.0;
        floor_is = k.floor_is ∙ sym still.1;
        rounds = alike g same (common_part s) a.rounds (stage s h) (stage s (p ∷ h)) (votes_of s h) (votes_of s (p ∷ h))
            (λ u. up-quiet (nat_lt u (floor_of s h)) (nat_lt u (floor_of s (p ∷ h))) (concerns u p) (may_enter p) (current_of s (p ∷ h) == u) (has_room s.voter.length u) (passes_over s h u) (opened s h u) (floor-same s h p u still.1) (nothing u).0 never)
            (λ u. happened-quiet (nat_lt u (floor_of s h)) (nat_lt u (floor_of s (p ∷ h))) (all_votes u h) (all_votes u (p ∷ h)) (floor-same s h p u still.1) ((nothing u).1 (all_votes u h))) k.rounds;
      }

  pub silent-stays : SilentStays g same
  unfolding Keeps KeepsAhead
  silent-stays s a h p nothing k = record {
    length_is = k.length_is;
    current_is = k.current_is;
    floor_is = k.floor_is;
    rounds = alike g same (common_part s) a.rounds (stage s h) (stage_ahead s h p) (votes_of s h) (votes_ahead s h p)
        (λ u. up-silent (nat_lt u (floor_of s h)) (concerns u p) (has_room s.voter.length u) (passes_over s h u) (opened s h u) (nothing u).0)
        (λ u. happened-quiet (nat_lt u (floor_of s h)) (nat_lt u (floor_of s h)) (all_votes u h) (add_point u p (all_votes u h)) refl ((nothing u).1 (all_votes u h))) k.rounds;
  }
