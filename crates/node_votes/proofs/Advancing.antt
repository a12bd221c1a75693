-- What comes of what is done of the votes of a view.
use Rattle.std.proofs.Common.{◌≡◌, ℕ, ◌==◌, ◌≤◌, Bool, true, false, List, [], ◌∷◌, ⊎_elim, refl, arith, if◌then◌else◌}
use Rattle.std.specs.Prelude.{nat_lt, Some, MatchOption}
use Rattle.std.proofs.lemmas.Bool.{cases_eq, eq-eqb, le-ltb}
use Rattle.std.proofs.lemmas.Bool.Decides.{nat_tests}
use Rattle.types_core.specs.declared.proposal.Proposal.{Proposal}
use Rattle.types_core.specs.declared.scheme.Scheme.{Ghosts}
use Rattle.messages_certificates.specs.declared.certificate.Certificate.{Certificate}
use Rattle.types_terms.specs.declared.kind.Kind.{Kind}
use Rattle.batcher_verifier.specs.declared.batch.Batch.{Batch}
use Rattle.batcher_verifier.specs.ConstructionResult.{IsBatch, after}
use Rattle.batcher_verifier.specs.History.{Forwarded, next_kind}
use Rattle.simplex_member.specs.Layers.{all_votes, floor_of, passes_over, stage, votes_of, Stage, Unopened, Collected, PassedOver, IsUp, skips}
use Rattle.simplex_member.specs.Point.{History, Constructs, Forwards}
use Rattle.simplex_member.specs.Setup.{Setup}
use Rattle.node_votes.specs.declared.acceptance.Acceptance.{Acceptance}
use Rattle.node_votes.specs.declared.due.Due.{Due}
use Rattle.node_votes.specs.declared.due.Due.TheVariants as due
use Rattle.node_votes.specs.declared.rounds.Rounds.{Rounds}
use Rattle.node_votes.specs.Standing.{AreAtRest, IsAtRest, IsDone, Stand, put, set_at, setup_at, IfUp, WhereUp}
use Rattle.node_votes.specs.KeepsVotes.{Does, Keeps, KeepsAhead, NoneIsDue, common_part, stage_ahead, votes_ahead}
use Rattle.node_votes.proofs.Answering.{stage-kept}
use Rattle.node_votes.proofs.Changing.{alike}
use Rattle.node_votes.proofs.Opening.{at-due}
use Rattle.node_votes.proofs.Pieces.{happened-brought}

happened-set : {E : Type 0} (floor at : ℕ) (f : List E → List E) (t : ℕ → List E) → floor ≤ at → (view : ℕ)
    → (if nat_lt view floor then [] else (if at == view then f (t view) else t view)) ≡ (if at == view then f (if nat_lt at floor then [] else t at) else (if nat_lt view floor then [] else t view))
happened-set floor at f t low view = ⊎_elim
    (λ e. let above : nat_lt at floor ≡ false = le-ltb at floor low in let itself : (at == at) ≡ true = eq-eqb at at refl in rw (← e) (rw (itself, above) refl))
    (λ ne. let other : (at == view) ≡ false = grind (arith, nat_tests) in rw other refl)
    (cases_eq at view)

where-up : (Q : Bool → Type 0) (at : Stage) (b : Bool) → WhereUp at Q → IsUp at × Q (skips at b)
where-up Q Unopened b q = absurd q
where-up Q Collected b q = (refl, q)
where-up Q PassedOver b q = (refl, q)

if-up : (Q : Bool → Type 0) (at : Stage) (b : Bool) → IfUp at Q → IsUp at → Q (skips at b)
if-up Q Unopened b q up = absurd (cc up)
if-up Q Collected b q up = q
if-up Q PassedOver b q up = q

on-up : (P Q : Bool → Type 0) (at : Stage) → ((b : Bool) → IsUp at → P b → Q b) → WhereUp at P → WhereUp at Q
on-up P Q Unopened f p = p
on-up P Q Collected f p = f false refl p
on-up P Q PassedOver f p = f true refl p

module _ {S D P G C : Type 0} (g : Ghosts S D P G C) (same : D → D → Bool) (s : Setup S D C) (a : Acceptance S D P G C) (h : History S D P G C) (k : Keeps g same s a h) (new : Rounds S D P G C) (view : ℕ) where
  forwarded : (p : Proposal D) → IsUp (stage s h view) → Stand g same (common_part s) new (stage s h) (put view Forwarded (votes_of s h)) → Keeps g same s (record a { rounds = new }) (Forwards view p ∷ h)
  unfolding Keeps
  forwarded p some stands = record {
    length_is = k.length_is;
    current_is = k.current_is;
    floor_is = k.floor_is;
    rounds = alike g same (common_part s) new (stage s h) (stage s (Forwards view p ∷ h)) (put view Forwarded (votes_of s h)) (votes_of s (Forwards view p ∷ h)) (λ u. refl)
        (happened-brought (floor_of s h) (floor_of s h) view Forwarded (λ u. all_votes u h) (λ u. all_votes u (Forwards view p ∷ h)) refl (λ u. refl) (stage-kept g same s a h k view some)) stands;
  }

  made : (kind : Kind) (batch : Batch (Certificate S D P G C)) → IsUp (stage s h view) → Stand g same (common_part s) new (stage s h) (set_at view (after kind (Some batch) (votes_of s h view)) (votes_of s h))
      → KeepsAhead g same s (record a { rounds = new }) h (Constructs view kind batch)
  unfolding Keeps KeepsAhead
  made kind batch some stands = record {
    length_is = k.length_is;
    current_is = k.current_is;
    floor_is = k.floor_is;
    rounds = alike g same (common_part s) new (stage s h) (stage_ahead s h (Constructs view kind batch)) (set_at view (after kind (Some batch) (votes_of s h view)) (votes_of s h)) (votes_ahead s h (Constructs view kind batch)) (λ u. refl)
        (happened-set (floor_of s h) view (λ r. after kind (Some batch) r) (λ u. all_votes u h) (stage-kept g same s a h k view some)) stands;
  }

  -- something was due
  pub does : (d : Due S D P G C) → IsDone g same (common_part s) (stage s h) (votes_of s h) new view (Some d) → Does g same s h (record a { rounds = new }) view d
  does (due.Forwards p) is = (is.0, is.1, forwarded p is.0 is.2)
  does (due.Made batch) is = where-up
      (λ b. MatchOption (next_kind same (setup_at g (common_part s) view b) (votes_of s h view)) ⊥ (λ kind. IsBatch g same (setup_at g (common_part s) view b) kind (votes_of s h view) batch × KeepsAhead g same s (record a { rounds = new }) h (Constructs view kind batch)))
      (stage s h view) (passes_over s h view)
      (on-up
      (λ b. MatchOption (next_kind same (setup_at g (common_part s) view b) (votes_of s h view)) ⊥ (λ kind. IsBatch g same (setup_at g (common_part s) view b) kind (votes_of s h view) batch × Stand g same (common_part s) new (stage s h) (set_at view (after kind (Some batch) (votes_of s h view)) (votes_of s h))))
      (λ b. MatchOption (next_kind same (setup_at g (common_part s) view b) (votes_of s h view)) ⊥ (λ kind. IsBatch g same (setup_at g (common_part s) view b) kind (votes_of s h view) batch × KeepsAhead g same s (record a { rounds = new }) h (Constructs view kind batch)))
      (stage s h view)
      (λ b up. at-due g same {P = λ kind. IsBatch g same (setup_at g (common_part s) view b) kind (votes_of s h view) batch × Stand g same (common_part s) new (stage s h) (set_at view (after kind (Some batch) (votes_of s h view)) (votes_of s h))}
      {Q = λ kind. IsBatch g same (setup_at g (common_part s) view b) kind (votes_of s h view) batch × KeepsAhead g same s (record a { rounds = new }) h (Constructs view kind batch)}
      (next_kind same (setup_at g (common_part s) view b) (votes_of s h view))
      (λ kind p. (p.0, made kind batch up p.1)))
      is)

module _ {S D P G C : Type 0} (g : Ghosts S D P G C) (same : D → D → Bool) (s : Setup S D C) (h : History S D P G C) where
  -- nothing is
  pub none-is-due : AreAtRest g same (common_part s) (stage s h) (votes_of s h) → NoneIsDue g same s h
  none-is-due rest = record {
    no_construction = λ view some. (if-up (λ b. IsAtRest g same (common_part s) view b (votes_of s h view)) (stage s h view) (passes_over s h view) (rest view) some).no_construction;
    no_forward = λ view some. (if-up (λ b. IsAtRest g same (common_part s) view b (votes_of s h view)) (stage s h view) (passes_over s h view) (rest view) some).no_forward;
  }
