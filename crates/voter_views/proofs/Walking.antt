-- What a walk down over certified views finds.
use Rattle.std.proofs.Common.{◌≡◌, ◌<◌, ◌≤◌, ◌+◌, ◌-◌, ◌==◌, ℕ, Bool, true, false, refl, sym, ap, subst, ◌∙◌, ⊎_elim, arith, if◌then◌else◌}
use Rattle.std.specs.Prelude.{◌||◌, List, Option, Some, None, IfSome, MatchOption, is_some, option_map}
use Rattle.std.proofs.lemmas.Bool.{cases_lt}
use Rattle.std.proofs.lemmas.Bool.Decides.{nat_tests}
use Rattle.types_core.specs.declared.proposal.Proposal.{Proposal}
use Rattle.messages_certificates.specs.ProposalCertificate.{Finalization}
use Rattle.voter_history.specs.Held.{held}
use Rattle.voter_history.specs.Past.{certified_proposal, finalization, offers, verdict, verdict_is_true}
use Rattle.voter_rounds.specs.Marks.{IsLastMarked}
use Rattle.voter_history.specs.Pasts.{is_certified}
use Rattle.voter_history.specs.History.{Setup, Point, seen}
use Rattle.voter_history.specs.Known.{known}
use Rattle.voter_rules.specs.Ancestry.{explicit, member}
use Rattle.voter_rules.specs.Knowing.{IsHighest}

-- the last marked view up to the one below an end lies before it
pub last_before : (f : ℕ → Bool) (first below end : ℕ) (o : Option ℕ) → below < end
    → MatchOption o ((u : ℕ) → first ≤ u → u ≤ below → f u ≡ false) (λ last. IsLastMarked f first below last) → IfSome o (λ last. last < end)
last_before f first below end None lt none = tt
last_before f first below end (Some last) lt found = let up_to = found.up_to in omega (arith, lt, up_to)

-- it is the last of those behind the start
pub behind_start : (f : ℕ → Bool) (first below end : ℕ) (o : Option ℕ) → first ≡ 1 → below ≡ end - 1
    → MatchOption o ((u : ℕ) → first ≤ u → u ≤ below → f u ≡ false) (λ last. IsLastMarked f first below last)
    → MatchOption o ((u : ℕ) → 0 < u → u < end → f u ≡ false) (λ last. IsLastMarked f 1 (end - 1) last)
behind_start f first below end None one before none = λ u some lt. none u (omega (arith, some, one)) (omega (arith, lt, before))
behind_start f first below end (Some last) one before found = rw (one, before) at found

pub passed : (u top : ℕ) → top ≤ u → u < top → ⊥
passed u top from below = omega arith

pub within_both : (last end top : ℕ) → last < end → end ≤ top → last ≤ top
within_both last end top before within = omega arith

-- a payload that is certified is explicit
certified : {F D : Type 0} (f : F → Proposal D) (final : Option F) (ok : Bool) (o : Option (Proposal D))
    → option_map (λ (p : Proposal D). p.payload) (if is_some final || ok then o else None) ≡ (if is_some (option_map f final) || ok then option_map (λ (p : Proposal D). p.payload) o else None)
certified f (Some c) ok o = refl
certified f None true o = refl
certified f None false o = refl

-- what isn't so leaves nothing
otherwise : {X : Type 0} (b : Bool) (o : Option X) → b ≡ false → (if b then o else None) ≡ None
otherwise b o isnt = rw isnt refl

module _ {S D P G C : Type 0} (s : Setup S C) (h : List (Point S D P G C)) where
  -- behind the start a view is explicit exactly with what is certified
  pub explicit_of : (view : ℕ) → 0 < view → option_map (λ (p : Proposal D). p.payload) (certified_proposal (seen s h view)) ≡ explicit (member s) (known s h) view
  explicit_of view some =
      let apart : (view == 0) ≡ false = grind (arith, nat_tests, some) in
      rw apart (certified (λ (c : Finalization S D P G C). c.proposal) (finalization (seen s h view)) (verdict_is_true (verdict (seen s h view))) (held (offers (seen s h view))))

  -- a view that isn't certified isn't explicit
  pub unexplicit : (view : ℕ) → 0 < view → is_certified (seen s h view) ≡ false → explicit (member s) (known s h) view ≡ None
  unexplicit view some isnt =
      sym (explicit_of view some)
      ∙ ap (option_map (λ (p : Proposal D). p.payload)) (otherwise (is_certified (seen s h view)) (held (offers (seen s h view))) isnt)

  -- none of the views behind the start is explicit, up to the last certified one
  pub unexplicit_down : (last end top : ℕ) → IsLastMarked (λ u. is_certified (seen s h u)) 1 (end - 1) last → option_map (λ (p : Proposal D). p.payload) (certified_proposal (seen s h last)) ≡ None
      → ((u : ℕ) → end ≤ u → u < top → 0 < u → explicit (member s) (known s h) u ≡ None) → (u : ℕ) → last ≤ u → u < top → 0 < u → explicit (member s) (known s h) u ≡ None
  unexplicit_down last end top found bare above u from below some = ⊎_elim
      (λ before. ⊎_elim
      (λ at. let e : u ≡ last = omega (arith, at, from) in rw e (sym (explicit_of last (let first = found.behind in omega (arith, first))) ∙ bare))
      (λ behind. unexplicit u some (found.none_above u (omega (arith, behind)) (omega (arith, before))))
      (cases_lt u (last + 1)))
      (λ behind. above u behind below some)
      (cases_lt u end)

  -- the last certified view is the highest explicit one, where it has a payload
  pub highest_of : (last end top : ℕ) (payload : D) → last < end → end ≤ top → IsLastMarked (λ u. is_certified (seen s h u)) 1 (end - 1) last
      → option_map (λ (p : Proposal D). p.payload) (certified_proposal (seen s h last)) ≡ Some payload
      → ((u : ℕ) → end ≤ u → u < top → 0 < u → explicit (member s) (known s h) u ≡ None) → IsHighest (member s) (known s h) top last payload
  highest_of last end top payload before within found is above = record {
    below = omega (arith, before, within);
    there = sym (explicit_of last (let first = found.behind in omega (arith, first))) ∙ is;
    highest = λ u higher below.
        let some : 0 < u = omega (arith, higher) in
        ⊎_elim (λ under. unexplicit u some (found.none_above u (omega (arith, higher)) (omega (arith, under)))) (λ from. above u from below some) (cases_lt u end);
  }

  -- where there is none the start is
  pub highest_with_start : (end top : ℕ) (o : Option (ℕ × D)) → ((u : ℕ) → 0 < u → u < end → is_certified (seen s h u) ≡ false)
      → ((u : ℕ) → end ≤ u → u < top → 0 < u → explicit (member s) (known s h) u ≡ None)
      → MatchOption o (0 < top → explicit (member s) (known s h) 0 ≡ None) (λ start. (start.0 ≡ 0) × (0 < top) × (explicit (member s) (known s h) 0 ≡ Some start.1))
      → MatchOption o ((u : ℕ) → u < top → explicit (member s) (known s h) u ≡ None) (λ last. IsHighest (member s) (known s h) top last.0 last.1)
  highest_with_start end top o none above = by o
    where
      behind : (u : ℕ) → 0 < u → u < top → explicit (member s) (known s h) u ≡ None
      behind u some below = ⊎_elim (λ under. unexplicit u some (none u some under)) (λ from. above u from below some) (cases_lt u end)

      by : (o : Option (ℕ × D)) → MatchOption o (0 < top → explicit (member s) (known s h) 0 ≡ None) (λ start. (start.0 ≡ 0) × (0 < top) × (explicit (member s) (known s h) 0 ≡ Some start.1))
          → MatchOption o ((u : ℕ) → u < top → explicit (member s) (known s h) u ≡ None) (λ last. IsHighest (member s) (known s h) top last.0 last.1)
      by None bare = λ u below. ⊎_elim
          (λ some. behind u some below)
          (λ none. let zero : u ≡ 0 = omega (arith, none) in subst (λ (v : ℕ). explicit (member s) (known s h) v ≡ None) (sym zero) (bare (omega (arith, zero, below))))
          (cases_lt 0 u)
      by (Some (at, payload)) start = record {
        below = omega (arith, start.0, start.1);
        there = subst (λ (v : ℕ). explicit (member s) (known s h) v ≡ Some payload) (sym start.0) start.2;
        highest = λ u higher below. behind u (omega (arith, higher)) below;
      }
