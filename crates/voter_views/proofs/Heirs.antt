-- Who may lead the view behind one before that is decided.
use Rattle.std.proofs.Common.{◌≡◌, ◌<◌, ◌==◌, ℕ, List, true, false, refl, sym, ap, subst, ◌∙◌, if◌then◌else◌}
use Rattle.std.specs.Prelude.{Option, Some, None, Bool, nat_eq, ◌&&◌}
use Rattle.std.specs.Option.{option_eq}
use Rattle.std.proofs.lemmas.Bool.{and_from, and_left, and_right, eq-eqb, ne_eqb}
use Rattle.std.proofs.lemmas.Option.{none-some, same_Some}
use Rattle.types_core.specs.Positions.{IsTermStart, term_start}
use Rattle.types_core.specs.declared.scheme.Scheme.{Ghosts}
use Rattle.types_terms.specs.declared.elector.Elector as elector
use Rattle.types_terms.specs.declared.elector.Mode.{Mode}
use Rattle.types_terms.specs.declared.elector.Mode.TheVariants.{Scheduled, Dynamic}
use Rattle.voter_history.specs.History.{Setup, Point, by_schedule, scheduled_leader}
use Rattle.voter_history.specs.Leaders.{handoff_leader}
use Rattle.voter_views.specs.declared.views.Views.{Views}
use Rattle.voter_views.specs.Views.{IsKept}

-- whom a schedule names is whom the elector answers
scheduled-is : (m : Mode) (leader i : ℕ) → by_schedule m leader ≡ Some i → leader ≡ i
scheduled-is Scheduled leader i is = same_Some leader i is
scheduled-is Dynamic leader i is = absurd (none-some i is)

-- where another is named, or none, this member isn't
unnamed : (starts : Bool) (me named : Option ℕ) → option_eq nat_eq me named ≡ false → None ≡ (if starts && option_eq nat_eq me named then me else None)
unnamed starts me named apart = sym (ap (λ (b : Bool). if b then me else None) (and_right starts (option_eq nat_eq me named) apart))

unscheduled : (starts : Bool) (me named : Option ℕ) → named ≡ None → None ≡ (if starts && option_eq nat_eq me named then me else None)
unscheduled true None None none = refl
unscheduled false None None none = refl
unscheduled starts (Some i) None none = unnamed starts (Some i) None refl
unscheduled starts me (Some j) none = absurd (none-some j (sym none))

another : (starts : Bool) (me named : Option ℕ) (i : ℕ) → named ≡ Some i → (me ≡ Some i → ⊥) → None ≡ (if starts && option_eq nat_eq me named then me else None)
another starts None (Some j) i is never = unnamed starts None (Some j) refl
another starts (Some k) (Some j) i is never = unnamed starts (Some k) (Some j) (ne_eqb k j (λ e. never (ap Some e ∙ is)))
another starts me None i is never = absurd (none-some i is)

module _ {S C : Type 0} (s : Setup S C) (next : ℕ) where
  -- inside a term nobody leads early, nor without a schedule, nor where it names another
  pub heir-inside : (IsTermStart s.length next → ⊥) → None ≡ handoff_leader s next
  heir-inside inside =
      sym (ap (λ (b : Bool). if b then s.me else None)
      (and_left (next == term_start s.length next) (option_eq nat_eq s.me (scheduled_leader s next)) (ne_eqb next (term_start s.length next) inside)))

  pub heir-unscheduled : scheduled_leader s next ≡ None → None ≡ handoff_leader s next
  heir-unscheduled none = unscheduled (next == term_start s.length next) s.me (scheduled_leader s next) none

  pub heir-another : (i : ℕ) → scheduled_leader s next ≡ Some i → (s.me ≡ Some i → ⊥) → None ≡ handoff_leader s next
  heir-another i is never = another (next == term_start s.length next) s.me (scheduled_leader s next) i is never

  -- else this member may
  pub heir-named : (i : ℕ) → IsTermStart s.length next → scheduled_leader s next ≡ Some i → s.me ≡ Some i → Some i ≡ handoff_leader s next
  heir-named i starts is me =
      let one : option_eq nat_eq s.me (scheduled_leader s next) ≡ option_eq nat_eq (Some i) (Some i) = λ j. option_eq nat_eq (me j) (is j) in
      let both = and_from (next == term_start s.length next) (option_eq nat_eq s.me (scheduled_leader s next)) (eq-eqb next (term_start s.length next) starts) (one ∙ eq-eqb i i refl) in
      sym (ap (λ (b : Bool). if b then s.me else None) both ∙ me)

-- and whom a schedule names is of the committee
pub scheduled-member : {S L D P G C : Type 0} {g : Ghosts S D P G C} {leads : elector.Ghosts L S D P G C} {s : Setup S C} {v : Views S L D P G C} {h : List (Point S D P G C)}
    → IsKept g leads s v h → (view i : ℕ) → scheduled_leader s view ≡ Some i → i < g.size s.scheme
scheduled-member {g = g} {s = s} k view i is = subst (λ (n : ℕ). n < g.size s.scheme) (scheduled-is s.mode (s.elect view None) i is) (k.members view None)
