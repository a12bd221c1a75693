use Rattle.std.proofs.Common.{◌≡◌, ◌⊎◌, inl, inr, ℕ, ◌+◌, sym, ◌∙◌, subst, ◌<◌, ◌≤◌}
use Rattle.std.proofs.lemmas.Bool.{iff_false}
use Rattle.std.proofs.lemmas.Option.{none-some}
use Rattle.types_core.specs.Positions.{IsTermStart}
use Rattle.voter_history.specs.Known.{Known}
use Rattle.voter_rules.specs.Ancestry.{Member, IsInvalidParent}
use Rattle.voter_rules.specs.declared.ancestry.ParentFault.TheVariants as fault
use Rattle.voter_rules.proofs.Asking.{spans_nothing, valid_parent}
use Rattle.voter_rules.proofs.Testing.{le_passes, le_fails, lt_passes, lt_fails, ne_passes, ne_fails}
use Rattle.voter_rules.proofs.ancestry.span_fault.Given.{Over}
use Rattle.voter_rules.proofs.ancestry.span_fault.Goals as goal
use Rattle.voter_rules.proofs.ancestry.span_fault.Goals.{Joined-else-not-is_term_start, then-le-via-then-le, then-le-via-else-le+then-lt, else-not-is_term_start-via-then-not-is_term_start+else-ne, else-not-is_term_start-via-else-not-is_term_start}

pub returns-then-le-clause-below : goal.returns-then-le-clause-below
returns-then-le-clause-below g c = λ is. absurd (none-some fault.Invalid (sym is))

pub returns-then-le-clause-fault : goal.returns-then-le-clause-fault
returns-then-le-clause-fault g c = λ m k shown.
    let invalid : IsInvalidParent m k c.args.view c.args.parent = elim c.then-le.branch [
      | then-le-via-then-le w ↦ inl (le_passes c.args.view c.args.parent c.le.ensures w.if-le.true)
      | then-le-via-else-le+then-lt w ↦
          inr (inl (subst (λ (u : ℕ). c.args.parent < u) (w.last_finalized.ensures m k shown) (lt_passes c.args.parent w.last_finalized.result w.lt.ensures w.if-lt.true)))
    ] in
    (invalid, spans_nothing m k c.args.view c.args.parent invalid)

pub returns-then-ne-clause-below : goal.returns-then-ne-clause-below
returns-then-ne-clause-below g c = λ is. absurd (none-some fault.Invalid (sym is))

pub returns-then-ne-clause-fault : goal.returns-then-ne-clause-fault
returns-then-ne-clause-fault g c = λ m k shown.
    let invalid : IsInvalidParent m k c.args.view c.args.parent = inr (inr (
      subst (λ (n : ℕ). ¬ IsTermStart n c.args.view) (c.lookahead.ensures.length m k shown) (iff_false c.is_term_start.ensures c.if-not-is_term_start.true),
      λ next. ne_passes c.args.view c.next.result c.ne.ensures c.if-ne.true (next ∙ sym c.next.ensures),
    )) in
    (invalid, spans_nothing m k c.args.view c.args.parent invalid)

-- where no fault was found yet the view follows on its parent
follows : (g : Over) (c : Joined-else-not-is_term_start g) (m : Member) (k : Known g.row.D.Denot) → g.K.Knowledge.shows c.args.known.now m k
    → (c.args.parent < c.args.view) × (k.last_finalized ≤ c.args.parent) × (IsTermStart m.length c.args.view ⊎ (c.args.view ≡ c.args.parent + 1))
follows g c m k shown = (
  le_fails c.args.view c.args.parent c.le.ensures c.if-le.false,
  subst (λ (u : ℕ). u ≤ c.args.parent) (c.last_finalized.ensures m k shown) (lt_fails c.args.parent c.last_finalized.result c.lt.ensures c.if-lt.false),
  elim c.else-not-is_term_start.branch [
    | else-not-is_term_start-via-then-not-is_term_start+else-ne w ↦ inr (ne_fails c.args.view w.next.result w.ne.ensures w.if-ne.false ∙ w.next.ensures)
    | else-not-is_term_start-via-else-not-is_term_start w ↦
        inl (subst (λ (n : ℕ). IsTermStart n c.args.view) (c.lookahead.ensures.length m k shown) (c.is_term_start.ensures.0 w.if-not-is_term_start.false))
  ],
)

pub returns-in-Some-clause-below : goal.returns-in-Some-clause-below
returns-in-Some-clause-below g c = λ is. absurd (none-some (fault.Uncovered c.in-Some.first) (sym is))

pub returns-in-Some-clause-fault : goal.returns-in-Some-clause-fault
returns-in-Some-clause-fault g c = λ m k shown.
    let so = follows g (goal.at.returns-in-Some-clause-fault g c).Joined-else-not-is_term_start m k shown in
    let first = c.in-Some.ensures m k shown in
    ((valid_parent m k c.args.view c.args.parent so.0 so.1 so.2, first), λ span. first.bare (span.covered c.in-Some.first first.after first.before))

pub returns-in-None-clause-below : goal.returns-in-None-clause-below
returns-in-None-clause-below g c = λ is. le_fails c.args.view c.args.parent c.le.ensures c.if-le.false

pub returns-in-None-clause-fault : goal.returns-in-None-clause-fault
returns-in-None-clause-fault g c = λ m k shown.
    let so = follows g (goal.at.returns-in-None-clause-fault g c).Joined-else-not-is_term_start m k shown in
    record { below = so.0; above = so.1; next = so.2; covered = c.in-None.ensures m k shown }
