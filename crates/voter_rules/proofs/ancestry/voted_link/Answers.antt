use Rattle.std.proofs.Common.{◌⊎◌, inl, inr, sym, ◌∙◌, subst, ℕ, ◌<◌, ◌≤◌}
use Rattle.std.proofs.lemmas.Bool.{iff_false}
use Rattle.std.specs.Prelude.{Option, Some}
use Rattle.voter_rules.specs.Ancestry.{IsVotedFor}
use Rattle.voter_rules.specs.Knowing.{IsLink}
use Rattle.voter_rules.proofs.Testing.{le_passes, le_fails, lt_passes, lt_fails}
use Rattle.voter_rules.proofs.Walking.{covered_of, misplaced_unvoted, unbacked_unvoted, uncovered_unvoted, unvoted_none, below_is, voted_is_link}
use Rattle.voter_rules.proofs.ancestry.voted_link.Goals as goal
use Rattle.voter_rules.proofs.ancestry.voted_link.Goals.{then-lt-via-then-lt, then-lt-via-else-lt+then-le}

pub returns-clause-link : goal.returns-clause-link
returns-clause-link g c = λ m k shown some undecided.
    let p = c.in_ok-proposal.proposal in
    let backed = c.in_ok-proposal.ensures m k shown in
    let finalized = c.last_finalized.ensures m k shown in
    let v : IsVotedFor m k c.args.view p = record {
      undecided = undecided;
      reached = (c.is_reached.ensures m k shown some).0 c.if-not-is_reached.false;
      voted = backed.0.voted;
      verified = backed.0.verified;
      held = backed.1;
      above = subst (λ (u : ℕ). u ≤ p.parent) finalized (lt_fails p.parent c.last_finalized.result c.lt.ensures c.if-lt.false);
      below = le_fails c.args.view p.parent c.le.ensures c.if-le.false;
      covered = covered_of m k p.parent c.args.view c.first_uncovered.result (sym c.is_some.ensures ∙ c.if-is_some.false) (c.first_uncovered.ensures m k shown);
    } in
    subst (λ (o : Option g.row.D.Denot). IsLink m k c.args.view (record { payload = p.payload; below = Some (p.parent, o) })) (sym (c.bound_payload-bound.ensures m k shown)) (voted_is_link m k c.args.view p some v)

pub returns-then-is_some-clause-link : goal.returns-then-is_some-clause-link
returns-then-is_some-clause-link g c = λ m k shown some undecided.
    let held = (c.in_ok-proposal.ensures m k shown).1 in
    unvoted_none m k c.args.view undecided some
    (uncovered_unvoted m k c.args.view c.in_ok-proposal.proposal held c.first_uncovered.result (sym c.is_some.ensures ∙ c.if-is_some.true) (c.first_uncovered.ensures m k shown))

pub returns-then-not-is_reached-clause-link : goal.returns-then-not-is_reached-clause-link
returns-then-not-is_reached-clause-link g c = λ m k shown some undecided.
    unvoted_none m k c.args.view undecided some (λ q v. iff_false (c.is_reached.ensures m k shown some) c.if-not-is_reached.true v.reached)

pub returns-clause-lower : goal.returns-clause-lower
returns-clause-lower g c = below_is c.args.view (c.in_ok-proposal.proposal.parent, c.bound_payload-bound.result) (le_fails c.args.view c.in_ok-proposal.proposal.parent c.le.ensures c.if-le.false)

pub returns-in_err-proposal-clause-lower : goal.returns-in_err-proposal-clause-lower
returns-in_err-proposal-clause-lower g c = rw c.from_residual.ensures tt

pub returns-in_err-proposal-clause-link : goal.returns-in_err-proposal-clause-link
returns-in_err-proposal-clause-link g c = λ m k shown some undecided.
    rw c.from_residual.ensures (unvoted_none m k c.args.view undecided some (unbacked_unvoted m k c.args.view (c.in_err-proposal.ensures m k shown)))

pub returns-then-lt-clause-lower : goal.returns-then-lt-clause-lower
returns-then-lt-clause-lower g c = tt

pub returns-then-lt-clause-link : goal.returns-then-lt-clause-link
returns-then-lt-clause-link g c = λ m k shown some undecided.
    let p = c.in_ok-proposal.proposal in
    let misplaced : (p.parent < k.last_finalized) ⊎ (c.args.view ≤ p.parent) = elim c.then-lt.branch [
      | then-lt-via-then-lt w ↦ inl (subst (λ (u : ℕ). p.parent < u) (c.last_finalized.ensures m k shown) (lt_passes p.parent c.last_finalized.result c.lt.ensures w.if-lt.true))
      | then-lt-via-else-lt+then-le w ↦ inr (le_passes c.args.view p.parent w.le.ensures w.if-le.true)
    ] in
    unvoted_none m k c.args.view undecided some (misplaced_unvoted m k c.args.view p (c.in_ok-proposal.ensures m k shown).1 misplaced)

pub returns-then-is_some-clause-lower : goal.returns-then-is_some-clause-lower
returns-then-is_some-clause-lower g c = tt

pub returns-then-not-is_reached-clause-lower : goal.returns-then-not-is_reached-clause-lower
returns-then-not-is_reached-clause-lower g c = tt
