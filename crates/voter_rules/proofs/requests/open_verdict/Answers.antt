use Rattle.std.proofs.Common.{sym, ◌∙◌, subst, ℕ, ◌<◌, ◌≤◌}
use Rattle.std.proofs.lemmas.Bool.{iff_false}
use Rattle.std.proofs.lemmas.Option.{none-some, same_Some}
use Rattle.types_core.specs.declared.proposal.Proposal.{Proposal}
use Rattle.types_core.specs.Positions.{HasRoom}
use Rattle.voter_rules.specs.Ancestry.{IsRequired, IsSpan}
use Rattle.voter_rules.proofs.Asking.{open_is_uncertified, uncertified_is}
use Rattle.voter_rules.proofs.Testing.{crossed, le_passes, le_fails}
use Rattle.voter_rules.proofs.requests.open_verdict.Goals as goal

pub returns-then-not-may_be_required : goal.returns-then-not-may_be_required
returns-then-not-may_be_required g c = λ m k shown p opens.
    let one = same_Some p c.in_ok-proposal.proposal
    (sym (open_is_uncertified m k c.args.view p opens) ∙ sym (c.pending_certification.ensures m k shown) ∙ c.in_ok-proposal.was) in
    iff_false (c.may_be_required.ensures m k shown) c.if-not-may_be_required.true
    (subst (λ (q : Proposal g.row.D.Denot). (required : ℕ) → IsRequired m k c.args.view q.parent required → IsSpan m k c.args.view q.parent) one opens.span)

pub returns : goal.returns
returns g c = λ m k shown.
    let is = uncertified_is m k c.args.view c.in_ok-proposal.proposal (sym (c.pending_certification.ensures m k shown) ∙ c.in_ok-proposal.was) in record {
      room = subst (λ (n : ℕ). HasRoom n c.args.view) (c.lookahead.ensures.length m k shown) (c.has_room.ensures.0 c.if-not-has_room.false);
      above = subst (λ (u : ℕ). u < c.args.view) (c.last_finalized.ensures m k shown) (le_fails c.args.view c.last_finalized.result c.le.ensures c.if-le.false);
      notarized = is.2;
      without = is.1;
      first = is.0;
      below = le_fails c.args.view c.in_ok-proposal.proposal.parent c.le-2.ensures c.if-le-2.false;
      span = (c.may_be_required.ensures m k shown).0 c.if-not-may_be_required.false;
    }

pub returns-then-le : goal.returns-then-le
returns-then-le g c = λ m k shown p opens.
    crossed k.last_finalized c.args.view opens.above (subst (λ (u : ℕ). c.args.view ≤ u) (c.last_finalized.ensures m k shown) (le_passes c.args.view c.last_finalized.result c.le.ensures c.if-le.true))

pub returns-then-not-has_room : goal.returns-then-not-has_room
returns-then-not-has_room g c = λ m k shown p opens.
    iff_false c.has_room.ensures c.if-not-has_room.true (subst (λ (n : ℕ). HasRoom n c.args.view) (sym (c.lookahead.ensures.length m k shown)) opens.room)

pub returns-in_err-proposal : goal.returns-in_err-proposal
returns-in_err-proposal g c = λ m k shown.
    rw c.from_residual.ensures (λ p opens. none-some p (sym (sym (c.pending_certification.ensures m k shown) ∙ c.in_err-proposal.was) ∙ open_is_uncertified m k c.args.view p opens))

pub returns-then-le-2 : goal.returns-then-le-2
returns-then-le-2 g c = λ m k shown p opens.
    let one = same_Some p c.in_ok-proposal.proposal
    (sym (open_is_uncertified m k c.args.view p opens) ∙ sym (c.pending_certification.ensures m k shown) ∙ c.in_ok-proposal.was) in
    crossed c.in_ok-proposal.proposal.parent c.args.view (subst (λ (q : Proposal g.row.D.Denot). q.parent < c.args.view) one opens.below) (le_passes c.args.view c.in_ok-proposal.proposal.parent c.le-2.ensures c.if-le-2.true)
