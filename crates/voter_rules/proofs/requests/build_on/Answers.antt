use Rattle.std.proofs.lemmas.Bool.{iff_false}
use Rattle.voter_rules.proofs.Asking.{waiting_build}
use Rattle.voter_rules.proofs.requests.build_on.Goals as goal

pub returns : goal.returns
returns g c = λ m k shown.
    let allows = (c.should_propose.ensures m k shown).0 c.if-not-should_propose.false in
    record {
      opens = (c.is_open.ensures m k shown).0 c.if-not-is_open.false;
      leads = allows.leads;
      vacant = allows.vacant;
      preferred = c.in_ok-parent.ensures m k shown;
      patient = (c.may_begin.ensures m k shown).0 c.if-not-may_begin.false;
    }

pub returns-in_err-parent : goal.returns-in_err-parent
returns-in_err-parent g c = λ m k shown. rw c.from_residual.ensures (λ parent payload due. c.in_err-parent.ensures m k shown parent payload due.preferred)

pub returns-then-not-may_begin : goal.returns-then-not-may_begin
returns-then-not-may_begin g c = λ m k shown.
    waiting_build m k c.args.view c.in_ok-parent.parent c.in_ok-parent.payload (c.in_ok-parent.ensures m k shown) (iff_false (c.may_begin.ensures m k shown) c.if-not-may_begin.true)

pub returns-then-not-is_open : goal.returns-then-not-is_open
returns-then-not-is_open g c = λ m k shown parent payload due. iff_false (c.is_open.ensures m k shown) c.if-not-is_open.true due.opens

pub returns-then-not-should_propose : goal.returns-then-not-should_propose
returns-then-not-should_propose g c = λ m k shown parent payload due.
    iff_false (c.should_propose.ensures m k shown) c.if-not-should_propose.true (record { leads = due.leads; not_given_up = due.opens.not_given_up; vacant = due.vacant })
