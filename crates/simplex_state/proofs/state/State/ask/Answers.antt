use Rattle.std.proofs.Common.{◌≡◌, true, ◌∙◌, refl}
use Rattle.std.specs.Prelude.{None}
use Rattle.voter_history.specs.History.{ancestry_asked, verify_asked}
use Rattle.voter_history.specs.Known.{known}
use Rattle.voter_history.specs.Leaders.{leader}
use Rattle.voter_rules.specs.Ancestry.{member}
use Rattle.voter_rules.specs.Requests.{VerifyIsDue}
use Rattle.simplex_state.specs.State.{Keeps}
use Rattle.simplex_state.proofs.Keeping.{keeps_still}
use Rattle.simplex_state.proofs.Wanting.{may_verify, wanted_led}
use Rattle.simplex_state.proofs.state.State.ask.Goals as goal

pub returns-in_default-clause-asks : goal.returns-in_default-clause-asks
unfolding Keeps
returns-in_default-clause-asks g c = λ s h k wants.
    let led = wanted_led (member s) (known s h) c.args.view c.args.wanted wants in
    let none : leader s h c.args.view ≡ None = c.in_default.ensures s h k in
    absurd (cc (rw none at led))

pub returns-in-Verification-clause-asks : goal.returns-in-Verification-clause-asks
unfolding Keeps
returns-in-Verification-clause-asks g c = λ s h k wants.
    let p = c.in-Verification.proposal in
    let payload = c.in-Verification.payload in
    let due : VerifyIsDue (member s) (known s h) c.args.view p payload = rw c.in-Verification.is at wants in
    let asked : c.request_verify-asked.result ≡ true = (c.request_verify-asked.ensures.answer s h k.views).1 (may_verify s h c.args.view p payload due) in (
      c.new.ensures.view,
      record {
        due = rw c.new.ensures.view due;
        parent = refl;
        epoch = c.new.ensures.epoch ∙ c.epoch.ensures s h k.views;
        leader = rw c.new.ensures.view (c.in-Some.ensures s h k);
        keeps = rw c.new.ensures.view (keeps_still g.S.Scheme g.L.Elector s h c.args.self.now _ k (verify_asked c.args.view p payload) refl tt tt (rw asked at (c.request_verify-asked.ensures.keeps s h k.views)));
      },
    )

pub returns-in_ok-request-in-Certificate-clause-asks : goal.returns-in_ok-request-in-Certificate-clause-asks
unfolding Keeps
returns-in_ok-request-in-Certificate-clause-asks g c = λ s h k wants. (
  refl,
  record {
    missing = rw c.in-Certificate.is at wants;
    leader = c.in-Some.ensures s h k;
    keeps = keeps_still g.S.Scheme g.L.Elector s h c.args.self.now _ k (ancestry_asked c.args.view c.in-Certificate.missing) refl tt tt (c.in_ok-request-in-Certificate.ensures s h k.views);
  },
)
