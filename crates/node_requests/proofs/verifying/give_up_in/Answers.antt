use Rattle.simplex_member.specs.Layers.{voter_of}
use Rattle.voter_views.specs.ShowsKnown as shown
use Rattle.node_requests.proofs.Waits.{gives_invalid_up, none_invalid_up}
use Rattle.node_requests.proofs.verifying.give_up_in.Goals as goal

pub returns-in_default : goal.returns-in_default
returns-in_default g c = record {
  gives_up = λ f s h all at k.
      none_invalid_up g.S.Scheme g.L.Elector f s c.one_request_is_due.ensures.verify c.args.voter.now h c.args.view c.request_for.result (c.request_for.ensures _ _ (shown.at s.voter (voter_of s h) (c.views.ensures s.voter (voter_of s h) k))) c.in_default.not-Invalid k;
  fault = tt;
}

pub returns-in-Ok-clause-gives_up : goal.returns-in-Ok-clause-gives_up
returns-in-Ok-clause-gives_up g c = λ f s h all at k.
    gives_invalid_up g.S.Scheme g.L.Elector f s c.trigger_timeout.new.self h c.args.view c.args.now c.in-Ok.first at
    (rw c.in-Invalid.is at (c.request_for.ensures _ _ (shown.at s.voter (voter_of s h) (c.views.ensures s.voter (voter_of s h) k))))
    (c.in-Ok.ensures.keeps s.voter (voter_of s h) k) (λ none. c.in-Ok.ensures.unchanged none s.voter (voter_of s h) k) (c.in-Ok.ensures.answer s.voter (voter_of s h) k)
