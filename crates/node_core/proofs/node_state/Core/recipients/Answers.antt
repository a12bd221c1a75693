use Rattle.std.proofs.Common.{◌≡◌, ◌∙◌, true, false, refl, sym, ap, arith, filter, append-nil}
use Rattle.std.specs.List.{range_with_len}
use Rattle.voter_history.specs.Leaders.{leader}
use Rattle.simplex_batcher.specs.Queries.{is_missing_voter}
use Rattle.simplex_member.specs.Layers.{voter_of, votes_of}
use Rattle.node_core.specs.Entering.{gets}
use Rattle.node_core.proofs.Recipients.{pick_more, recipients_from}
use Rattle.node_core.proofs.node_state.Core.recipients.Goals as goal
use Rattle.node_core.proofs.node_state.Core.recipients.Goals.{then-gets+in_ok-push, else-gets}

pub loop-index-preserved : goal.loop-index-preserved
loop-index-preserved g c = λ f s h k same.
    let p = gets f.same s.me s.forward (leader s.voter (voter_of s h) c.args.entered) (votes_of s h c.args.before) c.args.proposal.now in
    let i = c.loop-index.index in
    let here : c.gets.result ≡ p i = rw c.new-member.ensures at (c.gets.ensures f s h k same) in
    elim c.if-gets.branch [
      | then-gets+in_ok-push w ↦
          let passes : p i ≡ true = sym here ∙ w.if-gets.true in
          rw (w.who-is, w.in_ok-push.ensures.items, c.loop-index.invariant f s h k same, pick_more p i, passes, c.new-member.ensures) refl
      | else-gets w ↦
          let fails : p i ≡ false = sym here ∙ w.if-gets.false in
          rw (w.who-is, c.loop-index.invariant f s h k same, pick_more p i, fails) (sym (append-nil (filter p (range_with_len 0 i))))
    ]

pub returns : goal.returns
returns g c = λ f s h k same.
    let last : c.loop-index.index ≡ c.participants-index-end.result = omega (arith, c.loop-index-test.false, c.loop-index.auto.index-end) in
    let all : c.loop-index.index ≡ g.S.Scheme.size s.voter.scheme = last ∙ c.participants-index-end.ensures.value ∙ ap g.S.Scheme.size (c.deref.ensures ∙ k.set_up.scheme_is) in
    recipients_from s.forward (leader s.voter (voter_of s h) c.args.entered) s.me (is_missing_voter f.same (votes_of s h c.args.before) c.args.proposal.now) c.loop-index.who.items c.loop-index.index (g.S.Scheme.size s.voter.scheme)
    (c.loop-index.invariant f s h k same) all
