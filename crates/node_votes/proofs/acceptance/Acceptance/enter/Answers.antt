use Rattle.std.proofs.Common.{◌≡◌, ℕ, true, false, refl, subst}
use Rattle.simplex_member.specs.Layers.{current_of, floor_of}
use Rattle.node_votes.specs.Standing.{Stand, come_up, is_passed}
use Rattle.node_votes.specs.KeepsVotes.{KeepsAhead, common_part, stage_ahead, votes_ahead}
use Rattle.node_votes.proofs.Changing.{on-err}
use Rattle.node_votes.proofs.Entering.{entered-still, entered-up, iff-shut}
use Rattle.node_votes.proofs.acceptance.Acceptance.enter.Goals as goal

pub returns-then-not-comes_up-clause-entered : goal.returns-then-not-comes_up-clause-entered
unfolding KeepsAhead
returns-then-not-comes_up-clause-entered g c = λ s h p k enters at low. entered-still g.S.Scheme g.D.PartialEq.eq s h p enters c.move_to.new.self c.args.current c.args.floor at low
    (iff-shut (c.comes_up.ensures s.voter.length k.length_is) c.if-not-comes_up.true) (c.move_to.ensures s (current_of s h) (floor_of s h) (stage_ahead s h p) (votes_ahead s h p) k)

pub returns-clause-entered : goal.returns-clause-entered
unfolding KeepsAhead
returns-clause-entered g c = λ s h p k enters at low.
    let stands : Stand g.S.Scheme g.D.PartialEq.eq (common_part s) c.open.new.self (come_up c.args.current (is_passed (common_part s) c.args.current (current_of s h)) (stage_ahead s h p)) (votes_ahead s h p) =
    subst (λ (n : ℕ). Stand g.S.Scheme g.D.PartialEq.eq (common_part s) c.open.new.self (come_up c.args.current (is_passed (common_part s) c.args.current n) (stage_ahead s h p)) (votes_ahead s h p)) k.current_is
    (c.in_ok-open.ensures.opens (common_part s) (stage_ahead s h p) (votes_ahead s h p) k.rounds) in
    entered-up g.S.Scheme g.D.PartialEq.eq s h p enters c.move_to-2.new.self c.args.current c.args.floor at low
    ((c.comes_up.ensures s.voter.length k.length_is).0 c.if-not-comes_up.false).1
    (c.move_to-2.ensures s (current_of s h) (floor_of s h) (come_up c.args.current (is_passed (common_part s) c.args.current (current_of s h)) (stage_ahead s h p)) (votes_ahead s h p)
    (record { length_is = k.length_is; current_is = k.current_is; floor_is = k.floor_is; rounds = stands }))

pub returns-in_err-open-clause-err : goal.returns-in_err-open-clause-err
unfolding KeepsAhead
returns-in_err-open-clause-err g c = on-err c.from_residual.result _ (λ s h p k.
    record { length_is = k.length_is; current_is = k.current_is; floor_is = k.floor_is; rounds = c.in_err-open.ensures.err (common_part s) (stage_ahead s h p) (votes_ahead s h p) k.rounds })
