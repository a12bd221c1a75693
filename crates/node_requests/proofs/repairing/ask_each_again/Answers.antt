use Rattle.std.proofs.Common.{◌+◌, ◌∷◌, ◌∙◌, inl, inr, List, drop, sym, subst}
use Rattle.std.proofs.lemmas.List.{drop_all}
use Rattle.simplex_member.specs.declared.asked.Asked.{Asked}
use Rattle.simplex_member.specs.Packet.{formats}
use Rattle.node_requests.specs.declared.acted.Acted.TheVariants as came
use Rattle.node_requests.proofs.Verdicts.{drop_next}
use Rattle.node_requests.proofs.Again.{AgainBut, all_again, none_again, one_again}
use Rattle.node_requests.proofs.repairing.ask_each_again.Goals as goal
use Rattle.node_requests.proofs.repairing.ask_each_again.Goals.{then-sent, else-sent}

pub loop-asked-init : goal.loop-asked-init
loop-asked-init g c = λ s h k again_is are.
    none_again g.S.Scheme (formats {S = g.row.S.Denot} {P = g.row.S-PublicKey.Denot} g.D.PartialEq.eq g.D.Write.spelling g.S.Signature.Write.spelling g.S.Certificate.Write.spelling g.D.Read.reading g.S.Signature.Read.reading g.S.Certificate.Read.reading (g.S.Scheme.size s.voter.scheme)) s c.args.pending.now c.args.tables.now h c.args.out.now.items k.tables_are are

pub loop-asked-preserved : goal.loop-asked-preserved
loop-asked-preserved g c = λ s h k again_is are.
    let f = formats {S = g.row.S.Denot} {P = g.row.S-PublicKey.Denot} g.D.PartialEq.eq g.D.Write.spelling g.S.Signature.Write.spelling g.S.Certificate.Write.spelling g.D.Read.reading g.S.Signature.Read.reading g.S.Certificate.Read.reading (g.S.Scheme.size s.voter.scheme) in
    let pending = c.args.pending.now in
    let i = c.loop-asked.asked-index in
    let x = c.asked-item.result in
    let out = c.args.out.now.items in
    let mid = c.loop-asked.out.items in
    let before : AgainBut g.S.Scheme f s (x ∷ drop (i + 1) pending) c.loop-asked.tables h out mid c.loop-asked.acted =
    subst (λ (left : List Asked). AgainBut g.S.Scheme f s left c.loop-asked.tables h out mid c.loop-asked.acted) (drop_next pending i x c.loop-asked-test.true c.asked-item.is) (c.loop-asked.invariant s h k again_is are) in
    elim c.if-sent.branch [
      | then-sent w ↦
          one_again g.S.Scheme f s x (drop (i + 1) pending) c.args.repair.now c.args.tables.now c.loop-asked.tables _ h out mid _ c.loop-asked.acted c.if-sent.acted c.in_ok-sent.sent k (λ idle. absurd (cc (w.acted-is, idle))) (λ did. inr w.if-sent.true) before
          (λ end repairs there. c.in_ok-sent.ensures.fetches (g.S.Scheme.size s.voter.scheme) s end again_is repairs there)
      | else-sent w ↦
          one_again g.S.Scheme f s x (drop (i + 1) pending) c.args.repair.now c.args.tables.now c.loop-asked.tables _ h out mid _ c.loop-asked.acted c.if-sent.acted c.in_ok-sent.sent k (λ idle. (sym w.acted-is ∙ idle, w.if-sent.false)) (λ did. inl (sym w.acted-is ∙ did)) before
          (λ end repairs there. c.in_ok-sent.ensures.fetches (g.S.Scheme.size s.voter.scheme) s end again_is repairs there)
    ]

pub returns-clause-acts : goal.returns-clause-acts
returns-clause-acts g c = λ s h k again_is are.
    let f = formats {S = g.row.S.Denot} {P = g.row.S-PublicKey.Denot} g.D.PartialEq.eq g.D.Write.spelling g.S.Signature.Write.spelling g.S.Certificate.Write.spelling g.D.Read.reading g.S.Signature.Read.reading g.S.Certificate.Read.reading (g.S.Scheme.size s.voter.scheme) in
    let pending = c.args.pending.now in
    let out = c.args.out.now.items in
    let mid = c.loop-asked.out.items in
    all_again g.S.Scheme f s (c.repair_and_voter_finalize_alike.ensures f s) c.loop-asked.tables h out mid c.loop-asked.acted
    (subst (λ (left : List Asked). AgainBut g.S.Scheme f s left c.loop-asked.tables h out mid c.loop-asked.acted) (drop_all c.loop-asked.asked-index pending c.loop-asked-test.false) (c.loop-asked.invariant s h k again_is are))
