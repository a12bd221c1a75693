use Rattle.std.proofs.Common.{ℕ, subst}
use Rattle.std.proofs.lemmas.Bool.{both_ways}
use Rattle.std.proofs.lemmas.Result.{IfOk-weaker}
use Rattle.simplex_state.specs.Verifying.{Answers}
use Rattle.simplex_member.specs.Layers.{finalized_of, voter_of}
use Rattle.simplex_member.specs.Packet.{formats}
use Rattle.node_requests.proofs.Wanted.{unnumbered}
use Rattle.node_requests.proofs.verifying.ask_for_verification.Goals as goal

pub returns-then-not-has_number-clause-acts : goal.returns-then-not-has_number-clause-acts
returns-then-not-has_number-clause-acts g c = IfOk-weaker c.give_invalid_up.result _ _ (λ acted comes. λ s h k again_is.
    let f = formats {S = g.row.S.Denot} {P = g.row.S-PublicKey.Denot} g.D.PartialEq.eq g.D.Write.spelling g.S.Signature.Write.spelling g.S.Certificate.Write.spelling g.D.Read.reading g.S.Signature.Read.reading g.S.Certificate.Read.reading (g.S.Scheme.size s.voter.scheme) in
    unnumbered g.S.Scheme g.L.Elector f s c.give_invalid_up.new.voter c.args.tables.now h c.args.out.now.items c.args.out.now.items acted
    (λ left. both_ways c.has_number.result c.if-not-has_number.true ((c.has_number.ensures (finalized_of s h) h k.tables_are).1 left))
    (comes (c.args.repair.now) s h k c.args.out.now.items)) c.give_invalid_up.ensures.acts

pub ask_what_is_wanted-requires : goal.ask_what_is_wanted-requires
ask_what_is_wanted-requires g c = λ low h k. (c.has_number.ensures low h k).0 c.if-not-has_number.false

pub returns-in-Ok-clause-acts : goal.returns-in-Ok-clause-acts
returns-in-Ok-clause-acts g c = IfOk-weaker c.ask_what_is_wanted.result _ _ (λ acted comes. λ s h k again_is.
    comes s h (record { begun = k.begun; allowed = k.allowed; repair_is = k.repair_is; tables_are = k.tables_are }) again_is
    (subst (λ (t : ℕ). Answers g.S.Scheme g.L.Elector s.voter c.try_verify.new.self t (voter_of s h) c.in-Ok.wanted) (c.moment.ensures (finalized_of s h) h k.tables_are) (c.in-Ok.ensures s.voter (voter_of s h) k.voter_is)))
    c.ask_what_is_wanted.ensures.acts
