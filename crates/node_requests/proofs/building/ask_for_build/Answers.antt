use Rattle.std.proofs.Common.{◌≡◌, ◌∙◌, sym, true, false}
use Rattle.std.proofs.lemmas.Bool.{false≢true}
use Rattle.simplex_member.specs.Layers.{finalized_of, voter_of}
use Rattle.simplex_member.specs.Packet.{formats}
use Rattle.node_requests.specs.Asking.{is_none}
use Rattle.node_requests.specs.NoneDue.{NoBuildToAsk}
use Rattle.node_requests.proofs.Acts.{nothing_asked}
use Rattle.node_requests.proofs.Builds.{build_was_asked}
use Rattle.node_requests.proofs.building.ask_for_build.Goals as goal

pub returns-then-not-has_number-clause-acts : goal.returns-then-not-has_number-clause-acts
returns-then-not-has_number-clause-acts g c = λ repair s h keeps.
    let f = formats g.D.PartialEq.eq g.D.Write.spelling g.S.Signature.Write.spelling g.S.Certificate.Write.spelling g.D.Read.reading g.S.Signature.Read.reading g.S.Certificate.Read.reading (g.S.Scheme.size s.voter.scheme) in
    nothing_asked g.S.Scheme g.L.Elector f s is_none (NoBuildToAsk g.S.Scheme f s) c.args.voter.now c.args.tables.now h c.args.out.now.items
    (λ has. absurd (false≢true (sym c.if-not-has_number.true ∙ (c.has_number.ensures (finalized_of s h) h keeps.tables_are).1 has))) keeps.voter_is keeps.tables_are

pub hand_build_out-requires : goal.hand_build_out-requires
hand_build_out-requires g c = λ low h k. (c.has_number.ensures low h k).0 c.if-not-has_number.false

pub returns-in-Ok-clause-acts : goal.returns-in-Ok-clause-acts
returns-in-Ok-clause-acts g c = λ repair s h keeps.
    let f = formats g.D.PartialEq.eq g.D.Write.spelling g.S.Signature.Write.spelling g.S.Certificate.Write.spelling g.D.Read.reading g.S.Signature.Read.reading g.S.Certificate.Read.reading (g.S.Scheme.size s.voter.scheme) in
    let at = finalized_of s h in
    let answer = c.in-Some.ensures.answer s.voter (voter_of s h) keeps.voter_is in
    build_was_asked g.S.Scheme g.L.Elector f s c.try_propose.new.self c.hand_build_out.new.tables h c.in-Some.request c.args.out.now.items c.hand_build_out.new.out.items keeps.begun
    ((c.has_number.ensures at h keeps.tables_are).0 c.if-not-has_number.false) answer.0 answer.1 (c.in-Some.ensures.handoff s.voter (voter_of s h) keeps.voter_is)
    (c.in-Some.ensures.keeps s.voter (voter_of s h) keeps.voter_is) (c.in-Ok.ensures.keeps at h keeps.tables_are) (λ handoff is. c.in-Ok.ensures.acts at h keeps.tables_are f handoff is)

pub returns-in-None-clause-acts : goal.returns-in-None-clause-acts
returns-in-None-clause-acts g c = λ repair s h keeps.
    let f = formats g.D.PartialEq.eq g.D.Write.spelling g.S.Signature.Write.spelling g.S.Certificate.Write.spelling g.D.Read.reading g.S.Signature.Read.reading g.S.Certificate.Read.reading (g.S.Scheme.size s.voter.scheme) in
    nothing_asked g.S.Scheme g.L.Elector f s is_none (NoBuildToAsk g.S.Scheme f s) c.try_propose.new.self c.args.tables.now h c.args.out.now.items
    (λ has. c.in-None.ensures.answer s.voter (voter_of s h) keeps.voter_is) (c.in-None.ensures.keeps s.voter (voter_of s h) keeps.voter_is) keeps.tables_are

-- a build was due
pub returns-in-Err-clause-without_memory : goal.returns-in-Err-clause-without_memory
returns-in-Err-clause-without_memory g c = λ repair s h keeps none.
    let first = (c.in-Some.ensures.answer s.voter (voter_of s h) keeps.voter_is).0 in
    absurd (none ((c.has_number.ensures (finalized_of s h) h keeps.tables_are).0 c.if-not-has_number.false) _ _ _ first.due)
