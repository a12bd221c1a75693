use Rattle.std.proofs.Common.{ℕ, refl, sym, subst}
use Rattle.simplex_resolver.specs.declared.ask.Ask.{Ask}
use Rattle.simplex_resolver.specs.Keeps as repairing
use Rattle.simplex_member.specs.Asked.{ancestry}
use Rattle.simplex_member.specs.Layers.{finalized_of, latest}
use Rattle.simplex_member.specs.Packet.{formats}
use Rattle.node_requests.specs.Asking.{is_latch}
use Rattle.node_requests.specs.Fetching.{Fetches}
use Rattle.node_requests.specs.NoneDue.{NoVerificationToAsk}
use Rattle.node_requests.proofs.Waits.{certificate_asked, verification_asked, waits}
use Rattle.node_requests.proofs.Wanted.{done_is, if_ok_all}
use Rattle.node_requests.proofs.verifying.ask_what_is_wanted.Goals as goal

pub returns-in-Wait-clause-acts : goal.returns-in-Wait-clause-acts
returns-in-Wait-clause-acts g c = λ s h k again_is answers.
    waits g.S.Scheme g.L.Elector (formats {S = g.row.S.Denot} {P = g.row.S-PublicKey.Denot} g.D.PartialEq.eq g.D.Write.spelling g.S.Signature.Write.spelling g.S.Certificate.Write.spelling g.D.Read.reading g.S.Signature.Read.reading g.S.Certificate.Read.reading (g.S.Scheme.size s.voter.scheme)) s c.a_look_leaves_nothing_to_ask.ensures.no_reason c.a_look_leaves_nothing_to_ask.ensures.unchanged c.args.voter.now c.args.tables.now h (latest h) c.args.out.now.items k.begun refl k.tables_are
    (rw c.in-Wait.is at answers)

pub returns-in-Ready-clause-acts : goal.returns-in-Ready-clause-acts
returns-in-Ready-clause-acts g c = if_ok_all c.hand_check_out.result _ _ _ _ (λ acted did keeps acts. λ s h k again_is answers.
    let f = formats {S = g.row.S.Denot} {P = g.row.S-PublicKey.Denot} g.D.PartialEq.eq g.D.Write.spelling g.S.Signature.Write.spelling g.S.Certificate.Write.spelling g.D.Read.reading g.S.Signature.Read.reading g.S.Certificate.Read.reading (g.S.Scheme.size s.voter.scheme) in
    done_is g.S.Scheme g.L.Elector f s c.args.voter.now c.hand_check_out.new.tables h c.args.out.now.items c.hand_check_out.new.out.items is_latch (NoVerificationToAsk g.S.Scheme f s) acted did
    (verification_asked g.S.Scheme g.L.Elector f s c.args.voter.now c.args.tables.now c.hand_check_out.new.tables h (latest h) c.in-Ready.context c.in-Ready.proposal c.args.out.now.items c.hand_check_out.new.out.items k.begun refl
    (c.requires (finalized_of s h) h k.tables_are) k.tables_are (rw c.in-Ready.is at answers) keeps (λ low x there. acts low x there f))) c.hand_check_out.ensures.did c.hand_check_out.ensures.keeps c.hand_check_out.ensures.acts

pub returns-in-Ok-clause-acts : goal.returns-in-Ok-clause-acts
returns-in-Ok-clause-acts g c = λ s h k again_is answers.
    let f = formats {S = g.row.S.Denot} {P = g.row.S-PublicKey.Denot} g.D.PartialEq.eq g.D.Write.spelling g.S.Signature.Write.spelling g.S.Certificate.Write.spelling g.D.Read.reading g.S.Signature.Read.reading g.S.Certificate.Read.reading (g.S.Scheme.size s.voter.scheme) in
    let r = c.in-Resolve in
    let lacked = c.lacked_by.result in
    let out = c.args.out.now.items in
    certificate_asked g.S.Scheme g.L.Elector f s c.what_is_known_stays.ensures.known c.args.voter.now c.args.tables.now c.fetch.new.tables h (latest h) r.proposal r.view r.kind r.target lacked.to out c.fetch.new.out.items c.in-Ok.field-0 k.begun refl k.tables_are
    (rw r.is at answers) c.lacked_by.ensures.to
    (λ x same there.
    subst (λ (v : ℕ). Fetches f s c.fetch.new.tables x (record { view = v; ask = ancestry r.kind; to = lacked.to }) out c.fetch.new.out.items c.in-Ok.field-0) c.lacked_by.ensures.view
    (subst (λ (a : Ask). Fetches f s c.fetch.new.tables x (record { view = lacked.view; ask = a; to = lacked.to }) out c.fetch.new.out.items c.in-Ok.field-0) c.lacked_by.ensures.ask
    (c.in-Ok.ensures.fetches (g.S.Scheme.size s.voter.scheme) s x again_is (subst (λ q. repairing.Keeps s.voter.length c.args.repair.now q) (sym same) k.repair_is) there)))
