use Rattle.std.proofs.Common.{◌≡◌, ◌+◌, ◌^◌, Bool, refl, sym, subst, arith}
use Rattle.simplex_member.specs.Layers.{finalized_of, voter_of}
use Rattle.simplex_member.specs.Packet.{formats}
use Rattle.node_requests.specs.Asking.{is_none}
use Rattle.node_requests.specs.GivingUp.{GivesInvalidUp}
use Rattle.node_requests.specs.NoneDue.{NoInvalidProposal}
use Rattle.node_requests.proofs.Acts.{nothing_asked}
use Rattle.node_requests.proofs.Waits.{NoneBelow, gave_up, none_at_all, none_behind, none_to_the_last, none_up_to}
use Rattle.node_requests.proofs.verifying.give_invalid_up.Goals as goal

pub views-init : goal.views-init
views-init g c = λ repair s h k.
    none_behind g.S.Scheme g.L.Elector (formats {S = g.row.S.Denot} {P = g.row.S-PublicKey.Denot} g.D.PartialEq.eq g.D.Write.spelling g.S.Signature.Write.spelling g.S.Certificate.Write.spelling g.D.Read.reading g.S.Signature.Read.reading g.S.Certificate.Read.reading (g.S.Scheme.size s.voter.scheme)) s c.args.voter.now h c.current_view-next.result k.voter_is (c.current_view-next.ensures s.voter (voter_of s h) k.voter_is)

pub views-preserved : goal.views-preserved
views-preserved g c = λ repair s h k.
    let f = formats {S = g.row.S.Denot} {P = g.row.S-PublicKey.Denot} g.D.PartialEq.eq g.D.Write.spelling g.S.Signature.Write.spelling g.S.Certificate.Write.spelling g.D.Read.reading g.S.Signature.Read.reading g.S.Certificate.Read.reading (g.S.Scheme.size s.voter.scheme) in
    let before : NoneBelow g.S.Scheme g.L.Elector f s c.views.voter h c.views.next = c.views.invariant repair s h k in
    none_up_to g.S.Scheme g.L.Elector f s c.views.voter c.give_up_in.new.voter h c.views.next c.in-Some.view c.next-next.result c.in-Some.ensures.behind c.next-next.ensures before
    ((c.in-Some.ensures.tracked s.voter (voter_of s h) (c.views-in-views.ensures s.voter (voter_of s h) before.voter_is)).bare)
    (subst (λ (b : Bool). GivesInvalidUp g.S.Scheme g.L.Elector f s c.give_up_in.new.voter h c.in-Some.view b) c.in-Ok-false.field-0-test (c.in-Ok-false.ensures.gives_up f s h k.allowed (sym (c.moment-now.ensures (finalized_of s h) h k.tables_are)) before.voter_is))

pub returns-in-Ok-true-clause-acts : goal.returns-in-Ok-true-clause-acts
returns-in-Ok-true-clause-acts g c = λ repair s h k actions.
    let f = formats {S = g.row.S.Denot} {P = g.row.S-PublicKey.Denot} g.D.PartialEq.eq g.D.Write.spelling g.S.Signature.Write.spelling g.S.Certificate.Write.spelling g.D.Read.reading g.S.Signature.Read.reading g.S.Certificate.Read.reading (g.S.Scheme.size s.voter.scheme) in
    let before : NoneBelow g.S.Scheme g.L.Elector f s c.views.voter h c.views.next = c.views.invariant repair s h k in
    gave_up g.S.Scheme g.L.Elector f s c.give_up_in.new.voter repair c.args.voter.now c.args.tables.now h c.in-Some.view actions k
    (subst (λ (b : Bool). GivesInvalidUp g.S.Scheme g.L.Elector f s c.give_up_in.new.voter h c.in-Some.view b) c.in-Ok-true.field-0-test (c.in-Ok-true.ensures.gives_up f s h k.allowed (sym (c.moment-now.ensures (finalized_of s h) h k.tables_are)) before.voter_is))

pub returns-then-get-clause-acts : goal.returns-then-get-clause-acts
returns-then-get-clause-acts g c = λ repair s h k actions.
    let f = formats {S = g.row.S.Denot} {P = g.row.S-PublicKey.Denot} g.D.PartialEq.eq g.D.Write.spelling g.S.Signature.Write.spelling g.S.Certificate.Write.spelling g.D.Read.reading g.S.Signature.Read.reading g.S.Certificate.Read.reading (g.S.Scheme.size s.voter.scheme) in
    let before : NoneBelow g.S.Scheme g.L.Elector f s c.views.voter h c.views.next = c.views.invariant repair s h k in
    let last : c.in-Some.view + 1 ≡ 2 ^ 64 = omega (arith, c.get.ensures.value, c.if-get.true) in
    let all : NoneBelow g.S.Scheme g.L.Elector f s c.give_up_in.new.voter h (c.in-Some.view + 1) =
    none_up_to g.S.Scheme g.L.Elector f s c.views.voter c.give_up_in.new.voter h c.views.next c.in-Some.view (c.in-Some.view + 1) c.in-Some.ensures.behind refl before
    ((c.in-Some.ensures.tracked s.voter (voter_of s h) (c.views-in-views.ensures s.voter (voter_of s h) before.voter_is)).bare)
    (subst (λ (b : Bool). GivesInvalidUp g.S.Scheme g.L.Elector f s c.give_up_in.new.voter h c.in-Some.view b) c.in-Ok-false.field-0-test (c.in-Ok-false.ensures.gives_up f s h k.allowed (sym (c.moment-now.ensures (finalized_of s h) h k.tables_are)) before.voter_is)) in
    nothing_asked g.S.Scheme g.L.Elector f s is_none (NoInvalidProposal g.S.Scheme f s) c.give_up_in.new.voter c.args.tables.now h actions
    (none_to_the_last g.S.Scheme g.L.Elector f s c.give_up_in.new.voter h (c.in-Some.view + 1) (rw (c.lookahead.ensures.length s.voter (voter_of s h) (c.views-2.ensures s.voter (voter_of s h) k.voter_is)) at c.get-views.ensures.at_least_one) last all) all.voter_is k.tables_are

pub returns-clause-acts : goal.returns-clause-acts
returns-clause-acts g c = λ repair s h k actions.
    let f = formats {S = g.row.S.Denot} {P = g.row.S-PublicKey.Denot} g.D.PartialEq.eq g.D.Write.spelling g.S.Signature.Write.spelling g.S.Certificate.Write.spelling g.D.Read.reading g.S.Signature.Read.reading g.S.Certificate.Read.reading (g.S.Scheme.size s.voter.scheme) in
    let before : NoneBelow g.S.Scheme g.L.Elector f s c.views.voter h c.views.next = c.views.invariant repair s h k in
    nothing_asked g.S.Scheme g.L.Elector f s is_none (NoInvalidProposal g.S.Scheme f s) c.views.voter c.args.tables.now h actions
    (none_at_all g.S.Scheme g.L.Elector f s c.views.voter h c.views.next (rw (c.lookahead.ensures.length s.voter (voter_of s h) (c.views-2.ensures s.voter (voter_of s h) k.voter_is)) at c.get-views.ensures.at_least_one) before
    (c.in_default.ensures.tracked s.voter (voter_of s h) (c.views-in-views.ensures s.voter (voter_of s h) before.voter_is))) before.voter_is k.tables_are
