use Rattle.std.proofs.Common.{◌∙◌, List, sym, subst}
use Rattle.std.proofs.lemmas.Bool.{false≢true}
use Rattle.types_core.specs.declared.proposal.Proposal.{Proposal}
use Rattle.voter_rules.specs.declared.certificate_fetch.CertificateFetch.{CertificateFetch}
use Rattle.simplex_member.specs.Layers.{voter_of}
use Rattle.simplex_member.specs.Packet.{formats}
use Rattle.node_requests.specs.Certifying.{AreDueVerdicts, AsksForEach}
use Rattle.node_requests.specs.Fetching.{AreAllWanted, FetchesParents}
use Rattle.node_requests.proofs.Verdicts.{HasLookedAt, has_looked_at, no_verdict_due, verdicts_come}
use Rattle.node_requests.proofs.certifying.ask_for_verdicts.Goals as goal

pub returns-then-are_none-clause-acts : goal.returns-then-are_none-clause-acts
returns-then-are_none-clause-acts g c = λ s h k again_is.
    let f = formats {S = g.row.S.Denot} {P = g.row.S-PublicKey.Denot} g.D.PartialEq.eq g.D.Write.spelling g.S.Signature.Write.spelling g.S.Certificate.Write.spelling g.D.Read.reading g.S.Signature.Read.reading g.S.Certificate.Read.reading (g.S.Scheme.size s.voter.scheme) in
    let new = c.certify_candidates.new.self in
    let ready = c.in-Ok.ready in
    let fetches = c.in-Ok.fetches in
    let looked : HasLookedAt g.S.Scheme g.L.Elector f s new h ready.items fetches.items =
    has_looked_at g.S.Scheme g.L.Elector f s new h ready.items fetches.items (c.in-Ok.ensures.keeps s.voter (voter_of s h) k.voter_is) (c.in-Ok.ensures.ready s.voter (voter_of s h) k.voter_is) (c.in-Ok.ensures.wanted s.voter (voter_of s h) k.voter_is) in
    no_verdict_due g.S.Scheme g.L.Elector f s new c.args.tables.now h ready.items fetches.items c.args.out.now.items k.begun k.tables_are looked
    (sym c.deref.ensures.value ∙ (c.are_none.ensures.0 c.if-are_none.true).0) (sym c.deref-in-Ok.ensures.value ∙ (c.are_none.ensures.0 c.if-are_none.true).1)

pub returns-in_ok-ask_each-in-Ok-clause-acts : goal.returns-in_ok-ask_each-in-Ok-clause-acts
returns-in_ok-ask_each-in-Ok-clause-acts g c = λ s h k again_is.
    let f = formats {S = g.row.S.Denot} {P = g.row.S-PublicKey.Denot} g.D.PartialEq.eq g.D.Write.spelling g.S.Signature.Write.spelling g.S.Certificate.Write.spelling g.D.Read.reading g.S.Signature.Read.reading g.S.Certificate.Read.reading (g.S.Scheme.size s.voter.scheme) in
    let new = c.certify_candidates.new.self in
    let ready = c.in-Ok.ready.items in
    let fetches = c.in-Ok.fetches.items in
    let out = c.args.out.now.items in
    let mid = c.fetch_parents.new.out.items in
    let looked : HasLookedAt g.S.Scheme g.L.Elector f s new h ready fetches =
    has_looked_at g.S.Scheme g.L.Elector f s new h ready fetches (c.in-Ok.ensures.keeps s.voter (voter_of s h) k.voter_is) (c.in-Ok.ensures.ready s.voter (voter_of s h) k.voter_is) (c.in-Ok.ensures.wanted s.voter (voter_of s h) k.voter_is) in
    verdicts_come g.S.Scheme g.L.Elector f s c.args.voter.now new c.ask_each.new.voter c.args.repair.now c.args.tables.now c.fetch_parents.new.tables c.ask_each.new.tables h ready fetches out mid c.ask_each.new.out.items k looked
    (λ wanted.
    subst (λ (l : List CertificateFetch). FetchesParents g.S.Scheme f s c.fetch_parents.new.tables h l out mid) c.deref-in-Ok-2.ensures.value
    (c.in_ok-fetch_parents-in-Ok.ensures.fetched s h (record { begun = k.begun; allowed = k.allowed; repair_is = k.repair_is; tables_are = k.tables_are }) again_is
    (subst (λ (l : List CertificateFetch). AreAllWanted g.S.Scheme f s h l) (sym c.deref-in-Ok-2.ensures.value) wanted)))
    (λ x there due.
    subst (λ (l : List (Proposal g.row.D.Denot)). AsksForEach g.S.Scheme g.L.Elector f s c.ask_each.new.voter c.ask_each.new.tables x l mid c.ask_each.new.out.items) c.deref-in-Ok-3.ensures.value
    (c.in_ok-ask_each-in-Ok.ensures.asked c.args.repair.now s x there
    (subst (λ (l : List (Proposal g.row.D.Denot)). AreDueVerdicts s x l) (sym c.deref-in-Ok-3.ensures.value) due)))
    (λ no_verdict no_fetch. false≢true (sym c.if-are_none.false ∙ c.are_none.ensures.1 (c.deref.ensures.value ∙ no_verdict, c.deref-in-Ok.ensures.value ∙ no_fetch)))
