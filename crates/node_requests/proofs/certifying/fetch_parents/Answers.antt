use Rattle.std.proofs.Common.{◌≡◌, ◌+◌, ◌∙◌, List, None, ap, drop, subst}
use Rattle.std.proofs.lemmas.List.{drop_all}
use Rattle.voter_rules.specs.declared.certificate_fetch.CertificateFetch.{CertificateFetch}
use Rattle.simplex_resolver.specs.declared.ask.Ask.{Ask}
use Rattle.simplex_resolver.specs.declared.ask.Kind as repair
use Rattle.simplex_resolver.specs.declared.ask.Kind.TheVariants as kind
use Rattle.simplex_resolver.specs.declared.ask.Until.{Until}
use Rattle.simplex_member.specs.Asked.{ancestry}
use Rattle.simplex_member.specs.Packet.{formats}
use Rattle.node_requests.specs.Fetching.{Fetches}
use Rattle.node_requests.proofs.Verdicts.{ParentsBut, drop_next, no_parent_asked, one_parent_asked, parents_asked}
use Rattle.node_requests.proofs.certifying.fetch_parents.Goals as goal

pub loop-wanted-init : goal.loop-wanted-init
loop-wanted-init g c = λ s h k again_is all.
    no_parent_asked g.S.Scheme (formats {S = g.row.S.Denot} {P = g.row.S-PublicKey.Denot} g.D.PartialEq.eq g.D.Write.spelling g.S.Signature.Write.spelling g.S.Certificate.Write.spelling g.D.Read.reading g.S.Signature.Read.reading g.S.Certificate.Read.reading (g.S.Scheme.size s.voter.scheme)) s c.args.fetches.now c.args.tables.now h c.args.out.now.items k.tables_are all

pub loop-wanted-preserved : goal.loop-wanted-preserved
loop-wanted-preserved g c = λ s h k again_is all.
    let f = formats {S = g.row.S.Denot} {P = g.row.S-PublicKey.Denot} g.D.PartialEq.eq g.D.Write.spelling g.S.Signature.Write.spelling g.S.Certificate.Write.spelling g.D.Read.reading g.S.Signature.Read.reading g.S.Certificate.Read.reading (g.S.Scheme.size s.voter.scheme) in
    let wanted = c.args.fetches.now in
    let i = c.loop-wanted.wanted-index in
    let x = c.wanted-item.result in
    let out = c.args.out.now.items in
    let mid = c.loop-wanted.out.items in
    let asks : c.ancestry.result ≡ ancestry kind.Notarization =
    ap (λ (w : repair.Kind). record { kind = w; until = c.ancestry.result.until }) c.ancestry.ensures.kind
    ∙ ap (λ (u : Until). record { kind = kind.Notarization; until = u }) c.ancestry.ensures.until in
    one_parent_asked g.S.Scheme f s wanted x (drop (i + 1) wanted) c.args.repair.now c.args.tables.now c.loop-wanted.tables c.fetch.new.tables h out mid c.fetch.new.out.items c.in-Ok.field-0 k
    (subst (λ (left : List CertificateFetch). ParentsBut g.S.Scheme f s wanted left c.loop-wanted.tables h out mid) (drop_next wanted i x c.loop-wanted-test.true c.wanted-item.is) (c.loop-wanted.invariant s h k again_is all))
    (λ end repairs there.
    subst (λ (a : Ask). Fetches f s c.fetch.new.tables end (record { view = x.view; ask = a; to = None }) mid c.fetch.new.out.items c.in-Ok.field-0) asks
    (c.in-Ok.ensures.fetches (g.S.Scheme.size s.voter.scheme) s end again_is repairs there))

pub returns-clause-fetched : goal.returns-clause-fetched
returns-clause-fetched g c = λ s h k again_is all.
    let f = formats {S = g.row.S.Denot} {P = g.row.S-PublicKey.Denot} g.D.PartialEq.eq g.D.Write.spelling g.S.Signature.Write.spelling g.S.Certificate.Write.spelling g.D.Read.reading g.S.Signature.Read.reading g.S.Certificate.Read.reading (g.S.Scheme.size s.voter.scheme) in
    let wanted = c.args.fetches.now in
    let out = c.args.out.now.items in
    let mid = c.loop-wanted.out.items in
    parents_asked g.S.Scheme f s wanted c.loop-wanted.tables h out mid
    (subst (λ (left : List CertificateFetch). ParentsBut g.S.Scheme f s wanted left c.loop-wanted.tables h out mid) (drop_all c.loop-wanted.wanted-index wanted c.loop-wanted-test.false) (c.loop-wanted.invariant s h k again_is all))
