use Rattle.std.proofs.Common.{◌≡◌, ◌<◌, ◌∷◌, ◌+◌, ◌∙◌, ap, sym, subst, arith, ℕ, suc, List, drop, get_or, length}
use Rattle.std.proofs.Math.Seq.{drop-cons}
use Rattle.std.proofs.lemmas.List.{drop_all}
use Rattle.messages_certificates.specs.declared.artifact.Artifact.{Artifact}
use Rattle.simplex_member.specs.Packet.{formats}
use Rattle.simplex_member.specs.Recorded.{record_of}
use Rattle.simplex_member.specs.Setup.{owner_of}
use Rattle.node_core.specs.GoingThrough.{IsGoneThrough, IsRecordOf, deeds_along}
use Rattle.node_core.proofs.layers.Layers.go_through.Goals as goal

pub loop-artifact-init : goal.loop-artifact-init
loop-artifact-init g c = λ n now s found is first.
    subst (λ (rest : List (Artifact g.row.S.Denot g.row.D.Denot g.row.S-PublicKey.Denot g.row.S-Signature.Denot g.row.S-Certificate.Denot)). IsGoneThrough g.S.Scheme g.L.Elector (formats {S = g.row.S.Denot} {P = g.row.S-PublicKey.Denot} g.D.PartialEq.eq g.D.Write.spelling g.S.Signature.Write.spelling g.S.Certificate.Write.spelling g.D.Read.reading g.S.Signature.Read.reading g.S.Certificate.Read.reading n) s now found rest c.args.self.now c.args.out.now.items)
    (sym (c.artifacts-artifacts.ensures (owner_of s) found is.holds)) first

-- what is left begins with the artifact of this turn
next-of : {X : Type 0} (all : List X) (i : ℕ) (x : X) → i < length all → x ≡ get_or all i x → drop i all ≡ x ∷ drop (i + 1) all
next-of {X} all i x within is =
    let next : suc i ≡ i + 1 = omega arith in
    drop-cons all i x within ∙ (ap (λ (m : ℕ). get_or all i x ∷ drop m all) next ∙ ap (λ (y : X). y ∷ drop (i + 1) all) (sym is))

pub recall-requires : goal.recall-requires
recall-requires g c =
    let all = c.artifacts-artifacts.result.now in
    let i = c.loop-artifact.artifact-index in
    let x = c.artifact-item.result in
    let found = c.requires.0 in
    let t = c.requires.1 in (
      found,
      drop (i + 1) all,
      c.loop-artifact.out.items,
      record {
        members = t.members;
        now = t.now;
        s = t.s;
        record_is = t.record_is;
        gone = subst (λ (left : List (Artifact g.row.S.Denot g.row.D.Denot g.row.S-PublicKey.Denot g.row.S-Signature.Denot g.row.S-Certificate.Denot)). IsGoneThrough g.S.Scheme g.L.Elector (formats {S = g.row.S.Denot} {P = g.row.S-PublicKey.Denot} g.D.PartialEq.eq g.D.Write.spelling g.S.Signature.Write.spelling g.S.Certificate.Write.spelling g.D.Read.reading g.S.Signature.Read.reading g.S.Certificate.Read.reading t.members) t.s t.now found left c.loop-artifact.self c.loop-artifact.out.items)
            (next-of all i x c.loop-artifact-test.true c.artifact-item.is) (c.loop-artifact.invariant t.members t.now t.s found t.record_is t.gone);
      },
    )

pub loop-artifact-preserved : goal.loop-artifact-preserved
loop-artifact-preserved g c = λ n now s found is first.
    let all = c.artifacts-artifacts.result.now in
    let i = c.loop-artifact.artifact-index in
    let rest = drop (i + 1) all in
    let step : drop i all ≡ c.artifact-item.result ∷ rest = next-of all i c.artifact-item.result c.loop-artifact-test.true c.artifact-item.is in
    let gone = subst (λ (left : List (Artifact g.row.S.Denot g.row.D.Denot g.row.S-PublicKey.Denot g.row.S-Signature.Denot g.row.S-Certificate.Denot)). IsGoneThrough g.S.Scheme g.L.Elector (formats {S = g.row.S.Denot} {P = g.row.S-PublicKey.Denot} g.D.PartialEq.eq g.D.Write.spelling g.S.Signature.Write.spelling g.S.Certificate.Write.spelling g.D.Read.reading g.S.Signature.Read.reading g.S.Certificate.Read.reading n) s now found left c.loop-artifact.self c.loop-artifact.out.items) step (c.loop-artifact.invariant n now s found is first) in
    let whole = subst (λ (xs : List (Artifact g.row.S.Denot g.row.D.Denot g.row.S-PublicKey.Denot g.row.S-Signature.Denot g.row.S-Certificate.Denot)). IsRecordOf g.S.Scheme s c.args.recorded.now xs) gone.behind is in
    c.in_ok-recall.ensures n now s found rest c.loop-artifact.out.items c.report.new.out.items is gone
    (c.in_ok-report.ensures (formats {S = g.row.S.Denot} {P = g.row.S-PublicKey.Denot} g.D.PartialEq.eq g.D.Write.spelling g.S.Signature.Write.spelling g.S.Certificate.Write.spelling g.D.Read.reading g.S.Signature.Read.reading g.S.Certificate.Read.reading n) s (record_of gone.h) rest (deeds_along g.S.Scheme (formats {S = g.row.S.Denot} {P = g.row.S-PublicKey.Denot} g.D.PartialEq.eq g.D.Write.spelling g.S.Signature.Write.spelling g.S.Certificate.Write.spelling g.D.Read.reading g.S.Signature.Read.reading g.S.Certificate.Read.reading n) s gone.h) whole gone.acts)

pub returns : goal.returns
returns g c = λ n now s found is first.
    let all = c.artifacts-artifacts.result.now in
    subst (λ (left : List (Artifact g.row.S.Denot g.row.D.Denot g.row.S-PublicKey.Denot g.row.S-Signature.Denot g.row.S-Certificate.Denot)). IsGoneThrough g.S.Scheme g.L.Elector (formats {S = g.row.S.Denot} {P = g.row.S-PublicKey.Denot} g.D.PartialEq.eq g.D.Write.spelling g.S.Signature.Write.spelling g.S.Certificate.Write.spelling g.D.Read.reading g.S.Signature.Read.reading g.S.Certificate.Read.reading n) s now found left c.loop-artifact.self c.loop-artifact.out.items)
    (drop_all c.loop-artifact.artifact-index all (omega arith)) (c.loop-artifact.invariant n now s found is first)
