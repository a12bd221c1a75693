use Rattle.std.proofs.Common.{◌∙◌, List, sym, subst}
use Rattle.std.proofs.lemmas.Result.{IfOk-weaker}
use Rattle.simplex_member.specs.declared.asked.Asked.{Asked}
use Rattle.simplex_member.specs.Layers.{finalized_of}
use Rattle.simplex_member.specs.Packet.{formats}
use Rattle.node_requests.specs.Fetching.{ArePending}
use Rattle.node_requests.proofs.Again.{none_goes_again}
use Rattle.node_requests.proofs.repairing.ask_again.Goals as goal

pub returns-then-not-asks_again-clause-acts : goal.returns-then-not-asks_again-clause-acts
returns-then-not-asks_again-clause-acts g c = λ s h k again_is.
    let f = formats {S = g.row.S.Denot} {P = g.row.S-PublicKey.Denot} g.D.PartialEq.eq g.D.Write.spelling g.S.Signature.Write.spelling g.S.Certificate.Write.spelling g.D.Read.reading g.S.Signature.Read.reading g.S.Certificate.Read.reading (g.S.Scheme.size s.voter.scheme) in
    none_goes_again g.S.Scheme f s c.args.again c.args.tables.now h c.args.out.now.items k.tables_are again_is
    (sym (c.asks_again.ensures (finalized_of s h) h k.tables_are) ∙ c.if-not-asks_again.true)

pub returns-in-Ok-clause-acts : goal.returns-in-Ok-clause-acts
returns-in-Ok-clause-acts g c = IfOk-weaker c.ask_each_again.result _ _ (λ acted comes. λ s h k again_is.
    let f = formats {S = g.row.S.Denot} {P = g.row.S-PublicKey.Denot} g.D.PartialEq.eq g.D.Write.spelling g.S.Signature.Write.spelling g.S.Certificate.Write.spelling g.D.Read.reading g.S.Signature.Read.reading g.S.Certificate.Read.reading (g.S.Scheme.size s.voter.scheme) in
    comes s h k again_is (subst (λ (pending : List Asked). ArePending f s h pending) (sym c.deref.ensures.value) (c.in-Ok.ensures (finalized_of s h) h k.tables_are))) c.ask_each_again.ensures.acts
