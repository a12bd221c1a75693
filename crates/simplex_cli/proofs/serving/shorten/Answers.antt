use Rattle.std.proofs.Common.{refl}
use Rattle.simplex_member.specs.Packet.{formats}
use Rattle.node_steps.specs.Keeps.{book_of}
use Rattle.simplex_cli.proofs.Among.{rewrite_keeps}
use Rattle.simplex_cli.proofs.Left.{one_stays}
use Rattle.simplex_cli.proofs.serving.shorten.Goals as goal

-- over one disk none is told
pub returns-in-Err-clause-over_one : goal.returns-in-Err-clause-over_one
returns-in-Err-clause-over_one g c = λ runs one.
    absurd (let is = c.rewrite.ensures.none_if_it_cannot runs (one_stays (book_of c.args.node.now) one) in cc)

pub returns-in-Ok-clause-over_one : goal.returns-in-Ok-clause-over_one
returns-in-Ok-clause-over_one g c = λ runs one.
    (refl, c.in-Ok.ensures.none (let is = c.rewrite.ensures.none_if_it_cannot runs (one_stays (book_of c.args.node.now) one) in cc))

-- the node stands behind the rewrite, or where it stood
pub returns-in-Ok-clause-rewritten : goal.returns-in-Ok-clause-rewritten
returns-in-Ok-clause-rewritten g c = λ s h keeps due.
    let f = formats {S = g.row.S.Denot} {P = g.row.S-PublicKey.Denot} g.D.PartialEq.eq g.D.Write.spelling g.S.Signature.Write.spelling g.S.Certificate.Write.spelling g.D.Read.reading g.S.Signature.Read.reading g.S.Certificate.Read.reading (g.S.Scheme.size s.voter.scheme) in
    rewrite_keeps g.S.Scheme g.L.Elector g.K.Disk f s c.args.node.now c.rewrite.new.self h _ (λ floor is. c.in-Ok.ensures.rewritten floor is s h keeps) c.in-Ok.ensures.none keeps due
