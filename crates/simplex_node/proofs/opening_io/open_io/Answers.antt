use Rattle.std.proofs.Common.{subst}
use Rattle.journal_books.specs.declared.disks.Disks.{Disks}
use Rattle.journal_books.specs.declared.disks.Disks.TheVariants.{One}
use Rattle.simplex_member.specs.Packet.{formats}
use Rattle.simplex_member.specs.Setup.{setup_of}
use Rattle.node_steps.specs.Opening.{IsUnopened}
use Rattle.simplex_node.proofs.opening_io.open_io.Goals as goal

-- it stands on one disk
pub returns-in-Ok-clause-over_one : goal.returns-in-Ok-clause-over_one
returns-in-Ok-clause-over_one g c = c.in-Ok.ensures.as_many

-- writing failed only where that is told
pub returns-in-Ok-clause-write : goal.returns-in-Ok-clause-write
returns-in-Ok-clause-write g c = c.in-Ok.ensures.write

-- one disk is given back
pub one-requires : goal.one-requires
one-requires g c = c.in-Err.ensures.as_many_back

pub returns-in-Err-clause-unopened : goal.returns-in-Err-clause-unopened
returns-in-Err-clause-unopened g c =
    subst (λ (back : Disks g.row.K.Denot). IsUnopened g.S.Scheme g.L.Elector g.K.Disk
    (formats {S = g.row.S.Denot} {P = g.row.S-PublicKey.Denot} g.D.PartialEq.eq g.D.Write.spelling g.S.Signature.Write.spelling g.S.Certificate.Write.spelling g.D.Read.reading g.S.Signature.Read.reading g.S.Certificate.Read.reading (g.S.Scheme.size c.args.scheme.value))
    (setup_of g.S.Scheme g.L.Elector c.args.config c.args.scheme.value c.args.elector) _ c.args.config c.args.scheme.value (One c.args.disk) c.args.now c.in-Err.fault back) c.one.ensures c.in-Err.ensures.unopened
