use Rattle.std.proofs.Common.{subst}
use Rattle.journal_books.specs.declared.disks.Disks.{Disks}
use Rattle.journal_books.specs.declared.disks.Disks.TheVariants.{Two}
use Rattle.journal_books.specs.BooksLaws.{same_kind}
use Rattle.simplex_member.specs.Packet.{formats}
use Rattle.simplex_member.specs.Setup.{setup_of}
use Rattle.node_steps.specs.Keeps.{disks_of}
use Rattle.node_steps.specs.Opening.{IsUnopened}
use Rattle.node_steps.proofs.OfRecord.{as_many_back}
use Rattle.node_steps.proofs.node.Node.open_pair.Goals as goal

pub returns-in-Ok-clause-over_two : goal.returns-in-Ok-clause-over_two
returns-in-Ok-clause-over_two g c = same_kind g.K.Disk (Two c.args.first c.args.second) (disks_of c.in-Ok.opened.0) c.in-Ok.ensures.no_fault

pub returns-in-Ok-clause-has_opened : goal.returns-in-Ok-clause-has_opened
returns-in-Ok-clause-has_opened g c = record { none_early = c.in-Ok.ensures.no_early; no_fault = c.in-Ok.ensures.no_fault; any_moment = c.in-Ok.ensures.any_moment }

-- as many disks are given back
pub two-first-requires : goal.two-first-requires
two-first-requires g c = as_many_back g.K.Disk c.in-Err.fault (Two c.args.first c.args.second) c.in-Err.disks c.in-Err.ensures.device c.in-Err.ensures.no_device

pub returns-in-Err-clause-unopened : goal.returns-in-Err-clause-unopened
returns-in-Err-clause-unopened g c =
    let told = c.in-Err.ensures in
    subst (λ (back : Disks g.row.K.Denot). IsUnopened g.S.Scheme g.L.Elector g.K.Disk
    (formats {S = g.row.S.Denot} {P = g.row.S-PublicKey.Denot} g.D.PartialEq.eq g.D.Write.spelling g.S.Signature.Write.spelling g.S.Certificate.Write.spelling g.D.Read.reading g.S.Signature.Read.reading g.S.Certificate.Read.reading (g.S.Scheme.size c.args.scheme.value))
    (setup_of g.S.Scheme g.L.Elector c.args.config c.args.scheme.value c.args.elector) _ c.args.config c.args.scheme.value (Two c.args.first c.args.second) c.args.now c.in-Err.fault back) c.two-first.ensures
    (record {
      told_early = told.early;
      told_later = told.later;
      foreign = told.foreign;
      contradiction = told.contradiction;
      untouched = told.untouched;
      device = told.device;
      no_device = told.no_device;
      any_moment = told.any_moment_of_a_fault;
    })
