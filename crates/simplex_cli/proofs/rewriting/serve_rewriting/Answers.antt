use Rattle.std.proofs.Common.{inr, ap, ◌∙◌}
use Rattle.std.specs.Prelude.{Err, ⊤}
use Rattle.journal_books.specs.Books.{are_two}
use Rattle.simplex_member.specs.Packet.{formats}
use Rattle.simplex_member.specs.Setup.{brought_by, setup_of}
use Rattle.node_wire.specs.Streaming.{spelled}
use Rattle.simplex_cli.proofs.Among.{serves_not, serves_rewriting}
use Rattle.simplex_cli.proofs.Streams.{told_behind, told_first, told_none}
use Rattle.simplex_cli.proofs.rewriting.serve_rewriting.Goals as goal

pub returns-in-Ok-written-clause-serves : goal.returns-in-Ok-written-clause-serves
returns-in-Ok-written-clause-serves g c =
    let opened = c.in-Ok.ensures.opened in
    let s = setup_of g.S.Scheme g.L.Elector c.args.config c.args.scheme.value c.args.elector opened.0 in
    let whole = rw c.in-Ok-written.is at opened.4.whole in
    let this =
    serves_rewriting g.S.Scheme g.L.Elector g.K.Disk
    (formats {S = g.row.S.Denot} {P = g.row.S-PublicKey.Denot} g.D.PartialEq.eq g.D.Write.spelling g.S.Signature.Write.spelling g.S.Certificate.Write.spelling g.D.Read.reading g.S.Signature.Read.reading g.S.Certificate.Read.reading (g.S.Scheme.size c.args.scheme.value))
    s g.D.Write.fits g.D.Write.spelling (spelled g.S.PublicKey.Write.spelling g.D.Write.spelling g.S.Signature.Write.spelling g.S.Certificate.Write.spelling) (g.D.Read.reading 65535) c.args.views
    _ (brought_by c.args.config.floor) c.args.disks c.serve.result.1 c.args.now c.in-Ok.node opened.1 _ c.serve.result.0 _ _ _ _ opened.3 opened.5 whole c.in-Ok.ensures.as_many (c.serve.ensures.serves s) in
    inr (this.0, opened.0, this.1, opened.2, this.2)

pub returns-in-Err-written-clause-serves : goal.returns-in-Err-written-clause-serves
returns-in-Err-written-clause-serves g c =
    let opened = c.in-Ok.ensures.opened in
    let s = setup_of g.S.Scheme g.L.Elector c.args.config c.args.scheme.value c.args.elector opened.0 in
    let faults = rw c.in-Err-written.is at opened.4.faults in
    let this =
    serves_not g.S.Scheme g.L.Elector g.K.Disk
    (formats {S = g.row.S.Denot} {P = g.row.S-PublicKey.Denot} g.D.PartialEq.eq g.D.Write.spelling g.S.Signature.Write.spelling g.S.Certificate.Write.spelling g.D.Read.reading g.S.Signature.Read.reading g.S.Certificate.Read.reading (g.S.Scheme.size c.args.scheme.value))
    s g.D.Write.fits g.D.Write.spelling (spelled g.S.PublicKey.Write.spelling g.D.Write.spelling g.S.Signature.Write.spelling g.S.Certificate.Write.spelling) (g.D.Read.reading 65535) c.args.views
    _ (brought_by c.args.config.floor) c.args.disks c.into_disks.result c.args.now c.in-Ok.node opened.1 _ c.in-Err-written.fault (g.R.Source.remaining c.args.input.now) _ _ opened.3 opened.5 faults opened.4.front
    (c.into_disks.ensures.left s) in
    inr (Err c.in-Err-written.fault, opened.0, ap Err c.of.ensures, opened.2, this)

pub returns-in-Ok-written-clause-streams : goal.returns-in-Ok-written-clause-streams
returns-in-Ok-written-clause-streams g c =
    told_behind c.serve.result.0 _ _ _ _ _ _ _ _ ((rw c.in-Ok-written.is at c.in-Ok.ensures.write) (λ bad. absurd cc)) (rw c.in-Ok-written.is at c.in-Ok.ensures.flushed) c.serve.ensures.streams

pub returns-in-Err-written-clause-streams : goal.returns-in-Err-written-clause-streams
returns-in-Err-written-clause-streams g c =
    let opened = c.in-Ok.ensures.opened in
    let faults = rw c.in-Err-written.is at opened.4.faults in
    let memory = rw c.in-Err-written.is at c.in-Ok.ensures.no_memory in
    let broken = rw c.in-Err-written.is at c.in-Ok.ensures.write_failed in
    let whole = rw c.in-Err-written.is at c.in-Ok.ensures.write in
    rw c.of.ensures
    (told_first {A = ⊤} g.W.Sink.failed g.W.Sink.is_flushed c.in-Err-written.fault (g.R.Source.failed c.args.input.now) c.args.output.now c.open_disks_io.new.writer faults
    (λ is. memory (ap Err is)) (λ is. broken (ap Err is)) (λ other. whole (λ is. other (cc))))

pub returns-in-Err-clause-streams : goal.returns-in-Err-clause-streams
returns-in-Err-clause-streams g c = told_none g.W.Sink.failed g.W.Sink.is_flushed _ (g.R.Source.failed c.args.input.now) c.args.output.now c.open_disks_io.new.writer (λ bad. absurd cc) c.in-Err.ensures.unwritten

-- as many disks are given back
pub returns-in-Ok-written-clause-as_many : goal.returns-in-Ok-written-clause-as_many
returns-in-Ok-written-clause-as_many g c = c.serve.ensures.as_many ∙ c.in-Ok.ensures.as_many

pub returns-in-Err-written-clause-as_many : goal.returns-in-Err-written-clause-as_many
returns-in-Err-written-clause-as_many g c = ap are_two c.into_disks.ensures.disks ∙ c.in-Ok.ensures.as_many
