use Rattle.std.proofs.Common.{◌≡◌, ◌∙◌, ◌+◌, ◌-◌, ◌^◌, min, arith, refl, ap, []}
use Rattle.std.specs.Prelude.{Result, Ok, Err, false, ⊤}
use Rattle.journal_single.specs.Disk.{counted}
use Rattle.journal_books.specs.Books.{are_two}
use Rattle.simplex_member.specs.declared.fault.IoFault.{IoFault}
use Rattle.simplex_member.specs.declared.fault.IoFault.TheVariants as fault
use Rattle.simplex_member.specs.Packet.{formats}
use Rattle.std.proofs.KnownBytes.{prepend_known-nil}
use Rattle.node_steps.specs.Keeps.{disks_of}
use Rattle.node_wire.specs.declared.stretch.Stretch.{Stretch}
use Rattle.node_wire.specs.declared.stretch.Stretch.TheVariants.{Ended, Paused}
use Rattle.node_wire.specs.OverAmid.{stands_first}
use Rattle.node_wire.specs.Stream.{left_of as left_of_input}
use Rattle.node_wire.specs.Streaming.{spelled}
use Rattle.simplex_cli.proofs.Among.{amid_next, broken_among, ended_among, ends_paused, paused_among, runs_first}
use Rattle.simplex_cli.proofs.Left.{ends_by, ends_so, ends_whole, left_of}
use Rattle.simplex_cli.proofs.Served.{kept_still}
use Rattle.simplex_cli.proofs.Streams.{none_broke, steps_alone, told_broken, told_fine}
use Rattle.simplex_cli.proofs.rewriting.serve.Goals as goal

pub loop-node-init : goal.loop-node-init
loop-node-init g c = record {
  so_far = λ s h k due. record {
    events = [];
    replies = [];
    answered = runs_first g.S.Scheme g.L.Elector g.K.Disk (formats {S = g.row.S.Denot} {P = g.row.S-PublicKey.Denot} g.D.PartialEq.eq g.D.Write.spelling g.S.Signature.Write.spelling g.S.Certificate.Write.spelling g.D.Read.reading g.S.Signature.Read.reading g.S.Certificate.Read.reading (g.S.Scheme.size s.voter.scheme)) s c.args.views c.args.node h k due;
    stands = stands_first g.D.Write.fits g.D.Write.spelling (spelled g.S.PublicKey.Write.spelling g.D.Write.spelling g.S.Signature.Write.spelling g.S.Certificate.Write.spelling) (g.R.Source.remaining c.args.input.now) (left_of_input c.new-events.result (g.R.Source.remaining c.args.input.now)) c.new-events.result (g.W.Sink.contents c.args.output.now)
        (ap (λ i. left_of_input i (g.R.Source.remaining c.args.input.now)) c.new-events.ensures ∙ prepend_known-nil (g.R.Source.remaining c.args.input.now)) (ap (λ i. i.place) c.new-events.ensures) (ap (λ i. i.taken) c.new-events.ensures);
  };
  kind = refl;
  read = refl;
  written = refl;
  flushed = λ before. before;
}

-- it paused, and the record was rewritten
pub loop-node-preserved : goal.loop-node-preserved
loop-node-preserved g c =
    let before = c.loop-node.invariant in
    let ran = c.in-Ok-Paused.ensures in
    let pause : ◌≡◌ {A = Result Stretch IoFault} (Ok c.in-Ok-Paused.field-0) (Ok Paused) = ap (λ (x : Stretch). Ok x) c.in-Ok-Paused.field-0-is in record {
      so_far = λ s h k due.
          let f = formats {S = g.row.S.Denot} {P = g.row.S-PublicKey.Denot} g.D.PartialEq.eq g.D.Write.spelling g.S.Signature.Write.spelling g.S.Certificate.Write.spelling g.D.Read.reading g.S.Signature.Read.reading g.S.Certificate.Read.reading (g.S.Scheme.size s.voter.scheme) in
          let was = before.so_far s h k due in
          let stops = rw c.in-Ok-Paused.field-0-is at (ran.answers s was.answered.end was.answered.keeps (g.R.Source.remaining c.args.input.now) (g.W.Sink.contents c.args.output.now) was.events was.replies was.stands) in
          amid_next g.S.Scheme g.L.Elector g.K.Disk f s c.args.views g.D.Write.fits g.D.Write.spelling (spelled g.S.PublicKey.Write.spelling g.D.Write.spelling g.S.Signature.Write.spelling g.S.Certificate.Write.spelling) c.loop-node.node c.run_some_io.new.node c.shorten.new.node h was.events was.replies _ _ c.run_some_io.new.input _ _ c.last_finalized.result c.new-view.result was.answered stops
          (c.last_finalized.ensures f s was.answered.end was.answered.keeps) c.get.ensures.fits (c.new-view.ensures ∙ c.saturating_add.ensures ∙ ap (λ n. min (n + c.args.views) (2 ^ 64 - 1)) c.get.ensures.value) (λ end keeps. ran.paused pause f s end keeps)
          (λ end keeps none. c.in_default.ensures.rewritten s end keeps none);
      kind = c.shorten.ensures.as_many ∙ ran.as_many ∙ before.kind;
      read = ran.read (none_broke c.in-Ok-Paused.field-0 fault.Read) ∙ before.read;
      written = ran.write (none_broke c.in-Ok-Paused.field-0 fault.Write) ∙ before.written;
      flushed = λ flushed. ran.flushed (none_broke c.in-Ok-Paused.field-0 fault.Write) (before.flushed flushed);
    }

pub loop-node-smaller : goal.loop-node-smaller
loop-node-smaller g c =
    let pause : ◌≡◌ {A = Result Stretch IoFault} (Ok c.in-Ok-Paused.field-0) (Ok Paused) = ap (λ (x : Stretch). Ok x) c.in-Ok-Paused.field-0-is in
    let goes = c.in-Ok-Paused.ensures.goes_on pause in
    omega (arith, goes.0, goes.1)

-- the stretch ended before the input
pub returns-in-Err-clause-serves : goal.returns-in-Err-clause-serves
returns-in-Err-clause-serves g c = λ s h k due.
    let f = formats {S = g.row.S.Denot} {P = g.row.S-PublicKey.Denot} g.D.PartialEq.eq g.D.Write.spelling g.S.Signature.Write.spelling g.S.Certificate.Write.spelling g.D.Read.reading g.S.Signature.Read.reading g.S.Certificate.Read.reading (g.S.Scheme.size s.voter.scheme) in
    let was = c.loop-node.invariant.so_far s h k due in
    let stops = c.in-Err.ensures.answers s was.answered.end was.answered.keeps (g.R.Source.remaining c.args.input.now) (g.W.Sink.contents c.args.output.now) was.events was.replies was.stands in (
      Err c.in-Err.fault,
      ap Err c.of.ensures,
      broken_among g.S.Scheme g.L.Elector g.K.Disk f s c.args.views g.D.Write.fits g.D.Write.spelling (spelled g.S.PublicKey.Write.spelling g.D.Write.spelling g.S.Signature.Write.spelling g.S.Certificate.Write.spelling) (g.D.Read.reading 65535) c.into_disks-in-Err.result c.loop-node.node c.run_some_io.new.node h was.events was.replies _ _ c.in-Err.fault _ _ _ was.answered (λ is. is ∙ ap (counted false) c.loop-node.invariant.read) c.into_disks-in-Err.ensures.disks (c.into_disks-in-Err.ensures.left s) stops,
    )

pub returns-in-Err-clause-streams : goal.returns-in-Err-clause-streams
returns-in-Err-clause-streams g c =
    let before = c.loop-node.invariant in
    let ran = c.in-Err.ensures in
    rw c.of.ensures
    (told_broken {A = ⊤} {B = Stretch} c.in-Err.fault _ _ _ _ _ _ (λ other. ran.read other ∙ before.read) (λ is. ran.write_failed is ∙ ap (counted false) before.written) (λ other. ran.write other ∙ before.written)
    (λ other flushed. ran.flushed other (before.flushed flushed)))

pub returns-in-Err-clause-as_many : goal.returns-in-Err-clause-as_many
returns-in-Err-clause-as_many g c = ap are_two c.into_disks-in-Err.ensures.disks ∙ c.in-Err.ensures.as_many ∙ c.loop-node.invariant.kind

-- all of the input was answered
pub returns-in-Ok-Ended-clause-serves : goal.returns-in-Ok-Ended-clause-serves
returns-in-Ok-Ended-clause-serves g c = λ s h k due.
    let f = formats {S = g.row.S.Denot} {P = g.row.S-PublicKey.Denot} g.D.PartialEq.eq g.D.Write.spelling g.S.Signature.Write.spelling g.S.Certificate.Write.spelling g.D.Read.reading g.S.Signature.Read.reading g.S.Certificate.Read.reading (g.S.Scheme.size s.voter.scheme) in
    let before = c.loop-node.invariant in
    let ran = c.in-Ok-Ended.ensures in
    let was = before.so_far s h k due in
    let stops = rw c.in-Ok-Ended.field-0-is at (ran.answers s was.answered.end was.answered.keeps (g.R.Source.remaining c.args.input.now) (g.W.Sink.contents c.args.output.now) was.events was.replies was.stands) in (
      Ok Ended,
      ends_by (Ok tt) (are_two (disks_of c.args.node)) c.shorten-ended.result (ends_so tt c.shorten-ended.result c.shorten-ended.ensures.fault)
          (λ one. ends_whole tt c.shorten-ended.result (c.shorten-ended.ensures.over_one stops.answered.answered.keeps.running (ran.as_many ∙ before.kind ∙ one)).0),
      ended_among g.S.Scheme g.L.Elector g.K.Disk f s c.args.views g.D.Write.fits g.D.Write.spelling (spelled g.S.PublicKey.Write.spelling g.D.Write.spelling g.S.Signature.Write.spelling g.S.Certificate.Write.spelling) (g.D.Read.reading 65535) c.into_disks-in-Ok-Ended.result c.loop-node.node c.run_some_io.new.node h was.events was.replies ⊤ _ _ _ was.answered
          (λ end keeps none kept read may.
          left_of g.S.Scheme f s g.K.Disk {A = Stretch} (Ok Ended) (disks_of c.run_some_io.new.node) (disks_of c.shorten-ended.new.node) c.into_disks-in-Ok-Ended.result end read c.into_disks-in-Ok-Ended.ensures.disks c.shorten-ended.ensures.as_many
          (λ one. kept_still g.S.Scheme g.L.Elector g.K.Disk f s c.run_some_io.new.node c.shorten-ended.new.node c.into_disks-in-Ok-Ended.result (c.into_disks-in-Ok-Ended.ensures.left s) (c.shorten-ended.ensures.over_one keeps.running one).1 end keeps kept read may)
          tt (c.shorten-ended.ensures.any_moment s end keeps none kept) may)
          stops,
    )

pub returns-in-Ok-Ended-clause-streams : goal.returns-in-Ok-Ended-clause-streams
returns-in-Ok-Ended-clause-streams g c =
    let before = c.loop-node.invariant in
    let ran = c.in-Ok-Ended.ensures in
    let done = c.in-Ok-Ended.field-0 in
    told_fine c.shorten-ended.result _ _ _ _ _ _ (steps_alone c.shorten-ended.result c.shorten-ended.ensures.fault) (ran.read (none_broke done fault.Read) ∙ before.read) (ran.write (none_broke done fault.Write) ∙ before.written)
    (λ flushed. ran.flushed (none_broke done fault.Write) (before.flushed flushed))

pub returns-in-Ok-Ended-clause-as_many : goal.returns-in-Ok-Ended-clause-as_many
returns-in-Ok-Ended-clause-as_many g c =
    ap are_two c.into_disks-in-Ok-Ended.ensures.disks ∙ c.shorten-ended.ensures.as_many ∙ c.in-Ok-Ended.ensures.as_many ∙ c.loop-node.invariant.kind

-- the rewrite failed where it paused
pub returns-in-Err-shorten-clause-serves : goal.returns-in-Err-shorten-clause-serves
returns-in-Err-shorten-clause-serves g c = λ s h k due.
    let f = formats {S = g.row.S.Denot} {P = g.row.S-PublicKey.Denot} g.D.PartialEq.eq g.D.Write.spelling g.S.Signature.Write.spelling g.S.Certificate.Write.spelling g.D.Read.reading g.S.Signature.Read.reading g.S.Certificate.Read.reading (g.S.Scheme.size s.voter.scheme) in
    let was = c.loop-node.invariant.so_far s h k due in
    let ran = c.in-Ok-Paused.ensures in
    let stops = rw c.in-Ok-Paused.field-0-is at (ran.answers s was.answered.end was.answered.keeps (g.R.Source.remaining c.args.input.now) (g.W.Sink.contents c.args.output.now) was.events was.replies was.stands) in
    let failed = c.in-Err-shorten.ensures in (
      Ok Paused,
      ends_paused (are_two (disks_of c.args.node)) c.in-Err-shorten.ending failed.fault (λ one. (failed.over_one stops.answered.answered.keeps.running (ran.as_many ∙ c.loop-node.invariant.kind ∙ one)).0),
      paused_among g.S.Scheme g.L.Elector g.K.Disk f s c.args.views g.D.Write.fits g.D.Write.spelling (spelled g.S.PublicKey.Write.spelling g.D.Write.spelling g.S.Signature.Write.spelling g.S.Certificate.Write.spelling) (g.D.Read.reading 65535) c.into_disks.result c.loop-node.node c.run_some_io.new.node h was.events was.replies _ _ c.run_some_io.new.input _ _ was.answered
          (λ end keeps none kept read may.
          left_of g.S.Scheme f s g.K.Disk {A = Stretch} (Ok Paused) (disks_of c.run_some_io.new.node) (disks_of c.shorten.new.node) c.into_disks.result end read c.into_disks.ensures.disks c.shorten.ensures.as_many
          (λ one. kept_still g.S.Scheme g.L.Elector g.K.Disk f s c.run_some_io.new.node c.shorten.new.node c.into_disks.result (c.into_disks.ensures.left s) (c.shorten.ensures.over_one keeps.running one).1 end keeps kept read may)
          tt (c.shorten.ensures.any_moment s end keeps none kept) may)
          stops,
    )

pub returns-in-Err-shorten-clause-streams : goal.returns-in-Err-shorten-clause-streams
returns-in-Err-shorten-clause-streams g c =
    let before = c.loop-node.invariant in
    let ran = c.in-Ok-Paused.ensures in
    let done = c.in-Ok-Paused.field-0 in
    told_fine {A = ⊤} (Err c.in-Err-shorten.ending) _ _ _ _ _ _ (steps_alone {A = ⊤} (Err c.in-Err-shorten.ending) c.in-Err-shorten.ensures.fault) (ran.read (none_broke done fault.Read) ∙ before.read) (ran.write (none_broke done fault.Write) ∙ before.written)
    (λ flushed. ran.flushed (none_broke done fault.Write) (before.flushed flushed))

pub returns-in-Err-shorten-clause-as_many : goal.returns-in-Err-shorten-clause-as_many
returns-in-Err-shorten-clause-as_many g c = ap are_two c.into_disks.ensures.disks ∙ c.shorten.ensures.as_many ∙ c.in-Ok-Paused.ensures.as_many ∙ c.loop-node.invariant.kind
