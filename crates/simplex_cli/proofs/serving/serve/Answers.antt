use Rattle.std.proofs.Common.{◌∙◌, ap}
use Rattle.std.proofs.lemmas.Result.{IfErr-weaker}
use Rattle.journal_books.specs.Books.{are_two}
use Rattle.node_steps.specs.Keeps.{disks_of}
use Rattle.simplex_member.specs.Packet.{formats}
use Rattle.simplex_cli.proofs.Left.{ends_by, left_of}
use Rattle.simplex_cli.proofs.Served.{kept_still, ran_on, same_behind, served}
use Rattle.simplex_cli.proofs.Streams.{told_of, told_so}
use Rattle.simplex_cli.proofs.serving.serve.Goals as goal

pub returns-clause-streams : goal.returns-clause-streams
returns-clause-streams g c =
    told_so c.run_io-ran.result c.finish-ended.result _ _ _ _ _ _ c.finish-ended.ensures.ends
    (told_of c.run_io-ran.result _ _ _ _ _ _ c.run_io-ran.ensures.read c.run_io-ran.ensures.write_failed c.run_io-ran.ensures.write c.run_io-ran.ensures.flushed)

pub returns-clause-serves : goal.returns-clause-serves
returns-clause-serves g c = λ s h k due.
    let f = formats {S = g.row.S.Denot} {P = g.row.S-PublicKey.Denot} g.D.PartialEq.eq g.D.Write.spelling g.S.Signature.Write.spelling g.S.Certificate.Write.spelling g.D.Read.reading g.S.Signature.Read.reading g.S.Certificate.Read.reading (g.S.Scheme.size s.voter.scheme) in
    let ran = c.run_io-ran.new.node in
    let finished = c.finish-ended.new.node in
    let io = c.run_io-ran.result in
    let answers = c.run_io-ran.ensures.answers s h k in
    let runs = ran_on g.S.Scheme g.L.Elector g.K.Disk f s _ _ _ _ h ran _ io _ _ _ answers in
    let still = kept_still g.S.Scheme g.L.Elector g.K.Disk f s ran finished c.into_disks.result (c.into_disks.ensures.left s) in (
      io,
      ends_by io _ c.finish-ended.result c.finish-ended.ensures.ends (λ one. (c.finish-ended.ensures.over_one runs (c.run_io-ran.ensures.as_many ∙ one)).0),
      served g.S.Scheme g.L.Elector g.K.Disk f s _ _ _ _ h due ran c.into_disks.result _ io _ _ _
          (IfErr-weaker io _ _ (λ why same. c.into_disks.ensures.disks ∙ ap disks_of same) c.finish-ended.ensures.broken_off)
          (λ end keeps none kept read may.
          left_of g.S.Scheme f s g.K.Disk io (disks_of ran) (disks_of finished) c.into_disks.result end read c.into_disks.ensures.disks c.finish-ended.ensures.as_many
          (λ one. still (c.finish-ended.ensures.over_one runs one).1 end keeps kept read may)
          (IfErr-weaker io _ _ (λ why same. still same end keeps kept read may) c.finish-ended.ensures.broken_off)
          (same_behind io (λ moment. moment s end keeps none kept) c.finish-ended.ensures.any_moment) may)
          (λ end keeps kept read may. IfErr-weaker io _ _ (λ why same. still same end keeps kept read may) c.finish-ended.ensures.broken_off)
          answers,
    )

-- they are as many as before
pub returns-clause-as_many : goal.returns-clause-as_many
returns-clause-as_many g c = ap are_two c.into_disks.ensures.disks ∙ c.finish-ended.ensures.as_many ∙ c.run_io-ran.ensures.as_many
