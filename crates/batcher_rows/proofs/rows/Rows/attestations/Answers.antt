use Rattle.std.proofs.Common.{◌≡◌, ◌∙◌, sym, ap, take, refl, append-nil}
use Rattle.std.specs.Prelude.{Some, None}
use Rattle.std.specs.Option.{option_copied}
use Rattle.batcher_rows.specs.Votes.{vote_attestation}
use Rattle.batcher_rows.specs.Rows.{vote_in, votes_in}
use Rattle.batcher_rows.proofs.Shuffling.{picked-item, map-push}
use Rattle.batcher_rows.proofs.rows.Rows.attestations.Goals as goal
use Rattle.batcher_rows.proofs.rows.Rows.attestations.Goals.{in-Some+in_ok-push, in_default}

pub loop-row-preserved : goal.loop-row-preserved
loop-row-preserved g c =
    let f = vote_in c.args.verified c.args.kind in
    let rows = c.args.self.now.rows.items in
    let i = c.loop-row.row-index in
    let more = picked-item f rows c.deref-row-items.result.now i c.row-item.result c.deref-row-items.ensures.value c.row-item.is c.loop-row-test.true in
    elim c.match-vote.branch [
      | in-Some+in_ok-push w ↦
          let here : f c.row-item.result ≡ Some w.in-Some.vote.now = sym c.vote.ensures ∙ ap option_copied w.in-Some.is in
          rw (w.attestations-is, w.in_ok-push.ensures.items, c.loop-row.invariant, w.attestation_of.ensures, more, here) (sym (map-push vote_attestation (votes_in c.args.verified c.args.kind (take i rows)) w.in-Some.vote.now))
      | in_default w ↦
          let here : f c.row-item.result ≡ None = sym c.vote.ensures ∙ ap option_copied w.in_default.is in
          rw (w.attestations-is, c.loop-row.invariant, more, here, append-nil (votes_in c.args.verified c.args.kind (take i rows))) refl
    ]
