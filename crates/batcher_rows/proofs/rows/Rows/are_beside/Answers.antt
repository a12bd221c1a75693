use Rattle.std.proofs.Common.{◌≡◌, ◌∙◌, ◌<◌, sym, ap, length, take, take_all, refl, arith, append-nil, get_or, true, false}
use Rattle.std.specs.Prelude.{Some, None}
use Rattle.std.specs.List.{Contains}
use Rattle.std.specs.Option.{option_copied}
use Rattle.std.proofs.lemmas.List.Elements.{All-push, All-contains}
use Rattle.batcher_rows.specs.Votes.{is_candidate, vote_proposal}
use Rattle.batcher_rows.specs.Rows.{vote_in, votes_in}
use Rattle.batcher_rows.proofs.Shuffling.{picked-item, picked-part}
use Rattle.batcher_rows.proofs.rows.Rows.are_beside.Goals as goal
use Rattle.batcher_rows.proofs.rows.Rows.are_beside.Goals.{in-Some+else-not-is_beside, in_default}

pub loop-row-preserved : goal.loop-row-preserved
loop-row-preserved g c =
    let f = vote_in true c.args.kind in
    let rows = c.args.self.now.rows.items in
    let i = c.loop-row.row-index in
    let more = picked-item f rows c.deref-row-items.result.now i c.row-item.result c.deref-row-items.ensures.value c.row-item.is c.loop-row-test.true in
    elim c.match-vote.branch [
      | in-Some+else-not-is_beside w ↦
          let here : f c.row-item.result ≡ Some w.in-Some.vote.now = sym c.vote.ensures ∙ ap option_copied w.in-Some.is in
          rw (more, here) (All-push (λ v. is_candidate g.D.PartialEq.eq (vote_proposal c.args.first.now) v ≡ true) (votes_in true c.args.kind (take i rows)) w.in-Some.vote.now c.loop-row.invariant (sym w.is_beside.ensures ∙ w.if-not-is_beside.false))
      | in_default w ↦
          let here : f c.row-item.result ≡ None = sym c.vote.ensures ∙ ap option_copied w.in_default.is in
          rw (more, here, append-nil (votes_in true c.args.kind (take i rows))) c.loop-row.invariant
    ]

pub returns-then-not-is_beside : goal.returns-then-not-is_beside
returns-then-not-is_beside g c =
    let f = vote_in true c.args.kind in
    let rows = c.args.self.now.rows.items in
    let i = c.loop-row.row-index in
    let here : f c.row-item.result ≡ Some c.in-Some.vote.now = sym c.vote.ensures ∙ ap option_copied c.in-Some.is in
    let low : i < length rows = rw c.deref-row-items.ensures.value at c.loop-row-test.true in
    let at : c.row-item.result ≡ get_or rows i c.row-item.result = rw c.deref-row-items.ensures.value at c.row-item.is in
    let there : Contains (votes_in true c.args.kind rows) c.in-Some.vote.now = picked-part f rows i c.row-item.result c.in-Some.vote.now low at here in
    let fails : is_candidate g.D.PartialEq.eq (vote_proposal c.args.first.now) c.in-Some.vote.now ≡ false = sym c.is_beside.ensures ∙ c.if-not-is_beside.true in (
      λ yes_. absurd (cc yes_),
      λ all. absurd (cc (All-contains (λ v. is_candidate g.D.PartialEq.eq (vote_proposal c.args.first.now) v ≡ true) (votes_in true c.args.kind rows) c.in-Some.vote.now all there, fails)),
    )

pub returns : goal.returns
returns g c =
    let rows = c.args.self.now.rows.items in
    let all : take c.loop-row.row-index rows ≡ rows = take_all c.loop-row.row-index rows (omega (arith, ap length c.deref-row-items.ensures.value)) in
    (λ yes_. rw all at c.loop-row.invariant, λ all_pass. refl)
