use Rattle.std.proofs.Common.{◌≡◌, ◌∙◌, ◌≤◌, ◌<◌, sym, arith}
use Rattle.std.specs.List.{slice_get}
use Rattle.simplex_messages.specs.VoteParts.{vote_signer}
use Rattle.batcher_rows.specs.Rows.{blocks_at}
use Rattle.batcher_rows.proofs.Blocking.{free-rows, member-free, rows-free, stranger-free}
use Rattle.batcher_rows.proofs.rows.Rows.has_in_way.Goals as goal

pub returns-then-self-signer : goal.returns-then-self-signer
returns-then-self-signer g c = λ members votes k.
    let v = c.args.vote.now in
    let rows = c.args.self.now in
    let stranger : members ≤ vote_signer v = omega (arith, k.members_are, c.if-self-signer.true, c.signer.ensures, c.get-signer.ensures) in
    (λ no. rows-free v rows (stranger-free v rows members votes k stranger (c.has_stranger_in_way.ensures.0 no)), λ none. c.has_stranger_in_way.ensures.1 (λ i behind. free-rows v rows none i))

pub returns : goal.returns
returns g c = λ members votes k.
    let v = c.args.vote.now in
    let rows = c.args.self.now in
    let place : c.get-signer.result ≡ vote_signer v = c.get-signer.ensures.value ∙ c.signer.ensures in
    let member : vote_signer v < members = omega (arith, k.members_are, c.if-self-signer.false, place) in
    let own : c.has_blocking.result ≡ blocks_at v (slice_get rows.rows.items (vote_signer v)) = rw place at c.has_blocking.ensures in
    (λ no. rows-free v rows (member-free v rows members votes k member (sym own ∙ no)), λ none. own ∙ free-rows v rows none (vote_signer v))
