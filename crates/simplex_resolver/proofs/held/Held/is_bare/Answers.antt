use Rattle.std.proofs.Common.{◌≡◌, ◌+◌, arith}
use Rattle.simplex_resolver.proofs.Gaps.{bare_by}
use Rattle.simplex_resolver.proofs.held.Held.is_bare.Goals as goal

pub returns : goal.returns
returns c =
    let some = c.requires.some in
    let value = c.get.ensures.value in
    let before = c.new-before.ensures in
    bare_by c.args.self.now.covered c.args.view c.new-before.result c.next.result c.covers_between.result (omega (arith, some, value, before)) c.next.ensures c.covers_between.ensures
