use Rattle.std.proofs.Common.{rules, sym, ◌∙◌, ap}
use Rattle.messages_certificates.proofs.Voters.{alike-first}
use Rattle.messages_certificates.proofs.assembly.agree.Goals as goal

pub returns-then-not-agrees : goal.returns-then-not-agrees
returns-then-not-agrees g c =
    let content = g.V.Attested.content_of in
    let vote = c.vote-item.result in
    let first = c.in-Some.first.now in (
      λ yes. absurd (search rules),
      λ both. c.if-not-agrees.ensures.1 (ap content c.vote-item.is ∙ alike-first content c.args.votes.now both.1 c.loop-vote.vote-index vote first c.loop-vote-test.true ∙ ap content (sym c.in-Some.ensures.item.1)),
    )
