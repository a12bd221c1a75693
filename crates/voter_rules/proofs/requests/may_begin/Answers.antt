use Rattle.std.proofs.Common.{sym, ◌∙◌, ap}
use Rattle.std.proofs.lemmas.Bool.{iff_false, not-true}
use Rattle.std.specs.Prelude.{not}
use Rattle.voter_rules.proofs.Testing.{always}
use Rattle.voter_rules.proofs.requests.may_begin.Goals as goal

pub returns-then-not-is_handoff : goal.returns-then-not-is_handoff
returns-then-not-is_handoff g c = λ m k shown. always (λ handoff. absurd (iff_false (c.is_handoff.ensures m k shown) c.if-not-is_handoff.true handoff))

pub returns : goal.returns
returns g c = λ m k shown.
    let given_up = c.broadcast_nullify.ensures m k shown ∙ ap k.has_nullified (c.current_view.ensures m k shown) in (
      λ so handoff. sym given_up ∙ not-true c.broadcast_nullify.result so,
      λ patient. ap not (given_up ∙ patient ((c.is_handoff.ensures m k shown).0 c.if-not-is_handoff.false)),
    )
