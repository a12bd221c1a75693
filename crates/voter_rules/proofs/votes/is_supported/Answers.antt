use Rattle.std.proofs.Common.{refl, sym, ◌∙◌}
use Rattle.std.proofs.lemmas.Bool.{iff_false}
use Rattle.voter_rules.proofs.Testing.{always, starts_at}
use Rattle.voter_rules.proofs.Voting.{supported_by}
use Rattle.voter_rules.proofs.votes.is_supported.Goals as goal

pub returns-in-Some : goal.returns-in-Some
returns-in-Some g c = λ m k shown.
    let inside = (c.is_in_window.ensures m k shown).0 c.if-not-is_in_window.false in
    let by = supported_by m k c.args.view c.in-Some.before c.optimistic_payload.result c.in-Some.ensures.before inside (c.optimistic_payload.ensures m k shown) in
    (λ is. by.0 (sym c.is_some.ensures ∙ is), λ all. c.is_some.ensures ∙ by.1 all)

pub returns-then-not-is_in_window : goal.returns-then-not-is_in_window
returns-then-not-is_in_window g c = λ m k shown. always (λ inside. absurd (iff_false (c.is_in_window.ensures m k shown) c.if-not-is_in_window.true inside))

pub returns-in-None : goal.returns-in-None
returns-in-None g c = λ m k shown. always (λ inside. absurd (inside.inside (starts_at m.length c.args.view (c.in-None.ensures.none.0 refl))))
