use Rattle.std.proofs.Common.{◌≡◌, ◌∙◌, ℕ, ap, subst, sym}
use Rattle.cli_hosted.specs.Statuses.{status_number}
use Rattle.cli_settings.specs.declared.setting.Settings.{Settings}
use Rattle.simplex_c.specs.Light.{BreaksOff}
use Rattle.simplex_c.specs.Settings.{SaysGood}
use Rattle.simplex_c.proofs.Numbers.{done_by, room_by}
use Rattle.simplex_c.proofs.light.voumlis_proved_finalized_in.Goals as goal

pub returns-clause-finalized : goal.returns-clause-finalized
returns-clause-finalized c = λ is. c.finalized_with.ensures.finalized (done_by c.finalized_with.result (sym c.number.ensures ∙ is))

pub returns-clause-room : goal.returns-clause-room
returns-clause-room c = λ is. c.finalized_with.ensures.room (room_by c.finalized_with.result (sym c.number.ensures ∙ is))

pub returns-clause-broken : goal.returns-clause-broken
returns-clause-broken c = λ done room memory number fault form.
    subst (λ (n : ℕ). (s : Settings) × SaysGood c.args.numbers.now c.args.base.now c.args.seed.now s × (BreaksOff s.committee c.args.bytes.now c.finalized_with.new.found.place n × (c.finalized_with.new.found.named ≡ 1)))
    (sym c.number.ensures) (c.finalized_with.ensures.broken (λ is. done (c.number.ensures ∙ ap status_number is)) (λ is. room (c.number.ensures ∙ ap status_number is)) (λ is. memory (c.number.ensures ∙ ap status_number is))
    (λ is. number (c.number.ensures ∙ ap status_number is)) (λ is. fault (c.number.ensures ∙ ap status_number is)) (λ is. form (c.number.ensures ∙ ap status_number is)))
