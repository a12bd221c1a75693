use Rattle.std.proofs.Common.{◌∙◌, ℕ, ap, subst, sym}
use Rattle.cli_hosted.specs.Statuses.{status_number}
use Rattle.cli_settings.specs.declared.setting.Settings.{Settings}
use Rattle.simplex_c.specs.Light.{CertifiesNot}
use Rattle.simplex_c.specs.Settings.{SaysGood}
use Rattle.simplex_c.proofs.Numbers.{done_by}
use Rattle.simplex_c.proofs.light.voumlis_proved_certifies.Goals as goal

pub returns-clause-certified : goal.returns-clause-certified
returns-clause-certified c = λ is. c.certified_with.ensures.certified (done_by c.certified_with.result (sym c.number.ensures ∙ is))

pub returns-clause-uncertified : goal.returns-clause-uncertified
returns-clause-uncertified c = λ done memory number fault form.
    subst (λ (n : ℕ). (s : Settings) × SaysGood c.args.numbers.now c.args.base.now c.args.seed.now s × CertifiesNot s.committee c.args.bytes.now n) (sym c.number.ensures)
    (c.certified_with.ensures.uncertified (λ is. done (c.number.ensures ∙ ap status_number is)) (λ is. memory (c.number.ensures ∙ ap status_number is)) (λ is. number (c.number.ensures ∙ ap status_number is))
    (λ is. fault (c.number.ensures ∙ ap status_number is)) (λ is. form (c.number.ensures ∙ ap status_number is)))
