use Rattle.simplex_types.specs.AttestationList.{list_spelling}
use Rattle.cli_light.proofs.Chains.{takes_a_byte}
use Rattle.cli_light.proofs.chain.next_final.Goals as goal

pub next_value-read-requires : goal.next_value-read-requires
next_value-read-requires c = λ it. takes_a_byte (λ d. d) (list_spelling (λ s. s)) it
