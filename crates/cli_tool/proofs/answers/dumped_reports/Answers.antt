use Rattle.simplex_types.specs.AttestationList.{list_spelling}
use Rattle.cli_tool.proofs.Following.{takes_a_byte}
use Rattle.cli_tool.proofs.answers.dumped_reports.Goals as goal

pub dumped_messages-requires : goal.dumped_messages-requires
dumped_messages-requires c = λ report. takes_a_byte (λ d. d) (λ s. s) (list_spelling (λ s. s)) report
