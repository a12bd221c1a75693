use Rattle.std.proofs.Common.{string_bytes}
use Rattle.cli_tool.specs.Lines.{other_fields}
use Rattle.cli_tool.proofs.Following.{OnOk-more}
use Rattle.cli_tool.proofs.lines.push_other.Goals as goal

pub returns : goal.returns
unfolding other_fields
returns c = OnOk-more c.push_signature.result (string_bytes c.args.text.now) (string_bytes c.push_choice.new.text) (string_bytes c.push_signature.new.text) _ _ c.in_ok-push_choice.ensures c.push_signature.ensures
