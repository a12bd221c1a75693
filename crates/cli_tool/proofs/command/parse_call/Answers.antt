use Rattle.std.proofs.Common.{◌≡◌, ◌∷◌, ◌-◌, arith, rules, length, map, take, drop, string_bytes, codes}
use Rattle.cli_tool.proofs.Words.{map_behind}
use Rattle.cli_tool.proofs.command.parse_call.Goals as goal

pub returns-in-len1-up-clause-accepted : goal.returns-in-len1-up-clause-accepted
returns-in-len1-up-clause-accepted c =
    let words = map_behind string_bytes c.args.words.now c.first-item.result (omega arith) c.first-item.is in
    let name : c.as_str.result.now ≡ codes "--json" = search rules in
    let same : map string_bytes c.args.words.now ≡ codes "--json" ∷ map string_bytes (take (length c.args.words.now - 1) (drop 1 c.args.words.now)) = cc (words, name, c.as_str.ensures.value) in
    rw same c.call_in_json.ensures.accepted
