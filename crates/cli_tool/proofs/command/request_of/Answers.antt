use Rattle.std.proofs.Common.{◌≡◌, [], ◌∷◌, arith, rules, map, string_bytes, codes}
use Rattle.cli_audit.specs.Words.{map_four}
use Rattle.cli_tool.proofs.Words.{map_three}
use Rattle.cli_tool.proofs.command.request_of.Goals as goal

pub returns-in-len3-clause-accepted : goal.returns-in-len3-clause-accepted
returns-in-len3-clause-accepted c =
    let words = map_three string_bytes c.args.words.now c.command-item-then-words-lt4.result c.what-item.result c.word-item-then-words-lt4.result (omega arith) c.command-item-then-words-lt4.is c.what-item.is c.word-item-then-words-lt4.is in
    let name : c.as_str.result.now ≡ codes "dump" = search rules in
    let same : map string_bytes c.args.words.now ≡ codes "dump" ∷ c.deref-in-len3.result.now ∷ c.deref-in-len3-2.result.now ∷ [] = cc (words, name, c.as_str.ensures.value, c.deref-in-len3.ensures, c.deref-in-len3-2.ensures) in
    rw same c.dump_of.ensures.accepted

pub returns-in-len4-clause-accepted : goal.returns-in-len4-clause-accepted
returns-in-len4-clause-accepted c =
    let words = map_four string_bytes c.args.words.now c.command-item-then-words-lt5.result c.index-item.result c.count-item-then-words-lt5.result c.path-item.result (omega arith) c.command-item-then-words-lt5.is c.index-item.is c.count-item-then-words-lt5.is c.path-item.is in
    let name : c.as_str-then-words-lt5.result.now ≡ codes "check" = search rules in
    let same : map string_bytes c.args.words.now ≡ codes "check" ∷ c.deref-in-len4.result.now ∷ c.deref-in-len4-2.result.now ∷ c.deref-in-len4-3.result.now ∷ [] = cc (words, name, c.as_str-then-words-lt5.ensures.value, c.deref-in-len4.ensures, c.deref-in-len4-2.ensures, c.deref-in-len4-3.ensures) in
    rw same c.check_of.ensures.accepted
