use Rattle.std.proofs.Common.{◌≡◌, [], ◌∷◌, arith, rules, map, string_bytes, codes}
use Rattle.cli_audit.specs.Words.{map_two, map_four}
use Rattle.cli_audit.proofs.command.parse_words.Goals as goal

pub returns-in-len2-clause-accepted : goal.returns-in-len2-clause-accepted
returns-in-len2-clause-accepted c =
    let words = map_two string_bytes c.args.words.now c.name-item.result c.count-item.result (omega arith) c.name-item.is c.count-item.is in
    let name : c.as_str.result.now ≡ codes "audit" = search rules in
    let same : map string_bytes c.args.words.now ≡ codes "audit" ∷ c.deref.result.now ∷ [] = cc (words, name, c.as_str.ensures.value, c.deref.ensures) in
    rw same c.audit_of.ensures.accepted

pub returns-in-len4-clause-accepted : goal.returns-in-len4-clause-accepted
returns-in-len4-clause-accepted c =
    let words = map_four string_bytes c.args.words.now c.name-item-then-words-lt5.result c.path-item.result c.index-item.result c.count-item-then-words-lt5.result (omega arith) c.name-item-then-words-lt5.is c.path-item.is c.index-item.is c.count-item-then-words-lt5.is in
    let name : c.as_str-then-words-lt5.result.now ≡ codes "node" = search rules in
    let same : map string_bytes c.args.words.now ≡ codes "node" ∷ c.deref-in-len4.result.now ∷ c.deref-in-len4-2.result.now ∷ c.deref-in-len4-3.result.now ∷ [] = cc (words, name, c.as_str-then-words-lt5.ensures.value, c.deref-in-len4.ensures, c.deref-in-len4-2.ensures, c.deref-in-len4-3.ensures) in
    rw same c.node_of.ensures.accepted
