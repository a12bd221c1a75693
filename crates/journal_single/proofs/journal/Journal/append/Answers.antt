use Rattle.std.proofs.Common.{◌+◌, ◌++◌, ◌∷◌, [], List, ℕ, length, map, sym, subst}
use Rattle.std.proofs.lemmas.List.{map-append}
use Rattle.journal_single.specs.Record.{IsAtRest, Spells}
use Rattle.journal_single.proofs.journal.Journal.append.Goals as goal

pub invariant_of-self : goal.invariant_of-self
invariant_of-self g c = λ k fine.
    let before = c.self.invariant k fine in
    let message = c.args.message.now in
    let spells = subst (λ (bytes : List ℕ). Spells bytes (g.M.Write.spelling message)) (sym c.deref.ensures.value) c.in-Ok.ensures in
    let after = c.in-Ok-add_entry.ensures.ok (map g.M.Write.spelling before.0) (g.M.Write.spelling message) k before.1.1 spells in
    let seen = g.K.Disk.seen c.add_entry.new.disk in
    let calls = g.K.Disk.calls c.add_entry.new.disk in
    let gate = c.self.inside.gate in
    let more = before.0 ++ message ∷ [] in
    let bodies = subst (λ (bs : List (List ℕ)). IsAtRest [] seen calls (gate + 5 + length (g.M.Write.spelling message)) bs) (sym (map-append g.M.Write.spelling before.0 (message ∷ []))) after in
    (more, (fine, subst (λ (n : ℕ). IsAtRest [] seen calls (gate + 5 + n) (map g.M.Write.spelling more)) (sym c.encode_size-size.ensures.size) bodies))
