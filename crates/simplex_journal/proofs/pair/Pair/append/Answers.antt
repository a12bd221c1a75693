use Rattle.std.proofs.Common.{◌+◌, ◌++◌, ◌∷◌, [], List, ℕ, length, map, sym, subst}
use Rattle.std.proofs.lemmas.List.{map-append}
use Rattle.journal_single.specs.Record.{Spells}
use Rattle.simplex_journal.specs.Reading.{IsPairAtRest}
use Rattle.simplex_journal.proofs.Rewriting.{rests_either, rests_on}
use Rattle.simplex_journal.proofs.pair.Pair.append.Goals as goal

pub returns-then-size-ge-TOO_LONG-clause-any_moment : goal.returns-then-size-ge-TOO_LONG-clause-any_moment
returns-then-size-ge-TOO_LONG-clause-any_moment g c = λ messages k before. rests_on _ _ _ _ _ _ _ _ _ before.1

pub returns-in_default-clause-any_moment : goal.returns-in_default-clause-any_moment
returns-in_default-clause-any_moment g c = λ messages k before. rests_on _ _ _ _ _ _ _ _ _ before.1

pub invariant_of-self : goal.invariant_of-self
invariant_of-self g c = λ k fine.
    let before = c.self.invariant k fine in
    let message = c.args.message.now in
    let spelling = g.M.Write.spelling in
    let spells = subst (λ (bytes : List ℕ). Spells bytes (spelling message)) (sym c.deref.ensures.value) c.in-Ok.ensures in
    let after = c.in-Ok-add_entry.ensures.ok c.self.inside.generation (map spelling before.0) (spelling message) k before.1.1 spells in
    let Rest = λ (n : ℕ) (bodies : List (List ℕ)). IsPairAtRest c.self.inside.is_first c.self.inside.generation (g.K.Disk.seen c.add_entry.new.first) (g.K.Disk.calls c.add_entry.new.first) (g.K.Disk.seen c.add_entry.new.second) (g.K.Disk.calls c.add_entry.new.second)
    (c.self.inside.gate + 5 + n) bodies in
    let more = before.0 ++ message ∷ [] in
    let bodies = subst (λ (bs : List (List ℕ)). Rest (length (spelling message)) bs) (sym (map-append spelling before.0 (message ∷ []))) after in
    (more, (fine, subst (λ (n : ℕ). Rest n (map spelling more)) (sym c.encode_size-size.ensures.size) bodies))

pub returns-then-size-ge-TOO_LONG-clause-one_disk : goal.returns-then-size-ge-TOO_LONG-clause-one_disk
returns-then-size-ge-TOO_LONG-clause-one_disk g c = λ messages k before. rests_either _ _ _ _ _ _ _ _ _ before.1

pub returns-in_default-clause-one_disk : goal.returns-in_default-clause-one_disk
returns-in_default-clause-one_disk g c = λ messages k before. rests_either _ _ _ _ _ _ _ _ _ before.1
