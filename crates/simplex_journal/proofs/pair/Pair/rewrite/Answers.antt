use Rattle.std.proofs.Common.{◌≡◌, ◌+◌, List, ℕ, length, map, not, sym, subst, arith}
use Rattle.simplex_journal.specs.Reading.{IsPairAtRest, SpellsGeneration}
use Rattle.simplex_journal.proofs.Rewriting.{rests_on}
use Rattle.simplex_journal.proofs.pair.Pair.rewrite.Goals as goal

pub returns-then-self-2-clause-any_moment : goal.returns-then-self-2-clause-any_moment
returns-then-self-2-clause-any_moment g c = λ messages k before. rests_on _ _ _ _ _ _ _ _ _ before.1

pub returns-then-not-is_short-clause-any_moment : goal.returns-then-not-is_short-clause-any_moment
returns-then-not-is_short-clause-any_moment g c = λ messages k before. rests_on _ _ _ _ _ _ _ _ _ before.1

pub returns-in_default-clause-any_moment : goal.returns-in_default-clause-any_moment
returns-in_default-clause-any_moment g c = λ messages k before. rests_on _ _ _ _ _ _ _ _ _ before.1

pub invariant_of-self : goal.invariant_of-self
invariant_of-self g c = λ k fine.
    let before = c.self.invariant k fine in
    let list = c.args.list.now in
    let spelling = g.M.Write.spelling in
    let spells = subst (λ (bytes : List ℕ). SpellsGeneration bytes (c.self.inside.generation + 1) (map spelling list)) (sym c.deref.ensures.value) c.in-Ok.ensures in
    let after = c.in-Ok-rewrite_other.ensures.ok c.self.inside.generation c.self.inside.gate (map spelling before.0) (map spelling list) k before.1.1 spells in
    let long : length c.deref.result.now ≡ c.len.result = omega (arith, c.len.ensures, c.deref.ensures.len) in (
      list,
      (
        fine,
        subst (λ (n : ℕ). IsPairAtRest (not c.self.inside.is_first) (c.self.inside.generation + 1) (g.K.Disk.seen c.rewrite_other.new.first) (g.K.Disk.calls c.rewrite_other.new.first) (g.K.Disk.seen c.rewrite_other.new.second)
            (g.K.Disk.calls c.rewrite_other.new.second) n (map spelling list)) long after,
      ),
    )
