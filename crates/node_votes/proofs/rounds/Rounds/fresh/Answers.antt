use Rattle.std.proofs.Common.{◌≡◌, Bool, true, false, [], refl, sym, ◌∙◌, ap, subst, arith}
use Rattle.std.specs.Prelude.{nat_lt}
use Rattle.std.proofs.lemmas.Bool.Decides.{nat_tests}
use Rattle.batcher_verifier.specs.History.{Setup}
use Rattle.simplex_batcher.specs.Rounds.{RoundKeeps}
use Rattle.node_votes.specs.Standing.{Common, is_passed}
use Rattle.node_votes.proofs.Changing.{passed-by, passed-late, passed-tracked, same-setup}
use Rattle.node_votes.proofs.rounds.Rounds.fresh.Goals as goal
use Rattle.node_votes.proofs.rounds.Rounds.fresh.Goals.{else-lt-via-then-lt+else-not-self, else-lt-via-else-lt}

pub returns-then-not-self : goal.returns-then-not-self
returns-then-not-self g c = λ s shared.
    let tracks : s.tracks ≡ false = sym (ap (λ (z : Common g.row.S.Denot). z.tracks) shared) ∙ c.if-not-self.true in
    let behind : nat_lt c.args.view c.args.current ≡ true = grind (arith, nat_tests, c.if-lt.ensures) in
    subst (λ (st : Setup g.row.S.Denot). RoundKeeps g.D.PartialEq.eq g.S.Scheme g.S.Scheme.batchable st c.skipped.result [])
    (same-setup g.S.Scheme s c.args.view c.args.current c.in_ok-scheme.scheme.value c.new-round.result false true (c.in_ok-scheme.ensures.cases ∙ ap (λ (z : Common g.row.S.Denot). z.scheme) shared)
    (c.new-round.ensures.epoch ∙ ap (λ (z : Common g.row.S.Denot). z.epoch) shared) c.new-round.ensures.view (sym tracks) (sym (passed-by s c.args.view c.args.current behind tracks)))
    c.skipped.ensures

pub returns : goal.returns
returns g c = λ s shared.
    let tracks : c.args.self.now.tracks ≡ s.tracks = ap (λ (z : Common g.row.S.Denot). z.tracks) shared in
    let isnt : is_passed s c.args.view c.args.current ≡ false =
    elim c.else-lt.branch [
      | else-lt-via-then-lt+else-not-self w ↦ passed-tracked s c.args.view c.args.current (sym tracks ∙ w.if-not-self.false)
      | else-lt-via-else-lt w ↦ let late : nat_lt c.args.view c.args.current ≡ false = grind (arith, nat_tests, w.if-lt.ensures) in passed-late s c.args.view c.args.current late
    ] in
    subst (λ (st : Setup g.row.S.Denot). RoundKeeps g.D.PartialEq.eq g.S.Scheme g.S.Scheme.batchable st c.new.result [])
    (same-setup g.S.Scheme s c.args.view c.args.current c.in_ok-scheme.scheme.value c.new-round.result c.args.self.now.tracks false (c.in_ok-scheme.ensures.cases ∙ ap (λ (z : Common g.row.S.Denot). z.scheme) shared)
    (c.new-round.ensures.epoch ∙ ap (λ (z : Common g.row.S.Denot). z.epoch) shared) c.new-round.ensures.view tracks (sym isnt))
    c.new.ensures
