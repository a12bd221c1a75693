use Rattle.std.proofs.Common.{◌≡◌, ⊎_elim, ℕ, suc, ◌+◌, ◌-◌, ◌^◌, ◌<◌, false, true, length, get_or, take, map, sym, ◌∙◌, ap, subst, arith}
use Rattle.journal_single.specs.Record.{end_of}
use Rattle.simplex_journal.proofs.Spelled.{end_next, end_front, get_or_same, before_or_at}
use Rattle.simplex_journal.proofs.spelling.is_short.Goals as goal
use Rattle.simplex_journal.proofs.spelling.is_short.Goals.{then-size-ge-TOO_LONG-via-then-size-ge-TOO_LONG, then-size-ge-TOO_LONG-via-else-size-ge-TOO_LONG+then-gate-size}

pub returns-then-size-ge-TOO_LONG-clause-short : goal.returns-then-size-ge-TOO_LONG-clause-short
returns-then-size-ge-TOO_LONG-clause-short g c =
    let spelling = g.M.Write.spelling in
    let list = c.args.list.now in
    let i = c.loop-message.message-index in
    let m = c.message-item.result in (
      λ never. absurd (let e : false ≡ true = never in cc),
      λ short. elim c.then-size-ge-TOO_LONG.branch [
        | then-size-ge-TOO_LONG-via-then-size-ge-TOO_LONG w ↦
            let small : length (spelling m) < 2 ^ 32 - 1 = subst (λ x. length (spelling x) < 2 ^ 32 - 1) (sym c.message-item.is) (short.0 i m c.loop-message-test.true) in
            absurd (omega (arith, small, c.encode_size-size.ensures.size, w.if-size-ge-TOO_LONG))
        | then-size-ge-TOO_LONG-via-else-size-ge-TOO_LONG+then-gate-size w ↦
            let next = end_next spelling list i m c.loop-message-test.true c.message-item.is in
            absurd (omega (arith, next, end_front spelling (suc i) list, short.1, c.loop-message.invariant.0, c.encode_size-size.ensures.size, w.if-gate-size, w.if-size-ge-TOO_LONG))
      ],
    )

pub loop-message-preserved : goal.loop-message-preserved
loop-message-preserved g c =
    let spelling = g.M.Write.spelling in
    let list = c.args.list.now in
    let i = c.loop-message.message-index in
    let m = c.message-item.result in
    let one : suc i ≡ i + 1 = omega arith in
    let next = subst (λ (n : ℕ). end_of (map spelling (take n list)) ≡ end_of (map spelling (take i list)) + 5 + length (spelling m)) one (end_next spelling list i m c.loop-message-test.true c.message-item.is) in (
      omega (arith, next, c.loop-message.invariant.0, c.encode_size-size.ensures.size),
      omega (arith, c.if-gate-size.false, c.if-size-ge-TOO_LONG.false),
      λ k d lt. ⊎_elim
          (λ before. c.loop-message.invariant.2 k d before)
          (λ here.
          let small : length (spelling m) < 2 ^ 32 - 1 = omega (arith, c.if-size-ge-TOO_LONG.false, c.encode_size-size.ensures.size) in
          let same : m ≡ get_or list k d = c.message-item.is ∙ get_or_same list i m d c.loop-message-test.true ∙ ap (λ (n : ℕ). get_or list n d) (sym here) in
          subst (λ x. length (spelling x) < 2 ^ 32 - 1) same small)
          (before_or_at k i lt),
      λ k d lt. ⊎_elim
          (λ before. c.loop-message.invariant.3 k d before)
          (λ here.
          let same : m ≡ get_or list k d = c.message-item.is ∙ get_or_same list i m d c.loop-message-test.true ∙ ap (λ (n : ℕ). get_or list n d) (sym here) in
          subst g.M.Write.fits same c.encode_size-size.ensures.readable)
          (before_or_at k i lt),
    )
