use Rattle.std.proofs.Common.{inl, inr, refl, ap, ◌∙◌, get_or, arith}
use Rattle.journal_look.proofs.MoreThere.{ends_open, more_here, too_few, too_short}
use Rattle.journal_look.proofs.behind.has_more.Goals as goal

pub returns-then-bytes-lt5 : goal.returns-then-bytes-lt5
returns-then-bytes-lt5 c = (λ no. absurd cc, λ more. absurd (too_few c.args.bytes.now (omega (arith, c.if-bytes-lt5.true)) more))

pub returns-then-size-bytes : goal.returns-then-size-bytes
returns-then-size-bytes c = (λ no. absurd cc, λ more. absurd (too_short c.args.bytes.now (omega (arith, c.number_at-size.ensures.number, c.if-size-bytes.true, c.if-bytes-lt5.false)) more))

pub returns-then-size-bytes-2 : goal.returns-then-size-bytes-2
returns-then-size-bytes-2 c =
    (λ yes. more_here c.args.bytes.now (omega (arith, c.number_at-size.ensures.number, c.if-size-bytes-2.true)) (inr (omega (arith, c.number_at-size.ensures.number, c.if-size-bytes-2.true))), λ more. refl)

pub returns : goal.returns
returns c =
    let bytes = c.args.bytes.now in (
      λ yes. more_here bytes (omega (arith, c.number_at-size.ensures.number, c.if-size-bytes.false, c.if-bytes-lt5.false)) (inl (ap (λ n. get_or bytes n 0) (omega (arith, c.number_at-size.ensures.number)) ∙ c.is_open.ensures.0 yes)),
      λ more. c.is_open.ensures.1 (ap (λ n. get_or bytes n 0) (omega (arith, c.number_at-size.ensures.number)) ∙ ends_open bytes (omega (arith, c.number_at-size.ensures.number, c.if-size-bytes-2.false, c.if-bytes-lt5.false)) more),
    )
