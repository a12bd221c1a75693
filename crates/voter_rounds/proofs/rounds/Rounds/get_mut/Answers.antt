use Rattle.std.proofs.Common.{refl}
use Rattle.std.specs.Option.{ghost_name_of}
use Rattle.voter_rounds.specs.Rounds.{Keep}
use Rattle.voter_rounds.proofs.Lent.{Follows-known}
use Rattle.voter_rounds.proofs.Tables.{known-stands}
use Rattle.voter_rounds.proofs.rounds.Rounds.get_mut.Goals as goal

pub returns : goal.returns
unfolding Keep
returns g c =
    let fits = c.get-number.ensures.fits in (
      (refl {a = ghost_name_of c.get_mut.result}, λ w. Follows-known g.S.Scheme.key_of c.args.self.now (c.get_mut.follows.lender w) c.args.view w c.get_mut.result c.get_mut.ensures.value fits (c.get_mut.follows.holds w).3, λ s led past k. rw c.get_mut.follows.holds-at-none k),
      record { writes_back = tt; stands = λ s led past k. known-stands g.S.Scheme.key_of s c.args.view (led c.args.view) (past c.args.view) c.get_mut.result (rw c.get_mut.ensures.value (k.rounds.at c.args.view fits)) },
    )
