use Rattle.std.proofs.Common.{sym, ◌∙◌}
use Rattle.simplex_round.specs.declared.leader.Leader.{Leader}
use Rattle.simplex_round.specs.Round.{Keeps}
use Rattle.simplex_round.proofs.Options.{IsSome-map, false-IsTrue}
use Rattle.simplex_round.proofs.round.Round.may_verify.Goals as goal

pub returns : goal.returns
unfolding Keeps
returns g c = λ s l h k.
    let known = rw k.leader at (IsSome-map (λ (x : Leader g.row.S-PublicKey.Denot). x.idx) c.args.self.now.leader c.if-is_none.ensures) in
    let free = c.should_verify.ensures _ k.proposal in (
      λ yes. record {
        another_leads = (known, λ same. false-IsTrue c.if-leads.false ((c.leads.ensures s l h k).1 (known, same)));
        not_given_up = sym k.nullify ∙ c.if-self.false;
        first = free.0 yes;
      },
      λ may. free.1 may.first,
    )
