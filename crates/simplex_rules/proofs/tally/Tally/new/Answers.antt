use Rattle.simplex_rules.proofs.tally.Tally.new.Goals as goal

pub returns : goal.returns
returns g c = λ scheme contested. record { notarizes = c.new.ensures scheme contested; nullifies = c.new-2.ensures scheme contested; finalizes = c.new-3.ensures scheme contested }
